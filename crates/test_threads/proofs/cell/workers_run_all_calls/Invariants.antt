use Rattle.test_threads.proofs.cell.workers_run_all_calls.Given as goal

abbrev pub ghosts-all_run-T-Ledger : goal.ghosts-all_run-T-Ledger
ghosts-all_run-T-Ledger g a = record { name = a.cell_parts.turns.name; parts = a.cell_parts.turns.parts }

abbrev pub ghosts-all_run-C-Ledger : goal.ghosts-all_run-C-Ledger
ghosts-all_run-C-Ledger g a = record { name = a.cell_parts.charges.name; parts = a.cell_parts.charges.parts }

abbrev pub ghosts-all_run-O-Ledger : goal.ghosts-all_run-O-Ledger
ghosts-all_run-O-Ledger g a = record { name = a.cell_parts.offers.name; parts = a.cell_parts.offers.parts }

abbrev pub ghosts-all_run-E-Ledger : goal.ghosts-all_run-E-Ledger
ghosts-all_run-E-Ledger g a = record { name = a.cell_parts.evictions.name; parts = a.cell_parts.evictions.parts }

abbrev pub ghosts-all_run-B-CellAgreements : goal.ghosts-all_run-B-CellAgreements
ghosts-all_run-B-CellAgreements g a = record { to_owner = a.cell_parts.to_owner; to_device = a.cell_parts.to_device }
