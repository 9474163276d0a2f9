use Rattle.test_threads.proofs.cell.each_worker_runs_turns.Given as goal

abbrev pub ghosts-all_work-T-Ledger : goal.ghosts-all_work-T-Ledger
ghosts-all_work-T-Ledger g a = record { name = a.cell_parts.turns.name; parts = a.cell_parts.turns.parts }

abbrev pub ghosts-all_work-C-Ledger : goal.ghosts-all_work-C-Ledger
ghosts-all_work-C-Ledger g a = record { name = a.cell_parts.charges.name; parts = a.cell_parts.charges.parts }

abbrev pub ghosts-all_work-O-Ledger : goal.ghosts-all_work-O-Ledger
ghosts-all_work-O-Ledger g a = record { name = a.cell_parts.offers.name; parts = a.cell_parts.offers.parts }

abbrev pub ghosts-all_work-E-Ledger : goal.ghosts-all_work-E-Ledger
ghosts-all_work-E-Ledger g a = record { name = a.cell_parts.evictions.name; parts = a.cell_parts.evictions.parts }

abbrev pub ghosts-all_work-B-CellAgreements : goal.ghosts-all_work-B-CellAgreements
ghosts-all_work-B-CellAgreements g a = record { to_owner = a.cell_parts.to_owner; to_device = a.cell_parts.to_device }
