use Rattle.test_threads.proofs.overlap.both_workers_get_turns.Given as goal

abbrev pub ghosts-run_evenly-T-Ledger : goal.ghosts-run_evenly-T-Ledger
ghosts-run_evenly-T-Ledger g a = record { name = a.cell_parts.turns.name; parts = a.cell_parts.turns.parts }

abbrev pub ghosts-run_evenly-C-Ledger : goal.ghosts-run_evenly-C-Ledger
ghosts-run_evenly-C-Ledger g a = record { name = a.cell_parts.charges.name; parts = a.cell_parts.charges.parts }

abbrev pub ghosts-run_evenly-O-Ledger : goal.ghosts-run_evenly-O-Ledger
ghosts-run_evenly-O-Ledger g a = record { name = a.cell_parts.offers.name; parts = a.cell_parts.offers.parts }

abbrev pub ghosts-run_evenly-E-Ledger : goal.ghosts-run_evenly-E-Ledger
ghosts-run_evenly-E-Ledger g a = record { name = a.cell_parts.evictions.name; parts = a.cell_parts.evictions.parts }

abbrev pub ghosts-run_evenly-B-CellAgreements : goal.ghosts-run_evenly-B-CellAgreements
ghosts-run_evenly-B-CellAgreements g a = record { to_owner = a.cell_parts.to_owner; to_device = a.cell_parts.to_device }
