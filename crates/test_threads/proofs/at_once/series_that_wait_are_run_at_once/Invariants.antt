use Rattle.test_threads.proofs.at_once.series_that_wait_are_run_at_once.Given as goal

abbrev pub ghosts-run_three-T-Ledger : goal.ghosts-run_three-T-Ledger
ghosts-run_three-T-Ledger g a = record { name = a.turns.name; parts = a.turns.parts }

abbrev pub ghosts-run_three-C-Ledger : goal.ghosts-run_three-C-Ledger
ghosts-run_three-C-Ledger g a = record { name = a.charges.name; parts = a.charges.parts }

abbrev pub ghosts-run_three-O-Ledger : goal.ghosts-run_three-O-Ledger
ghosts-run_three-O-Ledger g a = record { name = a.offers.name; parts = a.offers.parts }

abbrev pub ghosts-run_three-E-Ledger : goal.ghosts-run_three-E-Ledger
ghosts-run_three-E-Ledger g a = record { name = a.evictions.name; parts = a.evictions.parts }
