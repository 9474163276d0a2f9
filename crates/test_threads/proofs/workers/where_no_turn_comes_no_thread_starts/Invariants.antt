use Rattle.test_threads.proofs.workers.where_no_turn_comes_no_thread_starts.Given as goal

abbrev pub ghosts-serve_many-T-Ledger : goal.ghosts-serve_many-T-Ledger
ghosts-serve_many-T-Ledger g a = record { name = a.turns.name; parts = a.turns.parts }

abbrev pub ghosts-serve_many-C-Ledger : goal.ghosts-serve_many-C-Ledger
ghosts-serve_many-C-Ledger g a = record { name = a.charges.name; parts = a.charges.parts }

abbrev pub ghosts-serve_many-O-Ledger : goal.ghosts-serve_many-O-Ledger
ghosts-serve_many-O-Ledger g a = record { name = a.offers.name; parts = a.offers.parts }

abbrev pub ghosts-serve_many-E-Ledger : goal.ghosts-serve_many-E-Ledger
ghosts-serve_many-E-Ledger g a = record { name = a.evictions.name; parts = a.evictions.parts }
