use Rattle.test_threads.proofs.workers.counts_are_kept.Given as goal

abbrev pub ghosts-counts-T-Ledger : goal.ghosts-counts-T-Ledger
ghosts-counts-T-Ledger g a = record { name = a.turns.name; parts = a.turns.parts }

abbrev pub ghosts-counts-C-Ledger : goal.ghosts-counts-C-Ledger
ghosts-counts-C-Ledger g a = record { name = a.charges.name; parts = a.charges.parts }

abbrev pub ghosts-counts-O-Ledger : goal.ghosts-counts-O-Ledger
ghosts-counts-O-Ledger g a = record { name = a.offers.name; parts = a.offers.parts }

abbrev pub ghosts-counts-E-Ledger : goal.ghosts-counts-E-Ledger
ghosts-counts-E-Ledger g a = record { name = a.evictions.name; parts = a.evictions.parts }
