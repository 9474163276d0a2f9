use Rattle.test_threads.proofs.passes.a_pass_counts_each_page.Given as goal

abbrev pub ghosts-passes-T-Ledger : goal.ghosts-passes-T-Ledger
ghosts-passes-T-Ledger g a = record { name = a.cell_parts.turns.name; parts = a.cell_parts.turns.parts }

abbrev pub ghosts-passes-C-Ledger : goal.ghosts-passes-C-Ledger
ghosts-passes-C-Ledger g a = record { name = a.cell_parts.charges.name; parts = a.cell_parts.charges.parts }

abbrev pub ghosts-passes-O-Ledger : goal.ghosts-passes-O-Ledger
ghosts-passes-O-Ledger g a = record { name = a.cell_parts.offers.name; parts = a.cell_parts.offers.parts }

abbrev pub ghosts-passes-E-Ledger : goal.ghosts-passes-E-Ledger
ghosts-passes-E-Ledger g a = record { name = a.cell_parts.evictions.name; parts = a.cell_parts.evictions.parts }

abbrev pub ghosts-passes-B-CellAgreements : goal.ghosts-passes-B-CellAgreements
ghosts-passes-B-CellAgreements g a = record { to_owner = a.cell_parts.to_owner; to_device = a.cell_parts.to_device }
