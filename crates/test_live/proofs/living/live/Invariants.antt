use Rattle.test_live.proofs.living.live.Given as goal

abbrev pub ghosts-live_on_new-T-Ledger : goal.ghosts-live_on_new-T-Ledger
ghosts-live_on_new-T-Ledger g a = record { name = a.cell_parts.turns.name; parts = a.cell_parts.turns.parts }

abbrev pub ghosts-live_on_new-C-Ledger : goal.ghosts-live_on_new-C-Ledger
ghosts-live_on_new-C-Ledger g a = record { name = a.cell_parts.charges.name; parts = a.cell_parts.charges.parts }

abbrev pub ghosts-live_on_new-O-Ledger : goal.ghosts-live_on_new-O-Ledger
ghosts-live_on_new-O-Ledger g a = record { name = a.cell_parts.offers.name; parts = a.cell_parts.offers.parts }

abbrev pub ghosts-live_on_new-E-Ledger : goal.ghosts-live_on_new-E-Ledger
ghosts-live_on_new-E-Ledger g a = record { name = a.cell_parts.evictions.name; parts = a.cell_parts.evictions.parts }

abbrev pub ghosts-live_on_new-B-CellAgreements : goal.ghosts-live_on_new-B-CellAgreements
ghosts-live_on_new-B-CellAgreements g a = record { to_owner = a.cell_parts.to_owner; to_device = a.cell_parts.to_device }
