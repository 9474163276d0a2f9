use Rattle.test_threads.proofs.cell.a_turn_is_counted.Given as goal

abbrev pub ghosts-one_turn-T-Ledger : goal.ghosts-one_turn-T-Ledger
ghosts-one_turn-T-Ledger g a = record { name = a.cell_parts.turns.name; parts = a.cell_parts.turns.parts }

abbrev pub ghosts-one_turn-C-Ledger : goal.ghosts-one_turn-C-Ledger
ghosts-one_turn-C-Ledger g a = record { name = a.cell_parts.charges.name; parts = a.cell_parts.charges.parts }

abbrev pub ghosts-one_turn-O-Ledger : goal.ghosts-one_turn-O-Ledger
ghosts-one_turn-O-Ledger g a = record { name = a.cell_parts.offers.name; parts = a.cell_parts.offers.parts }

abbrev pub ghosts-one_turn-E-Ledger : goal.ghosts-one_turn-E-Ledger
ghosts-one_turn-E-Ledger g a = record { name = a.cell_parts.evictions.name; parts = a.cell_parts.evictions.parts }

abbrev pub ghosts-one_turn-B-CellAgreements : goal.ghosts-one_turn-B-CellAgreements
ghosts-one_turn-B-CellAgreements g a = record { to_owner = a.cell_parts.to_owner; to_device = a.cell_parts.to_device }
