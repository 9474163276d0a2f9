use Rattle.test_threads.proofs.showing.a_transcript_is_of_its_requests.Given as goal

abbrev pub ghosts-show-T-Ledger : goal.ghosts-show-T-Ledger
ghosts-show-T-Ledger g a = record { name = a.cell_parts.turns.name; parts = a.cell_parts.turns.parts }

abbrev pub ghosts-show-C-Ledger : goal.ghosts-show-C-Ledger
ghosts-show-C-Ledger g a = record { name = a.cell_parts.charges.name; parts = a.cell_parts.charges.parts }

abbrev pub ghosts-show-O-Ledger : goal.ghosts-show-O-Ledger
ghosts-show-O-Ledger g a = record { name = a.cell_parts.offers.name; parts = a.cell_parts.offers.parts }

abbrev pub ghosts-show-E-Ledger : goal.ghosts-show-E-Ledger
ghosts-show-E-Ledger g a = record { name = a.cell_parts.evictions.name; parts = a.cell_parts.evictions.parts }

abbrev pub ghosts-show-B-CellAgreements : goal.ghosts-show-B-CellAgreements
ghosts-show-B-CellAgreements g a = record { to_owner = a.cell_parts.to_owner; to_device = a.cell_parts.to_device }
