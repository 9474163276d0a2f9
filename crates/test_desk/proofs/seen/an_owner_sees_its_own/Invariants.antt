use Rattle.test_desk.proofs.seen.an_owner_sees_its_own.Given as goal

abbrev pub ghosts-of_new-T-Ledger : goal.ghosts-of_new-T-Ledger
ghosts-of_new-T-Ledger g a = record { name = a.cell_parts.turns.name; parts = a.cell_parts.turns.parts }

abbrev pub ghosts-of_new-C-Ledger : goal.ghosts-of_new-C-Ledger
ghosts-of_new-C-Ledger g a = record { name = a.cell_parts.charges.name; parts = a.cell_parts.charges.parts }

abbrev pub ghosts-of_new-O-Ledger : goal.ghosts-of_new-O-Ledger
ghosts-of_new-O-Ledger g a = record { name = a.cell_parts.offers.name; parts = a.cell_parts.offers.parts }

abbrev pub ghosts-of_new-E-Ledger : goal.ghosts-of_new-E-Ledger
ghosts-of_new-E-Ledger g a = record { name = a.cell_parts.evictions.name; parts = a.cell_parts.evictions.parts }

abbrev pub ghosts-of_new-B-CellAgreements : goal.ghosts-of_new-B-CellAgreements
ghosts-of_new-B-CellAgreements g a = record { to_owner = a.cell_parts.to_owner; to_device = a.cell_parts.to_device }

abbrev pub ghosts-of_new-N-Ledger : goal.ghosts-of_new-N-Ledger
ghosts-of_new-N-Ledger g a = record { name = a.replies.name; parts = a.replies.parts }

abbrev pub ghosts-of_new-N-AgreementId : goal.ghosts-of_new-N-AgreementId
ghosts-of_new-N-AgreementId g a = record { table = a.trace }
