use Rattle.test_desk.proofs.strangers.a_stranger_is_told_of_none.Given as goal

abbrev pub ghosts-told-T-Ledger : goal.ghosts-told-T-Ledger
ghosts-told-T-Ledger g a = record { name = a.cell_parts.turns.name; parts = a.cell_parts.turns.parts }

abbrev pub ghosts-told-C-Ledger : goal.ghosts-told-C-Ledger
ghosts-told-C-Ledger g a = record { name = a.cell_parts.charges.name; parts = a.cell_parts.charges.parts }

abbrev pub ghosts-told-O-Ledger : goal.ghosts-told-O-Ledger
ghosts-told-O-Ledger g a = record { name = a.cell_parts.offers.name; parts = a.cell_parts.offers.parts }

abbrev pub ghosts-told-E-Ledger : goal.ghosts-told-E-Ledger
ghosts-told-E-Ledger g a = record { name = a.cell_parts.evictions.name; parts = a.cell_parts.evictions.parts }

abbrev pub ghosts-told-B-CellAgreements : goal.ghosts-told-B-CellAgreements
ghosts-told-B-CellAgreements g a = record { to_owner = a.cell_parts.to_owner; to_device = a.cell_parts.to_device }

abbrev pub ghosts-told-N-Ledger : goal.ghosts-told-N-Ledger
ghosts-told-N-Ledger g a = record { name = a.replies.name; parts = a.replies.parts }

abbrev pub ghosts-told-N-AgreementId : goal.ghosts-told-N-AgreementId
ghosts-told-N-AgreementId g a = record { table = a.trace }
