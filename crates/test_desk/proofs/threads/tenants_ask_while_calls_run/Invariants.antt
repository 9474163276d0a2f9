use Rattle.test_desk.proofs.threads.tenants_ask_while_calls_run.Given as goal

abbrev pub ghosts-asked_by_all-T-Ledger : goal.ghosts-asked_by_all-T-Ledger
ghosts-asked_by_all-T-Ledger g a = record { name = a.cell_parts.turns.name; parts = a.cell_parts.turns.parts }

abbrev pub ghosts-asked_by_all-C-Ledger : goal.ghosts-asked_by_all-C-Ledger
ghosts-asked_by_all-C-Ledger g a = record { name = a.cell_parts.charges.name; parts = a.cell_parts.charges.parts }

abbrev pub ghosts-asked_by_all-O-Ledger : goal.ghosts-asked_by_all-O-Ledger
ghosts-asked_by_all-O-Ledger g a = record { name = a.cell_parts.offers.name; parts = a.cell_parts.offers.parts }

abbrev pub ghosts-asked_by_all-E-Ledger : goal.ghosts-asked_by_all-E-Ledger
ghosts-asked_by_all-E-Ledger g a = record { name = a.cell_parts.evictions.name; parts = a.cell_parts.evictions.parts }

abbrev pub ghosts-asked_by_all-B-CellAgreements : goal.ghosts-asked_by_all-B-CellAgreements
ghosts-asked_by_all-B-CellAgreements g a = record { to_owner = a.cell_parts.to_owner; to_device = a.cell_parts.to_device }

abbrev pub ghosts-asked_by_all-N-Ledger : goal.ghosts-asked_by_all-N-Ledger
ghosts-asked_by_all-N-Ledger g a = record { name = a.replies.name; parts = a.replies.parts }

abbrev pub ghosts-asked_by_all-N-AgreementId : goal.ghosts-asked_by_all-N-AgreementId
ghosts-asked_by_all-N-AgreementId g a = record { table = a.trace }
