use Rattle.wh_script.proofs.run.run_script.Given as goal

abbrev pub ghosts-run_on_cell_parts-T-Ledger : goal.ghosts-run_on_cell_parts-T-Ledger
ghosts-run_on_cell_parts-T-Ledger g a = record { name = a.cell_parts.turns.name; parts = a.cell_parts.turns.parts }

abbrev pub ghosts-run_on_cell_parts-C-Ledger : goal.ghosts-run_on_cell_parts-C-Ledger
ghosts-run_on_cell_parts-C-Ledger g a = record { name = a.cell_parts.charges.name; parts = a.cell_parts.charges.parts }

abbrev pub ghosts-run_on_cell_parts-O-Ledger : goal.ghosts-run_on_cell_parts-O-Ledger
ghosts-run_on_cell_parts-O-Ledger g a = record { name = a.cell_parts.offers.name; parts = a.cell_parts.offers.parts }

abbrev pub ghosts-run_on_cell_parts-E-Ledger : goal.ghosts-run_on_cell_parts-E-Ledger
ghosts-run_on_cell_parts-E-Ledger g a = record { name = a.cell_parts.evictions.name; parts = a.cell_parts.evictions.parts }

abbrev pub ghosts-run_on_cell_parts-B-CellAgreements : goal.ghosts-run_on_cell_parts-B-CellAgreements
ghosts-run_on_cell_parts-B-CellAgreements g a = record { to_owner = a.cell_parts.to_owner; to_device = a.cell_parts.to_device }
