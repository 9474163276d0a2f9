-- The ledgers with which a cell begins.
use Rattle.std.specs.declared.sync.ledger.Ledger.{Ghosts}
use Rattle.wh_threads.specs.Blanks.{IsBlankOf}
use Rattle.wh_cell.specs.declared.cell.CellParts.{CellParts}

-- New ledgers of a cell are these: those of turns and of charges have parts for 64 workers, those of offers and of evictions
-- for a helper.
pub record HasLedgers {D T C O E : Type 0} (turns : Ghosts T) (charges : Ghosts C) (offers : Ghosts O)
    (evictions : Ghosts E) (parts : CellParts D) : Type 0 where
  pub turns_are : IsBlankOf turns 64 parts.turns
  pub charges_are : IsBlankOf charges 64 parts.charges
  pub offers_are : IsBlankOf offers 1 parts.offers
  pub evictions_are : IsBlankOf evictions 1 parts.evictions
