-- What the owner of a host learns of it.
use Rattle.std.specs.Prelude.{◌≡◌, List, Some}
use Rattle.wh_space_model.specs.declared.plain.SwapError.{SwapError}
use Rattle.wh_cell.specs.LeftByOwner.{ComesFrom, LeftState}

-- the host and the device came by work from those before
pub record ComesOn {D : Type 0} (keeps honest : D → Type 0) (faults : D → List SwapError) (left now : LeftState D)
    : Type 0 where
  pub device : D
  pub has : now.device ≡ Some device
  pub came : ComesFrom keeps honest faults left device now.host
