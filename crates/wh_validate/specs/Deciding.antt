-- How a check answers.
use Rattle.std.specs.Prelude.{◌≢◌, Result, Ok, Err}
use Rattle.wh_model.specs.declared.faults.ValidKind.{ValidKind}
use Rattle.wh_model.specs.declared.faults.ValidKind.TheVariants.{Memory}

-- what is looked for holds, or doesn't, unless memory was refused
abbrev pub Decides : {A : Type 0} → Result A ValidKind → Type 0 → Type 0
Decides (Ok x) P = P
Decides (Err kind) P = kind ≢ Memory → ¬ P
