-- Words of the decoder's contract.
use Rattle.std.specs.Prelude.{◌≡◌, ◌≢◌, ℕ, Result, Ok, Err}
use Rattle.wh_model.specs.declared.faults.FaultKind.{FaultKind}
use Rattle.wh_model.specs.declared.faults.FaultKind.TheVariants.{Memory}
use Rattle.wh_model.specs.declared.faults.DecodeError.{DecodeError}

-- the result is this fault, unless memory ran out
abbrev pub IsFault : {X : Type 0} → Result X DecodeError → FaultKind → ℕ → Type 0
IsFault (Ok x) kind offset = ⊥
IsFault (Err e) kind offset = e.kind ≢ Memory → (e.kind ≡ kind) × (e.offset ≡ offset)
