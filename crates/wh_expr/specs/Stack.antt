-- What instructions do to the constructs that are open, and to the pool of labels.
use Rattle.std.specs.Prelude.{◌≡◌, ◌≢◌, ℕ, List, ◌++◌, Option, Some, None, Bool, true, false, Result, Ok, Err}
use Rattle.wh_model.specs.declared.faults.FaultKind.TheVariants.{Memory}
use Rattle.wh_model.specs.declared.Open.{Open}
use Rattle.wh_model.specs.declared.faults.DecodeError.{DecodeError}

-- whether the expression has ended, and the constructs that are open after the instruction
abbrev pub Advances : Bool → Option (List Open) → List Open → Type 0
Advances true next stack = next ≡ None
Advances false next stack = next ≡ Some stack

-- the new list is the old one, with more after it
abbrev pub Extends : List ℕ → List ℕ → Type 0
Extends old new = (more : List ℕ) × (new ≡ old ++ more)

-- the new list is the old one with what was read after it
abbrev pub AddsRead : List ℕ → List ℕ → Result ℕ DecodeError → Result (List ℕ × ℕ) DecodeError → Type 0
AddsRead old new (Ok next) read = (xs : List ℕ) × (new ≡ old ++ xs) × (read ≡ Ok (xs, next))
AddsRead old new (Err e) read = e.kind ≢ Memory → read ≡ Err e
