-- Where the check of a body begins, and how it answers.
use Rattle.std.specs.Prelude.{◌≡◌, ◌≢◌, ℕ, List, [], ◌∷◌, Option, Result, Ok, Err, false, length}
use Rattle.wh_model.specs.declared.ValType.{ValType}
use Rattle.wh_model.specs.declared.Open.TheVariants.{Other}
use Rattle.wh_model.specs.declared.faults.ValidKind.TheVariants.{Memory}
use Rattle.wh_bodies.specs.declared.fault.BodyFault.{BodyFault}
use Rattle.wh_bodies.specs.declared.labels.Label.{Label}
use Rattle.wh_bodies.specs.declared.marks.ConstructEnd.{ConstructEnd}
use Rattle.wh_bodies.specs.Known.{Known}
use Rattle.wh_model.specs.Format.Syntax.{Instr}
use Rattle.wh_model.specs.Validity.Typing.{Context}
use Rattle.wh_bodies.specs.ConstructEnds.{all_marks}
use Rattle.wh_bodies.specs.CheckSteps.{State, run}

-- no operands
abbrev pub nothing_known : Known
nothing_known = record { types = []; floor = 0; dead = false }

-- the label of a body of `count` instructions
abbrev pub body_label : Option ValType → ℕ → Label
body_label of count =
    record { kind = Other; result = of; carries = of; place = count; height = 0; outer_floor = 0; outer_dead = false }

abbrev pub started : Option ValType → ℕ → List ConstructEnd → State
started of count marks =
    record { known = nothing_known; labels = body_label of count ∷ []; marks = marks; entries = []; pool = [] }

-- a whole body's instructions
abbrev pub whole_run : Context → List Instr → Result State BodyFault
whole_run c is = run c 0 is (started c.result (length is) (all_marks 0 is).done)

-- A call left `new`, as was to be; or it failed as it had to, unless memory was refused.
abbrev pub RunsTo : {A B : Type 0} → Result B BodyFault → A → Result A BodyFault → Type 0
RunsTo (Ok y) new wanted = wanted ≡ Ok new
RunsTo (Err fault) new wanted = fault.kind ≢ Memory → wanted ≡ Err fault

-- the same of a call that answers what it leaves
abbrev pub RunsFrom : {A B : Type 0} → (B → A) → Result B BodyFault → Result A BodyFault → Type 0
RunsFrom view (Ok y) wanted = wanted ≡ Ok (view y)
RunsFrom view (Err fault) wanted = fault.kind ≢ Memory → wanted ≡ Err fault
