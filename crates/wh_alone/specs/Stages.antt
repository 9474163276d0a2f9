-- Stages of an instance.
use Rattle.std.specs.Prelude.{◌≡◌, ℕ, List, Option, Some, None}
use Rattle.wh_model.specs.Validity.Typing.{Context}
use Rattle.wh_model.specs.Execution.Store.{Instance}
use Rattle.wh_alone.specs.declared.outcome.Outcome.{Outcome}
use Rattle.wh_alone.specs.declared.outcome.Outcome.TheVariants.{Returned, Trapped, OutOfFuel}
use Rattle.wh_alone.specs.declared.outcome.Stage.{Stage}
use Rattle.wh_alone.specs.declared.outcome.Stage.TheVariants as stages
use Rattle.wh_alone.specs.declared.outcome.Stage.TheVariants.{Fresh, Starting, Idle, Calling}
use Rattle.wh_alone.specs.declared.outcome.CallRefusal.{CallRefusal}
use Rattle.wh_alone.specs.declared.outcome.CallRefusal.TheVariants.{Busy, Dead, NoCall}
use Rattle.wh_call.specs.Arguments.{HasCall}
use Rattle.wh_alone.specs.InstanceStates.{Kept}
use Rattle.wh_alone.specs.Journal.{InstanceState}
use Rattle.wh_machine.specs.MachineRuns.{IsInstanceOf}

-- a call is open: the start function, or another one
abbrev pub IsOpen : Stage → Type 0
IsOpen Fresh = Unit {0}
IsOpen Starting = Unit {0}
IsOpen Calling = Unit {0}
IsOpen Idle = ⊥
IsOpen stages.Dead = ⊥

-- where an instance is first, with this start function or none
abbrev pub stage_at_first : Option ℕ → Stage
stage_at_first None = Idle
stage_at_first (Some x) = Fresh

-- where an instance is once its start function came to this
abbrev pub after_start : Outcome → Stage
after_start (Returned result) = Idle
after_start (Trapped x) = stages.Dead
after_start OutOfFuel = Starting

-- and once another call did
abbrev pub after_call : Outcome → Stage
after_call (Returned result) = Idle
after_call (Trapped x) = Idle
after_call OutOfFuel = Calling

-- none of the module's own functions has this index and such arguments
abbrev pub IsNoCall : Kept → ℕ → List ℕ → Type 0
IsNoCall k func args =
    (c : Context) (inst : Instance) → IsInstanceOf k.linked c inst → ¬ (HasCall inst func args)

-- why a function isn't called
abbrev pub RefusesCall : InstanceState → ℕ → List ℕ → CallRefusal → Type 0
RefusesCall i func args Busy = IsOpen i.stage
RefusesCall i func args Dead = i.stage ≡ stages.Dead
RefusesCall i func args NoCall = (i.stage ≡ Idle) × IsNoCall i.kept func args
