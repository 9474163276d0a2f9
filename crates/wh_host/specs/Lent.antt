-- What a turn over the memory as it is lent comes to.
use Rattle.std.specs.Prelude.{◌≡◌, ℕ, ◌+◌, ◌*◌, ◌≤◌, true, false, [], Option, Some, None, length, get_or}
use Rattle.wh_model.specs.declared.memory.Need.{Need}
use Rattle.wh_host_model.specs.declared.plain.TurnEnd.{TurnEnd}
use Rattle.wh_host_model.specs.declared.plain.TurnEnd.TheVariants as answer
use Rattle.wh_space_model.specs.Parts.{Space, Occupant, occupant_at}
use Rattle.wh_space_model.specs.Stores.{ended, stood}
use Rattle.wh_host_model.specs.Host.CallAnswers.{Turn}
use Rattle.wh_host_model.specs.Host.Worlds.{Tenant}
use Rattle.wh_imports.specs.LinkedState.{LinkedState}
use Rattle.wh_instance.specs.declared.stages.TurnResult.{TurnResult}
use Rattle.wh_instance.specs.declared.stages.TurnResult.TheVariants as turned
use Rattle.wh_instance.specs.Tenancy.{HostInstanceState}
use Rattle.wh_host.specs.Lying.{LiesAt}
use Rattle.wh_host.specs.Series.{Spends}

-- the turn is answered so, takes n charges, and leaves this memory, in which the instance is
abbrev pub TurnsTo : LinkedState → ℕ → ℕ → Space → Tenant → TurnEnd → ℕ → ℕ → HostInstanceState → Space → Type 0
TurnsTo l limit q s t end n place x2 s3 =
    (n ≤ q) × (t2 : Tenant) × Turn q s t end s3 t2 × Spends n t t2 × LiesAt l limit x2 s3 place t2

-- an instance has the place, and these bytes are in its table
pub record MayWaitAt (s : Space) (place : ℕ) (need : Option Need) : Type 0 where
  pub there : (o : Occupant) × occupant_at s place o × (o.live ≡ true)
  pub within : (want : Need) → need ≡ Some want → want.at + want.length ≤ 4096 * length (get_or s.tables place [])
  pub few : (want : Need) → need ≡ Some want → want.length ≤ 4096

-- what a turn is answered, by the instance's outcome
abbrev pub turn_end_of : TurnResult → TurnEnd
turn_end_of turned.Kept = answer.Again
turn_end_of turned.Ended = answer.Ended
turn_end_of turned.Fuel = answer.Fuel
turn_end_of (turned.Frame need still) = answer.Frame
turn_end_of (turned.Again still) = answer.Again

-- the memory with that written down for which the instance waits then: its pins end where a step was taken
abbrev pub settled_in : Space → ℕ → TurnResult → Space
settled_in s place turned.Kept = s
settled_in s place turned.Ended = ended s place
settled_in s place turned.Fuel = ended s place
settled_in s place (turned.Frame need true) = stood s place (Some need)
settled_in s place (turned.Frame need false) = stood (ended s place) place (Some need)
settled_in s place (turned.Again true) = stood s place None
settled_in s place (turned.Again false) = ended s place

-- it can be
abbrev pub CanSettle : Space → ℕ → TurnResult → Type 0
CanSettle s place turned.Kept = Unit {0}
CanSettle s place turned.Ended = MayWaitAt s place None
CanSettle s place turned.Fuel = MayWaitAt s place None
CanSettle s place (turned.Frame need true) = MayWaitAt s place (Some need)
CanSettle s place (turned.Frame need false) = MayWaitAt s place None × MayWaitAt (ended s place) place (Some need)
CanSettle s place (turned.Again still) = MayWaitAt s place None

-- so the turn comes out, once that is done
abbrev pub TurnsLent : LinkedState → ℕ → ℕ → Space → Tenant → ℕ → HostInstanceState → Space → TurnResult → ℕ → Type 0
TurnsLent l limit q s t place x2 s2 made n =
    CanSettle s2 place made × TurnsTo l limit q s t (turn_end_of made) n place x2 (settled_in s2 place made)
