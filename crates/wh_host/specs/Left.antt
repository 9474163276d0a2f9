-- What the calls of a host leave of the memory of all.
use Rattle.std.specs.Prelude.{◌≡◌, ◌⊎◌, ℕ, Some, None}
use Rattle.wh_model.specs.declared.memory.Need.{Need}
use Rattle.wh_host_model.specs.declared.plain.TurnEnd.{TurnEnd}
use Rattle.wh_host_model.specs.declared.plain.TurnEnd.TheVariants.{Idle, Again, Fuel, Frame, Ended}
use Rattle.wh_space_model.specs.Parts.{Space}
use Rattle.wh_space_model.specs.Stores.{ended, stood}
use Rattle.wh_space.specs.InstanceSteps.{TakesSteps}

-- What the instance at place i is blocked on after a turn that was answered so: a frame for these bytes, or nothing. Its pins end
-- where a step was taken. All else is as it was.
abbrev pub WaitsThen : ℕ → TurnEnd → Space → Space → Type 0
WaitsThen i Idle s s2 = s2 ≡ s
WaitsThen i Ended s s2 = s2 ≡ ended s i
WaitsThen i Fuel s s2 = s2 ≡ ended s i
WaitsThen i Frame s s2 =
    (need : Need) × ((s2 ≡ stood s i (Some need)) ⊎ (s2 ≡ stood (ended s i) i (Some need)))
WaitsThen i Again s s2 = (s2 ≡ s) ⊎ ((s2 ≡ stood s i None) ⊎ (s2 ≡ ended s i))

-- A turn that was answered so leaves the memory: the instance at place i has loaded, stored and grown, and is blocked then on
-- what the answer says. Where it had nothing to do, nothing has changed.
abbrev pub LeavesTurned : ℕ → TurnEnd → Space → Space → Type 0
LeavesTurned i Idle s s2 = s2 ≡ s
LeavesTurned i end s s2 = (mid : Space) × TakesSteps i s mid × WaitsThen i end mid s2
