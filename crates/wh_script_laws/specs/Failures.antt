-- What calls of a device that fail do to the calls of a script's instances, and what they don't.
use Rattle.std.specs.Prelude.{◌≡◌, ℕ, ◌+◌, ◌≤◌, List, [], ◌∷◌, length, Option, Some, None}
use Rattle.std.specs.List.{AllZip}
use Rattle.wh_script_model.specs.ScriptState.{NamedInstance}
use Rattle.wh_script_model.specs.Failing.{LosesNothing, RunsAmid, ZipAmid}

-- 1 where who wasn't blocked on a fault is blocked on one
abbrev pub newly_stopped : (before after : Option ℕ) → ℕ
newly_stopped None (Some fault) = 1
newly_stopped before after = 0

-- how many do so
abbrev pub stopped_among : List NamedInstance → List NamedInstance → ℕ
stopped_among [] run = 0
stopped_among (g ∷ gs) [] = 0
stopped_among (g ∷ gs) (g2 ∷ run) = newly_stopped g.at_fault g2.at_fault + stopped_among gs run

-- where an instance is blocked on a fault, none of its calls has gone back
abbrev pub NoCallGoesBack : Type 0
NoCallGoesBack =
    (faults : List ℕ) (fault : ℕ) (g g2 : NamedInstance) → RunsAmid faults g g2 → g2.at_fault ≡ Some fault
    → AllZip LosesNothing g.calls g2.calls

-- who is blocked on a fault stays as it is at any drain: it goes on once it is tried again, and not before
abbrev pub NoneGoesOnUnasked : Type 0
NoneGoesOnUnasked =
    (faults : List ℕ) (fault : ℕ) (g g2 : NamedInstance) → RunsAmid faults g g2 → g.at_fault ≡ Some fault → g2 ≡ g

-- a drain stops no more instances than calls of the device failed
abbrev pub FaultsStopFew : Type 0
FaultsStopFew =
    (faults : List ℕ) (gs run : List NamedInstance) → ZipAmid RunsAmid faults gs run → stopped_among gs run ≤ length faults
