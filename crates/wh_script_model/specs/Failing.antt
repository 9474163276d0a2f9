-- The answers to a script while calls of the swap device fail. An instance may become blocked on a fault of one, its
-- present call being where it asks for bytes, and goes on from there once it is tried again. Which one meets which fault
-- depends on the order of turns; nothing else does.
use Rattle.std.specs.Prelude.{◌≡◌, ℕ, ◌<◌, ◌≤◌, true, false, List, [], ◌∷◌, Option, Some, None}
use Rattle.std.specs.List.{AllZip, Contains}
use Rattle.wh_model.specs.declared.memory.Need.{Need}
use Rattle.wh_model.specs.Execution.Asking.{Asks}
use Rattle.wh_model.specs.Execution.Configuration.{Config}
use Rattle.wh_model.specs.Execution.Instance.{Piece}
use Rattle.wh_model.specs.Execution.Reduction.{IsNext}
use Rattle.wh_model.specs.Execution.Replay.{Call, Standing, writing, running, Replay}
use Rattle.wh_model.specs.Execution.Store.{Instance, Store}
use Rattle.wh_host_model.specs.Owners.{given_of, first_open}
use Rattle.wh_script_model.specs.ScriptState.{NamedInstance}
use Rattle.wh_script_model.specs.Drains.{ComesTo, AreAtRest, DrainRule, DrainsBy}

-- ---- calls

-- What comes next of an open call needs bytes of memory: it writes a piece; or fuel is left, and it is a charged
-- reduction that asks for some.
pub data NeedsBytes (inst : Instance) (c : Call) : Standing → Type 0 where
  for_a_piece : {s : Store} {p : Piece} {ps : List Piece} → NeedsBytes inst c (writing s (p ∷ ps))
  for_a_step : {at : Config} (need : Need) → c.charges < c.fuel → IsNext inst at → Asks inst at need
      → NeedsBytes inst c (running at)

-- a call has no fewer pieces and charges than it had
pub record LosesNothing (c c2 : Call) : Type 0 where
  pub fragments : c.fragments ≤ c2.fragments
  pub charges : c.charges ≤ c2.charges

-- Where the calls of an instance rest that were these before, and on which fault the first open one is blocked, while calls of
-- the device have had these faults: they rest as they do alone; or the first open one needs bytes, and is blocked on one of the
-- faults, and none has gone back.
pub data RestsAmid (faults : List ℕ) (inst : Instance) (before calls : List Call) (z : Standing) : Option ℕ → Type 0 where
  rests_alone : AreAtRest inst calls z → RestsAmid faults inst before calls z None
  meets_fault : {fault : ℕ} (c : Call) → first_open calls ≡ Some c → NeedsBytes inst c z → AllZip LosesNothing before calls
      → Contains faults fault → RestsAmid faults inst before calls z (Some fault)

-- The calls of an instance come as far as they can meanwhile, one after the other, as its journal says. Who was blocked on a
-- fault before stays where it was.
pub data RunsAmid (faults : List ℕ) (g : NamedInstance) : NamedInstance → Type 0 where
  gone_still : g.is_released ≡ true → RunsAmid faults g g
  stands_still : {fault : ℕ} → g.is_released ≡ false → g.at_fault ≡ Some fault → RunsAmid faults g g
  runs_on : {calls : List Call} {z : Standing} {at_fault : Option ℕ}
      → g.is_released ≡ false → g.at_fault ≡ None → AllZip ComesTo g.calls calls → Replay g.m (given_of g.params) calls z
      → RestsAmid faults g.inst g.calls calls z at_fault
      → RunsAmid faults g (record g { calls = calls; at_fault = at_fault })

-- ---- all of them

-- the first two lists make the third, the one being mixed into the other
pub data AreMixed : (own others all : List ℕ) → Type 0 where
  none_left : AreMixed [] [] []
  one_own : {fault : ℕ} {own others all : List ℕ} → AreMixed own others all → AreMixed (fault ∷ own) others (fault ∷ all)
  one_other : {fault : ℕ} {own others all : List ℕ} → AreMixed own others all → AreMixed own (fault ∷ others) (fault ∷ all)

-- Side by side, each pair with faults of its own: they are split among the pairs, and none is given to two.
abbrev pub ZipAmid : {A B : Type 0} → (List ℕ → A → B → Type 0) → (faults : List ℕ) → List A → List B → Type 0
ZipAmid R faults [] [] = Unit {0}
ZipAmid R faults (x ∷ xs) (y ∷ ys) =
    (own others : List ℕ) × AreMixed own others faults × R own x y × ZipAmid R others xs ys
ZipAmid R faults xs ys = ⊥

-- a drain meanwhile
abbrev pub DrainsAmid : (faults : List ℕ) → DrainRule
DrainsAmid faults = DrainsBy (ZipAmid RunsAmid faults) faults

-- while calls of the device have some faults, or none
abbrev pub DrainsAmidFaults : DrainRule
DrainsAmidFaults w lines w2 = (faults : List ℕ) × DrainsAmid faults w lines w2
