-- What steps leave of all else.
use Rattle.std.proofs.Common.{◌≡◌, ℕ, List, [], ◌∷◌, Option, length, get_or, map, refl, sym, ◌∙◌, ap, subst, Bool, true, false, rules}
use Rattle.std.specs.Bool.{IsFalse, IsTrue}
use Rattle.wh_model.specs.declared.memory.Got.{Got}
use Rattle.wh_model.specs.declared.memory.Got.TheVariants.{Value, Trap, NotReady}
use Rattle.wh_model.specs.declared.memory.Grown.{Grown}
use Rattle.wh_model.specs.declared.memory.Grown.TheVariants.{Done, Refused}
use Rattle.wh_model.specs.Execution.{IsWaiting}
use Rattle.wh_space_model.specs.declared.states.Slot.{Slot}
use Rattle.wh_space_model.specs.declared.states.Slot.TheVariants.{Vacant, Taken, Evicting, EvictVoid, Fetching, FetchVoid}
use Rattle.wh_space_model.specs.{voided, Errand, errand_for, pass_of, Slots, Space, kept_by, pinned_by, view, IsSound, joined, Overwrites, Touches}
use Rattle.wh_space_model.proofs.Filled.{stores_are_right, stores_soundly}
use Rattle.wh_space_model.proofs.Quiet.{grew_own, steps_quiet}
use Rattle.wh_space_model.proofs.Steady.{touches_soundly}
use Rattle.wh_space.specs.Steps.{LeavesGrowth, LeavesLoad, LeavesStore}
use Rattle.wh_space.specs.InstanceSteps.{takes_none, loads_first, stores_first, grows_first}
use Rattle.wh_space.specs.StepViews.{KeepsRest, keeps_all}

-- ---- nothing is done

keeps_nothing : (i : ℕ) (s s2 : Space) → s2 ≡ s → KeepsRest i s s2
keeps_nothing i s s2 same = subst (KeepsRest i s) (sym same) (keeps_all i s)

-- ---- loads

touches_seen : (s : Space) (i at n : ℕ) (s2 : Space) → Touches s i at n s2 → (j : ℕ) → view s2 j ≡ view s j
touches_seen s i at n s2 is j = let quiet = steps_quiet s i in ap (λ (b : List (List (List ℕ))). joined (get_or b j [])) (quiet.touches at n s2 is)

pub keeps_load : (s : Space) (i at n : ℕ) (got : Got) (s2 : Space) → LeavesLoad s i at n got s2 → KeepsRest i s s2
keeps_load s i at n Value s2 is = record {
  views = λ j other. touches_seen s i at n s2 is j;
  occupants = ap (λ (a : Space). a.occupants) is;
  pass = ap pass_of is;
  pinned = λ j. ap (λ (a : Space). pinned_by a.pins j) is;
  kept = λ j other. ap (λ (a : Space). kept_by a.pins j) is;
  frames = ap (λ (a : Space). length a.pool.frames) is;
  tax = ap (λ (a : Space). a.tax) is;
  sound = λ sound. touches_soundly s i at n s2 sound is;
  steps = loads_first at n is takes_none;
}
keeps_load s i at n Trap s2 is = keeps_nothing i s s2 is
keeps_load s i at n (NotReady need) s2 is = keeps_nothing i s s2 is

pub load_waits : (s : Space) (i at n : ℕ) (got : Got) (s2 : Space) → LeavesLoad s i at n got s2 → IsWaiting got → s2 ≡ s
load_waits s i at n Value s2 is waits = absurd waits
load_waits s i at n Trap s2 is waits = is
load_waits s i at n (NotReady need) s2 is waits = is

-- ---- stores

errand_stays : (i : ℕ) (ps : List ℕ) (x : Slot) → errand_for (voided i ps x) ≡ errand_for x
errand_stays i ps Vacant = refl
errand_stays i ps Taken = refl
errand_stays i ps (Evicting j p) = search rules
errand_stays i ps (EvictVoid j) = refl
errand_stays i ps (Fetching j p f) = refl
errand_stays i ps (FetchVoid j f) = refl

errands_stay : (i : ℕ) (ps : List ℕ) (uses : List Slot) → map errand_for (map (voided i ps) uses) ≡ map errand_for uses
errands_stay i ps [] = refl
errands_stay i ps (x ∷ uses) = let e = errand_stays i ps x in let es = errands_stay i ps uses in cc

keeps_over : (s : Space) (i at : ℕ) (given : List ℕ) (s2 : Space) → IsSound s → Overwrites s i at given s2 → KeepsRest i s s2
keeps_over s i at given s2 sound over =
    let right = stores_are_right s i at given s2 sound over in
    record {
      views = right.others;
      occupants = right.occupants;
      pass = ap (λ (z : Slots). record { held = z.held; out = map errand_for z.uses }) right.slots ∙ ap (λ (z : List (Option Errand)). record { held = s.slots.held; out = z }) (errands_stay i _ s.slots.uses);
      pinned = right.pinned;
      kept = right.kept;
      frames = right.frames;
      tax = right.tax;
      sound = λ also. stores_soundly s i at given s2 sound over;
      steps = stores_first at given over takes_none;
    }

pub keeps_store : (s : Space) (i at : ℕ) (given : List ℕ) (got : Got) (s2 : Space) → IsSound s → LeavesStore s i at given got s2 → KeepsRest i s s2
keeps_store s i at given Value s2 sound is = keeps_over s i at given s2 sound is
keeps_store s i at given Trap s2 sound is = keeps_nothing i s s2 is
keeps_store s i at given (NotReady need) s2 sound is = keeps_nothing i s s2 is

pub store_waits : (s : Space) (i at : ℕ) (given : List ℕ) (got : Got) (s2 : Space) → LeavesStore s i at given got s2 → IsWaiting got → s2 ≡ s
store_waits s i at given Value s2 is waits = absurd waits
store_waits s i at given Trap s2 is waits = is
store_waits s i at given (NotReady need) s2 is waits = is

-- ---- growth

pub keeps_growth : (s : Space) (i n : ℕ) (grown : Grown) (s2 : Space) → IsSound s2 → LeavesGrowth s i n grown s2 → KeepsRest i s s2
keeps_growth s i n (Done pages) s2 sound is = record {
  views = grew_own s i n s2 is;
  occupants = ap (λ (a : Space). a.occupants) is;
  pass = ap pass_of is;
  pinned = λ j. ap (λ (a : Space). pinned_by a.pins j) is;
  kept = λ j other. ap (λ (a : Space). kept_by a.pins j) is;
  frames = ap (λ (a : Space). length a.pool.frames) is;
  tax = ap (λ (a : Space). a.tax) is;
  sound = λ also. sound;
  steps = grows_first n is takes_none;
}
keeps_growth s i n Refused s2 sound is = keeps_nothing i s s2 is

-- ---- what is done quickly, or not at all

pub keeps_quick_load : (s : Space) (i at n : ℕ) (done : Bool) (s2 : Space) → (IsTrue done → Touches s i at n s2) → (IsFalse done → s2 ≡ s) → KeepsRest i s s2
keeps_quick_load s i at n true s2 touches same = keeps_load s i at n Value s2 (touches refl)
keeps_quick_load s i at n false s2 touches same = keeps_nothing i s s2 (same refl)

pub keeps_quick_store : (s : Space) (i at : ℕ) (given : List ℕ) (done : Bool) (s2 : Space) → IsSound s → (IsTrue done → Overwrites s i at given s2) → (IsFalse done → s2 ≡ s) → KeepsRest i s s2
keeps_quick_store s i at given true s2 sound over same = keeps_over s i at given s2 sound (over refl)
keeps_quick_store s i at given false s2 sound over same = keeps_nothing i s s2 (same refl)
