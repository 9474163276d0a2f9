-- Faults of an admission by what it is given alone, one after the other.
use Rattle.std.proofs.Common.{◌≡◌, ◌∙◌, ℕ, ◌+◌, ◌-◌, ◌<◌, ◌≤◌, ◌⊎◌, ⊎_elim, [], ◌∷◌, get_or, Option, Some, None, refl, sym, ap, subst, arith}
use Rattle.std.proofs.lemmas.Bool.{cases_lt}
use Rattle.wh_model.specs.Format.{Module}
use Rattle.wh_model.specs.Execution.{Beginning, IsInitial, memory_min, segment_bounds, begins}
use Rattle.wh_model.proofs.Instance.{one_beginning}
use Rattle.wh_host_model.specs.{Params, given_of, AdmitFault, no_module, shares, min_max, frames, swap, instances, memory, segments, admit_rank, most_instances}
use Rattle.wh_admit.specs.declared.room.Room.{Room}
use Rattle.wh_admit.specs.declared.error.AdmitError.{AdmitError}
use Rattle.wh_admit.specs.declared.error.AdmitError.TheVariants.{NoModule, Shares, MinMax, Frames, Swap, Instances, MemoryMin, SegmentBounds, Memory}
use Rattle.wh_admit.specs.AdmitErrors.{fault_of}
use Rattle.wh_admit.specs.AdmissionNumbers.{AreShares, AreFrames, HasNumbers, RefusesNumbers, quota_of}
use Rattle.wh_admit.specs.AdmittedStart.{RefusesBeginning}

-- a module is given, and an instance of it comes to this
abbrev pub ComesTo : Option Module → Params → Beginning → Type 0
ComesTo o p b = (m : Module) × (o ≡ Some m) × IsInitial m (given_of p) b

-- the fault is met, by what is given alone
abbrev pub MeetsHere : Option Module → Room → Params → AdmitFault → Type 0
MeetsHere o room p no_module = o ≡ None
MeetsHere o room p shares = (p.shares < 1) ⊎ (1000000 < p.shares)
MeetsHere o room p min_max = (p.min < 2) ⊎ (p.max < p.min) ⊎ (65536 < p.max)
MeetsHere o room p frames = room.frames < p.min
MeetsHere o room p swap = room.slots < (p.max - p.min) + 1
MeetsHere o room p instances = most_instances ≤ room.live
MeetsHere o room p memory = ComesTo o p memory_min
MeetsHere o room p segments = ComesTo o p segment_bounds

-- ---- one after the other

fault_at : ℕ → AdmitFault
fault_at n = get_or (no_module ∷ no_module ∷ shares ∷ min_max ∷ frames ∷ swap ∷ instances ∷ memory ∷ []) n segments

is_at : (f : AdmitFault) → fault_at (admit_rank f) ≡ f
unfolding fault_at
is_at no_module = refl
is_at shares = refl
is_at min_max = refl
is_at frames = refl
is_at swap = refl
is_at instances = refl
is_at memory = refl
is_at segments = refl

same_fault : (f g : AdmitFault) → admit_rank f ≡ admit_rank g → f ≡ g
same_fault f g e = sym (is_at f) ∙ ap fault_at e ∙ is_at g

from_one : (f : AdmitFault) → 1 ≤ admit_rank f
from_one no_module = omega arith
from_one shares = omega arith
from_one min_max = omega arith
from_one frames = omega arith
from_one swap = omega arith
from_one instances = omega arith
from_one memory = omega arith
from_one segments = omega arith

pub below_nine : (f : AdmitFault) → admit_rank f < 9
below_nine no_module = omega arith
below_nine shares = omega arith
below_nine min_max = omega arith
below_nine frames = omega arith
below_nine swap = omega arith
below_nine instances = omega arith
below_nine memory = omega arith
below_nine segments = omega arith

-- none of those before the n-th is met
abbrev pub NoneBelow : Option Module → Room → Params → ℕ → Type 0
NoneBelow o room p n = (f : AdmitFault) → admit_rank f < n → ¬ (MeetsHere o room p f)

module _ (o : Option Module) (room : Room) (p : Params) where
  pub none_yet : NoneBelow o room p 1
  none_yet f less = let some = from_one f in absurd (omega (arith, some, less))

  one_more : (f : AdmitFault) (n : ℕ) → admit_rank f ≡ n → NoneBelow o room p n → ¬ (MeetsHere o room p f)
      → NoneBelow o room p (n + 1)
  one_more f n is none lacks g less =
      ⊎_elim
      (λ before. none g before)
      (λ most met. lacks (subst (MeetsHere o room p) (same_fault g f (omega (arith, is, less, most))) met))
      (cases_lt (admit_rank g) n)

-- why it isn't admitted, by what is given alone
abbrev pub RefusesHere : Option Module → Room → Params → Option AdmitFault → Type 0
RefusesHere o room p (Some f) = MeetsHere o room p f × NoneBelow o room p (admit_rank f)
RefusesHere o room p None = NoneBelow o room p 9

-- ---- of a module

module _ (m : Module) (room : Room) (p : Params) where
  past_module : NoneBelow (Some m) room p 2
  past_module = one_more (Some m) room p no_module 1 refl (none_yet (Some m) room p) (λ e. absurd (cc e))

  past_shares : AreShares p.shares → NoneBelow (Some m) room p 3
  past_shares (some, few) = one_more (Some m) room p shares 2 refl past_module
      (λ met. ⊎_elim (λ less. absurd (omega (arith, some, less))) (λ more. absurd (omega (arith, few, more))) met)

  past_range : AreShares p.shares → AreFrames p.min p.max → NoneBelow (Some m) room p 4
  past_range are (some, order, few) =
      one_more (Some m) room p min_max 3 refl (past_shares are)
      (λ met. ⊎_elim (λ less. absurd (omega (arith, some, less)))
      (λ w. ⊎_elim (λ less. absurd (omega (arith, order, less))) (λ more. absurd (omega (arith, few, more))) w) met)

  past_frames : AreShares p.shares → AreFrames p.min p.max → p.min ≤ room.frames → NoneBelow (Some m) room p 5
  past_frames are range left = one_more (Some m) room p frames 4 refl (past_range are range)
      (λ met. absurd (omega (arith, left, met)))

  past_slots : AreShares p.shares → AreFrames p.min p.max → p.min ≤ room.frames → (p.max - p.min) + 1 ≤ room.slots
      → NoneBelow (Some m) room p 6
  past_slots are range left slots = one_more (Some m) room p swap 5 refl (past_frames are range left)
      (λ met. absurd (omega (arith, slots, met)))

  past_numbers : HasNumbers (quota_of p) room → NoneBelow (Some m) room p 7
  past_numbers h =
      one_more (Some m) room p instances 6 refl (past_slots h.shares h.range h.frames h.slots)
      (λ met. absurd (omega (arith, h.few, met)))

  pub refuses_numbers : (e : AdmitError) → RefusesNumbers (quota_of p) room e → RefusesHere (Some m) room p (fault_of e)
  refuses_numbers NoModule is = absurd is
  refuses_numbers Shares is = (is, past_module)
  refuses_numbers MinMax (are, is) = (is, past_shares are)
  refuses_numbers Frames (are, range, is) = (is, past_range are range)
  refuses_numbers Swap (are, range, left, is) = (is, past_frames are range left)
  refuses_numbers Instances (are, range, left, slots, is) = (is, past_slots are range left slots)
  refuses_numbers MemoryMin is = absurd is
  refuses_numbers SegmentBounds is = absurd is
  refuses_numbers Memory is = absurd is

  -- ---- what its instance comes to

  only_one : (a b : Beginning) → IsInitial m (given_of p) a → ComesTo (Some m) p b → a ≡ b
  only_one a b is (m2, same, other) =
      let e : m2 ≡ m = cc same in
      one_beginning m (given_of p) a b is (subst (λ z. IsInitial z (given_of p) b) e other)

  -- none is met, where the beginning has none
  pub past_beginning : HasNumbers (quota_of p) room → ¬ (ComesTo (Some m) p memory_min)
      → ¬ (ComesTo (Some m) p segment_bounds) → NoneBelow (Some m) room p 9
  past_beginning h few within =
      one_more (Some m) room p segments 8 refl (one_more (Some m) room p memory 7 refl (past_numbers h) few) within

  past_memory : HasNumbers (quota_of p) room → (b : Beginning) → IsInitial m (given_of p) b → ¬ (b ≡ memory_min)
      → NoneBelow (Some m) room p 8
  past_memory h b is other = one_more (Some m) room p memory 7 refl (past_numbers h)
      (λ met. other (only_one b memory_min is met))

  pub past_all : HasNumbers (quota_of p) room → (b : Beginning) → IsInitial m (given_of p) b → ¬ (b ≡ memory_min)
      → ¬ (b ≡ segment_bounds) → NoneBelow (Some m) room p 9
  past_all h b is other another =
      past_beginning h (λ met. other (only_one b memory_min is met)) (λ met. another (only_one b segment_bounds is met))

  pub refuses_beginning : HasNumbers (quota_of p) room → (e : AdmitError) → RefusesBeginning m p e
      → RefusesHere (Some m) room p (fault_of e)
  refuses_beginning h NoModule is = absurd is
  refuses_beginning h Shares is = absurd is
  refuses_beginning h MinMax is = absurd is
  refuses_beginning h Frames is = absurd is
  refuses_beginning h Swap is = absurd is
  refuses_beginning h Instances is = absurd is
  refuses_beginning h MemoryMin is = ((m, refl, is), past_numbers h)
  refuses_beginning h SegmentBounds is = ((m, refl, is), past_memory h segment_bounds is (λ e. absurd (cc e)))
  refuses_beginning h Memory (inst, s, to_write, is) = past_all h (begins inst s to_write) is (λ e. absurd (cc e))
      (λ e. absurd (cc e))
