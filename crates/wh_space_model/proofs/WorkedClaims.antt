-- Who pays where claims are equal, and who may come, by hand.
use Rattle.std.proofs.Common.{ℕ, ◌<◌, ◌≤◌, List, Option, [], ◌∷◌, Some, None, true, zero, suc, refl, arith}
use Rattle.wh_space_model.specs.declared.Tax.{Tax}
use Rattle.wh_space_model.specs.declared.states.Page.TheVariants.{Private}
use Rattle.wh_space_model.specs.declared.states.Slot.{Slot}
use Rattle.wh_space_model.specs.declared.states.Slot.TheVariants.{Vacant}
use Rattle.wh_space_model.specs.{Claimed, Occupant, Space, HasLess, IsEarlier, IsPayer, MayPay, HasRoomFor, IsAdmissible}
use Rattle.wh_space_model.proofs.Charging.{charged_at}

-- an instance with shares 100
abbrev rich : ℕ → ℕ → Occupant
rich n least = record { number = n; live = true; shares = 100; min = least; max = 16; stands = None; leaves = None }

-- At the first place is number 5, at the second number 2. Both have three pages that were touched and are above their minimum of
-- two: their claims are equal, and the lower number pays, though its place is the higher one.
abbrev equal : Tax → Space
equal tax = record {
  occupants = Some (rich 5 2) ∷ Some (rich 2 2) ∷ [];
  tables = (Private 0 ∷ Private 1 ∷ Private 2 ∷ []) ∷ (Private 3 ∷ Private 4 ∷ Private 5 ∷ []) ∷ [];
  touched = (true ∷ true ∷ true ∷ []) ∷ (true ∷ true ∷ true ∷ []) ∷ [];
  pool = record { frames = [] ∷ [] ∷ [] ∷ [] ∷ [] ∷ [] ∷ []; free = [] };
  marks = [];
  slots = record { uses = []; vacant = []; held = [] };
  pins = None;
  tax = tax;
}

lower_number_pays : (tax : Tax) → IsPayer (equal tax) 1
lower_number_pays tax =
    let more : 2 < 3 = omega arith in
    record {
      may_pay = ((rich 2 2, refl, more), (0, ((refl, refl, (rich 2 2, refl, refl)), (3, charged_at (equal tax) 1 0 3 refl refl (λ q on. omega arith)))));
      least = least;
      first = first;
    } where
      least : (j : ℕ) → MayPay (equal tax) j → ¬ HasLess (equal tax) j 1
      least zero pays less = let bad = less (rich 5 2) (rich 2 2) refl refl in omega arith
      least (suc zero) pays less = let bad = less (rich 2 2) (rich 2 2) refl refl in omega arith
      least (suc (suc j)) pays less = let bad = pays.0.1 in cc

      first : (j : ℕ) → MayPay (equal tax) j → IsEarlier (equal tax) j 1 → HasLess (equal tax) 1 j
      first zero pays earlier = absurd (let bad : 5 < 2 = earlier (rich 5 2) (rich 2 2) refl refl in omega arith)
      first (suc zero) pays earlier = absurd (let bad : 2 < 2 = earlier (rich 2 2) (rich 2 2) refl refl in omega arith)
      first (suc (suc j)) pays earlier = absurd (let bad = pays.0.1 in cc)

-- 8 frames and 64 slots. Two instances with minima of 4 and maxima of 16 are there; a third with a minimum of 2 has no room. When
-- one of them has gone, it has.
slots_of : ℕ → List Slot
slots_of zero = []
slots_of (suc n) = Vacant ∷ slots_of n

abbrev eight : Tax → List (Option Occupant) → Space
eight tax occupants = record {
  occupants = occupants;
  tables = [];
  touched = [];
  pool = record { frames = [] ∷ [] ∷ [] ∷ [] ∷ [] ∷ [] ∷ [] ∷ [] ∷ []; free = [] };
  marks = [];
  slots = record { uses = slots_of 64; vacant = []; held = [] };
  pins = None;
  tax = tax;
}

abbrev third_claim : Claimed
third_claim = record { number = 2; shares = 100; min = 2; max = 16 }

two_fit : (tax : Tax) → IsAdmissible (eight tax (Some (rich 0 4) ∷ Some (rich 1 4) ∷ []))
unfolding slots_of
two_fit tax = let frames : 8 ≤ 8 = omega arith in let slots : 26 ≤ 64 = omega arith in (frames, slots)

third_refused : (tax : Tax) → ¬ HasRoomFor (eight tax (Some (rich 0 4) ∷ Some (rich 1 4) ∷ [])) third_claim
third_refused tax room = let frames : 10 ≤ 8 = room.0 in omega arith

third_admitted : (tax : Tax) → HasRoomFor (eight tax (None ∷ Some (rich 1 4) ∷ [])) third_claim
unfolding slots_of
third_admitted tax = let frames : 6 ≤ 8 = omega arith in let slots : 28 ≤ 64 = omega arith in (frames, slots)
