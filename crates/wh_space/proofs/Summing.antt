-- Sums over those who are there.
use Rattle.std.proofs.Common.{◌≡◌, ℕ, ◌+◌, ◌<◌, List, [], ◌∷◌, Option, Some, None, length, map, slice_get, take, zero, suc, refl, ap, arith}
use Rattle.wh_space_model.specs.{tally, Occupant}
use Rattle.wh_space.specs.declared.occupant_entry.OccupantEntry.{OccupantEntry}
use Rattle.wh_space.specs.Parts.{occupant_of}

-- who has a place is an occupant
pub guest_at : (xs : List (Option OccupantEntry)) (j : ℕ) (t : Occupant) → slice_get (map occupant_of xs) j ≡ Some (Some t) → (g : OccupantEntry) × (slice_get xs j ≡ Some (Some g)) × (g.number ≡ t.number) × (j < length xs)
guest_at [] j t is = absurd (cc is)
guest_at (None ∷ xs) zero t is = absurd (cc is)
guest_at (Some g ∷ xs) zero t is = (g, refl, ap (λ (o : Option (Option Occupant)). number_of o) is, omega arith) where
  number_of : Option (Option Occupant) → ℕ
  number_of None = 0
  number_of (Some None) = 0
  number_of (Some (Some t)) = t.number
guest_at (x ∷ xs) (suc j) t is = let k = guest_at xs j t is in (k.0, k.1, k.2, (let l = k.3 in omega arith))

some_is : {X : Type 0} {x y : X} → Some x ≡ Some y → x ≡ y
some_is e = cc

-- one more is summed up
pub tally_next : {X : Type 0} (w : X → ℕ) (xs : List X) (i : ℕ) (x : X) → slice_get xs i ≡ Some x → tally w (take (i + 1) xs) ≡ tally w (take i xs) + w x
tally_next w xs i x is = let e : i + 1 ≡ suc i = omega arith in rw e (next w xs i x is) where
  next : {X : Type 0} (w : X → ℕ) (xs : List X) (i : ℕ) (x : X) → slice_get xs i ≡ Some x → tally w (take (suc i) xs) ≡ tally w (take i xs) + w x
  next w [] i x is = absurd (cc is)
  next w (y ∷ xs) zero x is = let e : y ≡ x = some_is is in rw e (omega arith)
  next w (y ∷ xs) (suc i) x is = let e = next w xs i x is in omega arith
