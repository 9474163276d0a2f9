-- Who is at a place.
use Rattle.std.proofs.Common.{◌≡◌, ℕ, Bool, true, false, ◌&&◌, List, [], ◌∷◌, Option, Some, None, zero, suc, refl, slice_get, get_or}
use Rattle.wh_space_model.specs.{Occupant, Space, has_number, occupant_at}

first_of : (b c : Bool) → b && c ≡ true → b ≡ true
first_of true c e = refl
first_of false c e = e

found : (xs : List (Option Occupant)) (i n : ℕ) → has_number (get_or xs i None) n ≡ true → (x : Occupant) × (slice_get xs i ≡ Some (Some x)) × (x.live ≡ true)
found [] i n e = absurd (let bad : false ≡ true = e in cc bad)
found (None ∷ xs) zero n e = absurd (let bad : false ≡ true = e in cc bad)
found (Some x ∷ xs) zero n e = (x, refl, first_of x.live _ e)
found (y ∷ xs) (suc i) n e = found xs i n e

pub somebody : (s : Space) (i n : ℕ) → has_number (get_or s.occupants i None) n ≡ true → (x : Occupant) × occupant_at s i x × (x.live ≡ true)
somebody s i n e = found s.occupants i n e
