-- Lists of which each element is seen as something else.
use Rattle.std.proofs.Common.{◌≡◌, ℕ, zero, suc, List, [], ◌∷◌, map, replicate, get_or, refl, ap}

-- n times one thing, each seen as something else
pub map-replicate : {X Y : Type 0} (f : X → Y) (n : ℕ) (x : X) → map f (replicate n x) ≡ replicate n (f x)
map-replicate f zero x = refl
map-replicate f (suc n) x = ap (λ rest. f x ∷ rest) (map-replicate f n x)

-- n times nothing is nothing at each place
pub none_in_replicate : (n k : ℕ) → get_or (replicate {A = List ℕ} n []) k [] ≡ []
none_in_replicate zero k = refl
none_in_replicate (suc n) zero = refl
none_in_replicate (suc n) (suc k) = none_in_replicate n k
