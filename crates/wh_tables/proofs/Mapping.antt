-- A list of which the first elements are done.
use Rattle.std.proofs.Common.{◌≡◌, ℕ, ◌+◌, ◌<◌, ◌++◌, List, [], ◌∷◌, length, get_or, map, slice_set, take, drop, zero, suc, ap, arith}

done_row : {X : Type 0} (f : X → X) (xs : List X) (i : ℕ) (row new : X) → i < length xs → row ≡ get_or (map f (take i xs) ++ drop i xs) i row → new ≡ f row
    → slice_set (map f (take i xs) ++ drop i xs) i new ≡ map f (take (suc i) xs) ++ drop (suc i) xs
done_row f [] i row new within found is = absurd (omega arith)
done_row f (x ∷ xs) zero row new within found is = let e : row ≡ x = found in let k : f row ≡ f x = ap f e in cc
done_row f (x ∷ xs) (suc i) row new within found is = let e = done_row f xs i row new (omega arith) found is in cc

pub one_more : {X : Type 0} (f : X → X) (xs : List X) (i : ℕ) (row new : X) → i < length xs → row ≡ get_or (map f (take i xs) ++ drop i xs) i row → new ≡ f row
    → slice_set (map f (take i xs) ++ drop i xs) i new ≡ map f (take (i + 1) xs) ++ drop (i + 1) xs
one_more f xs i row new within found is = let e : i + 1 ≡ suc i = omega arith in rw e (done_row f xs i row new within found is)
