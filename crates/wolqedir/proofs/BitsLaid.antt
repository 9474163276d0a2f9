-- A list is laid into a room item by item.
use Rattle.std.proofs.Common.{◌≡◌, ◌++◌, ◌+◌, ◌<◌, ℕ, zero, suc, List, [], ◌∷◌, length, take, drop, slice_get, slice_set, Some, None, sym, ap, subst, arith}

one_more_laid : (items room : List ℕ) (n x : ℕ) → slice_get items n ≡ Some x → n < length room → slice_set (take n items ++ drop n room) n x ≡ take (suc n) items ++ drop (suc n) room
one_more_laid [] room n x is less = absurd (let none : None ≡ Some x = is in cc none)
one_more_laid (item ∷ items) [] n x is less = absurd (omega (arith, less))
one_more_laid (item ∷ items) (y ∷ room) zero x is less = let same : item ≡ x = cc is in ap (λ z. z ∷ room) (sym same)
one_more_laid (item ∷ items) (y ∷ room) (suc n) x is less = ap (λ (zs : List ℕ). item ∷ zs) (one_more_laid items room n x is (omega (arith, less)))

pub laid_on : (items room : List ℕ) (n x : ℕ) → slice_get items n ≡ Some x → n < length room → slice_set (take n items ++ drop n room) n x ≡ take (n + 1) items ++ drop (n + 1) room
laid_on items room n x is less =
    let next : suc n ≡ n + 1 = omega arith in
    subst (λ k. slice_set (take n items ++ drop n room) n x ≡ take k items ++ drop k room) next (one_more_laid items room n x is less)
