-- Columns of rows, and what a page counts.
use Rattle.std.proofs.Common.{◌≡◌, ℕ, zero, suc, ◌+◌, ◌<◌, ◌≤◌, List, [], ◌∷◌, Some, length, map, take, slice_get, slice_set, ap, subst, arith}
use Rattle.wh_space_model.specs.{resident, swapped, tally}
use Rattle.wh_space_model.proofs.Sums.{tally_le, tally_ones}
use Rattle.wh_space_model.specs.declared.states.Page.{Page}
use Rattle.wh_space_model.specs.declared.states.Page.TheVariants.{Untouched, Private, Shared, Leaving, LeavingShared, Coming, Swapped}

one_value : {A : Type 0} (x y : A) → Some x ≡ Some y → x ≡ y
one_value x y e = cc e

-- ---- a column of the first rows

pub column_get : {X Y : Type 0} (f : X → Y) (rows : List X) (n i : ℕ) (x : X) → i < n → slice_get rows i ≡ Some x → slice_get (map f (take n rows)) i ≡ Some (f x)
column_get f [] n i x below e = absurd (cc e)
column_get f (y ∷ rows) zero i x below e = absurd (omega (arith, below))
column_get f (y ∷ rows) (suc n) zero x below e = ap (λ z. Some (f z)) (one_value y x e)
column_get f (y ∷ rows) (suc n) (suc i) x below e = column_get f rows n i x (omega (arith, below)) e

-- what is there already may be put there
pub put_again : {X : Type 0} (xs : List X) (i : ℕ) (x : X) → slice_get xs i ≡ Some x → slice_set xs i x ≡ xs
put_again [] i x e = absurd (cc e)
put_again (y ∷ xs) zero x e = ap (λ z. z ∷ xs) (one_value x y (let h : Some y ≡ Some x = e in cc h))
put_again (y ∷ xs) (suc i) x e = ap (λ zs. y ∷ zs) (put_again xs i x e)

-- ---- the counts

pub resident_one : (page : Page) → resident page ≤ 1
resident_one Untouched = omega arith
resident_one (Private f) = omega arith
resident_one (Shared f) = omega arith
resident_one (Leaving f) = omega arith
resident_one (LeavingShared f) = omega arith
resident_one (Coming k) = omega arith
resident_one (Swapped k) = omega arith

pub swapped_one : (page : Page) → swapped page ≤ 1
swapped_one Untouched = omega arith
swapped_one (Private f) = omega arith
swapped_one (Shared f) = omega arith
swapped_one (Leaving f) = omega arith
swapped_one (LeavingShared f) = omega arith
swapped_one (Coming k) = omega arith
swapped_one (Swapped k) = omega arith

pub swapped_most : (pages : List Page) → tally swapped pages ≤ length pages
swapped_most pages =
    let least = tally_le swapped (λ page. 1) pages swapped_one in
    let ones = tally_ones pages in
    omega (arith, least, ones)

-- a row behind the first ones is counted
pub tally_added : {X Y : Type 0} (w : Y → ℕ) (f : X → Y) (rows : List X) (n : ℕ) (x : X) → n < length rows → tally w (map f (take (n + 1) (slice_set rows n x))) ≡ tally w (map f (take n rows)) + w (f x)
tally_added w f [] n x within = absurd (omega (arith, within))
tally_added w f (y ∷ rows) zero x within = omega arith
tally_added w f (y ∷ rows) (suc n) x within =
    let next : suc n + 1 ≡ suc (n + 1) = omega arith in
    let rest = tally_added w f rows n x (omega (arith, within)) in
    rw next (omega (arith, rest))

pub slice_there : {X : Type 0} {xs ys : List X} (i : ℕ) (x : X) → xs ≡ ys → slice_get xs i ≡ Some x → slice_get ys i ≡ Some x
slice_there i x same e = subst (λ zs. slice_get zs i ≡ Some x) same e
