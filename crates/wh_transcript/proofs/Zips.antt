-- Two lists, place by place.
use Rattle.std.proofs.Common.{◌≡◌, ℕ, Bool, true, false, zero, suc, ◌+◌, ◌<◌, List, [], ◌∷◌, Some, length, slice_get, slice_index_or, take, not, ℤ, refl, ap, sym, subst, arith}
use Rattle.std.specs.Bool.{MatchBool}
use Rattle.std.specs.Ordering.{int_eq}
use Rattle.std.proofs.lemmas.Bool.Decides.{Decides-int_eq}
use Rattle.std.proofs.lemmas.Slice.Eq.{slice_eq-Decides}
use lib.Pointwise.{pointwise}
use Rattle.std.specs.List.{AllZip}
use Rattle.wh_journal.specs.Calls.{JournalCallState}
use Rattle.wh_transcript.specs.declared.requests.RequestedCall.{RequestedCall}
use Rattle.wh_transcript.specs.RequestedCalls.{EndsAsSaid, IsCallAsked}

same_value : {A : Type 0} (x y : A) → Some x ≡ Some y → x ≡ y
same_value x y e = cc e

zip_more : {A B : Type 0} (R : A → B → Type 0) (xs : List A) (ys : List B) (i : ℕ) (x : A) (y : B) → slice_get xs i ≡ Some x → slice_get ys i ≡ Some y → AllZip R (take i xs) (take i ys) → R x y → AllZip R (take (suc i) xs) (take (suc i) ys)
zip_more R [] ys i x y e f all r = absurd (cc e)
zip_more R (a ∷ xs) [] i x y e f all r = absurd (cc f)
zip_more R (a ∷ xs) (b ∷ ys) zero x y e f all r = (subst (λ z. R a z) (same_value y b (sym f)) (subst (λ z. R z y) (same_value x a (sym e)) r), tt)
zip_more R (a ∷ xs) (b ∷ ys) (suc i) x y e f all r = (all.0, zip_more R xs ys i x y e f all.1 r)

-- one place more
pub zip_further : {A B : Type 0} (R : A → B → Type 0) (xs : List A) (ys : List B) (i : ℕ) (x : A) (y : B) → slice_get xs i ≡ Some x → slice_get ys i ≡ Some y → AllZip R (take i xs) (take i ys) → R x y → AllZip R (take (i + 1) xs) (take (i + 1) ys)
zip_further R xs ys i x y e f all r =
    let next : suc i ≡ i + 1 = omega arith in
    subst (λ n. AllZip R (take n xs) (take n ys)) next (zip_more R xs ys i x y e f all r)

-- what holds at each place holds at this one
pub zip_at : {A B : Type 0} (R : A → B → Type 0) (xs : List A) (ys : List B) (i : ℕ) (x : A) (y : B) → slice_get xs i ≡ Some x → slice_get ys i ≡ Some y → AllZip R xs ys → R x y
zip_at R [] ys i x y e f all = absurd (cc e)
zip_at R (a ∷ xs) [] i x y e f all = absurd (cc f)
zip_at R (a ∷ xs) (b ∷ ys) zero x y e f all = subst (λ z. R x z) (same_value b y f) (subst (λ z. R z b) (same_value a x e) all.0)
zip_at R (a ∷ xs) (b ∷ ys) (suc i) x y e f all = zip_at R xs ys i x y e f all.1

-- what is read within a list is there
pub read_at : {A : Type 0} (xs : List A) (i : ℕ) (x : A) → i < length xs → x ≡ slice_index_or xs i x → slice_get xs i ≡ Some x
read_at [] i x low e = absurd (omega arith)
read_at (y ∷ xs) zero x low e = ap Some (sym e)
read_at (y ∷ xs) (suc i) x low e = read_at xs i x (omega arith) e

-- where all else is as it was asked, the end decides
pub asked_by : (b : Bool) (r : RequestedCall) (c : JournalCallState) → c.func ≡ r.func → c.given ≡ r.given.items → c.fuel ≡ r.fuel → MatchBool b (EndsAsSaid r.ending c) (¬ (EndsAsSaid r.ending c)) → MatchBool b (IsCallAsked r c) (¬ (IsCallAsked r c))
asked_by true r c func given fuel ends = (func, given, fuel, ends)
asked_by false r c func given fuel ends = λ asked. ends asked.3

-- what `!=` of two lists of numbers says
pub same_items : (xs ys : List ℤ) → not (pointwise int_eq xs ys) ≡ false → xs ≡ ys
same_items xs ys e = (slice_eq-Decides Decides-int_eq xs ys (pointwise int_eq xs ys) refl).0 (not_false (pointwise int_eq xs ys) e)
  where
    not_false : (b : Bool) → not b ≡ false → b ≡ true
    not_false true e = refl
    not_false false e = absurd (cc e)

pub other_items : (xs ys : List ℤ) → not (pointwise int_eq xs ys) ≡ true → xs ≡ ys → ⊥
other_items xs ys e same = not_both (pointwise int_eq xs ys) e ((slice_eq-Decides Decides-int_eq xs ys (pointwise int_eq xs ys) refl).1 same)
  where
    not_both : (b : Bool) → not b ≡ true → b ≡ true → ⊥
    not_both true e f = absurd (cc e)
    not_both false e f = absurd (cc f)
