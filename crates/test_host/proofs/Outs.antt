-- Tickets that are out, by the slots that they are for.
use Rattle.std.proofs.Common.{◌≡◌, ◌≢◌, ℕ, ◌<◌, ◌++◌, ◌⊎◌, inl, inr, List, [], ◌∷◌, Option, Some, None, length, zero, suc, refl, sym, ap, ◌∙◌, subst, arith, slice_get, slice_set, get_or}
use Rattle.std.specs.List.{remove}
use Rattle.wh_space_model.specs.{Errand}
use Rattle.wh_space_model.proofs.Putting.{set_other, set_same, there_of}
use Rattle.test_host.specs.Carried.{AreOut}

-- one behind the others
behind : {X : Type 0} (xs : List X) (y : X) (n : ℕ) (x : X) → slice_get (xs ++ y ∷ []) n ≡ Some x → (slice_get xs n ≡ Some x) ⊎ ((n ≡ length xs) × (x ≡ y))
behind [] y zero x e = inr (refl, (let a : Some y ≡ Some x = e in cc a))
behind [] y (suc n) x e = absurd (let bad : None ≡ Some x = e in cc bad)
behind (z ∷ xs) y zero x e = inl e
behind (z ∷ xs) y (suc n) x e =
    elim (behind xs y n x e) [
      | inl here ↦ inl here
      | inr last ↦ inr (ap suc last.0, last.1)
    ]

pub none_out : (out : List (Option Errand)) (errand : Errand) (slots : List ℕ) → length slots ≡ 0 → AreOut out errand slots
none_out out errand slots none = record {
  are = λ n k at. (let less = there_of slots n k at in absurd (omega arith));
  apart = λ m n k at at2. (let less = there_of slots m k at in absurd (omega arith));
}

-- the slot isn't one of these
pub others_stay : (out : List (Option Errand)) (errand : Errand) (slots : List ℕ) (k : ℕ) (x : Option Errand) → slice_get out k ≢ Some (Some errand) → AreOut out errand slots → AreOut (slice_set out k x) errand slots
others_stay out errand slots k x other are = record {
  are = λ n j at. set_other out k j x (λ e. other (subst (λ z. slice_get out z ≡ Some (Some errand)) e (are.are n j at))) ∙ are.are n j at;
  apart = are.apart;
}

-- a ticket is out more
pub one_more : (out : List (Option Errand)) (errand : Errand) (slots : List ℕ) (k : ℕ) → k < length out → slice_get out k ≢ Some (Some errand) → AreOut out errand slots → AreOut (slice_set out k (Some errand)) errand (slots ++ k ∷ [])
one_more out errand slots k less other are = let stay = others_stay out errand slots k (Some errand) other are in record {
  are = λ n j at. elim (behind slots k n j at) [
    | inl here ↦ stay.are n j here
    | inr last ↦ subst (λ z. slice_get (slice_set out k (Some errand)) z ≡ Some (Some errand)) (sym last.1) (set_same out k (Some errand) less)
  ];
  apart = λ m n j at at2. elim (behind slots k m j at) [
    | inl here ↦ elim (behind slots k n j at2) [
      | inl there ↦ are.apart m n j here there
      | inr last ↦ absurd (other (subst (λ z. slice_get out z ≡ Some (Some errand)) last.1 (are.are m j here)))
    ]
    | inr last ↦ elim (behind slots k n j at2) [
      | inl there ↦ absurd (other (subst (λ z. slice_get out z ≡ Some (Some errand)) last.1 (are.are n j there)))
      | inr last2 ↦ last.0 ∙ sym last2.0
    ]
  ];
}

-- the first one comes back
pub first_back : (out : List (Option Errand)) (errand : Errand) (k : ℕ) (slots : List ℕ) (x : Option Errand) → AreOut out errand (k ∷ slots) → AreOut (slice_set out k x) errand slots
first_back out errand k slots x are = record {
  are = λ n j at. set_other out k j x (λ e. (let same : suc n ≡ 0 = are.apart (suc n) 0 k (subst (λ z. slice_get slots n ≡ Some z) e at) refl in absurd (cc same))) ∙ are.are (suc n) j at;
  apart = λ m n j at at2. (let e = are.apart (suc m) (suc n) j at at2 in omega arith);
}

-- ---- by what holds the slots

-- the first of them, and the others
pub one_of : {T : Type 0} (xs : List T) (x : T) → 0 < length xs → x ≡ get_or xs 0 x → (ys : List T) × (xs ≡ x ∷ ys) × (remove xs 0 ≡ ys)
one_of [] x less e = absurd (omega arith)
one_of (y ∷ ys) x less e = (ys, ap (λ z. z ∷ ys) (sym e), refl)
