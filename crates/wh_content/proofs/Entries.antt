-- One mark among those of all frames.
use Rattle.std.proofs.Common.{◌≡◌, ◌⊎◌, ℕ, ◌<◌, List, Option, Some, None, length, slice_get, slice_set, sym, ◌∙◌, inl, inr, ap, subst, arith, length-set}
use Rattle.std.proofs.lemmas.Bool.{cases_eq}
use Rattle.wh_space_model.specs.declared.states.Mark.{Mark}
use Rattle.wh_space_model.specs.declared.states.Mark.TheVariants.{Plain, Hint, Sharers, Unlisted}
use Rattle.wh_space_model.specs.{HasHash}
use Rattle.wh_space_model.proofs.Putting.{set_same, set_other}
use Rattle.wh_content.specs.Marks.{AreApart, IsOnlyWith}

-- what is at j after x was put at i
pub at_put : {X : Type 0} (P : Option X → Type 0) (xs : List X) (i j : ℕ) (x : X) → i < length xs
    → P (slice_get (slice_set xs i x) j) → ((j ≡ i) × P (Some x)) ⊎ ((j ≡ i → ⊥) × P (slice_get xs j))
at_put P xs i j x within p =
    elim (cases_eq j i) [
      | inl same ↦ inl (same, subst P (set_same xs i x within) (subst (λ k. P (slice_get (slice_set xs i x) k)) same p))
      | inr other ↦ inr (other, subst P (set_other xs i j x other) p)
    ]

-- i is within a list in which x was put at i, and x is there
pub put_within : {X : Type 0} (xs ys : List X) (i n : ℕ) (x : X) → ys ≡ slice_set xs i x → length ys ≡ n → i < length xs
    → i < n
put_within xs ys i n x put many within = omega (arith, ap length put, length-set xs i x)

pub put_there : {X : Type 0} (xs ys : List X) (i : ℕ) (x : X) → ys ≡ slice_set xs i x → i < length xs
    → slice_get ys i ≡ Some x
put_there xs ys i x put within = rw put (set_same xs i x within)

-- a mark has one hash
pub one_hash : (mark : Option Mark) (h k : ℕ) → HasHash mark h → HasHash mark k → h ≡ k
one_hash None h k has also = absurd has
one_hash (Some Plain) h k has also = absurd has
one_hash (Some (Hint hash i p)) h k has also = sym has ∙ also
one_hash (Some (Sharers hash n)) h k has also = sym has ∙ also
one_hash (Some (Unlisted n)) h k has also = absurd has

-- no other frame has the hash of a mark once f has none
pub only_plain : (marks : List Mark) (f hash h : ℕ) (mark : Mark) → f < length marks → IsOnlyWith marks f hash
    → HasHash (Some mark) hash → HasHash (Some mark) h → IsOnlyWith (slice_set marks f Plain) f h
only_plain marks f hash h mark within only has also g is =
    elim (at_put (λ m. HasHash m h) marks f g Plain within is) [
      | inl here ↦ here.0
      | inr other ↦ only g (subst (HasHash (slice_get marks g)) (one_hash (Some mark) h hash also has) other.1)
    ]

-- the hashes stay apart where a mark is put whose hash no other frame has
pub apart_put : (marks : List Mark) (f : ℕ) (mark : Mark) → AreApart marks → f < length marks
    → ((hash : ℕ) → HasHash (Some mark) hash → IsOnlyWith marks f hash) → AreApart (slice_set marks f mark)
apart_put marks f mark apart within only a hash has b also =
    let first = at_put (λ m. HasHash m hash) marks f a mark within has in
    let second = at_put (λ m. HasHash m hash) marks f b mark within also in
    elim first [
      | inl here ↦ elim second [
        | inl there ↦ there.0 ∙ sym here.0
        | inr there ↦ only hash here.1 b there.1 ∙ sym here.0
      ]
      | inr here ↦ elim second [
        | inl there ↦ there.0 ∙ sym (only hash there.1 a here.1)
        | inr there ↦ apart a hash here.1 b there.1
      ]
    ]
