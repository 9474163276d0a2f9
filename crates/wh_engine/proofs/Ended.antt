-- Instances of which lines are to come.
use Rattle.std.proofs.Common.{arith, ◌≡◌, ◌∙◌, ℕ, suc, ◌+◌, ◌<◌, ◌||◌, List, [], ◌∷◌, length, slice_get, slice_set, Bool, true, false, not, cond, Some, refl, sym, ap, inl, inr}
use Rattle.std.specs.List.{filter}
use Rattle.std.proofs.lemmas.Bool.{cases_eq}
use Rattle.std.proofs.lemmas.Option.{same_Some}
use Rattle.wh_space_model.proofs.Putting.{set_same, set_other}
use Rattle.wh_engine.specs.declared.parts.NamedInstance.{NamedInstance}
use Rattle.wh_engine.specs.RepresentedScript.{is_over}

-- none of the first n is over
pub record NoneOver (xs : List NamedInstance) (count : ℕ) : Type 0 where
  pub none : (k : ℕ) (x : NamedInstance) → k < count → slice_get xs k ≡ Some x → is_over x ≡ false

neither : (a b : Bool) → (a || b) ≡ false → (a ≡ false) × (b ≡ false)
neither false b e = (refl, e)
neither true b e = absurd (cc e)

pub none_before : (xs : List NamedInstance) → NoneOver xs 0
none_before xs = record { none = λ k x less at. absurd (omega (arith, less)) }

-- one more was looked at
pub none_over_more : (xs : List NamedInstance) (at : ℕ) (y : NamedInstance) (any last : Bool) → at < length xs → (any ≡ false → NoneOver xs at)
    → last ≡ is_over y → (any || last) ≡ false → NoneOver (slice_set xs at y) (at + 1)
none_over_more xs at y any last within before looked e =
    let split = neither any last e in
    record {
      none = λ k x less there. elim (cases_eq k at) [
        | inl same ↦
            (let is : y ≡ x =
            same_Some y x (sym (set_same xs at y within) ∙ ap (slice_get (slice_set xs at y)) (sym same) ∙ there) in
            ap is_over (sym is) ∙ sym looked ∙ split.1)
        | inr other ↦ (before split.0).none k x (omega (arith, less, other)) (sym (set_other xs at k y other) ∙ there)
      ];
    }

-- where none is over, all stay
pub all_stay : (xs : List NamedInstance) → ((k : ℕ) (x : NamedInstance) → slice_get xs k ≡ Some x → is_over x ≡ false)
    → filter (λ x. not (is_over x)) xs ≡ xs
all_stay [] none = refl
all_stay (x ∷ xs) none =
    let stays : not (is_over x) ≡ true = ap not (none 0 x refl) in
    ap (λ b. cond b (x ∷ filter (λ y. not (is_over y)) xs) (filter (λ y. not (is_over y)) xs)) stays
    ∙ ap (λ ys. x ∷ ys) (all_stay xs (λ k. none (suc k)))
