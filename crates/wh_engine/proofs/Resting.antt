-- Instances none of which can go on.
use Rattle.std.proofs.Common.{arith, ◌≡◌, ℕ, ◌+◌, ◌<◌, ◌≤◌, ⊎_elim, List, [], ◌∷◌, length, slice_get, Some, false, sym, subst, ◌∙◌, ◌≢◌}
use Rattle.std.proofs.lemmas.Bool.{cases_lt}
use Rattle.std.proofs.lemmas.Option.{same_Some}
use Rattle.wh_host.specs.Hosting.{HostState}
use Rattle.wh_host.specs.Paging.{IsGoing, Tells}
use Rattle.wh_engine.specs.declared.parts.NamedInstance.{NamedInstance}

-- the first n rest
abbrev pub FirstRest : HostState → List NamedInstance → ℕ → Type 0
FirstRest h xs count = (i : ℕ) (x : NamedInstance) → i < count → slice_get xs i ≡ Some x → Tells h false (λ w. IsGoing w x.id)

-- and the next one
pub rest_more : (h : HostState) (xs : List NamedInstance) (at : ℕ) (x : NamedInstance) → slice_get xs at ≡ Some x → Tells h false (λ w. IsGoing w x.id) → FirstRest h xs at → FirstRest h xs (at + 1)
rest_more h xs at x here tells first i y below there =
    ⊎_elim
    (λ (less : i < at). first i y less there)
    (λ (above : at ≤ i).
    let same : i ≡ at = omega (arith, below, above) in
    let one : x ≡ y = same_Some x y (sym here ∙ subst (λ k. slice_get xs k ≡ Some y) same there) in
    subst (λ (z : NamedInstance). Tells h false (λ w. IsGoing w z.id)) one tells)
    (cases_lt i at)

-- a vector isn't empty
pub some_items : {A : Type 0} (xs : List A) → 0 < length xs → xs ≢ []
some_items [] more e = omega (arith, more)
some_items (x ∷ xs) more e = cc e
