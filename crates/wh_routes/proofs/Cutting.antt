-- A text is cut at the first separator.
use Rattle.std.proofs.Common.{◌≡◌, ◌≢◌, ℕ, List, [], ◌∷◌, ◌++◌, All, refl, arith}
use Rattle.std.specs.List.{AllByRecursion}
use Rattle.std.proofs.lemmas.Bool.Decides.{nat_tests}
use Rattle.std.proofs.lemmas.List.Elements.{recursion_from_All}
use Rattle.wh_routes.specs.Separators.{pieces_at, piece_before, text_behind}

-- both parts, and the pieces
abbrev pub IsCut : ℕ → List ℕ → List ℕ → List ℕ → Type 0
IsCut s text a b = (pieces_at s text ≡ a ∷ pieces_at s b) × (piece_before s text ≡ a) × (text_behind s text ≡ b)

pub cut_by : (s : ℕ) (a b : List ℕ) → AllByRecursion (λ n. n ≢ s) a → IsCut s (a ++ s ∷ b) a b
cut_by s [] b h = (grind (arith, nat_tests), grind (arith, nat_tests), grind (arith, nat_tests))
cut_by s (x ∷ a) b h =
    let ne = h.0 in
    let ih = cut_by s a b h.1 in
    (rw ih.0 (grind (arith, nat_tests)), rw ih.1 (grind (arith, nat_tests)), rw ih.2 (grind (arith, nat_tests)))

pub whole_by : (s : ℕ) (a : List ℕ) → AllByRecursion (λ n. n ≢ s) a
    → (pieces_at s a ≡ a ∷ []) × (piece_before s a ≡ a) × (text_behind s a ≡ [])
whole_by s [] h = (refl, refl, refl)
whole_by s (x ∷ a) h =
    let ne = h.0 in
    let ih = whole_by s a h.1 in
    (rw ih.0 (grind (arith, nat_tests)), rw ih.1 (grind (arith, nat_tests)), rw ih.2 (grind (arith, nat_tests)))

pub at_separator : (s : ℕ) (text a b : List ℕ) → text ≡ a ++ s ∷ b → All (λ n. n ≢ s) a → IsCut s text a b
at_separator s text a b e free = rw e (cut_by s a b (recursion_from_All (λ n. n ≢ s) a free))

pub no_separator : (s : ℕ) (text : List ℕ) → All (λ n. n ≢ s) text
    → (pieces_at s text ≡ text ∷ []) × (piece_before s text ≡ text) × (text_behind s text ≡ [])
no_separator s text free = whole_by s text (recursion_from_All (λ n. n ≢ s) text free)
