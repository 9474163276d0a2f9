-- Spaces that a text begins with.
use Rattle.std.proofs.Common.{◌≡◌, ◌≢◌, ℕ, zero, suc, ◌-◌, ◌<◌, List, [], ◌∷◌, length, get_or, take, drop, take_all, All, refl, ◌∙◌, arith}
use Rattle.std.specs.List.{AllByRecursion}
use Rattle.std.proofs.lemmas.Bool.Decides.{nat_tests}
use Rattle.std.proofs.lemmas.List.{length-drop}
use Rattle.std.proofs.lemmas.List.Elements.{recursion_from_All}
use Rattle.wh_tokens.specs.Bearer.{without_spaces}

spaces_by : (text : List ℕ) (at : ℕ) → at < length text → AllByRecursion (λ b. b ≡ 32) (take at text) → get_or text at 0 ≢ 32
    → drop at text ≡ without_spaces text
spaces_by [] at low h ne = absurd (omega arith)
spaces_by (b ∷ bs) zero low h ne = grind (arith, nat_tests)
spaces_by (b ∷ bs) (suc at) low h ne =
    let is = h.0 in
    rw (spaces_by bs at (omega arith) h.1 ne) (grind (arith, nat_tests))

pub spaces_before : (text : List ℕ) (at : ℕ) → at < length text → All (λ b. b ≡ 32) (take at text) → get_or text at 0 ≢ 32
    → take (length text - at) (drop at text) ≡ without_spaces text
spaces_before text at low h ne =
    take_all (length text - at) (drop at text) (omega (arith, length-drop at text))
    ∙ spaces_by text at low (recursion_from_All (λ b. b ≡ 32) (take at text) h) ne

only_by : (text : List ℕ) → AllByRecursion (λ b. b ≡ 32) text → [] ≡ without_spaces text
only_by [] h = refl
only_by (b ∷ bs) h = let is = h.0 in rw (← only_by bs h.1) (grind (arith, nat_tests))

pub only_spaces : (text : List ℕ) → All (λ b. b ≡ 32) text → [] ≡ without_spaces text
only_spaces text h = only_by text (recursion_from_All (λ b. b ≡ 32) text h)
