-- A name that was added and taken away again.
use Rattle.std.proofs.Common.{arith, ◌≡◌, ◌∙◌, ℕ, ◌-◌, List, [], ◌∷◌, ◌++◌, length, take, ap}
use Rattle.std.proofs.lemmas.List.{length_push, take_at}

pub taken_back : (names given left : List (List ℕ)) (name : List ℕ) → given ≡ names ++ name ∷ []
    → left ≡ take (length given - 1) given → left ≡ names
taken_back names given left name adds leaves =
    let longer : List (List ℕ) = names ++ name ∷ [] in
    let long = length_push names name in
    let one_fewer : length names ≡ length longer - 1 = omega (arith, long) in
    leaves ∙ ap (λ (xs : List (List ℕ)). take (length xs - 1) xs) adds
    ∙ take_at names (name ∷ []) (length longer - 1) one_fewer
