-- Where a name stands in a list of names.
use Rattle.std.specs.Prelude.{◌≡◌, ℕ, ◌+◌, List, [], ◌∷◌, slice_get, Option, Some, None, option_map, bytes_eq, if◌then◌else◌}

-- the first place of the list where the name stands
abbrev pub place_of_name : List (List ℕ) → List ℕ → Option ℕ
place_of_name [] name = None
place_of_name (x ∷ names) name = if bytes_eq x name then Some 0 else option_map (λ k. k + 1) (place_of_name names name)

-- no name stands at two places
abbrev pub AreNamedOnce : List (List ℕ) → Type 0
AreNamedOnce names =
    (name : List ℕ) (i k : ℕ) → slice_get names i ≡ Some name → slice_get names k ≡ Some name → i ≡ k
