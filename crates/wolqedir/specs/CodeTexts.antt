-- Which codes there are, and what is told of one.
use Rattle.std.specs.Prelude.{◌≡◌, ◌⊎◌, ◌<◌, ◌≤◌, ◌/◌, ◌%◌, ℕ, List, [], ◌∷◌, get_or, length}
use Rattle.wolqedir.specs.Codes.{unknown_code}
use Rattle.wolqedir.specs.Rooms.{laid_in}

-- how many numbers a family has, the first of which is 1
abbrev pub most_number : ℕ → ℕ
most_number family = get_or (0 ∷ 13 ∷ 11 ∷ 3 ∷ 2 ∷ 9 ∷ 8 ∷ 10 ∷ 3 ∷ 4 ∷ []) family 0

-- it is one of the library's own, or a family with one of its numbers
abbrev pub IsLibraryCode : ℕ → Type 0
IsLibraryCode code = (code < 10) ⊎ ((1 ≤ code % 256) × (code % 256 ≤ most_number (code / 256)))

-- A sentence is copied for a code; for none that is answered, and what could be written is as it was.
abbrev pub TellsText : ℕ → (room room2 : List ℕ) → (len len2 answer : ℕ) → Type 0
TellsText code room room2 len len2 answer =
    (IsLibraryCode code × (text : List ℕ) × (answer ≡ 0) × (room2 ≡ laid_in text room) × (len2 ≡ length text))
    ⊎ ((¬ (IsLibraryCode code)) × (answer ≡ unknown_code) × (room2 ≡ room) × (len2 ≡ len))
