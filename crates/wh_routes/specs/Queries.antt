-- What a query says.
use denote.Ref.{Bor}
use Rattle.std.specs.Prelude.{◌≡◌, ℕ, Option, None, Some, List, [], ◌∷◌, if◌then◌else◌}
use Rattle.std.specs.Str.{bytes_eq}
use Rattle.wh_routes.specs.Separators.{pieces_at, piece_before, text_behind}
use Rattle.wh_routes.specs.Readings.{SpellsNumber}

-- of the first pair whose key it is, what stands behind the first `=`, or nothing where there is no `=`
abbrev pub value_among : List (List ℕ) → List ℕ → Option (List ℕ)
value_among [] key = None
value_among (pair ∷ pairs) key = if bytes_eq (piece_before 61 pair) key then Some (text_behind 61 pair) else value_among pairs key

-- of the pairs that `&` divides
abbrev pub value_in : List ℕ → List ℕ → Option (List ℕ)
value_in query key = value_among (pieces_at 38 query) key

-- the text that is referred to, if any
abbrev pub text_in : Option (Bor (List ℕ)) → Option (List ℕ)
text_in None = None
text_in (Some text) = Some text.now

-- the value is the number's digits, or there is none
abbrev pub SaysNumber : Option (List ℕ) → Option ℕ → Type 0
SaysNumber value None = value ≡ None
SaysNumber value (Some n) = (text : List ℕ) × (value ≡ Some text) × SpellsNumber text n

-- there is a value, and it is the digits of no number
abbrev pub SaysNoNumber : Option (List ℕ) → Type 0
SaysNoNumber value = (text : List ℕ) × (value ≡ Some text) × ((n : ℕ) → ¬ (SpellsNumber text n))
