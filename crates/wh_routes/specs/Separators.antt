-- The pieces of a text between its separators.
use Rattle.std.specs.Prelude.{ℕ, ◌==◌, if◌then◌else◌, List, [], ◌∷◌, Option, None, Some}
use denote.Ref.{Bor}

-- puts a byte in front of the first piece
abbrev pub onto_first_piece : ℕ → List (List ℕ) → List (List ℕ)
onto_first_piece b [] = (b ∷ []) ∷ []
onto_first_piece b (p ∷ ps) = (b ∷ p) ∷ ps

-- the bytes up to each separator, and those behind the last one
abbrev pub pieces_at : ℕ → List ℕ → List (List ℕ)
pieces_at separator [] = [] ∷ []
pieces_at separator (b ∷ bs) = if b == separator then [] ∷ pieces_at separator bs else onto_first_piece b (pieces_at separator bs)

-- the bytes up to the first separator, or all
abbrev pub piece_before : ℕ → List ℕ → List ℕ
piece_before separator [] = []
piece_before separator (b ∷ bs) = if b == separator then [] else b ∷ piece_before separator bs

-- the bytes behind the first separator, or none
abbrev pub text_behind : ℕ → List ℕ → List ℕ
text_behind separator [] = []
text_behind separator (b ∷ bs) = if b == separator then bs else text_behind separator bs

-- what lies behind a separator, or nothing where there is none
abbrev pub rest_text : Option (Bor (List ℕ)) → List ℕ
rest_text None = []
rest_text (Some rest) = rest.now

-- its pieces; none where there is no separator
abbrev pub pieces_behind : ℕ → Option (Bor (List ℕ)) → List (List ℕ)
pieces_behind separator None = []
pieces_behind separator (Some rest) = pieces_at separator rest.now
