-- The words of a line that are left to be read.
use Rattle.std.specs.Prelude.{◌≡◌, ℕ, List, [], ◌∷◌, Option, None, Some, ⊤}
use denote.Ref.{Bor}
use Rattle.wh_script_model.specs.Lines.{IsWord}
use Rattle.wh_script_model.specs.Hex.{IsHex}
use Rattle.wh_script_model.specs.Words.{words_of}
use Rattle.wh_commands.specs.declared.words.Words.{Words}

-- the words after a space, or none after the last word
abbrev pub words_behind : Option (Bor (List ℕ)) → List (List ℕ)
words_behind None = []
words_behind (Some rest) = words_of rest.now

abbrev pub words_left : Words → List (List ℕ)
words_left words = words_behind words.rest

-- the first of the words is such, and the others are left
abbrev pub FirstIs : (List ℕ → Type 0) → List (List ℕ) → List (List ℕ) → Type 0
FirstIs P words left = (word : List ℕ) × (words ≡ word ∷ left) × P word

-- the first of the words, if there is one, isn't such
abbrev pub FirstIsNot : (List ℕ → Type 0) → List (List ℕ) → Type 0
FirstIsNot P [] = ⊤
FirstIsNot P (word ∷ words) = ¬ (P word)

-- bytes in hexadecimal
abbrev pub IsHexWord : List ℕ → Type 0
IsHexWord word = IsWord word × ((bytes : List ℕ) × IsHex word bytes)
