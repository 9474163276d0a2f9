-- The script: its lines, names and words.
use Rattle.std.specs.Prelude.{◌≢◌, ℕ, ◌<◌, ◌≤◌, ◌==◌, ◌||◌, ◌&&◌, nat_le, Bool, true, if◌then◌else◌, List, [], ◌∷◌, length, IsTrue}
use Rattle.std.specs.List.{All}

-- a byte before the first line, which it begins where there is none
abbrev pub onto_first : ℕ → List (List ℕ) → List (List ℕ)
onto_first b [] = (b ∷ []) ∷ []
onto_first b (line ∷ lines) = (b ∷ line) ∷ lines

-- the lines of a script: the bytes up to each newline; the last line may lack it, and nothing after a last newline is no line
abbrev pub lines_of : List ℕ → List (List ℕ)
lines_of [] = []
lines_of (b ∷ bs) = if b == 10 then [] ∷ lines_of bs else onto_first b (lines_of bs)

-- a line is skipped if it is empty or begins with `#`
abbrev pub is_skipped : List ℕ → Bool
is_skipped [] = true
is_skipped (b ∷ bs) = b == 35

-- how many bytes a line that is obeyed may have
abbrev pub longest_line : ℕ
longest_line = 2200000

-- `a` to `z`, `0` to `9` and `_`
abbrev pub is_name_byte : ℕ → Bool
is_name_byte b = (nat_le 97 b && nat_le b 122) || (nat_le 48 b && nat_le b 57) || (b == 95)

-- names are 1 to 32 such bytes
pub record IsName (name : List ℕ) : Type 0 where
  pub some : 0 < length name
  pub few : length name ≤ 32
  pub each : All (λ b. IsTrue (is_name_byte b)) name

-- words are of bytes below 128, none of them a space, and not empty
pub record IsWord (word : List ℕ) : Type 0 where
  pub some : 0 < length word
  pub ascii : All (λ b. b < 128) word
  pub spaceless : All (λ b. b ≢ 32) word

-- where a fault of the validator lies: in no function, or at an instruction of one
pub data Place : Type 0 where
  in_module : Place
  in_func : (func instr : ℕ) → Place
