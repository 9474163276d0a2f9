-- The bytes of a script that are still to come, and what is held of the line that is being read.
use Rattle.std.specs.Prelude.{◌≡◌, ◌≢◌, ℕ, ◌<◌, ◌≤◌, Bool, true, false, List, [], ◌∷◌, ◌++◌, take, drop, length, slice_get, Option, None, Some, Result, Ok, Err, ⊤, if◌then◌else◌, vec_len}
use Rattle.std.specs.Bool.{MatchBool}
use Rattle.std.specs.List.{All}
use Rattle.std.specs.Io.KnownBytes.{prepend_known, Consumes, IsAtEnd}
use Rattle.wh_script.specs.declared.lines.Lines.{Lines}
use Rattle.wh_script.specs.declared.lines.Line.{Line}
use Rattle.wh_script.specs.declared.lines.Line.TheVariants.{Kept, TooLong, Skipped, End}
use Rattle.wh_script.specs.declared.fault.ScriptFault.{ScriptFault}
use Rattle.wh_script.specs.declared.fault.ScriptFault.TheVariants.{Script}
use Rattle.wh_script_model.specs.Lines.{lines_of, is_skipped, longest_line}

-- what lies unread in the chunk
abbrev pub unread : Lines → List ℕ
unread l = drop l.next (take l.end l.chunk.items)

-- the bytes that are still to come, where those that the reader has left are known
abbrev pub coming : Lines → Option (List ℕ) → Option (List ℕ)
coming l known = prepend_known (unread l) known

-- the unread bytes are in the chunk, and the chunk has room
pub record IsInChunk (l : Lines) : Type 0 where
  pub next : l.next ≤ l.end
  pub end : l.end ≤ vec_len l.chunk
  pub room : 0 < vec_len l.chunk

-- What is held of a line so far: its beginning, and the whole of it where it is no comment and not too long.
pub record Holds (held : List ℕ) (is_long : Bool) (line : List ℕ) : Type 0 where
  pub first : slice_get held 0 ≡ slice_get line 0
  pub whole : slice_get line 0 ≢ Some 35
      → MatchBool is_long (longest_line < length line) ((held ≡ line) × (length line ≤ longest_line))

-- old has a piece of the line and then, if it was the line's last, its newline; the rest is to come
pub record TakesPiece (old new : Lines) (is_last : Bool) (piece : List ℕ) : Type 0 where
  pub free : All (λ b. b ≢ 10) piece
  pub some : is_last ≡ false → 0 < length piece
  pub cut : unread old ≡ piece ++ (if is_last then 10 ∷ [] else []) ++ unread new
  pub held : (line : List ℕ) → Holds old.line.items old.is_long line → Holds new.line.items new.is_long (line ++ piece)

-- These were the first lines of the bytes to come, and the others are to come still.
abbrev pub TakesLines : Option (List ℕ) → Option (List ℕ) → List (List ℕ) → Type 0
TakesLines None new lines = ⊤
TakesLines (Some xs) None lines = ⊥
TakesLines (Some xs) (Some ys) lines = (done : List ℕ) × (xs ≡ done ++ ys) × (lines_of xs ≡ lines ++ lines_of ys)

-- what is said of a line of which this is held
abbrev pub IsKind : Line → List ℕ → List ℕ → Type 0
IsKind Kept held line = (held ≡ line) × (is_skipped line ≡ false) × (length line ≤ longest_line)
IsKind TooLong held line = (is_skipped line ≡ false) × (longest_line < length line)
IsKind Skipped held line = is_skipped line ≡ true
IsKind End held line = ⊥

-- What is said of the bytes to come: at End there are none; else it is said of the first line, and the others are to
-- come.
abbrev pub ReadsLine : Option (List ℕ) → Option (List ℕ) → Line → List ℕ → Type 0
ReadsLine old new End held = IsAtEnd old
ReadsLine old new Kept held = (line : List ℕ) × TakesLines old new (line ∷ []) × IsKind Kept held line
ReadsLine old new TooLong held = (line : List ℕ) × TakesLines old new (line ∷ []) × IsKind TooLong held line
ReadsLine old new Skipped held = (line : List ℕ) × TakesLines old new (line ∷ []) × IsKind Skipped held line

-- Where the reader failed, it had given less than a line of the bytes to come.
abbrev pub FailsAt : Option (List ℕ) → Option (List ℕ) → Result Line ScriptFault → Type 0
FailsAt old new (Ok kind) = ⊤
FailsAt old new (Err Script) = (begun : List ℕ) × All (λ b. b ≢ 10) begun × Consumes old new begun
FailsAt old new (Err fault) = ⊤
