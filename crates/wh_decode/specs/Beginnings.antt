-- Parts of the reading of sections that the code takes one by one.
use Rattle.std.specs.Prelude.{◌≡◌, ◌≢◌, ℕ, Result, Ok, Err}
use Rattle.wh_model.specs.declared.faults.FaultKind.TheVariants.{Memory, UnknownByte}
use Rattle.wh_model.specs.Format.Grammar.{exact_byte}
use Rattle.wh_model.specs.declared.faults.DecodeError.{DecodeError}
use Rattle.wh_leb.specs.Reading.{◌>>=◌, one_at, u32_at, Reader}

-- a place alone, of a value and a place
abbrev pub LeavesPlace : {A : Type 0} → Result ℕ DecodeError → Result (A × ℕ) DecodeError → Type 0
LeavesPlace {A} (Ok next) read = (x : A) × (read ≡ Ok (x, next))
LeavesPlace (Err e) read = e.kind ≢ Memory → read ≡ Err e

-- the id and the size of a section
abbrev pub section_start_at : ℕ → Reader ℕ
section_start_at id b at = do
  byte ← one_at (exact_byte UnknownByte id) b at
  u32_at b byte.1
