-- The pieces in which data segments are written, and how many of them are.
use Rattle.std.specs.Prelude.{◌≡◌, ℕ, ◌+◌, ◌<◌, List, [], ◌∷◌, ◌++◌, length, drop, slice_get, Option, Some, None}
use Rattle.wh_model.specs.declared.memory.Need.{Need}
use Rattle.wh_model.specs.Execution.Instance.{Piece, cut_up, fragments}
use Rattle.wh_model.specs.Execution.Memory.{writing}
use Rattle.wh_model.specs.Execution.Taking.{Writes}
use Rattle.wh_syntax.specs.declared.module.Data.{Data}
use Rattle.wh_instance.specs.declared.writing.Cursor.{Cursor}

-- ---- what is left

-- data segments, each at its place
abbrev pub placed_data : List Data → List ℕ → List Piece
placed_data (d ∷ segments) (n ∷ places) = record { at = n; items = d.init.items } ∷ placed_data segments places
placed_data segments places = []

-- the fragments of pieces, the first without its first `at` bytes
abbrev pub fragments_behind : ℕ → List Piece → List Piece
fragments_behind at [] = []
fragments_behind at (p ∷ ps) = cut_up (p.at + at) (drop at p.items) ++ fragments ps

-- the fragments from a cursor on
abbrev pub pieces_left : List Data → List ℕ → Cursor → List Piece
pieces_left segments places c = fragments_behind c.at (drop c.segment (placed_data segments places))

-- the cursor is at a byte of a segment that has a place
abbrev pub IsAtByte : List Data → List ℕ → Cursor → Type 0
IsAtByte segments places c =
    (d : Data) × (n : ℕ) × (slice_get segments c.segment ≡ Some d) × (slice_get places c.segment ≡ Some n)
    × (c.at < length d.init.items)

-- ---- what is written

-- of the pieces n are written, each ready when it is, and the others are left
abbrev pub HasWritten : {M : Type 0} → (M → List ℕ) → (M → Need → Type 0) → (M → M → Type 0) → List Piece → M → ℕ
    → List Piece → M → Type 0
HasWritten bytes ready keeps before m n left m2 =
    (front : List Piece) × (before ≡ front ++ left) × (n ≡ length front) × Writes bytes ready keeps m front m2

-- of those that are left the first isn't ready, and this is what it writes; or none is left
abbrev pub NextWaits : (Need → Type 0) → List Piece → Option Need → Type 0
NextWaits ready left (Some need) =
    (p : Piece) × (more : List Piece) × (left ≡ p ∷ more) × (need ≡ writing p.at (length p.items)) × ¬ (ready need)
NextWaits ready left None = left ≡ []
