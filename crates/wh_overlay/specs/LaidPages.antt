-- Pages that were written in an overlay on a memory, and what the memory is with them.
use Rattle.std.specs.Prelude.{◌≡◌, ◌⊎◌, ℕ, ◌+◌, ◌*◌, ◌++◌, ◌≤◌, List, [], ◌∷◌, Some, length, replicate, get_or, slice_get, zero, suc}
use Rattle.wh_model.specs.Execution.Store.{written}
use Rattle.wh_space_model.specs.Frames.{tally}
use Rattle.wh_overlay.specs.declared.overlay_pages.WrittenPage.{WrittenPage}

-- What is written in an overlay: pages of 4096 bytes; the numbers of the pages that were read in the memory before they were
-- written; by how many pages of 65536 bytes it has grown; for how many more written pages there is room; below which number all
-- pages are that may be read and written; how many frames are lent for pages that have none of their own, and how many such pages
-- were written.
pub record OverlayPagesState : Type 0 where
  pub pages : List WrittenPage
  pub reads : List ℕ
  pub grown : ℕ
  pub room : ℕ
  pub most : ℕ
  pub lent : ℕ
  pub taken : ℕ

-- a memory with these pages over it, one after the other
abbrev pub laid_over : List ℕ → List WrittenPage → List ℕ
laid_over bytes [] = bytes
laid_over bytes (x ∷ xs) = laid_over (written bytes (4096 * x.number) x.bytes) xs

-- a memory that has grown by n pages of 65536 zeros
abbrev pub grown_by : List ℕ → ℕ → List ℕ
grown_by bytes n = bytes ++ replicate (n * 65536) 0

-- a memory with what is written in the overlay
abbrev pub with_upper : List ℕ → OverlayPagesState → List ℕ
with_upper bytes u = laid_over (grown_by bytes u.grown) u.pages

-- the page is among the written ones, at place k
abbrev pub IsWrittenAt : List WrittenPage → ℕ → ℕ → Type 0
IsWrittenAt pages number k = (x : WrittenPage) × (slice_get pages k ≡ Some x) × (x.number ≡ number)

-- it is among them, or it isn't
abbrev pub IsAmong : List WrittenPage → ℕ → Type 0
IsAmong pages number = (k : ℕ) × IsWrittenAt pages number k

-- the page is among those that were read
abbrev pub IsNoted : List ℕ → ℕ → Type 0
IsNoted reads number = (k : ℕ) × (slice_get reads k ≡ Some number)

-- A page is noted as read, as the last one; or it was read or written before, and nothing changes.
abbrev pub NotesRead : OverlayPagesState → ℕ → OverlayPagesState → Type 0
NotesRead u number v =
    ((v ≡ u) × (IsAmong u.pages number ⊎ IsNoted u.reads number)) ⊎ (v ≡ record u { reads = u.reads ++ number ∷ [] })

-- each page has 4096 bytes
abbrev pub AreWhole : List WrittenPage → Type 0
AreWhole pages = (k : ℕ) (x : WrittenPage) → slice_get pages k ≡ Some x → length x.bytes ≡ 4096

-- Marks by page: k + 2 where the page is the written one at place k; each written page is there once, with 4096 bytes.
pub record IsMarked (pages : List WrittenPage) (marks : List ℕ) : Type 0 where
  pub each : (k : ℕ) (x : WrittenPage) → slice_get pages k ≡ Some x → get_or marks x.number 0 ≡ k + 2
  pub only : (number k : ℕ) → get_or marks number 0 ≡ k + 2 → IsWrittenAt pages number k
  pub whole : AreWhole pages

-- 1 for a page that has a mark
abbrev pub has_mark : ℕ → ℕ
has_mark zero = 0
has_mark (suc mark) = 1

-- Marks by page: 1 only where the page was read. At least as many pages have a mark as were read.
pub record AreNoted (reads marks : List ℕ) : Type 0 where
  pub each : (number : ℕ) → get_or marks number 0 ≡ 1 → IsNoted reads number
  pub many : length reads ≤ tally has_mark marks

-- each page has 4096 bytes, and is in a memory of `long` bytes
abbrev pub FitIn : ℕ → List WrittenPage → Type 0
FitIn long pages =
    (k : ℕ) (x : WrittenPage) → slice_get pages k ≡ Some x
    → (length x.bytes ≡ 4096) × (4096 * x.number + 4096 ≤ long)

-- each page is there once
abbrev pub AreWrittenOnce : List WrittenPage → Type 0
AreWrittenOnce pages =
    (j k : ℕ) (x y : WrittenPage) → slice_get pages j ≡ Some x → slice_get pages k ≡ Some y → x.number ≡ y.number → j ≡ k
