-- What a device over pages that lie elsewhere knows of its slots.
use Rattle.std.specs.Prelude.{◌≡◌, ◌≢◌, ◌==◌, ℕ, List, [], ◌∷◌, length, map, get_or, Option, Some, None, bytes_eq, cond}
use Rattle.wh_space_model.specs.declared.plain.SwapError.{SwapError}
use Rattle.wh_space_model.specs.declared.plain.SwapError.TheVariants.{Read, Write, Damaged}
use Rattle.wh_swap.specs.declared.written.Written.{Written}
use Rattle.wh_swap.specs.declared.stream.PageSwap.{PageSwap}

-- what a slot's last write wrote, where it was Ok
abbrev pub written_bytes : Option Written → List ℕ
written_bytes None = []
written_bytes (Some written) = written.bytes.value

-- what each slot's last write wrote
abbrev pub all_written : List (Option Written) → List (List ℕ)
all_written slots = map written_bytes slots

-- each page is what was written to its slot, if something was
abbrev pub AreKept : (ℕ → List ℕ) → List (List ℕ) → Type 0
AreKept page held = (k : ℕ) → get_or held k [] ≢ [] → page k ≡ get_or held k []

-- one more for each Ok read that gave other bytes than were written
abbrev pub counted_misread : List ℕ → List ℕ → List ℕ → List ℕ
counted_misread count wrote read = cond (bytes_eq read wrote) count (0 ∷ count)

-- the fault that this number names
abbrev pub fault_numbered : ℕ → SwapError
fault_numbered n = cond (n == 1) Read (cond (n == 2) Write Damaged)

-- what each slot of a device holds, how many writes and which faults it had, and that each Ok read gave what was
-- written
abbrev pub page_held : {P : Type 0} → PageSwap P → List (List ℕ)
page_held device = all_written device.slots.items

abbrev pub page_writes : {P : Type 0} → PageSwap P → ℕ
page_writes device = length device.writes.numbers

abbrev pub page_faults : {P : Type 0} → PageSwap P → List SwapError
page_faults device = map fault_numbered device.failed.numbers

abbrev pub HasReadRight : {P : Type 0} → PageSwap P → Type 0
HasReadRight device = device.misread.numbers ≡ []
