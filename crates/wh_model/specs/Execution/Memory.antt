-- What a linear memory answers: the flat list of bytes of section 4.2.8 of the standard, which may not be ready.
use Rattle.std.specs.Prelude.{◌≡◌, ℕ, ◌+◌, ◌*◌, ◌<◌, ◌≤◌, List, ◌++◌, length, replicate, true, false}
use Rattle.wh_model.specs.declared.memory.Need.{Need}
use Rattle.wh_model.specs.declared.memory.Got.{Got}
use Rattle.wh_model.specs.declared.memory.Got.TheVariants.{Value, Trap, NotReady}
use Rattle.wh_model.specs.declared.memory.Grown.{Grown}
use Rattle.wh_model.specs.declared.memory.Grown.TheVariants.{Done, Refused}
use Rattle.wh_model.specs.Execution.Store.{bytes_at, written}

-- `length` bytes from a place on, to be read or to be written
abbrev pub reading : ℕ → ℕ → Need
reading at length = record { at = at; length = length; writes = false }

abbrev pub writing : ℕ → ℕ → Need
writing at length = record { at = at; length = length; writes = true }

-- the bytes couldn't be had
abbrev pub IsWaiting : Got → Type 0
IsWaiting (NotReady need) = Unit {0}
IsWaiting _ = ⊥

-- A read into as many bytes as `old` has: they are those of the memory, and were ready; or the memory ends before; or they
-- weren't ready.
abbrev pub Loads : (Need → Type 0) → List ℕ → ℕ → List ℕ → Got → List ℕ → Type 0
Loads ready bytes at old Value new =
    (at + length old ≤ length bytes) × (new ≡ bytes_at bytes at (length old)) × ready (reading at (length old))
Loads ready bytes at old Trap new = (length bytes < at + length old) × (new ≡ old)
Loads ready bytes at old (NotReady need) new =
    (at + length old ≤ length bytes) × (new ≡ old) × (need ≡ reading at (length old)) × ¬ (ready need)

-- A write of these bytes: they stand in the memory, and were ready; or the memory ends before; or they weren't ready.
abbrev pub Stores : (Need → Type 0) → List ℕ → ℕ → List ℕ → Got → List ℕ → Type 0
Stores ready old at given Value new =
    (at + length given ≤ length old) × (new ≡ written old at given) × ready (writing at (length given))
Stores ready old at given Trap new = (length old < at + length given) × (new ≡ old)
Stores ready old at given (NotReady need) new =
    (at + length given ≤ length old) × (new ≡ old) × (need ≡ writing at (length given)) × ¬ (ready need)

-- A growth by n pages: zeros are there, and the answer is how many pages there were; or the limit would be passed.
abbrev pub Grows : ℕ → List ℕ → ℕ → Grown → List ℕ → Type 0
Grows limit old n (Done pages) new =
    (length old ≡ pages * 65536) × (pages + n ≤ limit) × (new ≡ old ++ replicate (n * 65536) 0)
Grows limit old n Refused new = (limit * 65536 < length old + n * 65536) × (new ≡ old)
