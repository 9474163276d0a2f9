-- What a flat memory represents.
use Rattle.std.specs.Prelude.{◌≡◌, ℕ, ◌+◌, ◌<◌, ◌≤◌, List, Option, Some, None, length}

-- its bytes, and the greatest number of pages of 65536 bytes that it may have
pub record FlatMemoryState : Type 0 where
  pub bytes : List ℕ
  pub limit : ℕ

-- where `count` bytes begin, if all of them are in the memory
abbrev pub StartsAt : List ℕ → ℕ → ℕ → Option ℕ → Type 0
StartsAt bytes at count (Some start) = (start ≡ at) × (at + count ≤ length bytes)
StartsAt bytes at count None = length bytes < at + count
