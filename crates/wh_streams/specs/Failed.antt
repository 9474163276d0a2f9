-- Which writes have failed.
use Rattle.std.specs.Prelude.{◌≡◌, ℕ, ◌<◌, List, length, Result, Ok, Err, ⊤}

-- it was refused, or took nothing of some bytes
abbrev pub IsFailedWrite : {E : Type 0} → Result ℕ E → List ℕ → Type 0
IsFailedWrite (Ok count) bytes = (count ≡ 0) × (0 < length bytes)
IsFailedWrite (Err error) bytes = ⊤
