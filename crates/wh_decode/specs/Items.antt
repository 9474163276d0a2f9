-- Items read one after the other, by what reading one of them may give.
use Rattle.std.specs.Prelude.{◌≡◌, ℕ, ◌<◌, ◌⊎◌, List, [], ◌∷◌, length, Result, Ok, Err}
use Rattle.wh_model.specs.declared.faults.FaultKind.TheVariants.{Memory}
use Rattle.wh_model.specs.declared.faults.DecodeError.{DecodeError}

-- what reading one may give at a place of bytes
abbrev pub Gift : Type 0 → Type 1
Gift X = List ℕ → ℕ → Result (X × ℕ) DecodeError → Type 0

-- each of the items is given at the place where the one before it ended, from a place on and up to the next
abbrev pub Given : {X : Type 0} → Gift X → List ℕ → ℕ → List X → ℕ → Type 0
Given reads b at [] next = next ≡ at
Given reads b at (x ∷ xs) next = (mid : ℕ) × reads b at (Ok (x, mid)) × Given reads b mid xs next

-- `count` items, or the fault of one of them, or out of memory
abbrev pub GivesItems : {X : Type 0} → Gift X → ℕ → List ℕ → ℕ → Result (List X × ℕ) DecodeError → Type 0
GivesItems reads count b at (Ok found) = (length found.0 ≡ count) × Given reads b at found.0 found.1
GivesItems {X} reads count b at (Err e) = (e.kind ≡ Memory)
    ⊎ ((xs : List X) × (mid : ℕ) × (length xs < count) × Given reads b at xs mid × reads b mid (Err e))

-- a result seen by view
abbrev pub seen : {X Y : Type 0} → (X → Y) → Result X DecodeError → Result Y DecodeError
seen view (Ok x) = Ok (view x)
seen view (Err e) = Err e
