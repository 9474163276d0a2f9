-- Instances that are found by their numbers.
use Rattle.std.specs.Prelude.{◌≡◌, ◌≢◌, ℕ, ◌+◌, ◌≤◌, List, [], ◌∷◌, slice_get, Some}
use Rattle.wh_engine.specs.declared.parts.NamedInstance.{NamedInstance}

-- their numbers rise, from this one on
abbrev pub RiseFrom : ℕ → List NamedInstance → Type 0
RiseFrom number [] = Unit {0}
RiseFrom number (x ∷ xs) = (number ≤ x.id.number) × RiseFrom (x.id.number + 1) xs

-- none has this one
abbrev pub HasNoNumber : List NamedInstance → ℕ → Type 0
HasNoNumber xs number = (at : ℕ) (x : NamedInstance) → slice_get xs at ≡ Some x → x.id.number ≢ number

-- the one at a place has it
abbrev pub HasNumberAt : List NamedInstance → ℕ → ℕ → Type 0
HasNumberAt xs number at = (x : NamedInstance) × (slice_get xs at ≡ Some x) × (x.id.number ≡ number)
