-- The modules of a host that are there, in a list by number.
use Rattle.std.specs.Prelude.{◌≡◌, ◌≢◌, ℕ, ◌+◌, ◌≤◌, List, [], ◌∷◌, Some, slice_get}
use Rattle.wh_host.specs.declared.parts.ModuleRef.{ModuleRef}

-- their numbers rise, from this one on
abbrev pub Rise : ℕ → List ModuleRef → Type 0
Rise number [] = Unit {0}
Rise number (r ∷ rs) = (number ≤ r.number) × Rise (r.number + 1) rs

-- the one at an index has this number
abbrev pub HasRefAt : List ModuleRef → ℕ → ℕ → Type 0
HasRefAt rs number at = (r : ModuleRef) × (slice_get rs at ≡ Some r) × (r.number ≡ number)

-- this one is among them, and has this number
abbrev pub HasRef : List ModuleRef → ℕ → ModuleRef → Type 0
HasRef rs number r = (at : ℕ) × (slice_get rs at ≡ Some r) × (r.number ≡ number)

-- none has it
abbrev pub HasNoRef : List ModuleRef → ℕ → Type 0
HasNoRef rs number = (at : ℕ) (r : ModuleRef) → slice_get rs at ≡ Some r → r.number ≢ number
