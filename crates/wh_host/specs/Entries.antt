-- Who has which place.
use Rattle.std.specs.Prelude.{◌≡◌, ◌≢◌, ℕ, List, Option, Some}
use Rattle.wh_host.specs.declared.parts.InstanceEntry.{InstanceEntry}
use Rattle.wh_host.specs.Hosting.{entry_at}

-- only one place may be another's
abbrev pub OthersStay : List (Option InstanceEntry) → ℕ → List (Option InstanceEntry) → Type 0
OthersStay rs place rs2 = (j : ℕ) → j ≢ place → entry_at rs2 j ≡ entry_at rs j

-- a place was given up, or nothing has changed
abbrev pub PlaceIsLeft : List (Option InstanceEntry) → ℕ → List (Option InstanceEntry) → Type 0
PlaceIsLeft rs place rs2 =
    OthersStay rs place rs2
    × ((x : InstanceEntry) → entry_at rs2 place ≡ Some x → entry_at rs place ≡ Some x)
