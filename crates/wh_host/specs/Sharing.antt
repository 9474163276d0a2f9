-- Where pages of a host's instances can be offered.
use Rattle.std.specs.Prelude.{ℕ, ◌<◌, ◌^◌}
use Rattle.wh_space_model.specs.Parts.{Space}
use Rattle.wh_space.specs.Merges.{HasFewPages}

-- the reference count of a frame fits in 32 bits
abbrev pub CanScan : Space → Type 0
CanScan s = HasFewPages s

-- and places are numbers of 32 bits
abbrev pub CanOffer : Space → ℕ → Type 0
CanOffer s place = HasFewPages s × (place < 2 ^ 32)
