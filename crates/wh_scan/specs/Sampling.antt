-- Which page's bytes are looked at, to be offered.
use Rattle.std.specs.Prelude.{ℕ, ◌≡◌, ◌⊎◌, Some}
use Rattle.wh_space_model.specs.declared.states.Page.TheVariants.{Private, Shared}
use Rattle.wh_space_model.specs.Parts.{Space}
use Rattle.wh_space_model.specs.Scanning.{IsUnlisted}
use Rattle.wh_space_model.specs.States.{page_at}
use Rattle.wh_space.specs.Listing.{IsNotUnlisted}
use Rattle.wh_space.specs.Merges.{IsNotPrivate}

-- the page maps to frame g, which it isn't leaving: alone, or with others, and the frame has no entry
abbrev pub IsSampledOn : Space → ℕ → ℕ → ℕ → Type 0
IsSampledOn s i p g =
    (page_at s.tables i p ≡ Some (Private g)) ⊎ ((page_at s.tables i p ≡ Some (Shared g)) × IsUnlisted s g)

-- it isn't on any
abbrev pub HasNoSample : Space → ℕ → ℕ → Type 0
HasNoSample s i p = IsNotPrivate s i p × IsNotUnlisted s i p
