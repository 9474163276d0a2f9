-- Who gives up a page: shares of memory under a tax on idle frames.
--
-- An instance that holds S shares and frames of weight w has the fraction S * (den - num) / w. The lower its fraction,
-- the more memory it holds for its shares, so the instance with the least fraction pays.
use Rattle.std.specs.Prelude.{ℕ, ◌≡◌, ◌+◌, ◌-◌, ◌*◌, ◌<◌}
use Rattle.wh_space_model.specs.declared.Claim.{Claim}
use Rattle.wh_space_model.specs.declared.Tax.{Tax}

-- what the frames of a claim weigh: den for each idle one, and den - num for each active one
abbrev pub weight : Tax → Claim → ℕ
weight tax claim = claim.active * (tax.den - tax.num) + (claim.pages - claim.active) * tax.den

-- the fraction of the first is below that of the second: S1 * (den - num) / w1 < S2 * (den - num) / w2, without
-- division
abbrev pub RhoLess : Tax → Claim → Claim → Type 0
RhoLess tax first second = first.shares * weight tax second < second.shares * weight tax first

-- two fractions are equal
abbrev pub RhoEqual : Tax → Claim → Claim → Type 0
RhoEqual tax first second = first.shares * weight tax second ≡ second.shares * weight tax first
