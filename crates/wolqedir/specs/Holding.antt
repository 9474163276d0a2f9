-- How a host comes into a handle.
use Rattle.std.specs.Prelude.{◌≡◌, ◌⊎◌, ◌<◌, ◌≤◌, ℕ, [], Option, Some, None}
use Rattle.wh_space_model.specs.declared.Tax.{Tax}
use Rattle.wh_host.specs.HostCounting.{no_counts}
use Rattle.wh_host.specs.Hosting.{IsNewHost}
use Rattle.wh_hand.specs.HandStates.{HandState}
use Rattle.wolqedir.specs.Codes.{full_code, memory_code, tax_code}
use Rattle.wolqedir.specs.ExportContracts.{IsLeft}

-- the fraction is a tax: below one, with a denominator of 1 to 1000
abbrev pub IsTax : ℕ → ℕ → Type 0
IsTax num den = (num < den) × (den ≤ 1000)

-- it is this tax, or none
abbrev pub IsTaxOf : ℕ → ℕ → Option Tax → Type 0
IsTaxOf num den (Some tax) = (tax.num ≡ num) × (tax.den ≡ den)
IsTaxOf num den None = ¬ (IsTax num den)

-- The handle holds a new host that has put out nothing; or it held one, the tax isn't one, or room was refused, and it is left
-- so.
abbrev pub MakesHost : Option HandState → (frames slots num den code : ℕ) → Option HandState → Type 0
MakesHost held frames slots num den code held2 =
    ((tax : Tax) × (h : HandState) × (code ≡ 0) × (held ≡ None) × (held2 ≡ Some h) × IsTaxOf num den (Some tax)
    × IsNewHost h.host frames slots tax × (h.output ≡ []) × (h.host.counts ≡ no_counts))
    ⊎ ((IsLeft held full_code code held2 ((h : HandState) × (held ≡ Some h)))
    ⊎ ((IsLeft held tax_code code held2 ((held ≡ None) × ¬ (IsTax num den)))
    ⊎ (IsLeft held memory_code code held2 ((held ≡ None) × IsTax num den))))
