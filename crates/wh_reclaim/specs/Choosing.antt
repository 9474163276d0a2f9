-- The one that pays, among the places that were looked at.
use Rattle.std.specs.Prelude.{ℕ, ◌≡◌, ◌<◌, ◌⊎◌, Option, Some, None}
use Rattle.wh_space_model.specs.declared.Tax.{Tax}
use Rattle.wh_space_model.specs.Claims.{HasLess, IsEarlier, MayPay}
use Rattle.wh_space_model.specs.Parts.{Occupant, Space, occupant_at}
use Rattle.wh_space_model.specs.Tax.{RhoEqual, RhoLess}
use Rattle.wh_reclaim.specs.declared.choice.Payer.{Payer}
use Rattle.wh_space.specs.Claiming.{IsClaimOf}

-- the first pays before the second: it has less to claim, or as little and the lower number
abbrev pub PaysBefore : Tax → Payer → Payer → Type 0
PaysBefore tax first second =
    RhoLess tax first.claim second.claim ⊎ (RhoEqual tax first.claim second.claim × (first.number < second.number))

-- it is at its place, and has this claim
pub record IsAtPlace (s : Space) (payer : Payer) : Type 0 where
  pub occupant : Occupant
  pub there : occupant_at s payer.place occupant
  pub number : payer.number ≡ occupant.number
  pub claim : IsClaimOf s payer.place occupant payer.claim

-- of the instances at the places below n, the one that pays
pub record PaysBelow (s : Space) (n : ℕ) (payer : Payer) : Type 0 where
  pub here : IsAtPlace s payer
  pub may_pay : MayPay s payer.place
  pub least : (j : ℕ) → j < n → MayPay s j → ¬ HasLess s j payer.place
  pub first : (j : ℕ) → j < n → MayPay s j → IsEarlier s j payer.place → HasLess s payer.place j

-- or nobody
abbrev pub IsPayerBelow : Space → ℕ → Option Payer → Type 0
IsPayerBelow s n None = (j : ℕ) → j < n → ¬ MayPay s j
IsPayerBelow s n (Some payer) = PaysBelow s n payer
