-- What an instance brings to the choice of the one that pays.
use Rattle.std.specs.Prelude.{ℕ, ◌≡◌, Bool, true}
use Rattle.wh_space_model.specs.declared.Claim.{Claim}
use Rattle.wh_space_model.specs.Charges.{IsOnTouched, IsTouched, active_of, charged_of}
use Rattle.wh_space_model.specs.Claims.{CanBeTaken, CanLeave}
use Rattle.wh_space_model.specs.Parts.{Occupant, Space}

-- no page of the instance at place i can leave; no charged page of it can
abbrev pub GivesNone : Space → ℕ → Type 0
GivesNone s i = (p : ℕ) → ¬ CanLeave s i p

abbrev pub TakesNoPage : Space → ℕ → Type 0
TakesNoPage s i = (p : ℕ) → ¬ CanBeTaken s i p

-- the claim is that of the instance at place i, which is this one, if a charged page of it can leave
pub record IsClaimOf (s : Space) (i : ℕ) (t : Occupant) (claim : Claim) : Type 0 where
  pub shares : claim.shares ≡ t.shares
  pub min : claim.min ≡ t.min
  pub pages : claim.pages ≡ charged_of s i
  pub active : claim.active ≡ active_of s i
  pub leaves : claim.can_leave ≡ true

-- it can leave; if idle ones alone are looked for, it wasn't touched
abbrev pub MightLeave : Space → ℕ → Bool → ℕ → Type 0
MightLeave s i idle p = CanLeave s i p × (idle ≡ true → ¬ IsTouched s i p)

-- it is charged and can leave; if idle ones alone are looked for, no page on its frame was touched
abbrev pub MightBeTaken : Space → ℕ → Bool → ℕ → Type 0
MightBeTaken s i idle p = CanBeTaken s i p × (idle ≡ true → ¬ IsOnTouched s i p)
