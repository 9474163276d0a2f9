-- A sharer of a frame that leaves for a step, as it is looked for on one frame.
use Rattle.std.specs.Prelude.{ℕ, ◌≡◌, ◌<◌, ◌≤◌, ◌⊎◌}
use Rattle.wh_model.specs.declared.memory.Need.{Need}
use Rattle.wh_space_model.specs.Charges.{occupant_number}
use Rattle.wh_space_model.specs.Claims.{CanShed, IsBeside}
use Rattle.wh_space_model.specs.Parts.{Space}

-- no page on frame f is beside the step and can leave; or this one is the greatest that is
abbrev pub IsNoneBeside : Space → ℕ → Need → ℕ → Type 0
IsNoneBeside s i need f = (j p : ℕ) → ¬ IsBeside s i need f j p

pub record IsLastBeside (s : Space) (i : ℕ) (need : Need) (f j p : ℕ) : Type 0 where
  pub beside : IsBeside s i need f j p
  pub greatest : (k q : ℕ) → IsBeside s i need f k q → (occupant_number s k < occupant_number s j) ⊎ ((k ≡ j) × (q ≤ p))

-- for page q of the step none can be shed; or this one is
abbrev pub ShedsNone : Space → ℕ → Need → ℕ → Type 0
ShedsNone s i need q = (f : ℕ) → ¬ CanShed s i need q f

pub record IsShedOf (s : Space) (i : ℕ) (need : Need) (q j p : ℕ) : Type 0 where
  pub frame : ℕ
  pub sheds : CanShed s i need q frame
  pub last : IsLastBeside s i need frame j p
