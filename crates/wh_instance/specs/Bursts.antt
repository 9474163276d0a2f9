-- Bursts: several turns of a call.
use Rattle.std.specs.Prelude.{◌≡◌, ◌⊎◌, ℕ, ◌+◌, ◌*◌, ◌<◌, ◌≤◌}

-- of `turns` turns of q charges, which took `charges`, there is one, or the last took some after all that the others had
abbrev pub AreUsed : (q turns charges : ℕ) → Type 0
AreUsed q turns charges = (turns ≡ 1) ⊎ ((1 ≤ q) × (2 ≤ turns) × (turns * q < charges + q))
