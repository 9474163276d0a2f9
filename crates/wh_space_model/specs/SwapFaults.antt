-- The numbers by which replies name faults of a swap device. They are this project's own.
use Rattle.std.specs.Prelude.{ℕ}
use Rattle.wh_space_model.specs.declared.plain.SwapError.{SwapError}
use Rattle.wh_space_model.specs.declared.plain.SwapError.TheVariants.{Read, Write, Damaged}

-- a fault of a swap device is named S and this number
abbrev pub swap_number : SwapError → ℕ
swap_number Read = 1
swap_number Write = 2
swap_number Damaged = 3
