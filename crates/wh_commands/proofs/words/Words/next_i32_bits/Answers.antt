use Rattle.std.proofs.Common.{ℕ}
use Rattle.wh_model.specs.declared.ValType.TheVariants.{I32}
use Rattle.wh_script_model.specs.{IsBits}
use Rattle.wh_commands.proofs.Asking.{not_such}
use Rattle.wh_commands.proofs.words.Words.next_i32_bits.Goals as goal

pub returns-in-None-clause-none : goal.returns-in-None-clause-none
returns-in-None-clause-none c =
    not_such (λ word. (bits : ℕ) × IsBits I32 word bits) _ _ _ c.in_ok-next_piece.ensures.ok
    (λ h. c.in-None.ensures.none h.0 h.1)
