use Rattle.std.proofs.Common.{◌∙◌, ap, length}
use Rattle.std.proofs.lemmas.Bool.Decides.{Decides-eqb}
use Rattle.std.specs.Int.Bits.{bit_or}
use lib.Lanes.{fold_l}
use Rattle.wh_kernels.proofs.Blocks.{zeros_from_or, or_of_zeros}
use Rattle.wh_kernels.proofs.block_is_zero.Goals as goal

pub returns : goal.returns
returns c =
    let test = Decides-eqb (fold_l bit_or 0 c.args.block) 0 in
    (λ yes. (zeros_from_or 0 c.args.block (test.0 yes)).1, λ zeros. test.1 (ap (fold_l bit_or 0) zeros ∙ or_of_zeros (length c.args.block)))
