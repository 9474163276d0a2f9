use Rattle.std.proofs.Common.{ℕ, List, ◌∙◌, ap, sym, length}
use Rattle.std.proofs.lemmas.Bool.Decides.{Decides-eqb}
use Rattle.std.specs.Int.Bits.{bit_or, bit_xor}
use lib.Lanes.{fold_l, zip2}
use Rattle.wh_kernels.proofs.Blocks.{zeros_from_or, or_of_zeros, same_from_zeros, zeros_from_same}
use Rattle.wh_kernels.proofs.blocks_equal.Goals as goal

pub returns : goal.returns
returns c =
    let xs = c.args.first in
    let ys = c.args.second in
    let test = Decides-eqb (fold_l bit_or 0 (zip2 bit_xor xs ys)) 0 in (
      λ yes. same_from_zeros xs ys (c.fits-first.0 ∙ sym c.fits-second.0) (zeros_from_or 0 (zip2 bit_xor xs ys) (test.0 yes)).1,
      λ same. test.1 (ap (λ (l : List ℕ). fold_l bit_or 0 (zip2 bit_xor xs l)) (sym same) ∙ ap (fold_l bit_or 0) (zeros_from_same xs) ∙ or_of_zeros (length xs)),
    )
