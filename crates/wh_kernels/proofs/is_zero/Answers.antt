use Rattle.std.proofs.Common.{◌*◌, refl, arith}
use Rattle.wh_space_model.specs.{zero_page}
use Rattle.wh_kernels.proofs.Blocks.{zeros_more, zeros_whole, block_of_zeros}
use Rattle.wh_kernels.proofs.is_zero.Goals as goal

pub loop-part-preserved : goal.loop-part-preserved
loop-part-preserved c =
    zeros_more c.args.page.now c.loop-part.part c.loop-part.invariant
    (rw c.block.ensures at (c.block_is_zero.ensures.0 c.if-not-block_is_zero.false)) (omega arith)

pub returns-then-not-block_is_zero : goal.returns-then-not-block_is_zero
unfolding zero_page
returns-then-not-block_is_zero c = (
  λ yes. cc,
  λ zeros.
      let some = c.block_is_zero.ensures.1 (rw c.block.ensures (block_of_zeros c.args.page.now 4096 (64 * c.loop-part.part) (omega arith) zeros)) in
      cc,
)

pub returns : goal.returns
unfolding zero_page
returns c = (λ _. zeros_whole c.args.page.now 4096 (64 * c.loop-part.part) (omega arith) (omega arith) c.loop-part.invariant, λ _. refl)
