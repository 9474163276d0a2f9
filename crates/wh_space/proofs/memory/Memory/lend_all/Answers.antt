use Rattle.std.proofs.Common.{rules}
use Rattle.wh_space.proofs.Copying.{lending_on}
use Rattle.wh_space.proofs.memory.Memory.lend_all.Goals as goal

pub loop-number-init : goal.loop-number-init
loop-number-init c = search rules

pub loop-number-preserved : goal.loop-number-preserved
loop-number-preserved c = lending_on _ _ _ _ _ _ _ c.loop-number.invariant c.lend.ensures
