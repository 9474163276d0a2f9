use Rattle.std.proofs.Common.{arith}
use Rattle.wh_alone.proofs.Fresh.{all_fit}
use Rattle.wh_alone.proofs.words.are_words.Goals as goal

pub returns : goal.returns
returns c = all_fit c.args.words.now (λ k. let h = c.type_inv.words k in omega (arith, h))
