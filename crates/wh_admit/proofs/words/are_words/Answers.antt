use Rattle.std.proofs.Common.{arith}
use Rattle.wh_admit.proofs.WordLemmas.{all_words}
use Rattle.wh_admit.proofs.words.are_words.Goals as goal

pub returns : goal.returns
returns c = all_words c.args.words.now (λ k. let h = c.type_inv.words k in omega (arith, h))
