use Rattle.std.proofs.Common.{ap, ◌∙◌, ◌++◌, replicate, arith}
use Rattle.wh_control.proofs.Cuts.{zeros_on_top}
use Rattle.wh_control.proofs.words.ValueStack.push_zeros.Goals as goal

pub returns : goal.returns
returns c = zeros_on_top c.self.inside.items.items c.loop.self-inside.items.items c.loop.counter c.args.count (let a = c.loop.auto.counter-end in let b = c.loop-test.false in omega (arith, a, b)) c.loop.invariant.0 ∙ ap (λ w. replicate c.args.count 0 ++ w) c.self.view_is
