use Rattle.wh_call.proofs.Lists.{same_length, one_more, one_less}
use Rattle.wh_call.proofs.arguments.are_arguments.Goals as goal

pub returns-then-params-args : goal.returns-then-params-args
returns-then-params-args c h = let e = same_length c.args.params.now c.args.args.now h in let ne = c.if-params-args.true in absurd (ne e)

pub returns-then-not-fits : goal.returns-then-not-fits
returns-then-not-fits c h = absurd (c.if-not-fits.ensures (one_less c.args.params.now c.args.args.now c.loop-at.at c.type_at.result c.word_at.result c.type_at.ensures c.word_at.ensures (c.loop-at.invariant.back h)).0)

pub loop-at-preserved : goal.loop-at-preserved
loop-at-preserved c = record {
  forward = λ h. c.loop-at.invariant.forward (one_more c.args.params.now c.args.args.now c.loop-at.at c.type_at.result c.word_at.result c.type_at.ensures c.word_at.ensures (c.if-not-fits.ensures, h));
  back = λ h. (one_less c.args.params.now c.args.args.now c.loop-at.at c.type_at.result c.word_at.result c.type_at.ensures c.word_at.ensures (c.loop-at.invariant.back h)).1;
}
