use Rattle.std.proofs.Common.{◌∙◌, ap, arith}
use Rattle.crossbeam_channel.specs.Claims.{view}
use Rattle.wh_threads.specs.declared.channel.Traffic.{Traffic}
use Rattle.wh_threads.specs.declared.gate.Sign.{Sign}
use Rattle.wh_threads.specs.Gates.{begins}
use Rattle.wh_threads.proofs.Gates.{stays}
use Rattle.wh_threads.proofs.Handing.{learns}
use Rattle.wh_threads.proofs.gate.Closed.check.Goals as goal

pub learn_as-requires-clause-rule : goal.learn_as-requires-clause-rule
learn_as-requires-clause-rule c =
    let both = ap (λ (x : Traffic Sign). x.parts) c.put_back.ensures.both in
    let theirs = ap (λ (x : Traffic Sign). x.parts) c.requires.received in
    learns _ _ (omega (arith, both, theirs, c.args.self.shut.0))

pub returns : goal.returns
returns c =
    let learnt = c.learn_as.ensures.rule in
    stays c.args.told.has_begun (view c.args.self.slip) (view c.args.told.slip) (view c.put_back.new.slip) learnt.0 c.requires.begun c.requires.received
    c.args.self.shut.1 c.put_back.ensures.both (learnt.1 begins)
