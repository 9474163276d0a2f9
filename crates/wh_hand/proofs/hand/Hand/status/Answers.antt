use Rattle.std.proofs.Common.{None, subst}
use Rattle.wh_host.specs.Telling.{TellsChargesOf, TellsOf}
use Rattle.wh_hand.specs.HandStates.{HandState}
use Rattle.wh_hand.proofs.hand.Hand.status.Goals as goal

pub returns-in_default-clause-charges : goal.returns-in_default-clause-charges
returns-in_default-clause-charges c =
    subst (λ (z : HandState). TellsChargesOf z.host c.args.id c.args.at None) c.self.view_is c.in_default.ensures

pub returns-in_default-charges-clause-tells : goal.returns-in_default-charges-clause-tells
returns-in_default-charges-clause-tells c =
    subst (λ (z : HandState). TellsOf z.host c.args.id c.args.at None) c.self.view_is c.in_default-charges.ensures
