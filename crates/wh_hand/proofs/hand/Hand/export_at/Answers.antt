use Rattle.std.proofs.Common.{IfNone, subst}
use Rattle.wh_host.specs.ModuleExports.{HasNoExport}
use Rattle.wh_hand.specs.HandStates.{HandState}
use Rattle.wh_hand.proofs.hand.Hand.export_at.Goals as goal

pub returns-clause-none : goal.returns-clause-none
returns-clause-none c =
    subst (λ (z : HandState). IfNone c.export_at.result (HasNoExport z.host c.args.of.number c.args.at)) c.self.view_is c.export_at.ensures.none
