use Rattle.std.proofs.Common.{◌∙◌}
use Rattle.wh_cell.proofs.Steps.{requested_in_step}
use Rattle.wh_cell.proofs.locked.Locked.ask.Goals as goal

pub invariant_of-self : goal.invariant_of-self
invariant_of-self g c =
    let a = c.ask-answer in
    let leads = g.met.Q.Request.leads c.args.request c.self.inside.host a.result a.new.host a.ensures.asks in
    requested_in_step g.D.SwapDev.held g.D.SwapDev.keeps g.D.SwapDev.honest g.D.SwapDev.faults _ a.new.host c.leave.new.left c.self.invariant leads a.ensures.backing
    (c.leave.ensures.left ∙ c.leave.ensures.owner)
