use Rattle.std.proofs.Common.{sym, ap, subst, ◌∙◌}
use Rattle.wh_instance.specs.Tenancy.{HostInstanceState, byte_setting, RepresentsTenant}
use Rattle.wh_instance.proofs.Requested.{cancels}
use Rattle.wh_instance.proofs.host_instance.HostInstance.cancel.Goals as goal

pub returns-clause-some : goal.returns-clause-some
returns-clause-some c is_true l limit bytes t given s sees =
    let w = byte_setting l limit in
    let has = c.if-is_idle.ensures in
    let at = ap (λ (z : HostInstanceState). z.journal.open_calls) (sym c.self.view_is) ∙ has.2 in
    let left = cancels w c.args.self.now bytes t has.0 has.1 at given s in
    let after = c.close.ensures has.0 has.1 at in
    (left.0, left.1, left.2, left.3, left.4, subst (λ z. RepresentsTenant w z bytes left.2) (sym after) left.5)
