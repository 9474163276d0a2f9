use Rattle.std.proofs.Common.{map, sym, subst}
use Rattle.wh_host.specs.Reporting.{view_row, view_usage}
use Rattle.wh_host.specs.InstanceRefs.{AreInstanceRefs}
use Rattle.wh_host.proofs.Reports.{all_shown, report_is}
use Rattle.wh_host.proofs.Fields.{host_of, shown_host}
use Rattle.wh_host.proofs.host.Host.make_report.Goals as goal

pub all_rows-requires : goal.all_rows-requires
all_rows-requires c =
    let h = host_of c.self.inside in
    let inv = c.self.invariant in
    let are = subst (λ z. AreInstanceRefs z c.in_ok-instance_refs.instance_refs.items) (sym c.self.view_is) c.in_ok-instance_refs.ensures in
    all_shown h inv.0 c.deref.result.now inv.1 (subst (AreInstanceRefs h) (sym c.deref.ensures.value) are)

pub returns : goal.returns
returns c w st =
    let h = host_of c.self.inside in
    let are = subst (λ z. AreInstanceRefs z c.in_ok-instance_refs.instance_refs.items) (sym c.self.view_is) c.in_ok-instance_refs.ensures in
    report_is h c.deref.result.now (record { usage = view_usage c.usage_over.result; instances = map view_row c.in_ok-rows.rows.items }) (subst (AreInstanceRefs h) (sym c.deref.ensures.value) are) c.usage_over.ensures c.in_ok-rows.ensures w (shown_host w c.self.view_is st)
