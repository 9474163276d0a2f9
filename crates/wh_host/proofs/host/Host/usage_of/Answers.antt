use Rattle.std.proofs.Common.{sym}
use Rattle.wh_host.specs.Reporting.{view_row}
use Rattle.wh_host.proofs.Reports.{row_is, shares_there}
use Rattle.wh_host.proofs.Fields.{host_of, shown_host}
use Rattle.wh_host.proofs.host.Host.usage_of.Goals as goal

pub row_of-requires : goal.row_of-requires
row_of-requires c =
    let inv = c.self.invariant in
    shares_there (host_of c.self.inside) inv.0 c.args.id c.in-Some.entry.now inv.1 (sym c.in-Some.ensures) c.if-not-has_number.ensures

pub returns-clause-ok : goal.returns-clause-ok
returns-clause-ok c w st =
    row_is (host_of c.self.inside) c.args.id c.in-Some.entry.now (view_row c.row_of.result) (sym c.in-Some.ensures) c.if-not-has_number.ensures c.row_of.ensures w (shown_host w c.self.view_is st)
