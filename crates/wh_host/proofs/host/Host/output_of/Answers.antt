use Rattle.std.proofs.Common.{sym}
use Rattle.wh_host.proofs.Fields.{host_of, shown_host}
use Rattle.wh_host.proofs.PutOut.{journal_output_here, put_out_here}
use Rattle.wh_host.proofs.host.Host.output_of.Goals as goal

pub returns-clause-shows : goal.returns-clause-shows
returns-clause-shows c w st =
    put_out_here (host_of c.self.inside) w c.args.id c.in-Some.entry.now c.output.result.now (shown_host w c.self.view_is st) (sym c.in-Some.ensures) c.if-not-has_number.ensures c.output.ensures

pub returns-clause-journal : goal.returns-clause-journal
returns-clause-journal c w st run =
    journal_output_here (host_of c.self.inside) w c.args.id c.in-Some.entry.now c.output.result.now (shown_host w c.self.view_is st) run (sym c.in-Some.ensures) c.if-not-has_number.ensures c.output.ensures
