use Rattle.std.proofs.Common.{sym}
use Rattle.wh_host_model.specs.Host.{AwaitsFrame}
use Rattle.wh_host.proofs.Paged.{told_of}
use Rattle.wh_host.proofs.Fields.{host_of, shown_host}
use Rattle.wh_host.proofs.host.Host.awaits_frame.Goals as goal

pub returns : goal.returns
returns c w st =
    told_of (host_of c.self.inside) w c.args.id c.in-Some.entry.now c.awaits_frame.result AwaitsFrame (shown_host w c.self.view_is st) (sym c.in-Some.ensures) c.if-not-has_number.ensures c.awaits_frame.ensures
