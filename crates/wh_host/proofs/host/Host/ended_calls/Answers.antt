use Rattle.std.proofs.Common.{◌≡◌, length, sym}
use Rattle.wh_host.proofs.Hosts.{of_who_is_there}
use Rattle.wh_host.proofs.Fields.{host_of, shown_host}
use Rattle.wh_host.proofs.host.Host.ended_calls.Goals as goal

pub returns : goal.returns
returns c w st =
    let who = of_who_is_there (host_of c.self.inside) w c.args.id c.in-Some.entry.now (λ t. length t.ended ≡ c.present_call.result) (shown_host w c.self.view_is st) (sym c.in-Some.ensures) c.if-not-has_number.ensures c.present_call.ensures in
    (who.0, who.1, sym who.2)
