use Rattle.std.proofs.Common.{sym, subst}
use Rattle.wh_transcript.specs.Transcripts.{IsReplayable}
use Rattle.wh_host.specs.Hosting.{IsHost, loaded_as}
use Rattle.wh_host.specs.Showing.{Shows}
use Rattle.wh_host.proofs.Showings.{replays_there, shown_there}
use Rattle.wh_host.proofs.Fields.{host_of, shown_host}
use Rattle.wh_host.proofs.host.Host.transcript.Goals as goal

pub returns-in-Ok-clause-shows : goal.returns-in-Ok-clause-shows
returns-in-Ok-clause-shows c w st =
    let m = c.in-Some-module_at.module.now in
    let there = shown_there (host_of c.self.inside) w c.args.id.place c.args.id.number c.in-Some.entry.now m (shown_host w c.self.view_is st) (sym c.in-Some.ensures) c.if-not-has_number.ensures (sym c.in-Some-module_at.ensures) in
    (there.t, loaded_as m, (there.live, there.at), there.of, subst (λ s. Shows s m.bytes.value.items there.t) (sym c.in-Ok.ensures) there.shows)

pub returns-in-Ok-clause-replays : goal.returns-in-Ok-clause-replays
returns-in-Ok-clause-replays c led =
    let here = subst (λ z. IsHost z led.0) (sym c.self.view_is) led.1 in
    let m = c.in-Some-module_at.module.now in
    let x = c.in-Some.entry.now in
    let there = shown_there (host_of c.self.inside) led.0 c.args.id.place c.args.id.number x m here (sym c.in-Some.ensures) c.if-not-has_number.ensures (sym c.in-Some-module_at.ensures) in
    subst IsReplayable (sym c.in-Ok.ensures) (replays_there led.0 c.args.id.place c.args.id.number x m led.2 there)
