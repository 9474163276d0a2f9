use Rattle.std.proofs.Common.{Some, sym, subst, rules}
use Rattle.wh_instance.specs.Tenancy.{HostInstanceState}
use Rattle.wh_instance.specs.Told.{TellsCall}
use Rattle.wh_instance.proofs.Told.{none_told, told_at}
use Rattle.wh_instance.proofs.host_instance.HostInstance.call_status.Goals as goal

pub returns-in-Some : goal.returns-in-Some
returns-in-Some c =
    let i = c.self.inside in
    let x : HostInstanceState = record { store = i.store; machine = i.machine; places = i.places.items; cursor = i.cursor; progress = i.progress; journal = i.journal; waiting_for = i.waiting_for; dead = i.dead } in
    subst (λ z. TellsCall c.args.linked.now z c.args.at (Some c.status_of.result)) c.self.view_is
    (told_at c.args.linked.now x c.args.at c.ended_len.result c.in-Some.call.now c.status_of.result (sym c.in-Some.ensures) c.ended_len.ensures c.status_of.ensures)

pub returns-in-None : goal.returns-in-None
returns-in-None c = search (rules, none_told)
