use Rattle.std.proofs.Common.{◌≡◌, sym, ap, subst}
use Rattle.wh_journal.specs.Calls.{JournalState, with_more_fuel}
use Rattle.wh_instance.specs.Tenancy.{HostInstanceState, byte_setting, RepresentsTenant}
use Rattle.wh_instance.proofs.Requested.{refuels_on, refuels_still}
use Rattle.wh_instance.proofs.host_instance.HostInstance.refuel.Goals as goal

pub returns-then-has_fuel_again-clause-some : goal.returns-then-has_fuel_again-clause-some
returns-then-has_fuel_again-clause-some c is_true l limit bytes t given =
    let i = c.self.inside in
    let x1 : HostInstanceState = record { store = i.store; machine = i.machine; places = i.places.items; cursor = i.cursor; progress = i.progress; journal = i.journal; waiting_for = i.waiting_for; dead = i.dead } in
    let same : x1 ≡ c.args.self.now = c.self.view_is in
    let w = byte_setting l limit in
    let rep : RepresentsTenant w x1 bytes t = subst (λ z. RepresentsTenant w z bytes t) (sym same) given in
    let has = c.if-is_idle.ensures in
    let more = c.refuel.ensures has.0 has.1 has.2 in
    let at = ap (λ (j : JournalState). j.open_calls) more in
    let again = c.if-has_fuel_again.ensures (with_more_fuel has.0 c.args.fuel) has.1 at in
    rw more (refuels_on w x1 bytes t c.args.fuel has.0 has.1 has.2 again rep)

pub returns-else-has_fuel_again-clause-some : goal.returns-else-has_fuel_again-clause-some
returns-else-has_fuel_again-clause-some c is_true l limit bytes t given =
    let i = c.self.inside in
    let x1 : HostInstanceState = record { store = i.store; machine = i.machine; places = i.places.items; cursor = i.cursor; progress = i.progress; journal = i.journal; waiting_for = i.waiting_for; dead = i.dead } in
    let same : x1 ≡ c.args.self.now = c.self.view_is in
    let w = byte_setting l limit in
    let rep : RepresentsTenant w x1 bytes t = subst (λ z. RepresentsTenant w z bytes t) (sym same) given in
    let has = c.if-is_idle.ensures in
    let more = c.refuel.ensures has.0 has.1 has.2 in
    let at = ap (λ (j : JournalState). j.open_calls) more in
    let again = c.if-has_fuel_again.ensures (with_more_fuel has.0 c.args.fuel) has.1 at in
    rw more (refuels_still w x1 bytes t c.args.fuel has.0 has.1 has.2 again rep)
