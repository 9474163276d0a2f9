use Rattle.std.proofs.Common.{◌≡◌, ◌∙◌, ◌+◌, ◌<◌, ◌≤◌, Some, get_or, length, slice_get, sym, ap, subst, arith}
use Rattle.std.proofs.lemmas.Option.{slice_get-get_or, slice_get_within}
use Rattle.wh_host.specs.declared.rounds.Runner.{Runner}
use Rattle.wh_host.specs.Rounds.{IsFree}
use Rattle.wh_threads.specs.Working.{ReceivedTurnsState}
use Rattle.wh_scheduler.proofs.InRounds.{each_next}
use Rattle.wh_scheduler.proofs.round_room.give_all.Goals as goal

pub loop-at-preserved : goal.loop-at-preserved
loop-at-preserved c =
    let now = c.loop-at in
    let i = now.invariant in
    let long = now.auto.runners in
    let less = c.loop-at-test.true in
    let old = get_or now.runners now.at c.index-runners-at.result in
    let there = slice_get-get_or now.runners now.at c.index-runners-at.result (omega (arith, long, less)) in
    let new = c.give.new.self in
    let free : IsFree new = subst IsFree (sym c.give.ensures) (i.free now.at old there) in
    let o = c.index-orders-at.result in
    let at : slice_get c.args.orders.now now.at ≡ Some o = slice_get-get_or c.args.orders.now now.at o (omega (arith, c.requires.many, less)) ∙ ap Some (sym c.index-orders-at.is) in
    let id : o.instance ≡ new.id = sym c.instance.ensures ∙ sym (ap (λ (y : Runner). y.id) c.give.ensures) in
    let quantum : o.quantum ≡ c.args.aim.quantum = sym c.quantum.ensures ∙ c.if-quantum-aim.false in
    let enough : c.args.aim.further + 1 ≤ o.count = omega (arith, c.count.ensures, c.if-count-aim.false) in
    let within : now.at < length now.runners = omega (arith, long, less) in
    record {
      free = λ k z is. each_next (λ j w. IsFree w) now.runners now.at k new z within is free (λ other was. i.free k z was);
      received = λ k z least is. each_next
          (λ j (y : Runner). (x : ReceivedTurnsState) × (slice_get c.args.orders.now j ≡ Some x) × (x.instance ≡ y.id) × (x.quantum ≡ c.args.aim.quantum) × (c.args.aim.further + 1 ≤ x.count))
          now.runners now.at k new z within is (o, at, id, quantum, enough)
          (λ other was. i.received k z (omega (arith, least, other)) was);
    }

pub returns-clause-received : goal.returns-clause-received
returns-clause-received c = λ yes k y there.
    (let less = slice_get_within c.loop-at.runners k y there in
    c.loop-at.invariant.received k y (omega (arith, less, c.loop-at.auto.runners, c.loop-at-test.false)) there)
