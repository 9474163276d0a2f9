use Rattle.std.proofs.Common.{arith, ap, sym, ◌∙◌, ◌≡◌, length, slice_get, Some}
use Rattle.crossbeam_channel.specs.Claims.{view}
use Rattle.wh_threads.proofs.Grown.{one_more_out}
use Rattle.wh_workers.proofs.Places.{Each-new}
use Rattle.wh_threads.specs.Handover.{turns_in}
use Rattle.wh_workers.proofs.Turns.{one_part_less, turns_still, turns_with_last}
use Rattle.wh_workers.proofs.crew.start_all.Goals as goal

pub loop-seat-preserved : goal.loop-seat-preserved
loop-seat-preserved g c =
    let was = c.loop-seat.invariant in
    let started = c.in-Ok-start_worker.ensures.ok in
    let lent = c.lend_worker.ensures in
    let pushed = c.push_reserved.ensures in
    let slip = one_part_less (view c.loop-seat.slip) (view c.pass_for.new.slip) (view c.args.slip.now) c.loop-seat.seat
    c.pass_for.ensures.left was.1 was.2 was.3
    (omega (arith, c.loop-seat-test.true, c.requires.few)) in
    let seat : length c.loop-seat.running.items ≡ c.loop-seat.seat = sym c.loop-seat.running.ok.0 ∙ was.4 in (
      c.pass_for.ensures.channel.0,
      slip.0,
      slip.1,
      slip.2,
      omega (arith, pushed.len, was.4),
      rw pushed.capacity was.5,
      omega (arith, c.take_last-room.ensures.len, was.6),
      Each-new c.loop-seat.running.items _ c.in-Ok-start_worker.handle _ pushed.items
          (λ i h at. ((λ j. slice_get (lent.out j).tallies i) ∙ (was.7 i h at).0, (was.7 i h at).1)) (
            (λ j. slice_get (lent.out j).tallies (seat j)) ∙ lent.from ∙ ap (λ t. Some t) (sym started.0),
            started.1 ∙ c.in-Ok.ensures,
          ),
      one_more_out c.args.lender.now c.loop-seat.lender c.lend_worker.new.self c.loop-seat.seat was.8 lent.out,
    )

pub returns-in_default-clause-dispatched : goal.returns-in_default-clause-dispatched
returns-in_default-clause-dispatched g c = λ turns q were.
    turns_with_last _ _ c.stop.ensures.last turns q (turns_still _ _ c.loop-seat.invariant.1 turns q were)

pub returns-in_default-clause-received : goal.returns-in_default-clause-received
returns-in_default-clause-received g c = ap turns_in (c.stop.ensures.last.received ∙ c.loop-seat.invariant.2)

pub returns-in-Err-clause-dispatched : goal.returns-in-Err-clause-dispatched
returns-in-Err-clause-dispatched g c = λ turns q were.
    turns_with_last _ _ c.stop-in-Err.ensures.last turns q
    (turns_still _ _ (c.take_refused_worker.ensures.back.sent ∙ (λ i. (c.pass_for.ensures.left i).sent) ∙ c.loop-seat.invariant.1) turns q were)

pub returns-in-Err-clause-received : goal.returns-in-Err-clause-received
returns-in-Err-clause-received g c =
    ap turns_in (
    c.stop-in-Err.ensures.last.received ∙ c.take_refused_worker.ensures.received ∙ (λ i. (c.pass_for.ensures.left i).received)
    ∙ c.loop-seat.invariant.2
    )
