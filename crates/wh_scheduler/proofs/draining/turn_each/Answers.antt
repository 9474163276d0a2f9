use Rattle.std.proofs.Common.{◌≡◌, Some, get_or, slice_get, subst, false, arith}
use Rattle.std.proofs.lemmas.Option.{slice_get-get_or}
use Rattle.wh_space_model.specs.declared.plain.InstId.{InstId}
use Rattle.wh_host.specs.Hosting.{HostState}
use Rattle.wh_host.specs.Paging.{IsGoing, Tells}
use Rattle.wh_cell.proofs.Followed.{comes_then}
use Rattle.wh_scheduler.specs.InHand.{Rests}
use Rattle.wh_scheduler.proofs.InHand.{came_first}
use Rattle.wh_scheduler.proofs.OwnTurns.{all_below, none_below, one_more, works_more, works_none}
use Rattle.wh_scheduler.proofs.draining.turn_each.Goals.{then-can_go_on, else-can_go_on}
use Rattle.wh_scheduler.proofs.draining.turn_each.Goals as goal

pub loop-at-init : goal.loop-at-init
loop-at-init g c =
    let s = c.invariant.ensures in
    (omega arith, omega arith, came_first g.D.SwapDev.keeps g.D.SwapDev.honest g.D.SwapDev.faults c.args.host.now s.device s.has, works_none _ _, λ none. none_below Rests _ _)

pub loop-at-preserved : goal.loop-at-preserved
loop-at-preserved g c =
    let was = c.loop-at.invariant in
    let id : InstId = get_or c.args.ids.now c.loop-at.at (record { place = 0; number = 0 }) in
    let there : slice_get c.args.ids.now c.loop-at.at ≡ Some id =
    slice_get-get_or c.args.ids.now c.loop-at.at (record { place = 0; number = 0 }) (omega (arith, c.loop-at-test.true, c.loop-at.auto.at-end)) in
    elim c.if-can_go_on.branch [
      | then-can_go_on w ↦
          rw (w.host-is, w.turns-is) (
            omega (arith, c.if-turns-most.false),
            omega (arith, was.1),
            comes_then g.D.SwapDev.keeps g.D.SwapDev.honest g.D.SwapDev.faults _ _ _ was.2 w.turn_ready.ensures.came,
            works_more _ _ _ _ _ _ _ _ _ _ was.3 w.turn_ready.ensures.works,
            λ none. absurd (omega (arith, none)),
          )
      | else-can_go_on w ↦
          rw (w.host-is, w.turns-is) (
            was.0,
            omega (arith, was.1),
            was.2,
            was.3,
            λ none. one_more Rests _ _ _ _ (was.4 none) there (subst (λ (h : HostState). Tells h false (λ v. IsGoing v id)) c.host.ensures w.if-can_go_on.ensures),
          )
    ]

pub returns-after-loop-at-clause-rests : goal.returns-after-loop-at-clause-rests
returns-after-loop-at-clause-rests g c = λ none.
    all_below Rests _ _ _ (omega (arith, c.loop-at-test.false, c.loop-at.auto.at-end)) (c.loop-at.invariant.4 none)
