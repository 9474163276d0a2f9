use Rattle.std.proofs.Common.{◌≡◌, ap, inl, subst, arith}
use Rattle.wh_host.specs.Hosting.{HostState}
use Rattle.wh_threads.specs.declared.own_count.OwnCount.{OwnCount}
use Rattle.wh_cell.proofs.Followed.{comes_then}
use Rattle.wh_scheduler.specs.InHand.{EachIs, Rests}
use Rattle.wh_scheduler.specs.declared.here.Outlook.TheVariants.{Rests as OutlookRests}
use Rattle.wh_scheduler.proofs.InHand.{came_first, can_offer_on, paid_now}
use Rattle.wh_scheduler.proofs.OwnTurns.{works_ended, works_none, works_paid}
use Rattle.wh_scheduler.proofs.owned.OwnedHost.page_here.Goals.{else-loop-self-test, then-loop-self-test+then-more-eq0}
use Rattle.wh_scheduler.proofs.owned.OwnedHost.page_here.Goals as goal

pub loop-self-init : goal.loop-self-init
loop-self-init g c =
    let s = c.invariant.ensures in (
      omega arith,
      came_first g.D.SwapDev.keeps g.D.SwapDev.honest g.D.SwapDev.faults c.args.self.now s.device s.has,
      works_none _ _,
      λ can. inl (omega arith),
      omega arith,
      subst (λ (h : HostState). c.outlook_of_all-outlook.result ≡ OutlookRests → EachIs Rests h c.args.ids.now) c.host.ensures c.outlook_of_all-outlook.ensures,
    )

pub loop-self-preserved : goal.loop-self-preserved
loop-self-preserved g c =
    let was = c.loop-self.invariant in
    let t = c.turns_behind_each-more in
    let o = c.offer_some-offers in
    let to_turns = comes_then g.D.SwapDev.keeps g.D.SwapDev.honest g.D.SwapDev.faults _ _ _ was.1 t.ensures.came in (
      omega (arith, was.0, t.ensures.few, ap (λ (z : OwnCount). z.evictions) o.ensures.works.own_is),
      comes_then g.D.SwapDev.keeps g.D.SwapDev.honest g.D.SwapDev.faults _ _ _ to_turns o.ensures.came,
      works_paid _ _ _ _ _ _ _ _ _ _ _ _ was.2 t.ensures.works o.ensures.works,
      λ can. paid_now _ _ _ _ _ c.saturating_sub-owed.ensures (o.ensures.all (can_offer_on g.D.SwapDev.keeps g.D.SwapDev.honest g.D.SwapDev.faults c.args.self.now t.new.host c.args.ids.now to_turns can)),
      omega (arith, o.ensures.few, c.saturating_sub-owed.ensures, was.4),
      subst (λ (h : HostState). c.outlook_of_all-outlook-in-loop-self.result ≡ OutlookRests → EachIs Rests h c.args.ids.now) c.host-in-loop-self.ensures c.outlook_of_all-outlook-in-loop-self.ensures,
    )

pub returns-clause-came : goal.returns-clause-came
returns-clause-came g c =
    let was = c.loop-self.invariant in
    elim c.loop-self-test.branch [
      | else-loop-self-test w ↦ rw w.self-is was.1
      | then-loop-self-test+then-more-eq0 w ↦
          rw w.self-is (comes_then g.D.SwapDev.keeps g.D.SwapDev.honest g.D.SwapDev.faults _ _ _ was.1 w.turns_behind_each-more.ensures.came)
    ]

pub returns-clause-works : goal.returns-clause-works
returns-clause-works g c =
    let was = c.loop-self.invariant in
    elim c.loop-self-test.branch [
      | else-loop-self-test w ↦ rw w.self-is was.2
      | then-loop-self-test+then-more-eq0 w ↦ rw w.self-is (works_ended _ _ _ _ _ _ _ _ _ was.2 w.turns_behind_each-more.ensures.works w.if-more-eq0.true)
    ]
