use Rattle.std.proofs.Common.{◌≡◌, ◌-◌, ◌∙◌, refl, sym, subst, arith}
use Rattle.wh_host.specs.Hosting.{HostState}
use Rattle.wh_hand.specs.RunCounting.{CountsRun}
use Rattle.wh_hand.specs.RunParts.{LeavesOf, RunsPart}
use Rattle.wh_hand.proofs.Counted.{counts_itself, counts_more}
use Rattle.wh_hand.proofs.Events.{on_itself}
use Rattle.wh_hand.proofs.Steps.{leaves_many, leaves_none, leaves_rest, on_more}
use Rattle.wh_hand.proofs.Together.{whole_both, whole_itself}
use Rattle.wh_hand.proofs.hand.Hand.take.Goals as goal

pub loop-turns-init : goal.loop-turns-init
loop-turns-init c =
    let h = c.args.self.now.host in
    let none : c.args.charges - c.args.charges ≡ 0 = omega arith in
    (subst (λ n. RunsPart h n 0 h) (sym none) (on_itself h), omega arith, whole_itself h.space, refl, subst (λ n. CountsRun h.counts n h.counts) (sym none) (counts_itself h.counts))

pub returns-then-left-eq0-clause-leaves : goal.returns-then-left-eq0-clause-leaves
returns-then-left-eq0-clause-leaves c =
    let h = c.args.self.now.host in
    let h2 = c.loop-turns.self.host in
    leaves_none h h2 c.args.charges c.loop-turns.turns
    (subst (λ n. RunsPart h (c.args.charges - n) c.loop-turns.turns h2) c.if-left-eq0.true c.loop-turns.invariant.0)

pub returns-in_default-clause-leaves : goal.returns-in_default-clause-leaves
returns-in_default-clause-leaves c =
    let h = c.args.self.now.host in
    let e = c.in_default.ensures in
    subst (λ z. LeavesOf h c.args.charges c.loop-turns.left z) (sym e.same)
    (leaves_rest h c.loop-turns.self.host c.args.charges c.loop-turns.left c.loop-turns.turns c.loop-turns.invariant.0 e.none)

pub loop-turns-preserved : goal.loop-turns-preserved
loop-turns-preserved c =
    let h = c.args.self.now.host in
    let inv = c.loop-turns.invariant in
    let e = c.in-Some.ensures in
    let few = inv.1 in (
      on_more h c.loop-turns.self.host c.turn.new.self.host c.args.charges c.loop-turns.left c.in-Some.taken c.loop-turns.turns few e.within inv.0 e.runs,
      omega (arith, few),
      whole_both h.space c.loop-turns.self.host.space c.turn.new.self.host.space inv.2 c.turn.ensures.whole,
      c.turn.ensures.output ∙ inv.3,
      counts_more h.counts c.loop-turns.self.host.counts c.turn.new.self.host.counts c.args.charges c.loop-turns.left c.in-Some.taken few e.within inv.4 e.counts,
    )

pub returns-clause-leaves : goal.returns-clause-leaves
returns-clause-leaves c =
    leaves_many c.args.self.now.host c.loop-turns.self.host c.args.charges c.loop-turns.left c.loop-turns.turns (omega (arith, c.loop-turns-test.false)) c.loop-turns.invariant.0

pub returns-then-left-eq0-clause-counts : goal.returns-then-left-eq0-clause-counts
returns-then-left-eq0-clause-counts c =
    let h = c.args.self.now.host in
    subst (λ n. CountsRun h.counts (c.args.charges - n) c.loop-turns.self.host.counts) c.if-left-eq0.true c.loop-turns.invariant.4

pub returns-in_default-clause-counts : goal.returns-in_default-clause-counts
returns-in_default-clause-counts c =
    let h = c.args.self.now.host in
    subst (λ (z : HostState). CountsRun h.counts (c.args.charges - c.loop-turns.left) z.counts) (sym c.in_default.ensures.same) c.loop-turns.invariant.4
