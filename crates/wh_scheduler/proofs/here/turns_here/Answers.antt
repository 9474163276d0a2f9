use Rattle.std.proofs.Common.{◌≡◌, ◌∙◌, ◌+◌, subst, arith}
use Rattle.wh_scheduler.specs.InHand.{RunsHere}
use Rattle.wh_scheduler.proofs.OwnTurns.{ran_more}
use Rattle.wh_scheduler.proofs.here.turns_here.Goals as goal

pub returns-then-pass-clause-runs : goal.returns-then-pass-clause-runs
returns-then-pass-clause-runs g c =
    let pass = c.turn_once_each-pass in
    let none : c.loop-turns.turns + pass.result.turns ≡ c.loop-turns.turns = omega (arith, c.if-pass-eq0.true) in
    subst (λ n. RunsHere c.args.locked.now.books c.args.shares.now.owner n pass.new.locked.books pass.new.shares.owner) none
    (ran_more _ _ _ _ _ _ _ _ c.loop-turns.invariant.1 pass.ensures.runs)

pub returns-else-pass-clause-runs : goal.returns-else-pass-clause-runs
returns-else-pass-clause-runs g c =
    let pass = c.turn_once_each-pass in
    let none : c.loop-turns.turns + pass.result.turns ≡ c.loop-turns.turns = omega (arith, c.if-pass-eq0.true) in
    subst (λ n. RunsHere c.args.locked.now.books c.args.shares.now.owner n pass.new.locked.books pass.new.shares.owner) none
    (ran_more _ _ _ _ _ _ _ _ c.loop-turns.invariant.1 pass.ensures.runs)

pub returns-else-pass-clause-rest : goal.returns-else-pass-clause-rest
returns-else-pass-clause-rest g c = λ is. c.turn_once_each-pass.ensures.rests c.if-pass-eq0.true c.if-pass.false

pub loop-turns-preserved : goal.loop-turns-preserved
loop-turns-preserved g c =
    let was = c.loop-turns.invariant in
    let pass = c.turn_once_each-pass in (
      omega (arith, pass.ensures.few, c.loop-turns-test.true),
      ran_more _ _ _ _ _ _ _ _ was.1 pass.ensures.runs,
      pass.ensures.only ∙ (λ i. record (was.2 i) { owner = pass.new.shares.owner }),
      pass.ensures.known ∙ was.3,
    )
