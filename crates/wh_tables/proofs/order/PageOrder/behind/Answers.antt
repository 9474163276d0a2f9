use Rattle.std.proofs.Common.{None, Some, sym, subst}
use Rattle.wh_tables.specs.PageLinks.{IsEarlierStop, IsStop}
use Rattle.wh_tables.specs.Order.{ComesBefore, StandsOn}
use Rattle.wh_tables.proofs.Chaining.{prior_stop}
use Rattle.wh_tables.proofs.Seeking.{none_behind_last, none_behind_prior, prior_key}
use Rattle.wh_tables.proofs.order.PageOrder.behind.Goals as goal

pub loop-at-init : goal.loop-at-init
loop-at-init c = record {
  on = λ pages chains. rw c.prior-at.ensures.page (prior_stop c.args.self.now pages c.args.frame None chains tt);
  none = λ pages chains z on less. none_behind_last c.args.self.now pages c.args.frame c.args.id z chains on (subst (λ w. IsEarlierStop (ComesBefore c.args.self.now.numbers) w (Some z)) c.prior-at.ensures.page less);
}

pub loop-at-preserved : goal.loop-at-preserved
loop-at-preserved c = record {
  on = λ pages chains. (
      let here = subst (λ w. IsStop (StandsOn pages c.args.frame) w) c.in-Some.is (c.loop-at.invariant.on pages chains) in
      rw c.prior-at-in-Some.ensures.page (prior_stop c.args.self.now pages c.args.frame (Some c.in-Some.page) chains here));
  none = λ pages chains z on less. (
      let here = subst (λ w. IsStop (StandsOn pages c.args.frame) w) c.in-Some.is (c.loop-at.invariant.on pages chains) in
      none_behind_prior c.args.self.now pages c.args.frame c.args.id c.in-Some.page z chains here c.if-comes_before.ensures
      (λ o after. c.loop-at.invariant.none pages chains z o (rw c.in-Some.is after)) on (subst (λ w. IsEarlierStop (ComesBefore c.args.self.now.numbers) w (Some z)) c.prior-at-in-Some.ensures.page less));
}

pub loop-at-smaller : goal.loop-at-smaller
loop-at-smaller c =
    let pages = c.requires.in_order.0 in
    let chains = c.requires.in_order.1 in
    let here = subst (λ w. IsStop (StandsOn pages c.args.frame) w) c.in-Some.is (c.loop-at.invariant.on pages chains) in
    rw c.in-Some.is (prior_key c.args.self.now pages c.args.frame c.in-Some.page c.prior-at-in-Some.result chains here (sym c.prior-at-in-Some.ensures.page) c.prior-at-in-Some.ensures.small)

pub comes_before-requires-clause-one : goal.comes_before-requires-clause-one
comes_before-requires-clause-one c =
    let pages = c.requires.in_order.0 in
    let chains = c.requires.in_order.1 in
    let here = subst (λ w. IsStop (StandsOn pages c.args.frame) w) c.in-Some.is (c.loop-at.invariant.on pages chains) in
    (chains.room c.args.frame c.in-Some.page here).place

pub prior-at-requires-in-Some : goal.prior-at-requires-in-Some
prior-at-requires-in-Some c =
    let pages = c.requires.in_order.0 in
    let chains = c.requires.in_order.1 in
    let here = subst (λ w. IsStop (StandsOn pages c.args.frame) w) c.in-Some.is (c.loop-at.invariant.on pages chains) in
    (chains.room c.args.frame c.in-Some.page here).page

pub returns-then-comes_before : goal.returns-then-comes_before
returns-then-comes_before c pages chains = record {
  on = subst (λ w. IsStop (StandsOn pages c.args.frame) w) c.in-Some.is (c.loop-at.invariant.on pages chains);
  before = c.if-comes_before.ensures;
  last = λ z on before bad. c.loop-at.invariant.none pages chains z on (subst (λ w. IsEarlierStop (ComesBefore c.args.self.now.numbers) w (Some z)) (sym c.in-Some.is) bad) before;
}
