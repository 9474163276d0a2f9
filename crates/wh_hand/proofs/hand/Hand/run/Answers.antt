use Rattle.std.proofs.Common.{◌≡◌, ◌+◌, ◌-◌, subst, arith}
use Rattle.wh_hand.specs.RunCounting.{CountsRun}
use Rattle.wh_hand.proofs.Counted.{counts_both}
use Rattle.wh_hand.proofs.Steps.{run_is}
use Rattle.wh_hand.proofs.hand.Hand.run.Goals as goal

pub returns-clause-runs : goal.returns-clause-runs
returns-clause-runs c =
    run_is c.args.self.now.host c.begin.new.self.host c.take-left.new.self.host c.args.charges c.take-left.result c.goes_on.result c.take-left.ensures.few c.begin.ensures.runs c.take-left.ensures.leaves c.goes_on.ensures

pub returns-clause-counts : goal.returns-clause-counts
returns-clause-counts c =
    let h = c.args.self.now.host in
    let taken = c.args.charges - c.take-left.result in
    let same : 0 + taken ≡ taken = omega arith in
    subst (λ n. CountsRun h.counts n c.take-left.new.self.host.counts) same
    (counts_both h.counts c.begin.new.self.host.counts c.take-left.new.self.host.counts 0 taken c.begin.ensures.counts c.take-left.ensures.counts)
