use Rattle.std.proofs.Common.{subst}
use Rattle.wh_syntax.specs.View.{view_type}
use Rattle.wh_instance.proofs.Given.{Decides, decided, has_own}
use Rattle.wh_instance.proofs.numbers.takes.Goals as goal

pub returns-in-Some-clause-own : goal.returns-in-Some-clause-own
returns-in-Some-clause-own c =
    decided c.args.linked.now c.args.func
    (view_type c.in-Some.func_type.now) c.args.given.now c.are_given.result c.in-Some.ensures.some
    (subst (λ ts. Decides c.are_given.result ts c.args.given.now) c.as_slice.ensures c.are_given.ensures)

pub returns-in-Some-clause-other : goal.returns-in-Some-clause-other
returns-in-Some-clause-other c cx inst is lacks = absurd
    (has_own c.args.linked.now c.args.func
    (view_type c.in-Some.func_type.now) c.in-Some.ensures.some cx inst is lacks)

pub returns-in-None-clause-own : goal.returns-in-None-clause-own
returns-in-None-clause-own c cx inst type body is at = absurd (c.in-None.ensures.none cx inst is type body at)
