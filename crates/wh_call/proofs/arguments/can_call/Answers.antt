use Rattle.std.proofs.Common.{subst}
use Rattle.std.specs.Bool.{MatchBool}
use Rattle.wh_syntax.specs.View.{view_type}
use Rattle.wh_call.specs.Arguments.{Arguments}
use Rattle.wh_call.proofs.Callable.{calls_by, no_call}
use Rattle.wh_call.proofs.arguments.can_call.Goals as goal

pub returns-in-Some : goal.returns-in-Some
returns-in-Some c =
    calls_by c.args.linked.now c.args.func
    (view_type c.in-Some.func_type.now) c.args.args.now c.in-Some.ensures.some c.are_arguments.result
    (subst (λ ts. MatchBool c.are_arguments.result (Arguments ts c.args.args.now)
    (¬ (Arguments ts c.args.args.now))) c.as_slice.ensures c.are_arguments.ensures)

pub returns-in-None : goal.returns-in-None
returns-in-None c = no_call c.args.linked.now c.args.func c.args.args.now c.in-None.ensures.none
