use Rattle.std.proofs.Common.{sym}
use Rattle.wh_routes.proofs.Cutting.{at_separator, no_separator}
use Rattle.wh_routes.proofs.pieces.cut.Goals as goal

pub returns-in-Some-clause-pieces : goal.returns-in-Some-clause-pieces
returns-in-Some-clause-pieces c =
    (at_separator c.args.separator c.args.text.now c.in-Some.first.now c.in-Some.rest.now c.in-Some.ensures.some.0 c.in-Some.ensures.some.1).0

pub returns-in-Some-clause-before : goal.returns-in-Some-clause-before
returns-in-Some-clause-before c =
    sym (at_separator c.args.separator c.args.text.now c.in-Some.first.now c.in-Some.rest.now c.in-Some.ensures.some.0 c.in-Some.ensures.some.1).1

pub returns-in-Some-clause-behind : goal.returns-in-Some-clause-behind
returns-in-Some-clause-behind c =
    sym (at_separator c.args.separator c.args.text.now c.in-Some.first.now c.in-Some.rest.now c.in-Some.ensures.some.0 c.in-Some.ensures.some.1).2

pub returns-in-None-clause-pieces : goal.returns-in-None-clause-pieces
returns-in-None-clause-pieces c = (no_separator c.args.separator c.args.text.now c.in-None.ensures.none).0

pub returns-in-None-clause-before : goal.returns-in-None-clause-before
returns-in-None-clause-before c = sym (no_separator c.args.separator c.args.text.now c.in-None.ensures.none).1

pub returns-in-None-clause-behind : goal.returns-in-None-clause-behind
returns-in-None-clause-behind c = sym (no_separator c.args.separator c.args.text.now c.in-None.ensures.none).2
