use Rattle.wh_routes.proofs.Numbers.{plain_spelled, not_utf8, parsed_some, parsed_none}
use Rattle.wh_routes.proofs.names.number_in.Goals as goal

pub returns-then-not-is_numeral-clause-none : goal.returns-then-not-is_numeral-clause-none
returns-then-not-is_numeral-clause-none c = λ n is. c.if-not-is_numeral.ensures (plain_spelled c.args.text.now n is)

pub returns-in_default-clause-none : goal.returns-in_default-clause-none
returns-in_default-clause-none c = not_utf8 c.args.text.now c.in_default.ensures.cases.0

pub returns-in-Ok-parse-clause-some : goal.returns-in-Ok-parse-clause-some
returns-in-Ok-parse-clause-some c =
    parsed_some c.args.text.now c.in-Ok.text.now _ c.in-Ok-parse.number c.in-Ok.ensures.cases.0 c.if-not-is_numeral.ensures
    c.parse.ensures.value.0 c.in-Ok-parse.is

pub returns-in-Err-clause-none : goal.returns-in-Err-clause-none
returns-in-Err-clause-none c =
    parsed_none c.args.text.now c.in-Ok.text.now _ c.in-Err.field-0 c.in-Ok.ensures.cases.0 c.parse.ensures.value.0 c.in-Err.is
