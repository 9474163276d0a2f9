use Rattle.std.proofs.Common.{rules, arith}
use Rattle.wh_tokens.proofs.OneLine.{too_large}
use Rattle.wh_tokens.proofs.parsing.who_in.Goals as goal

pub returns-then-number-gt4294967295-clause-none :
    goal.returns-then-number-gt4294967295-clause-none
returns-then-number-gt4294967295-clause-none c =
    too_large c.args.word.now c.in_ok-number.number (search rules) c.in_ok-number.ensures.some (omega arith)
