use Rattle.std.proofs.Common.{rules}
use Rattle.wh_commands.proofs.Digits.{digits_test}
use Rattle.wh_commands.proofs.numbers.is_numeral.Goals as goal

pub returns-then-word-le-MOST_DIGITS : goal.returns-then-word-le-MOST_DIGITS
returns-then-word-le-MOST_DIGITS c =
    digits_test c.args.word.now c.all.result (search rules) c.if-word-le-MOST_DIGITS.true.1 (search rules)
