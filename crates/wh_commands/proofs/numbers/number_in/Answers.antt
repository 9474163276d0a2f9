use Rattle.std.proofs.Common.{sym, subst}
use Rattle.wh_script_model.specs.{AreDigits}
use Rattle.wh_commands.proofs.Digits.{number_word, number_reads, Reads}
use Rattle.wh_commands.proofs.numbers.number_in.Goals as goal

pub text_of-requires : goal.text_of-requires
text_of-requires c = number_word c.args.word.now (subst AreDigits c.without_minus.ensures c.if-not-is_numeral.ensures)

pub unreachable-requires : goal.unreachable-requires
unreachable-requires c = c.in-Err.ensures.value.0 (subst Reads (sym c.text_of.ensures)
    (number_reads c.args.word.now (subst AreDigits c.without_minus.ensures c.if-not-is_numeral.ensures)))
