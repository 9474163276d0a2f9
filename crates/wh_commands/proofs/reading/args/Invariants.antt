use Rattle.std.proofs.Common.{length}
use Rattle.wh_script_model.specs.{IsNumber}
use Rattle.wh_commands.specs.WordsLeft.{words_left}
use Rattle.wh_commands.proofs.Asking.{HasRead}
use Rattle.wh_commands.proofs.reading.args.Given as goal

abbrev pub invariant-loop-word : goal.invariant-loop-word
invariant-loop-word l = HasRead IsNumber (words_left l.fn.words) (words_left l.words) l.args.items

abbrev pub decreases-loop-word : goal.decreases-loop-word
decreases-loop-word l = length (words_left l.words)
