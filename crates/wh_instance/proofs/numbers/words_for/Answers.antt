use Rattle.std.proofs.Common.{rules}
use Rattle.std.proofs.lemmas.Int.{to_z-of_z}
use Rattle.wh_instance.proofs.Given.{word_pushed, words_done}
use Rattle.wh_instance.proofs.numbers.words_for.Goals as goal

pub loop-at-preserved : goal.loop-at-preserved
loop-at-preserved c = search (rules, to_z-of_z, word_pushed)

pub returns : goal.returns
returns c = search (rules, words_done)
