use Rattle.std.proofs.Common.{ap, ◌∙◌}
use Rattle.wh_commands.proofs.Cut.{words_cut, one_word}
use Rattle.wh_commands.specs.WordsLeft.{words_behind}
use Rattle.wh_commands.proofs.words.Words.next.Goals as goal

pub returns-in-Some-clause-some : goal.returns-in-Some-clause-some
returns-in-Some-clause-some c =
    ap words_behind c.in_ok-line.was ∙ words_cut c.in_ok-line.line.now c.in-Some.word.now c.in-Some.rest.now
    c.in-Some.ensures.some.0 c.in-Some.ensures.some.1

pub returns-in-None-clause-some : goal.returns-in-None-clause-some
returns-in-None-clause-some c =
    ap words_behind c.in_ok-line.was ∙ one_word c.in_ok-line.line.now c.in-None.ensures.none
