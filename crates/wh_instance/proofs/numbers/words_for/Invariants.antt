use Rattle.std.proofs.Common.{◌≡◌, ◌++◌, drop}
use Rattle.wh_instance.proofs.Given.{words_in}
use Rattle.wh_instance.proofs.numbers.words_for.Given as goal

abbrev pub invariant-loop-at : goal.invariant-loop-at
invariant-loop-at l = l.words.items ++ words_in (drop l.at l.params) (drop l.at l.given) ≡ words_in l.params l.given
