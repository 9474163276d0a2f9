use Rattle.std.proofs.Common.{rules}
use Rattle.wh_initial.specs.InWords.{words_of_globals}
use Rattle.wh_initial.proofs.globals.first_globals.Goals as goal

pub returns-clause-ok : goal.returns-clause-ok
unfolding words_of_globals
returns-clause-ok c = search rules
