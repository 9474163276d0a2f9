use Rattle.std.proofs.Common.{[], ◌∷◌, ◌++◌, reverse, ◌∙◌, length-append, rules}
use Rattle.std.proofs.lemmas.List.{length-reverse}
use Rattle.wh_control.proofs.Cuts.{cut_none, cut_one}
use Rattle.wh_control.proofs.words.ValueStack.cut.Goals as goal

pub returns-then-carries : goal.returns-then-carries
returns-then-carries c = search (rules, length-reverse, length-append, reverse, cut_one)

pub returns-else-carries : goal.returns-else-carries
returns-else-carries c = search (rules, reverse, cut_none)
