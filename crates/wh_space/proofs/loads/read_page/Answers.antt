use Rattle.std.proofs.Common.{◌∙◌, sym, rules}
use Rattle.wh_space_model.proofs.Reading.{read_zeros}
use Rattle.wh_space.proofs.loads.read_page.Goals as goal

pub read_frame-requires-clause-taken : goal.read_frame-requires-clause-taken
read_frame-requires-clause-taken c = c.requires.taken c.in-Some.frame (sym c.frame.ensures ∙ c.in-Some.is)

pub returns-in-Some-clause-read : goal.returns-in-Some-clause-read
returns-in-Some-clause-read c = search rules

pub returns-in-Untouched-clause-read : goal.returns-in-Untouched-clause-read
returns-in-Untouched-clause-read c = search (rules, read_zeros)
