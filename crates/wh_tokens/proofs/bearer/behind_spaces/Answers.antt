use Rattle.wh_tokens.proofs.Spaces.{spaces_before, only_spaces}
use Rattle.wh_tokens.proofs.bearer.behind_spaces.Goals as goal

pub returns-in-Some : goal.returns-in-Some
returns-in-Some c = spaces_before c.args.text.now c.in-Some.at c.in-Some.ensures.some.0 c.in-Some.ensures.some.1 c.in-Some.ensures.some.2

pub returns-in-None : goal.returns-in-None
returns-in-None c = only_spaces c.args.text.now c.in-None.ensures.none
