use Rattle.wh_tokens.proofs.OneLine.{nobody, no_space, no_digest, if_none}
use Rattle.wh_tokens.proofs.parsing.grant_in.Goals as goal

pub returns-in_err-who-clause-none : goal.returns-in_err-who-clause-none
returns-in_err-who-clause-none c = if_none _ _ (nobody c.args.line.now c.cut.result.0.now c.cut.ensures.before c.in_err-who.ensures.none)

pub returns-in_default-clause-none : goal.returns-in_default-clause-none
returns-in_default-clause-none c = no_space c.args.line.now c.cut.result.1 c.cut.ensures.behind c.in_default.is

pub returns-in_err-digest-clause-none : goal.returns-in_err-digest-clause-none
returns-in_err-digest-clause-none c =
    if_none _ _ (no_digest c.args.line.now c.cut.result.1 c.in-Some.rest c.cut.ensures.behind c.in-Some.is c.in_err-digest.ensures.none)
