use Rattle.std.proofs.Common.{[], sym, ap, ◌∙◌}
use Rattle.wh_tokens.specs.TokenOwners.{owner_in}
use Rattle.wh_tokens.specs.declared.grants.Grant.{Grant}
use Rattle.wh_tokens.specs.declared.grants.Who.TheVariants.{Operator}
use Rattle.wh_tokens.proofs.Owners.{owner_here, owner_behind}
use Rattle.wh_tokens.proofs.grants.who_has.Goals as goal

abbrev no_grant : Grant
no_grant = record { digest = []; who = Operator }

pub returns-then-is_same_digest : goal.returns-then-is_same_digest
returns-then-is_same_digest c =
    sym (ap (owner_in c.args.grants.now) (sym c.digest_of-digest.ensures) ∙ (c.loop-grant.invariant
    ∙ owner_here c.args.grants.now c.loop-grant.grant-index c.digest_of-digest.result no_grant c.loop-grant-test.true c.if-is_same_digest.ensures))

pub loop-grant-preserved : goal.loop-grant-preserved
loop-grant-preserved c =
    c.loop-grant.invariant
    ∙ owner_behind c.args.grants.now c.loop-grant.grant-index c.digest_of-digest.result no_grant c.loop-grant-test.true c.if-is_same_digest.ensures
