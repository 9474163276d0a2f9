use Rattle.std.proofs.Common.{◌≢◌, ◌≤◌, [], All, take_all, length, subst, arith}
use Rattle.std.proofs.lemmas.List.Elements.{All-more, All-get_or}
use Rattle.wh_tokens.specs.declared.grants.Grant.{Grant}
use Rattle.wh_tokens.specs.declared.grants.Who.TheVariants.{Operator}
use Rattle.wh_tokens.proofs.parsing.has_digest.Goals as goal

abbrev no_grant : Grant
no_grant = record { digest = []; who = Operator }

pub returns-then-is_same_digest : goal.returns-then-is_same_digest
returns-then-is_same_digest c = λ all.
    All-get_or (λ grant. grant.digest ≢ c.args.digest.now) c.args.grants.now c.loop-grant.grant-index no_grant c.loop-grant-test.true all
    c.if-is_same_digest.ensures

pub loop-grant-preserved : goal.loop-grant-preserved
loop-grant-preserved c =
    All-more (λ grant. grant.digest ≢ c.args.digest.now) c.args.grants.now c.loop-grant.grant-index no_grant
    c.loop-grant-test.true c.loop-grant.invariant c.if-is_same_digest.ensures

pub returns : goal.returns
returns c =
    let finished : length c.args.grants.now ≤ c.loop-grant.grant-index = omega (arith, c.loop-grant-test.false) in
    subst (All (λ grant. grant.digest ≢ c.args.digest.now)) (take_all c.loop-grant.grant-index c.args.grants.now finished) c.loop-grant.invariant
