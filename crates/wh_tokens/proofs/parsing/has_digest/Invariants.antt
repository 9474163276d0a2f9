use Rattle.std.proofs.Common.{◌≢◌, take, All}
use Rattle.wh_tokens.proofs.parsing.has_digest.Given as goal

abbrev pub invariant-loop-grant : goal.invariant-loop-grant
invariant-loop-grant l = All (λ grant. grant.digest ≢ l.digest) (take l.grant-index l.grants)
