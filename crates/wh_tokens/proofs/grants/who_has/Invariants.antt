use Rattle.std.proofs.Common.{◌≡◌, drop}
use Rattle.wh_tokens.specs.TokenOwners.{owner_in}
use Rattle.wh_tokens.proofs.grants.who_has.Given as goal

abbrev pub invariant-loop-grant : goal.invariant-loop-grant
invariant-loop-grant l = owner_in l.grants l.digest ≡ owner_in (drop l.grant-index l.grants) l.digest
