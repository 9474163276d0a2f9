-- Ledgers in which nothing is counted yet.
use Rattle.std.specs.Prelude.{◌≡◌, ℕ, ◌<◌}
use Rattle.std.specs.declared.sync.ledger.Blank.{Blank}
use Rattle.std.specs.declared.sync.ledger.Ledger.{Ghosts}
use Rattle.std.specs.declared.sync.ledger.Share.{Share}

-- a new ledger is this one, and has a part for each of `holders` holders, and one more
pub record IsBlankOf {L : Type 0} (ledger : Ghosts L) (holders : ℕ) (blank : Blank) : Type 0 where
  pub name : blank.name ≡ ledger.name
  pub parts : blank.parts ≡ ledger.parts
  pub enough : holders < ledger.parts

-- A share is the whole of this ledger, in which nothing is counted, and which has a part for each of `holders` holders, and one
-- more.
pub record IsWholeOf {L : Type 0} (ledger : Ghosts L) (holders : ℕ) (share : Share L) : Type 0 where
  pub parts : share.parts ≡ ledger.parts
  pub enough : holders < ledger.parts
  pub zero : share.amount ≡ 0
