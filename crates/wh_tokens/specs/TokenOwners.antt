-- Whose a token is.
use Rattle.std.specs.Prelude.{ℕ, List, [], ◌∷◌, Option, None, Some, if◌then◌else◌}
use Rattle.std.specs.Str.{bytes_eq}
use Rattle.wh_tokens.specs.declared.grants.Who.{Who}
use Rattle.wh_tokens.specs.declared.grants.Grant.{Grant}

-- whose the first grant of the digest is
abbrev pub owner_in : List Grant → List ℕ → Option Who
owner_in [] digest = None
owner_in (grant ∷ grants) digest = if bytes_eq grant.digest digest then Some grant.who else owner_in grants digest
