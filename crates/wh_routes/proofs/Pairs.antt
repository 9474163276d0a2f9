-- Pairs of a query.
use Rattle.std.proofs.Common.{ℕ, suc, Option, None, Some, List, length}
use denote.Ref.{Bor}

-- how much is left to look through
abbrev pub left_of : Option (Bor (List ℕ)) → ℕ
left_of None = 0
left_of (Some text) = suc (length text.now)
