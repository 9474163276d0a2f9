use Rattle.wh_routes.proofs.Pairs.{left_of}
use Rattle.wh_tokens.proofs.Lines.{IsReadTo}
use Rattle.wh_tokens.proofs.parsing.parse_grants.Given as goal

abbrev pub invariant-loop-rest : goal.invariant-loop-rest
invariant-loop-rest l = IsReadTo l.fn.text l.rest l.number l.grants.items

abbrev pub decreases-loop-rest : goal.decreases-loop-rest
decreases-loop-rest l = left_of l.rest
