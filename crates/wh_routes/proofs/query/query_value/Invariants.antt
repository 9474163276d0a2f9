use Rattle.std.proofs.Common.{◌≡◌}
use Rattle.wh_routes.specs.Separators.{pieces_behind}
use Rattle.wh_routes.specs.Queries.{value_in, value_among}
use Rattle.wh_routes.proofs.Pairs.{left_of}
use Rattle.wh_routes.proofs.query.query_value.Given as goal

abbrev pub invariant-loop-rest : goal.invariant-loop-rest
invariant-loop-rest l = value_in l.query l.key ≡ value_among (pieces_behind 38 l.rest) l.key

abbrev pub decreases-loop-rest : goal.decreases-loop-rest
decreases-loop-rest l = left_of l.rest
