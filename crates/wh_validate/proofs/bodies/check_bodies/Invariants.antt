use Rattle.std.proofs.Common.{List, map, drop, ◌++◌}
use Rattle.wh_syntax.specs.View.{view_body}
use Rattle.wh_bodies.specs.SideTables.{Table}
use Rattle.wh_bodies.specs.View.{view_context, view_side}
use Rattle.wh_validate.specs.CheckedBodies.{Checked}
use Rattle.wh_validate.proofs.bodies.check_bodies.Given as goal

-- where the bodies to come are right, all are
abbrev pub invariant-loop-at : goal.invariant-loop-at
invariant-loop-at l = (rest : List Table) → Checked (view_context l.context) (drop l.at l.funcs) (map view_body (drop l.at l.bodies)) rest → Checked (view_context l.context) l.funcs (map view_body l.bodies) (map view_side l.tables.items ++ rest)
