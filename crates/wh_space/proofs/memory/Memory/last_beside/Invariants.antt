use Rattle.wh_tables.proofs.Keys.{key_of}
use Rattle.wh_space.specs.Parts.{space_of}
use Rattle.wh_space.proofs.Besides.{IsPast}
use Rattle.wh_space.proofs.memory.Memory.last_beside.Given as goal

-- no page after the stop is beside the step and can leave
abbrev pub invariant-loop-at : goal.invariant-loop-at
invariant-loop-at l = IsPast (space_of l.self-inside) l.self-inside.tables.numbers l.place l.need l.frame l.at

abbrev pub decreases-loop-at : goal.decreases-loop-at
decreases-loop-at l = key_of l.self-inside.tables.numbers l.at
