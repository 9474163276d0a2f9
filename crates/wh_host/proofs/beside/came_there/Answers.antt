use Rattle.wh_host.proofs.BesideTurns.{came_ready, came_same, came_unready}
use Rattle.wh_host.proofs.beside.came_there.Goals as goal

pub returns-then-is_ready : goal.returns-then-is_ready
returns-then-is_ready c q =
    let ran = c.args.ran in
    (ran.charges, came_ready c.args.memory.now c.args.place ran.came ran.charges q c.in-Frame.need c.in-Frame.is c.if-is_ready.ensures)

pub returns-else-is_ready : goal.returns-else-is_ready
returns-else-is_ready c q =
    let ran = c.args.ran in
    (q, came_unready c.args.memory.now c.args.place ran.came ran.charges q c.in-Frame.need c.in-Frame.is c.if-is_ready.ensures)

pub returns-in_default : goal.returns-in_default
returns-in_default c q =
    let ran = c.args.ran in
    (q, came_same c.args.memory.now c.args.place ran.came ran.charges q c.in_default.not-Frame)
