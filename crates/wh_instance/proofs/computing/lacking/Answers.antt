use Rattle.wh_machine.specs.CallStates.{setting_of, call_state}
use Rattle.wh_instance.proofs.Coming.{asked_alone, asked_none}
use Rattle.wh_instance.proofs.computing.lacking.Goals as goal

pub returns-in_default-clause-none : goal.returns-in_default-clause-none
returns-in_default-clause-none g c =
    let w = setting_of c.args.linked.now g.M.LinearMem.bytes g.M.LinearMem.ready g.M.LinearMem.keeps (g.M.LinearMem.limit c.args.memory.now) in
    asked_none w (call_state c.args.machine.now c.args.store.now c.args.memory.now) c.in_default.ensures.none

pub returns-then-is_ready-clause-none : goal.returns-then-is_ready-clause-none
returns-then-is_ready-clause-none g c =
    let w = setting_of c.args.linked.now g.M.LinearMem.bytes g.M.LinearMem.ready g.M.LinearMem.keeps (g.M.LinearMem.limit c.args.memory.now) in
    asked_alone w (call_state c.args.machine.now c.args.store.now c.args.memory.now) c.in-Some.need c.in-Some.ensures.some c.if-is_ready.ensures
