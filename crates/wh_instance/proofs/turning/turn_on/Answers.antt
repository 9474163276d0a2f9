use Rattle.std.proofs.Common.{◌*◌, ◌-◌, arith, rules}
use Rattle.wh_machine.specs.CallStates.{setting_of, call_state}
use Rattle.wh_instance.proofs.Beginnings.{on_now}
use Rattle.wh_instance.proofs.turning.turn_on.Goals as goal

pub compute_burst-requires : goal.compute_burst-requires
compute_burst-requires g c = search rules

pub returns-clause-turns : goal.returns-clause-turns
returns-clause-turns g c inst call r t taken given k =
    let w = setting_of c.args.linked.now g.M.LinearMem.bytes g.M.LinearMem.ready g.M.LinearMem.keeps (g.M.LinearMem.limit c.args.memory.now) in
    let before = call_state c.args.machine.now c.args.store.now c.args.memory.now in
    let after = call_state c.compute_burst.new.machine c.compute_burst.new.store c.compute_burst.new.memory in
    let fits = c.requires.within in
    on_now w inst (c.compute_burst.result.turns * c.args.burst.quantum) (c.args.fuel - c.args.charges) call r before after t c.compute_burst.result.charges c.compute_burst.result.came k (omega (arith, taken, given, fits)) c.compute_burst.ensures.computes
