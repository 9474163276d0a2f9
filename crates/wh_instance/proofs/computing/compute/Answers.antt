use Rattle.wh_machine.specs.CallStates.{setting_of, call_state}
use Rattle.wh_instance.proofs.Coming.{came_returned, came_trapped, came_to_wait, taken, still_standing, came_to_fuel, came_to_frame, came_to_again}
use Rattle.std.proofs.Common.{ℕ, subst, rules}
use Rattle.wh_instance.specs.Computed.{AsksUnready, AsksReady}
use Rattle.wh_instance.proofs.computing.compute.Goals as goal

pub returns-in-Returned-clause-computes : goal.returns-in-Returned-clause-computes
returns-in-Returned-clause-computes g c = search (rules, came_returned)

pub returns-in-Trapped-clause-computes : goal.returns-in-Trapped-clause-computes
returns-in-Trapped-clause-computes g c = search (rules, came_trapped)

pub returns-in-NotReady-clause-computes : goal.returns-in-NotReady-clause-computes
returns-in-NotReady-clause-computes g c = search (rules, came_to_wait)

pub returns-then-used-left-clause-computes : goal.returns-then-used-left-clause-computes
returns-then-used-left-clause-computes g c = search (rules, came_to_fuel, taken)

pub lacking-requires : goal.lacking-requires
lacking-requires g c =
    let w = setting_of c.args.linked.now g.M.LinearMem.bytes g.M.LinearMem.ready g.M.LinearMem.keeps (g.M.LinearMem.limit c.args.memory.now) in
    let r = c.run_on-end in
    let before = call_state c.args.machine.now c.args.store.now c.args.memory.now in
    let after = call_state r.new.machine r.new.store r.new.memory in
    let limit = g.met.M.LinearMem.keeps_limit c.args.memory.now r.new.memory r.ensures.keeps in
    rw limit (still_standing w before after c.lesser.result r.result.1 (taken w before after c.lesser.result r.result.1 r.result.0 r.ensures.ends c.in-OutOfFuel.is) c.requires)

pub returns-in-Some-clause-computes : goal.returns-in-Some-clause-computes
returns-in-Some-clause-computes g c =
    let w = setting_of c.args.linked.now g.M.LinearMem.bytes g.M.LinearMem.ready g.M.LinearMem.keeps (g.M.LinearMem.limit c.args.memory.now) in
    let r = c.run_on-end in
    let before = call_state c.args.machine.now c.args.store.now c.args.memory.now in
    let after = call_state r.new.machine r.new.store r.new.memory in
    let limit = g.met.M.LinearMem.keeps_limit c.args.memory.now r.new.memory r.ensures.keeps in
    let asks = subst (λ (n : ℕ). AsksUnready (setting_of c.args.linked.now g.M.LinearMem.bytes g.M.LinearMem.ready g.M.LinearMem.keeps n) after c.in-Some.need) limit c.in-Some.ensures.some in
    came_to_frame w before after c.lesser.result c.args.q c.args.left r.result.1 c.in-Some.need c.lesser.ensures (taken w before after c.lesser.result r.result.1 r.result.0 r.ensures.ends c.in-OutOfFuel.is) c.if-used-left.false asks

pub returns-in-None-clause-computes : goal.returns-in-None-clause-computes
returns-in-None-clause-computes g c =
    let w = setting_of c.args.linked.now g.M.LinearMem.bytes g.M.LinearMem.ready g.M.LinearMem.keeps (g.M.LinearMem.limit c.args.memory.now) in
    let r = c.run_on-end in
    let before = call_state c.args.machine.now c.args.store.now c.args.memory.now in
    let after = call_state r.new.machine r.new.store r.new.memory in
    let limit = g.met.M.LinearMem.keeps_limit c.args.memory.now r.new.memory r.ensures.keeps in
    let asks = subst (λ (n : ℕ). AsksReady (setting_of c.args.linked.now g.M.LinearMem.bytes g.M.LinearMem.ready g.M.LinearMem.keeps n) after) limit c.in-None.ensures.none in
    came_to_again w before after c.lesser.result c.args.q c.args.left r.result.1 c.lesser.ensures (taken w before after c.lesser.result r.result.1 r.result.0 r.ensures.ends c.in-OutOfFuel.is) c.if-used-left.false asks
