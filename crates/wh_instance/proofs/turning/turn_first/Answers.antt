use Rattle.std.proofs.Common.{ℕ, sym, subst}
use Rattle.wh_machine.specs.CallStates.{setting_of, call_state}
use Rattle.wh_instance.specs.Computed.{ComputesWithin}
use Rattle.wh_instance.proofs.Beginnings.{can_begin, has_begun, own_call, first_now}
use Rattle.wh_instance.proofs.turning.turn_first.Goals as goal

pub begin-requires : goal.begin-requires
begin-requires g c =
    let w = setting_of c.args.linked.now g.M.LinearMem.bytes g.M.LinearMem.ready g.M.LinearMem.keeps (g.M.LinearMem.limit c.args.memory.now) in
    let before = call_state c.args.machine.now c.args.store.now c.args.memory.now in
    let (inst, call, r, t, f) = c.requires in
    can_begin w before inst r c.args.func c.args.args.now f.invocation.type f.invocation.body call.args f.store (own_call w before inst call r c.args.func c.args.args.now t f)

pub compute-requires : goal.compute-requires
compute-requires g c =
    let w = setting_of c.args.linked.now g.M.LinearMem.bytes g.M.LinearMem.ready g.M.LinearMem.keeps (g.M.LinearMem.limit c.args.memory.now) in
    let before = call_state c.args.machine.now c.args.store.now c.args.memory.now in
    let mid = call_state c.begin.new.machine c.args.store.now c.args.memory.now in
    let (inst, call, r, t, f) = c.requires in
    has_begun w mid inst r c.args.func c.args.args.now f.invocation.type f.invocation.body call.args f.store (own_call w before inst call r c.args.func c.args.args.now t f) c.begin.ensures.begun c.begin.ensures.settled

pub returns-clause-turns : goal.returns-clause-turns
returns-clause-turns g c inst call r t given f =
    let w = setting_of c.args.linked.now g.M.LinearMem.bytes g.M.LinearMem.ready g.M.LinearMem.keeps (g.M.LinearMem.limit c.args.memory.now) in
    let before = call_state c.args.machine.now c.args.store.now c.args.memory.now in
    let mid = call_state c.begin.new.machine c.args.store.now c.args.memory.now in
    let after = call_state c.compute.new.machine c.compute.new.store c.compute.new.memory in
    let computes = subst (λ (fuel : ℕ). ComputesWithin w mid c.args.q fuel c.compute.result.0 c.compute.result.1 after) (sym given) c.compute.ensures.computes in
    first_now w inst c.args.q call r before after c.begin.new.machine c.args.func c.args.args.now t c.compute.result.1 c.compute.result.0 f c.begin.ensures.begun computes
