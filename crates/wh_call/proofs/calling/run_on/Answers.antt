use Rattle.std.proofs.Common.{refl, sym, subst}
use Rattle.wh_machine.specs.CallStates.{setting_of, call_state}
use Rattle.wh_call.specs.declared.calling.RunEnd.TheVariants.{Returned, Trapped, OutOfFuel, NotReady}
use Rattle.wh_call.proofs.Ending.{Answers, runs_to}
use Rattle.wh_call.proofs.calling.run_on.Goals as goal

pub returns-in-Done-clause-ends : goal.returns-in-Done-clause-ends
returns-in-Done-clause-ends g c =
    let w = setting_of c.args.linked.now g.M.LinearMem.bytes g.M.LinearMem.ready g.M.LinearMem.keeps (g.M.LinearMem.limit c.args.memory.now) in
    runs_to w (call_state c.args.machine.now c.args.store.now c.args.memory.now) c.args.fuel c.run-stepped.result.0 c.run-stepped.result.1 (Returned c.result.result) (call_state c.run-stepped.new.machine c.run-stepped.new.store c.run-stepped.new.memory) c.run-stepped.ensures.went
    (subst (λ z. Answers c.run-stepped.new.machine z (Returned c.result.result)) (sym c.in-Done.is) (c.result.result, c.result.ensures, refl))

pub returns-in-Trapped-clause-ends : goal.returns-in-Trapped-clause-ends
returns-in-Trapped-clause-ends g c =
    let w = setting_of c.args.linked.now g.M.LinearMem.bytes g.M.LinearMem.ready g.M.LinearMem.keeps (g.M.LinearMem.limit c.args.memory.now) in
    runs_to w (call_state c.args.machine.now c.args.store.now c.args.memory.now) c.args.fuel c.run-stepped.result.0 c.run-stepped.result.1 (Trapped c.in-Trapped.trap) (call_state c.run-stepped.new.machine c.run-stepped.new.store c.run-stepped.new.memory) c.run-stepped.ensures.went
    (subst (λ z. Answers c.run-stepped.new.machine z (Trapped c.in-Trapped.trap)) (sym c.in-Trapped.is) refl)

pub returns-in-Charged-clause-ends : goal.returns-in-Charged-clause-ends
returns-in-Charged-clause-ends g c =
    let w = setting_of c.args.linked.now g.M.LinearMem.bytes g.M.LinearMem.ready g.M.LinearMem.keeps (g.M.LinearMem.limit c.args.memory.now) in
    runs_to w (call_state c.args.machine.now c.args.store.now c.args.memory.now) c.args.fuel c.run-stepped.result.0 c.run-stepped.result.1 OutOfFuel (call_state c.run-stepped.new.machine c.run-stepped.new.store c.run-stepped.new.memory) c.run-stepped.ensures.went
    (subst (λ z. Answers c.run-stepped.new.machine z OutOfFuel) (sym c.in-Charged.is) refl)

pub returns-in-NotReady-clause-ends : goal.returns-in-NotReady-clause-ends
returns-in-NotReady-clause-ends g c =
    let w = setting_of c.args.linked.now g.M.LinearMem.bytes g.M.LinearMem.ready g.M.LinearMem.keeps (g.M.LinearMem.limit c.args.memory.now) in
    runs_to w (call_state c.args.machine.now c.args.store.now c.args.memory.now) c.args.fuel c.run-stepped.result.0 c.run-stepped.result.1 (NotReady c.in-NotReady.need) (call_state c.run-stepped.new.machine c.run-stepped.new.store c.run-stepped.new.memory) c.run-stepped.ensures.went
    (subst (λ z. Answers c.run-stepped.new.machine z (NotReady c.in-NotReady.need)) (sym c.in-NotReady.is) refl)
