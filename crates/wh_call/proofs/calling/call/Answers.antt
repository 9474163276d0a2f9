use Rattle.wh_control.specs.Represents.{result_of}
use Rattle.wh_call.proofs.calling.call.Goals as goal

pub run_on-requires : goal.run_on-requires
run_on-requires g c =
    let r = c.requires in
    let b = c.begin.ensures.begun c.args.store.now (g.M.LinearMem.bytes c.args.memory.now) (g.M.LinearMem.limit c.args.memory.now) r.context r.inst r.s r.type r.body r.vs r.around r.suits in
    record { out = result_of r.type; inst = r.inst; cfg = b.0; stands = b.2; settled = c.begin.ensures.settled }

pub returns-clause-ends : goal.returns-clause-ends
returns-clause-ends g c cx inst s type body vs st u =
    let b = c.begin.ensures.begun c.args.store.now (g.M.LinearMem.bytes c.args.memory.now) (g.M.LinearMem.limit c.args.memory.now) cx inst s type body vs st u in
    let e = c.run_on.ensures.ends (result_of type) inst b.0 b.2 in
    (b.0, b.1, e.0, e.1, e.2)
