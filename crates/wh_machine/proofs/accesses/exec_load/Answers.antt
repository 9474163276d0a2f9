use Rattle.std.proofs.Common.{◌+◌, ap, sym, subst, length, arith}
use Rattle.wh_machine.proofs.ExecutingLemmas.{place_fits}
use Rattle.wh_machine.proofs.Accessing.{StepsTo, charged_turn, load_index, load_steps, load_stops, load_waits}
use Rattle.wh_machine.proofs.Finding.{rests_here, load_had}
use Rattle.wh_machine.proofs.accesses.exec_load.Goals as goal

pub top-requires : goal.top-requires
top-requires g c = let l = ap length (load_index c.args.op c.args.align c.args.offset c.requires.3).2 in omega (arith, l)

pub overflow_add-address : goal.overflow_add-address
overflow_add-address g c =
    let o = load_index c.args.op c.args.align c.args.offset c.requires.3 in
    let e = c.top.ensures o.0 o.1 o.2 in
    omega (arith, e, c.from.ensures, o.3, c.ranges.offset.fits)

pub pop-requires : goal.pop-requires
pop-requires g c = let l = ap length (load_index c.args.op c.args.align c.args.offset c.requires.3).2 in omega (arith, l)

pub advance-requires : goal.advance-requires
advance-requires g c = place_fits c.requires.3

pub returns-in-Value-clause-executed : goal.returns-in-Value-clause-executed
returns-in-Value-clause-executed g c p code k r =
    let ready = g.M.LinearMem.ready c.args.memory.now in
    let flat2 = g.M.LinearMem.bytes c.read.new.memory in
    let e = c.top.ensures c.pop.result c.pop.new.self c.pop.ensures.taken in
    let f = c.from.ensures in
    charged_turn r ready c.advance.new.stack c.push.new.self k flat2 c.advance.ensures
    (subst (λ words. StepsTo r words k flat2) (sym c.push.ensures)
    (load_steps c.args.op c.args.align c.args.offset r ready c.pop.result (c.top.result + c.from.result) c.in-Value.number c.pop.new.self flat2 c.pop.ensures.taken (omega (arith, e, f)) c.in-Value.ensures.reads c.in-Value.ensures.bytes))

pub returns-in-Trap-clause-executed : goal.returns-in-Trap-clause-executed
returns-in-Trap-clause-executed g c p code k r =
    let f = c.from.ensures in
    load_stops c.args.op c.args.align c.args.offset r (g.M.LinearMem.ready c.args.memory.now) c.top.result (c.top.result + c.from.result) c.args.stack.now (g.M.LinearMem.bytes c.read.new.memory) c.top.ensures (omega (arith, f)) c.in-Trap.ensures.reads c.in-Trap.ensures.bytes

pub returns-in-NotReady-clause-executed : goal.returns-in-NotReady-clause-executed
returns-in-NotReady-clause-executed g c p code k r =
    let f = c.from.ensures in
    load_waits c.args.op c.args.align c.args.offset r (g.M.LinearMem.ready c.args.memory.now) c.top.result (c.top.result + c.from.result) c.in-NotReady.need (g.M.LinearMem.bytes c.read.new.memory) c.top.ensures (omega (arith, f)) c.in-NotReady.ensures.reads c.in-NotReady.ensures.bytes

pub returns-in-Value-clause-found : goal.returns-in-Value-clause-found
returns-in-Value-clause-found g c p code k r =
    let f = c.from.ensures in
    (rests_here r tt, load_had c.args.op c.args.align c.args.offset r (g.M.LinearMem.ready c.args.memory.now) c.top.result (c.top.result + c.from.result) c.top.ensures (omega (arith, f)) c.in-Value.ensures.reads.3)
