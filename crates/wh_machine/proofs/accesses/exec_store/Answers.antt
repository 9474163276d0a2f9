use Rattle.std.proofs.Common.{◌+◌, ◌∷◌, ap, subst, ◌∙◌, length, arith}
use Rattle.wh_machine.proofs.ExecutingLemmas.{place_fits}
use Rattle.wh_machine.proofs.Accessing.{charged_turn, store_index, store_steps, store_stops, store_waits}
use Rattle.wh_machine.proofs.Finding.{rests_here, store_had}
use Rattle.wh_intops.proofs.Numerals.{length_bytes_of}
use Rattle.wh_model.specs.Execution.{Stores, bytes_of}
use Rattle.wh_model.specs.Validity.{store_type}
use Rattle.wh_model.specs.declared.memory.Got.TheVariants.{Value}
use Rattle.wh_machine.proofs.accesses.exec_store.Goals as goal

pub top-word-requires : goal.top-word-requires
top-word-requires g c = let l = ap length (store_index c.args.op c.args.align c.args.offset c.requires.3).3 in omega (arith, l)

pub second-requires : goal.second-requires
second-requires g c = let l = ap length (store_index c.args.op c.args.align c.args.offset c.requires.3).3 in omega (arith, l)

pub overflow_add-address : goal.overflow_add-address
overflow_add-address g c =
    let o = store_index c.args.op c.args.align c.args.offset c.requires.3 in
    let e = c.second.ensures o.0 o.1 o.2 o.3 in
    omega (arith, e, c.from.ensures, o.4, c.ranges.offset.fits)

pub pop-requires : goal.pop-requires
pop-requires g c = let l = ap length (store_index c.args.op c.args.align c.args.offset c.requires.3).3 in omega (arith, l)

pub pop-requires-in-Value : goal.pop-requires-in-Value
pop-requires-in-Value g c =
    let l = ap length (store_index c.args.op c.args.align c.args.offset c.requires.3).3 in
    let t = ap length c.pop.ensures.taken in
    omega (arith, l, t)

pub advance-requires : goal.advance-requires
advance-requires g c = place_fits c.requires.3

pub returns-in-Value-clause-executed : goal.returns-in-Value-clause-executed
returns-in-Value-clause-executed g c p code k r =
    let ready = g.M.LinearMem.ready c.args.memory.now in
    let flat = g.M.LinearMem.bytes c.args.memory.now in
    let flat2 = g.M.LinearMem.bytes c.write.new.memory in
    let x = c.pop.result in
    let i = c.pop-in-Value.result in
    let both = c.pop.ensures.taken ∙ ap (λ w. x ∷ w) c.pop-in-Value.ensures.taken in
    let at = c.second.result + c.from.result in
    let e = c.second.ensures x i c.pop-in-Value.new.self both in
    let top = c.top-word.ensures x c.pop.new.self c.pop.ensures.taken in
    charged_turn r ready c.advance.new.stack c.pop-in-Value.new.self k flat2 c.advance.ensures
    (store_steps c.args.op c.args.align c.args.offset r ready x i at c.pop-in-Value.new.self flat2 both (omega (arith, e, c.from.ensures))
    (subst (λ w. Stores ready flat at (bytes_of (store_type c.args.op).1 w) Value flat2) top c.in-Value.ensures.stores))

pub returns-in-Trap-clause-executed : goal.returns-in-Trap-clause-executed
returns-in-Trap-clause-executed g c p code k r =
    let f = c.from.ensures in
    store_stops c.args.op c.args.align c.args.offset r (g.M.LinearMem.ready c.args.memory.now) c.top-word.result c.second.result (c.second.result + c.from.result) c.args.stack.now (g.M.LinearMem.bytes c.write.new.memory) c.second.ensures (omega (arith, f)) c.in-Trap.ensures.stores

pub returns-in-NotReady-clause-executed : goal.returns-in-NotReady-clause-executed
returns-in-NotReady-clause-executed g c p code k r =
    let f = c.from.ensures in
    store_waits c.args.op c.args.align c.args.offset r (g.M.LinearMem.ready c.args.memory.now) c.top-word.result c.second.result (c.second.result + c.from.result) c.in-NotReady.need (g.M.LinearMem.bytes c.write.new.memory) c.second.ensures (omega (arith, f)) c.in-NotReady.ensures.stores

pub returns-in-Value-clause-found : goal.returns-in-Value-clause-found
returns-in-Value-clause-found g c p code k r =
    let f = c.from.ensures in
    let x = c.top-word.result in
    let width = (store_type c.args.op).1 in (
      rests_here r tt,
      store_had c.args.op c.args.align c.args.offset r (g.M.LinearMem.ready c.args.memory.now) c.second.result (c.second.result + c.from.result) (length (bytes_of width x)) c.second.ensures (omega (arith, f)) (length_bytes_of width x) c.in-Value.ensures.stores.2,
    )
