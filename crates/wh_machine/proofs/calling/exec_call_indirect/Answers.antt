use Rattle.std.proofs.Common.{◌≡◌, ◌+◌, ◌-◌, ℕ, sym, ap, subst, ◌∙◌, arith, length, slice_get, Some, refl}
use Rattle.wh_model.specs.Format.{call_indirect}
use Rattle.wh_syntax.specs.declared.instr.Instr.TheVariants.{CallIndirect}
use Rattle.wh_control.proofs.Constructs.{at_now}
use Rattle.wh_control.proofs.Calling.{at_table, indirect_stops}
use Rattle.wh_control.specs.Parts.{funcs_in}
use Rattle.wh_machine.specs.Program.{parts_in}
use Rattle.wh_machine.specs.Entering.{pushed}
use Rattle.wh_machine.specs.Executing.{calls_of, IsReady, IsExec, FoundReady}
use Rattle.wh_machine.proofs.Finding.{found, rests_here, own_by_table_asks_nothing, back}
use Rattle.wh_machine.proofs.OwnCalls.{table_own}
use Rattle.wh_machine.proofs.ExecutingLemmas.{here, any_ready}
use Rattle.wh_machine.proofs.calling.exec_call_indirect.Goals as goal

pub pop-index-requires : goal.pop-index-requires
pop-index-requires g c =
    let r = c.requires.1 in
    let u = r.sound in
    let st = u.stands in
    let o = at_table u.context (funcs_in (parts_in c.args.program.now)) u.out (calls_of c.args.stack.now) c.args.stack.now.frame u.a u.ws st.running c.args.type_index (at_now st.running (call_indirect c.args.type_index) (here r)) in
    let z = ap length o.words in
    omega (arith, z)

pub returns-in-Outside-clause-executed : goal.returns-in-Outside-clause-executed
returns-in-Outside-clause-executed g c =
    let r = c.requires.1 in
    let m = c.args.stack.now in (
      (λ cx inst out s a ws st.
          (indirect_stops inst cx (funcs_in (parts_in c.args.program.now)) out (calls_of m) s m.frame a ws st.running c.args.type_index (here r) st.instance.program.types c.pop-index.result c.pop-index.new.self c.pop-index.ensures.taken).0 (ap (λ t. slice_get t c.pop-index.result) st.store.table ∙ ap (λ t. slice_get t c.pop-index.result) (sym c.deref.ensures.value) ∙ c.in-Outside.ensures)),
      refl,
      refl,
    )

pub returns-in-Empty-clause-executed : goal.returns-in-Empty-clause-executed
returns-in-Empty-clause-executed g c =
    let r = c.requires.1 in
    let m = c.args.stack.now in (
      (λ cx inst out s a ws st.
          (indirect_stops inst cx (funcs_in (parts_in c.args.program.now)) out (calls_of m) s m.frame a ws st.running c.args.type_index (here r) st.instance.program.types c.pop-index.result c.pop-index.new.self c.pop-index.ensures.taken).1 (ap (λ t. slice_get t c.pop-index.result) st.store.table ∙ ap (λ t. slice_get t c.pop-index.result) (sym c.deref.ensures.value) ∙ c.in-Empty.ensures)),
      refl,
      refl,
    )

pub returns-then-func-program-clause-executed : goal.returns-then-func-program-clause-executed
returns-then-func-program-clause-executed g c =
    let p = parts_in c.args.program.now in
    let k = c.args.store.now in
    let flat = g.M.LinearMem.bytes c.args.memory.now in
    let most = g.M.LinearMem.limit c.args.memory.now in
    let e = back c.args.stack.now c.pop-index.new.self c.pop-index.result c.pop-index.ensures.taken in
    subst (λ z. IsExec p (g.M.LinearMem.ready c.args.memory.now) z k flat most c.host_by_table.result c.host_by_table.new.stack c.host_by_table.new.store (g.M.LinearMem.bytes c.host_by_table.new.memory)) (sym e) c.host_by_table.ensures.executed

pub own_by_table-requires : goal.own_by_table-requires
own_by_table-requires g c =
    let p = parts_in c.args.program.now in
    let k = c.args.store.now in
    let flat = g.M.LinearMem.bytes c.args.memory.now in
    let most = g.M.LinearMem.limit c.args.memory.now in
    let e = back c.args.stack.now c.pop-index.new.self c.pop-index.result c.pop-index.ensures.taken in
    let entry = ap (λ t. slice_get t c.pop-index.result) (sym c.deref.ensures.value) ∙ c.in-Func.ensures in
    let same : c.in-Func.func ≡ length p.hosts + (c.in-Func.func - length p.hosts) = omega (arith, c.if-func-program.false) in
    (c.requires.0, k, flat, most, c.pop-index.result, subst (λ z. IsReady p c.requires.0 z k flat most (CallIndirect c.args.type_index)) e c.requires.1, entry ∙ ap (λ x. Some (Some x)) same)

pub returns-else-func-program-clause-executed : goal.returns-else-func-program-clause-executed
returns-else-func-program-clause-executed g c =
    let p = parts_in c.args.program.now in
    let m = c.args.stack.now in
    let k = c.args.store.now in
    let flat = g.M.LinearMem.bytes c.args.memory.now in
    let most = g.M.LinearMem.limit c.args.memory.now in
    let e = back m c.pop-index.new.self c.pop-index.result c.pop-index.ensures.taken in
    let entry = ap (λ t. slice_get t c.pop-index.result) (sym c.deref.ensures.value) ∙ c.in-Func.ensures in
    let same : c.in-Func.func ≡ length p.hosts + (c.in-Func.func - length p.hosts) = omega (arith, c.if-func-program.false) in
    subst (λ z. IsExec p (g.M.LinearMem.ready c.args.memory.now) z k flat most c.own_by_table.result c.own_by_table.new.stack k flat) (sym e)
    (any_ready p (g.M.LinearMem.ready c.args.memory.now) (pushed (record m { words = c.pop-index.new.self }) c.pop-index.result) k flat most c.own_by_table.result c.own_by_table.new.stack k flat
    (c.own_by_table.ensures c.requires.0 k flat most c.pop-index.result (subst (λ z. IsReady p c.requires.0 z k flat most (CallIndirect c.args.type_index)) e c.requires.1) (entry ∙ ap (λ x. Some (Some x)) same)))

pub returns-then-func-program-clause-found : goal.returns-then-func-program-clause-found
returns-then-func-program-clause-found g c =
    let p = parts_in c.args.program.now in
    let flat = g.M.LinearMem.bytes c.args.memory.now in
    let most = g.M.LinearMem.limit c.args.memory.now in
    let e = back c.args.stack.now c.pop-index.new.self c.pop-index.result c.pop-index.ensures.taken in
    subst (λ z. FoundReady p (g.M.LinearMem.ready c.args.memory.now) z c.args.store.now flat most c.host_by_table.result) (sym e) c.host_by_table.ensures.found

pub returns-else-func-program-clause-found : goal.returns-else-func-program-clause-found
returns-else-func-program-clause-found g c =
    let p = parts_in c.args.program.now in
    let m = c.args.stack.now in
    let k = c.args.store.now in
    let flat = g.M.LinearMem.bytes c.args.memory.now in
    let most = g.M.LinearMem.limit c.args.memory.now in
    let ready = g.M.LinearMem.ready c.args.memory.now in
    let w = c.pop-index.result in
    let e = back m c.pop-index.new.self w c.pop-index.ensures.taken in
    let entry = ap (λ t. slice_get t w) (sym c.deref.ensures.value) ∙ c.in-Func.ensures in
    let y : ℕ = c.in-Func.func - length p.hosts in
    let same : c.in-Func.func ≡ length p.hosts + y = omega (arith, c.if-func-program.false) in
    let r2 = subst (λ z. IsReady p c.requires.0 z k flat most (CallIndirect c.args.type_index)) e c.requires.1 in
    let own = table_own r2.sound.stands w y (entry ∙ ap (λ x. Some (Some x)) same) in
    subst (λ z. FoundReady p ready z k flat most c.own_by_table.result) (sym e)
    (found p ready (pushed (record m { words = c.pop-index.new.self }) w) k flat most c.own_by_table.result (rests_here r2 tt) (own_by_table_asks_nothing ready c.args.type_index w y own.0 r2 (entry ∙ ap (λ x. Some (Some x)) same) own.1))
