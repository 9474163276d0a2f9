use Rattle.std.proofs.Common.{◌≡◌, ◌∷◌, ℕ, List, sym, ap, subst, ◌∙◌, arith, length, slice_get, refl}
use Rattle.wh_model.specs.Format.{call_indirect}
use Rattle.wh_model.specs.Execution.{host}
use Rattle.wh_control.proofs.Constructs.{at_now}
use Rattle.wh_control.proofs.Calling.{host_at, indirect_stops}
use Rattle.wh_control.specs.Parts.{funcs_in}
use Rattle.wh_machine.specs.Program.{parts_in}
use Rattle.wh_machine.specs.declared.machine.Stack.{Stack}
use Rattle.wh_machine.specs.Entering.{pushed}
use Rattle.wh_machine.specs.Executing.{calls_of, IsExec}
use Rattle.wh_machine.proofs.Finding.{rests_here, before_indirect, host_found}
use Rattle.wh_machine.proofs.Hosted.{has_operands, host_executed, host_waits, host_wants}
use Rattle.wh_machine.proofs.OwnCalls.{table_named, wanted_there}
use Rattle.wh_machine.proofs.ExecutingLemmas.{here, place_fits, words_fit}
use Rattle.wh_machine.proofs.calling.host_by_table.Goals as goal

-- the index is put back on the words that it was taken from
put_back : (m m2 : Stack) (w : ℕ) (words : List ℕ) → m2 ≡ m → words ≡ w ∷ m2.words → ◌≡◌ {A = Stack} (record m2 { words = words }) (pushed m w)
put_back m m2 w words e is = ap (λ ws. let x : Stack = record m2 { words = ws } in x) is ∙ ap (λ z. pushed z w) e

pub host_has_type-requires : goal.host_has_type-requires
host_has_type-requires g c =
    let y = c.args.type_index in
    let r = c.requires.2 in
    let st = r.sound.stands in
    let ty = (at_now st.running (call_indirect y) (here r)).op_type in
    wanted_there st y ty.1 ty.3

pub returns-then-not-host_has_type-clause-executed : goal.returns-then-not-host_has_type-clause-executed
returns-then-not-host_has_type-clause-executed g c =
    let x = c.requires.1 in
    let r = c.requires.2 in
    let p = parts_in c.args.program.now in
    let m = c.args.stack.now in
    let y = c.args.type_index in
    let w = c.args.index in
    let pm = pushed m w in (
      (λ cx inst out s a ws st.
          (indirect_stops inst cx (funcs_in p) out (calls_of pm) s m.frame a ws st.running y (here r) st.instance.program.types w m.words refl).2 x (host c.args.func) (table_named st w x c.requires.3)
          (host_at cx inst p.hosts (funcs_in p) x c.args.func st.instance.program c.requires.4)
          (λ e. c.if-not-host_has_type.ensures (ap (λ ts. slice_get ts y) (sym st.instance.types) ∙ e))),
      refl,
      refl,
    )

pub call_host-requires-clause-operands : goal.call_host-requires-clause-operands
call_host-requires-clause-operands g c =
    let p = parts_in c.args.program.now in
    let m = c.args.stack.now in
    let y = c.args.type_index in
    let w = c.args.index in
    let r = c.requires.2 in
    let u = r.sound in
    let st = u.stands in
    has_operands c.args.func (before_indirect p m c.requires.0 c.args.store.now (g.M.LinearMem.bytes c.args.memory.now) (g.M.LinearMem.limit c.args.memory.now) w c.requires.1 y c.args.func r c.requires.3 c.requires.4 c.if-not-host_has_type.ensures u.context u.inst u.out u.s u.a u.ws st).1

pub call_host-requires-clause-place : goal.call_host-requires-clause-place
call_host-requires-clause-place g c = place_fits c.requires.2

pub push-requires : goal.push-requires
push-requires g c =
    let same = host_waits c.args.func c.in-NotReady.need _ _ c.args.stack.now c.args.store.now c.call_host.new.stack c.call_host.new.store c.in-NotReady.ensures.executed in
    let k = words_fit c.requires.2.sound.stands in
    let n = ap (λ (z : Stack). length z.words) same.0 in
    omega (arith, k, n)

pub returns-in-NotReady-clause-executed : goal.returns-in-NotReady-clause-executed
returns-in-NotReady-clause-executed g c =
    let code = c.requires.0 in
    let x = c.requires.1 in
    let r = c.requires.2 in
    let entry = c.requires.3 in
    let at = c.requires.4 in
    let p = parts_in c.args.program.now in
    let m = c.args.stack.now in
    let k = c.args.store.now in
    let w = c.args.index in
    let y = c.args.type_index in
    let flat = g.M.LinearMem.bytes c.args.memory.now in
    let most = g.M.LinearMem.limit c.args.memory.now in
    let need = c.in-NotReady.need in
    let h = c.in-NotReady.ensures.executed in
    let same = host_waits c.args.func need (g.M.LinearMem.ready c.args.memory.now) flat m k c.call_host.new.stack c.call_host.new.store h in (
      put_back m c.call_host.new.stack w c.push.new.self same.0 c.push.ensures,
      same.1,
      c.call_host.ensures.bytes,
      host_wants c.args.func p (g.M.LinearMem.ready c.args.memory.now) (pushed m w) k flat most (call_indirect y) m.words c.call_host.new.stack c.call_host.new.store need (before_indirect p m code k flat most w x y c.args.func r entry at c.if-not-host_has_type.ensures) h,
      same.2,
    )

pub returns-in_default : goal.returns-in_default
returns-in_default g c = record {
  executed =
      let r = c.requires.2 in
      let p = parts_in c.args.program.now in
      let m = c.args.stack.now in
      let k = c.args.store.now in
      let w = c.args.index in
      let y = c.args.type_index in
      let flat = g.M.LinearMem.bytes c.args.memory.now in
      let most = g.M.LinearMem.limit c.args.memory.now in
      subst (λ b. IsExec p (g.M.LinearMem.ready c.args.memory.now) (pushed m w) k flat most c.call_host.result c.call_host.new.stack c.call_host.new.store b) (sym c.call_host.ensures.bytes)
      (host_executed c.args.func c.call_host.result p (g.M.LinearMem.ready c.args.memory.now) (pushed m w) k flat most (call_indirect y) m.words c.call_host.new.stack c.call_host.new.store r.sound
      (before_indirect p m c.requires.0 k flat most w c.requires.1 y c.args.func r c.requires.3 c.requires.4 c.if-not-host_has_type.ensures) c.call_host.ensures.executed c.in_default.not-NotReady);
  found =
      let r = c.requires.2 in
      let p = parts_in c.args.program.now in
      let m = c.args.stack.now in
      let k = c.args.store.now in
      let w = c.args.index in
      let y = c.args.type_index in
      let flat = g.M.LinearMem.bytes c.args.memory.now in
      let most = g.M.LinearMem.limit c.args.memory.now in
      host_found c.args.func c.call_host.result p (g.M.LinearMem.ready c.args.memory.now) (pushed m w) k flat most (call_indirect y) m.words c.call_host.new.stack c.call_host.new.store (rests_here r tt)
      (before_indirect p m c.requires.0 k flat most w c.requires.1 y c.args.func r c.requires.3 c.requires.4 c.if-not-host_has_type.ensures) c.call_host.ensures.executed;
  keeps = c.call_host.ensures.keeps;
  waits = c.call_host.ensures.waits;
}
