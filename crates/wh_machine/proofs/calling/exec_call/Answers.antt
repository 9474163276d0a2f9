use Rattle.std.proofs.Common.{◌-◌, ℕ, sym, subst, arith, length, refl}
use Rattle.wh_model.specs.Format.{call}
use Rattle.wh_control.specs.Represents.{RepresentsCalls}
use Rattle.wh_control.specs.ControlSteps.{entered}
use Rattle.wh_control.proofs.Constructs.{at_now}
use Rattle.wh_control.proofs.Calling.{call_next, call_traps, call_room}
use Rattle.wh_control.specs.Parts.{funcs_in}
use Rattle.wh_machine.specs.Program.{parts_in}
use Rattle.wh_machine.specs.Executing.{calls_of, IsExec}
use Rattle.wh_machine.proofs.Finding.{rests_here, own_asks_nothing, before_call, host_found}
use Rattle.wh_machine.proofs.Hosted.{has_operands, call_executed}
use Rattle.wh_machine.proofs.OwnCalls.{own_named, entered_room}
use Rattle.wh_machine.proofs.ExecutingLemmas.{here, place_fits, one_step, room_after}
use Rattle.wh_machine.proofs.calling.exec_call.Goals as goal

pub host_at-requires : goal.host_at-requires
host_at-requires g c = c.if-index-imported.true

pub call_host-requires-clause-operands : goal.call_host-requires-clause-operands
call_host-requires-clause-operands g c =
    let r = c.requires.1 in
    let u = r.sound in
    has_operands c.host_at.result (before_call (parts_in c.args.program.now) c.args.stack.now c.requires.0 c.args.store.now (g.M.LinearMem.bytes c.args.memory.now) (g.M.LinearMem.limit c.args.memory.now) c.args.func c.host_at.result r c.host_at.ensures u.context u.inst u.out u.s u.a u.ws u.stands).1

pub call_host-requires-clause-place : goal.call_host-requires-clause-place
call_host-requires-clause-place g c = place_fits c.requires.1

pub returns-then-index-imported-clause-executed : goal.returns-then-index-imported-clause-executed
returns-then-index-imported-clause-executed g c =
    let r = c.requires.1 in
    let p = parts_in c.args.program.now in
    let m = c.args.stack.now in
    let k = c.args.store.now in
    let flat = g.M.LinearMem.bytes c.args.memory.now in
    let most = g.M.LinearMem.limit c.args.memory.now in
    subst (λ b. IsExec p (g.M.LinearMem.ready c.args.memory.now) m k flat most c.call_host.result c.call_host.new.stack c.call_host.new.store b) (sym c.call_host.ensures.bytes)
    (call_executed c.host_at.result c.call_host.result p (g.M.LinearMem.ready c.args.memory.now) m k flat most (call c.args.func) c.call_host.new.stack c.call_host.new.store r.sound
    (before_call p m c.requires.0 k flat most c.args.func c.host_at.result r c.host_at.ensures) c.call_host.ensures.executed)

pub enter_own-requires-clause-there : goal.enter_own-requires-clause-there
enter_own-requires-clause-there g c =
    let r = c.requires.1 in
    let st = r.sound.stands in
    let at = at_now st.running (call c.args.func) (here r) in
    own_named st.instance.program c.args.func at.op_type.0 at.op_type.1 (omega (arith, c.if-index-imported.false))

pub enter_own-requires-clause-params : goal.enter_own-requires-clause-params
enter_own-requires-clause-params g c h at =
    let r = c.requires.1 in
    let st = r.sound.stands in
    call_room st.instance.program st.running c.args.func (c.args.func - length c.args.program.now.hosts.now) h (here r) at (omega (arith, c.if-index-imported.false))

pub enter_own-requires-clause-room : goal.enter_own-requires-clause-room
enter_own-requires-clause-room g c h at shallow =
    let m = c.args.stack.now in
    let r = c.requires.1 in
    let u = r.sound in
    let st = u.stands in
    let low = c.if-index-imported.false in
    let y : ℕ = c.args.func - length c.args.program.now.hosts.now in
    let next = call_next u.context u.inst c.args.program.now.hosts.now (funcs_in (parts_in c.args.program.now)) u.out (calls_of m) u.s m.frame u.a u.ws st.instance.program st.running c.args.func y h (here r) at (omega (arith, low)) shallow in
    entered_room (calls_of m) m.frame m.words y (length h.type.params) (length h.body.locals) (room_after (entered (calls_of m) m.frame m.words y (length h.type.params) (length h.body.locals)) st next)

pub enter_own-requires-clause-place : goal.enter_own-requires-clause-place
enter_own-requires-clause-place g c = place_fits c.requires.1

pub returns-then-enter_own-clause-executed : goal.returns-then-enter_own-clause-executed
returns-then-enter_own-clause-executed g c =
    let r = c.requires.1 in
    let p = parts_in c.args.program.now in
    let m = c.args.stack.now in
    let low = c.if-index-imported.false in
    let y : ℕ = c.args.func - length p.hosts in
    let e = c.if-enter_own.ensures in
    let own = own_named r.sound.stands.instance.program c.args.func (at_now r.sound.stands.running (call c.args.func) (here r)).op_type.0 (at_now r.sound.stands.running (call c.args.func) (here r)).op_type.1 (omega (arith, low)) in (
      (λ cx inst out s a ws st.
          let next = call_next cx inst p.hosts (funcs_in p) out (calls_of m) s m.frame a ws st.instance.program st.running c.args.func y own.0 (here r) own.1 (omega (arith, low)) e.0 in
          (s, next.0, one_step 1 next.1, subst (λ x. RepresentsCalls cx (funcs_in p) out x s next.0) (sym (e.1 own.0 own.1)) next.2, st.store)),
      λ z. cc,
    )

pub returns-clause-executed : goal.returns-clause-executed
returns-clause-executed g c =
    let r = c.requires.1 in
    let p = parts_in c.args.program.now in
    let m = c.args.stack.now in
    let low = c.if-index-imported.false in
    let y : ℕ = c.args.func - length p.hosts in
    let own = own_named r.sound.stands.instance.program c.args.func (at_now r.sound.stands.running (call c.args.func) (here r)).op_type.0 (at_now r.sound.stands.running (call c.args.func) (here r)).op_type.1 (omega (arith, low)) in
    ((λ cx inst out s a ws st. call_traps cx inst p.hosts (funcs_in p) out (calls_of m) s m.frame a ws st.instance.program st.running c.args.func y own.0 (here r) own.1 (omega (arith, low)) c.if-enter_own.ensures.0), refl, refl)

pub returns-then-index-imported-clause-found : goal.returns-then-index-imported-clause-found
returns-then-index-imported-clause-found g c =
    let code = c.requires.0 in
    let r = c.requires.1 in
    let p = parts_in c.args.program.now in
    let m = c.args.stack.now in
    let k = c.args.store.now in
    let flat = g.M.LinearMem.bytes c.args.memory.now in
    let most = g.M.LinearMem.limit c.args.memory.now in
    host_found c.host_at.result c.call_host.result p (g.M.LinearMem.ready c.args.memory.now) m k flat most (call c.args.func) m.words c.call_host.new.stack c.call_host.new.store (rests_here r tt) (before_call p m code k flat most c.args.func c.host_at.result r c.host_at.ensures) c.call_host.ensures.executed

pub returns-then-enter_own-clause-found : goal.returns-then-enter_own-clause-found
returns-then-enter_own-clause-found g c =
    let r = c.requires.1 in
    let p = parts_in c.args.program.now in
    let low = c.if-index-imported.false in
    let y : ℕ = c.args.func - length p.hosts in
    let own = own_named r.sound.stands.instance.program c.args.func (at_now r.sound.stands.running (call c.args.func) (here r)).op_type.0 (at_now r.sound.stands.running (call c.args.func) (here r)).op_type.1 (omega (arith, low)) in
    (rests_here r tt, own_asks_nothing (g.M.LinearMem.ready c.args.memory.now) c.args.func y own.0 r own.1 (omega (arith, low)))
