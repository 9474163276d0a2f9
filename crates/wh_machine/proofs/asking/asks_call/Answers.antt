use Rattle.std.proofs.Common.{◌-◌, ℕ, length, arith}
use Rattle.wh_model.specs.Format.{call}
use Rattle.wh_control.proofs.Constructs.{at_now}
use Rattle.wh_machine.specs.Program.{parts_in}
use Rattle.wh_machine.proofs.Seeing.{host_looks}
use Rattle.wh_machine.proofs.Finding.{own_asks_nothing, before_call}
use Rattle.wh_machine.proofs.Hosted.{has_operands}
use Rattle.wh_machine.proofs.OwnCalls.{own_named}
use Rattle.wh_machine.proofs.ExecutingLemmas.{here}
use Rattle.wh_machine.proofs.asking.asks_call.Goals as goal

pub returns-then-index-program : goal.returns-then-index-program
returns-then-index-program g c =
    let r = c.requires.1 in
    let p = parts_in c.args.program.now in
    let low = c.if-index-program.true in
    let y : ℕ = c.args.func - length p.hosts in
    let now = at_now r.sound.stands.running (call c.args.func) (here r) in
    let own = own_named r.sound.stands.instance.program c.args.func now.op_type.0 now.op_type.1 (omega (arith, low)) in
    own_asks_nothing (λ need. ⊥) c.args.func y own.0 r own.1 (omega (arith, low))

pub host_reads-requires : goal.host_reads-requires
host_reads-requires g c =
    let r = c.requires.1 in
    let u = r.sound in
    has_operands c.host_at.result (before_call (parts_in c.args.program.now) c.args.stack.now c.requires.0 c.args.store.now (g.M.LinearMem.bytes c.args.memory.now) (g.M.LinearMem.limit c.args.memory.now) c.args.func c.host_at.result r c.host_at.ensures u.context u.inst u.out u.s u.a u.ws u.stands).1

pub returns : goal.returns
returns g c =
    let code = c.requires.0 in
    let r = c.requires.1 in
    let p = parts_in c.args.program.now in
    let m = c.args.stack.now in
    let k = c.args.store.now in
    let flat = g.M.LinearMem.bytes c.args.memory.now in
    let most = g.M.LinearMem.limit c.args.memory.now in
    host_looks c.host_at.result p m k flat most (call c.args.func) m.words c.host_reads.result (before_call p m code k flat most c.args.func c.host_at.result r c.host_at.ensures) c.host_reads.ensures
