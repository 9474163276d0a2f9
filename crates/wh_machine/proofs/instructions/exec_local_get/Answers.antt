use Rattle.std.proofs.Common.{◌∷◌, sym, subst, ◌+◌, arith, refl}
use Rattle.wh_model.specs.Focus.{running}
use Rattle.wh_control.specs.ControlSteps.{goes_to}
use Rattle.wh_control.specs.Next.{Next}
use Rattle.wh_control.specs.Represents.{bits_of}
use Rattle.wh_control.proofs.Room.{in_room}
use Rattle.wh_control.proofs.Constructs.{at_now}
use Rattle.wh_control.specs.Parts.{funcs_in}
use Rattle.wh_machine.specs.Executing.{calls_of}
use Rattle.wh_machine.proofs.ExecutingLemmas.{here, place_fits, charged_words, room_after, low_words}
use Rattle.wh_syntax.specs.declared.instr.Instr.TheVariants.{LocalGet}
use Rattle.wh_model.specs.Format.{local_get}
use Rattle.wh_machine.proofs.Locals.{local_needs, at_local, local_get_next}
use Rattle.wh_machine.proofs.instructions.exec_local_get.Goals as goal

pub overflow_add-place : goal.overflow_add-place
overflow_add-place c =
    let m = c.args.stack.now in
    let r = c.requires.1.ready in
    let u = r.sound in
    let n = u.stands.running in
    let at = at_now n (local_get c.args.local) (here r) in
    let k = local_needs n c.args.local at.op_type.0 at.op_type.1 in
    let low = low_words n u.a.operands m.words n.words in
    let room = in_room u.inst u.context c.requires.1.program.hosts (funcs_in c.requires.1.program) u.out (calls_of m) u.s (running u.s u.a u.ws) u.stands.instance.program (refl, m.frame, n) in
    omega (arith, k, low, room)

pub local_get-requires-clause-there : goal.local_get-requires-clause-there
local_get-requires-clause-there c =
    let r = c.requires.1.ready in
    let u = r.sound in
    let n = u.stands.running in
    let at = at_now n (local_get c.args.local) (here r) in
    let k = local_needs n c.args.local at.op_type.0 at.op_type.1 in
    let low = low_words n u.a.operands c.args.stack.now.words n.words in
    omega (arith, k, low)

pub local_get-requires-clause-room : goal.local_get-requires-clause-room
local_get-requires-clause-room c =
    let m = c.args.stack.now in
    let r = c.requires.1.ready in
    let u = r.sound in
    let n = u.stands.running in
    let at = at_now n (local_get c.args.local) (here r) in
    let l = at_local n c.args.local at.op_type.0 at.op_type.1 in
    let next = local_get_next u.inst u.context (funcs_in c.requires.1.program) u.out (calls_of m) u.s m.frame u.a u.ws n c.args.local (here r) (bits_of l.v) l.word in
    let room = room_after (goes_to (calls_of m) m.frame (bits_of l.v ∷ m.words) (m.frame.place + 1)) u.stands next in
    omega (arith, room)

pub advance-requires : goal.advance-requires
advance-requires c = place_fits c.requires.1.ready

pub returns : goal.returns
returns c code =
    let m = c.args.stack.now in
    let got = c.local_get.ensures in
    charged_words code m c.advance.new.stack c.local_get.new.words (LocalGet c.args.local) c.advance.ensures (λ p k flat most r cx inst out s a ws st.
    subst (λ words. Next inst cx (funcs_in p) out (running s a ws) 1 (goes_to (calls_of m) m.frame words (m.frame.place + 1)) s) (sym got.2)
    (local_get_next inst cx (funcs_in p) out (calls_of m) s m.frame a ws st.running c.args.local (here r) got.0 got.1))
