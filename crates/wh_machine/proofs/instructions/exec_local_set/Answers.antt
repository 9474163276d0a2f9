use Rattle.std.proofs.Common.{◌++◌, sym, ap, subst, ◌∙◌, ◌+◌, arith, map, refl}
use Rattle.wh_model.specs.Focus.{running}
use Rattle.wh_control.specs.ControlSteps.{goes_to}
use Rattle.wh_control.specs.Next.{Next}
use Rattle.wh_control.specs.Represents.{bits_of, operands_beneath}
use Rattle.wh_control.proofs.Branches.{lower}
use Rattle.wh_control.proofs.Room.{in_room}
use Rattle.wh_control.proofs.Constructs.{at_now}
use Rattle.wh_control.specs.Parts.{funcs_in}
use Rattle.wh_machine.proofs.Straight.{one}
use Rattle.wh_machine.specs.Executing.{calls_of}
use Rattle.wh_machine.proofs.ExecutingLemmas.{here, place_fits, charged_words, low_words}
use Rattle.wh_syntax.specs.declared.instr.Instr.TheVariants.{LocalSet}
use Rattle.wh_model.specs.Format.{local_set}
use Rattle.wh_machine.proofs.Locals.{local_needs, local_set_next}
use Rattle.wh_machine.proofs.instructions.exec_local_set.Goals as goal

pub overflow_add-place : goal.overflow_add-place
overflow_add-place c =
    let m = c.args.stack.now in
    let r = c.requires.1.ready in
    let u = r.sound in
    let n = u.stands.running in
    let at = at_now n (local_set c.args.local) (here r) in
    let k = local_needs n c.args.local at.op_type.0 at.op_type.1 in
    let low = low_words n u.a.operands m.words n.words in
    let room = in_room u.inst u.context c.requires.1.program.hosts (funcs_in c.requires.1.program) u.out (calls_of m) u.s (running u.s u.a u.ws) u.stands.instance.program (refl, m.frame, n) in
    omega (arith, k, low, room)

pub local_set-requires : goal.local_set-requires
local_set-requires c =
    let r = c.requires.1.ready in
    let u = r.sound in
    let n = u.stands.running in
    let at = at_now n (local_set c.args.local) (here r) in
    let k = local_needs n c.args.local at.op_type.0 at.op_type.1 in
    let o = one n at.op_type.0 at.below (at.types ∙ ap (λ xs. xs ++ at.below) at.op_type.2) in
    let low = low_words n o.vs (map bits_of (o.vs ++ operands_beneath u.a.labels) ++ lower u.a u.ws) refl in
    (o.x, _, o.words, omega (arith, k, low))

pub advance-requires : goal.advance-requires
advance-requires c = place_fits c.requires.1.ready

pub returns : goal.returns
returns c code =
    let m = c.args.stack.now in
    charged_words code m c.advance.new.stack c.local_set.new.words (LocalSet c.args.local) c.advance.ensures (λ p k flat most r cx inst out s a ws st.
    let n = st.running in
    let at = at_now n (local_set c.args.local) (here r) in
    let o = one n at.op_type.0 at.below (at.types ∙ ap (λ xs. xs ++ at.below) at.op_type.2) in
    subst (λ words. Next inst cx (funcs_in p) out (running s a ws) 1 (goes_to (calls_of m) m.frame words (m.frame.place + 1)) s) (sym (c.local_set.ensures o.x _ o.words))
    (local_set_next inst cx (funcs_in p) out (calls_of m) s m.frame a ws n c.args.local (here r) o.x _ o.words))
