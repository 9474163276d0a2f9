use Rattle.std.proofs.Common.{sym, subst, ◌+◌}
use Rattle.wh_model.specs.Focus.{running}
use Rattle.wh_control.specs.ControlSteps.{goes_to}
use Rattle.wh_control.specs.Next.{Next}
use Rattle.wh_control.proofs.Constructs.{at_now}
use Rattle.wh_control.specs.Parts.{funcs_in}
use Rattle.wh_machine.specs.Executing.{calls_of}
use Rattle.wh_machine.proofs.ExecutingLemmas.{here, charged_words}
use Rattle.wh_syntax.specs.declared.instr.Instr.TheVariants.{Binary}
use Rattle.wh_model.specs.Format.{binary as binary_op}
use Rattle.wh_machine.proofs.Straight.{binary_needs, binary_next}
use Rattle.wh_machine.proofs.Totals.{never_traps}
use Rattle.wh_machine.proofs.instructions.exec_total.Goals as goal

pub binary-requires : goal.binary-requires
binary-requires c =
    let r = c.requires.next.1.ready in
    let n = r.sound.stands.running in
    let o = binary_needs n c.args.width c.args.op (at_now n (binary_op c.args.width c.args.op) (here r)) in
    (o.y, o.x, _, o.words, o.y_fits, o.x_fits)

pub advance_to-requires : goal.advance_to-requires
advance_to-requires c = c.requires.place

pub returns : goal.returns
returns c code =
    let m = c.args.stack.now in
    charged_words code m c.advance_to.new.stack c.binary.new.words (Binary c.args.width c.args.op) c.advance_to.ensures (λ p k flat most r cx inst out s a ws st.
    let n = st.running in
    let o = binary_needs n c.args.width c.args.op (at_now n (binary_op c.args.width c.args.op) (here r)) in
    let u = c.in-Ok.ensures.ok o.y o.x _ o.words in
    subst (λ words. Next inst cx (funcs_in p) out (running s a ws) 1 (goes_to (calls_of m) m.frame words (m.frame.place + 1)) s) (sym u.1)
    ((binary_next inst cx (funcs_in p) out (calls_of m) s m.frame a ws n c.args.width c.args.op (here r) o.y o.x _ o.words).0 u.0 u.2 u.3))

pub unreachable-requires : goal.unreachable-requires
unreachable-requires c =
    let r = c.requires.next.1.ready in
    let n = r.sound.stands.running in
    let o = binary_needs n c.args.width c.args.op (at_now n (binary_op c.args.width c.args.op) (here r)) in
    never_traps c.args.width c.args.op o.x o.y c.in-Err.field-0 c.requires.total (c.in-Err.ensures.err o.y o.x _ o.words)
