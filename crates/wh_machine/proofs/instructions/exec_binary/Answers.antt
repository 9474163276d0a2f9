use Rattle.std.proofs.Common.{sym, subst, ◌+◌}
use Rattle.wh_model.specs.Focus.{running}
use Rattle.wh_control.specs.ControlSteps.{goes_to}
use Rattle.wh_control.specs.Next.{Next}
use Rattle.wh_control.proofs.Constructs.{at_now}
use Rattle.wh_control.specs.Parts.{funcs_in}
use Rattle.wh_machine.specs.Executing.{calls_of}
use Rattle.wh_machine.proofs.ExecutingLemmas.{here, place_fits, charged_words, stops_alone}
use Rattle.wh_syntax.specs.declared.instr.Instr.TheVariants.{Binary}
use Rattle.wh_model.specs.Format.{binary as binary_op}
use Rattle.wh_machine.proofs.Straight.{binary_needs, binary_next}
use Rattle.wh_machine.proofs.instructions.exec_binary.Goals as goal

pub binary-requires : goal.binary-requires
binary-requires c =
    let r = c.requires.1.ready in
    let n = r.sound.stands.running in
    let o = binary_needs n c.args.width c.args.op (at_now n (binary_op c.args.width c.args.op) (here r)) in
    (o.y, o.x, _, o.words, o.y_fits, o.x_fits)

pub advance-requires : goal.advance-requires
advance-requires c = place_fits c.requires.1.ready

pub returns-in-Ok : goal.returns-in-Ok
returns-in-Ok c code =
    let m = c.args.stack.now in
    charged_words code m c.advance.new.stack c.binary.new.words (Binary c.args.width c.args.op) c.advance.ensures (λ p k flat most r cx inst out s a ws st.
    let n = st.running in
    let o = binary_needs n c.args.width c.args.op (at_now n (binary_op c.args.width c.args.op) (here r)) in
    let u = c.in-Ok.ensures.ok o.y o.x _ o.words in
    subst (λ words. Next inst cx (funcs_in p) out (running s a ws) 1 (goes_to (calls_of m) m.frame words (m.frame.place + 1)) s) (sym u.1)
    ((binary_next inst cx (funcs_in p) out (calls_of m) s m.frame a ws n c.args.width c.args.op (here r) o.y o.x _ o.words).0 u.0 u.2 u.3))

pub returns-in-Err : goal.returns-in-Err
returns-in-Err c code =
    let m = c.args.stack.now in
    stops_alone code m m (Binary c.args.width c.args.op) c.in-Err.trap (λ p k flat most r cx inst out s a ws st.
    let n = st.running in
    let o = binary_needs n c.args.width c.args.op (at_now n (binary_op c.args.width c.args.op) (here r)) in
    (binary_next inst cx (funcs_in p) out (calls_of m) s m.frame a ws n c.args.width c.args.op (here r) o.y o.x _ o.words).1 c.in-Err.trap (c.in-Err.ensures.err o.y o.x _ o.words))
