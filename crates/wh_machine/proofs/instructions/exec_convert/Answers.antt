use Rattle.std.proofs.Common.{sym, subst, ◌+◌}
use Rattle.wh_model.specs.Focus.{running}
use Rattle.wh_control.specs.ControlSteps.{goes_to}
use Rattle.wh_control.specs.Next.{Next}
use Rattle.wh_control.proofs.Constructs.{at_now}
use Rattle.wh_control.specs.Parts.{funcs_in}
use Rattle.wh_machine.specs.Executing.{calls_of}
use Rattle.wh_machine.proofs.ExecutingLemmas.{here, place_fits, charged_words}
use Rattle.wh_syntax.specs.declared.instr.Instr.TheVariants.{Convert}
use Rattle.wh_model.specs.Format.{conversion as convert_op}
use Rattle.wh_machine.proofs.Straight.{convert_needs, convert_next}
use Rattle.wh_machine.proofs.instructions.exec_convert.Goals as goal

pub conversion-requires : goal.conversion-requires
conversion-requires c =
    let r = c.requires.1.ready in
    let n = r.sound.stands.running in
    let o = convert_needs n c.args.op (at_now n (convert_op c.args.op) (here r)) in
    (o.x, _, o.words, o.x_fits)

pub advance-requires : goal.advance-requires
advance-requires c = place_fits c.requires.1.ready

pub returns : goal.returns
returns c code =
    let m = c.args.stack.now in
    charged_words code m c.advance.new.stack c.conversion.new.words (Convert c.args.op) c.advance.ensures (λ p k flat most r cx inst out s a ws st.
    let n = st.running in
    let o = convert_needs n c.args.op (at_now n (convert_op c.args.op) (here r)) in
    let u = c.conversion.ensures o.x _ o.words in
    subst (λ words. Next inst cx (funcs_in p) out (running s a ws) 1 (goes_to (calls_of m) m.frame words (m.frame.place + 1)) s) (sym u.1)
    (convert_next inst cx (funcs_in p) out (calls_of m) s m.frame a ws n c.args.op (here r) o.x u.0 _ o.words u.2 u.3))
