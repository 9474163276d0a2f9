use Rattle.std.proofs.Common.{sym, subst, ◌+◌}
use Rattle.wh_model.specs.Focus.{running}
use Rattle.wh_control.specs.ControlSteps.{goes_to}
use Rattle.wh_control.specs.Next.{Next}
use Rattle.wh_control.proofs.Constructs.{at_now}
use Rattle.wh_control.specs.Parts.{funcs_in}
use Rattle.wh_machine.specs.Executing.{calls_of}
use Rattle.wh_machine.proofs.ExecutingLemmas.{here, place_fits, charged_words}
use Rattle.wh_syntax.specs.declared.instr.Instr.TheVariants.{Test}
use Rattle.wh_model.specs.Format.{test as test_op}
use Rattle.wh_machine.proofs.Straight.{test_needs, test_next}
use Rattle.wh_machine.proofs.instructions.exec_test.Goals as goal

pub test-requires : goal.test-requires
test-requires c =
    let r = c.requires.1.ready in
    let n = r.sound.stands.running in
    let o = test_needs n c.args.width c.args.op (at_now n (test_op c.args.width c.args.op) (here r)) in
    (o.x, _, o.words)

pub advance-requires : goal.advance-requires
advance-requires c = place_fits c.requires.1.ready

pub returns : goal.returns
returns c code =
    let m = c.args.stack.now in
    charged_words code m c.advance.new.stack c.test.new.words (Test c.args.width c.args.op) c.advance.ensures (λ p k flat most r cx inst out s a ws st.
    let n = st.running in
    let o = test_needs n c.args.width c.args.op (at_now n (test_op c.args.width c.args.op) (here r)) in
    let u = c.test.ensures o.x _ o.words in
    subst (λ words. Next inst cx (funcs_in p) out (running s a ws) 1 (goes_to (calls_of m) m.frame words (m.frame.place + 1)) s) (sym u.1)
    (test_next inst cx (funcs_in p) out (calls_of m) s m.frame a ws n c.args.width c.args.op (here r) o.x u.0 _ o.words u.2 u.3))
