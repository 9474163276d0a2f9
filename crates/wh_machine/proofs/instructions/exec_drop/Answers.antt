use Rattle.std.proofs.Common.{◌∷◌, sym, ap, ◌∙◌}
use Rattle.wh_syntax.specs.declared.instr.Instr.TheVariants.{Drop}
use Rattle.wh_model.specs.Format.{drop_operand}
use Rattle.wh_control.proofs.Constructs.{at_now}
use Rattle.wh_control.specs.Parts.{funcs_in}
use Rattle.wh_machine.specs.Executing.{calls_of}
use Rattle.wh_machine.proofs.Straight.{drop_needs, drop_next}
use Rattle.wh_machine.proofs.ExecutingLemmas.{here, place_fits, charged_words}
use Rattle.wh_machine.proofs.instructions.exec_drop.Goals as goal

pub drop_top-requires : goal.drop_top-requires
drop_top-requires c =
    let r = c.requires.1.ready in
    let n = r.sound.stands.running in
    let o = drop_needs n (at_now n drop_operand (here r)) in
    (o.x, _, o.words)

pub advance-requires : goal.advance-requires
advance-requires c = place_fits c.requires.1.ready

pub returns : goal.returns
returns c code =
    let m = c.args.stack.now in
    charged_words code m c.advance.new.stack c.drop_top.new.words Drop c.advance.ensures (λ p k flat most r cx inst out s a ws st.
    let n = st.running in
    let o = drop_needs n (at_now n drop_operand (here r)) in
    drop_next inst cx (funcs_in p) out (calls_of m) s m.frame a ws n (here r) o.x c.drop_top.new.words (o.words ∙ ap (λ w. o.x ∷ w) (sym (c.drop_top.ensures o.x _ o.words))))
