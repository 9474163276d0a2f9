use Rattle.std.proofs.Common.{ℕ, List, sym, subst, ⊎_elim, ◌+◌}
use Rattle.wh_syntax.specs.declared.instr.Instr.TheVariants.{Select}
use Rattle.wh_model.specs.Format.{select}
use Rattle.wh_model.specs.Focus.{running}
use Rattle.wh_control.specs.ControlSteps.{goes_to}
use Rattle.wh_control.specs.Next.{Next}
use Rattle.wh_control.proofs.Constructs.{at_now}
use Rattle.wh_control.specs.Parts.{funcs_in}
use Rattle.wh_machine.specs.Executing.{calls_of}
use Rattle.wh_machine.proofs.Straight.{select_needs, select_next}
use Rattle.wh_machine.proofs.ExecutingLemmas.{here, place_fits, charged_words}
use Rattle.wh_machine.proofs.instructions.exec_select.Goals as goal

pub select-requires : goal.select-requires
select-requires c =
    let r = c.requires.1.ready in
    let n = r.sound.stands.running in
    let o = select_needs n (at_now n select (here r)) in
    (o.z, o.y, o.x, _, o.words)

pub advance-requires : goal.advance-requires
advance-requires c = place_fits c.requires.1.ready

pub returns : goal.returns
returns c code =
    let m = c.args.stack.now in
    charged_words code m c.advance.new.stack c.select.new.words Select c.advance.ensures (λ p k flat most r cx inst out s a ws st.
    let n = st.running in
    let o = select_needs n (at_now n select (here r)) in
    let next = select_next inst cx (funcs_in p) out (calls_of m) s m.frame a ws n (here r) o.z o.y o.x _ o.words in
    let to : List ℕ → Type 0 = λ words. Next inst cx (funcs_in p) out (running s a ws) 1 (goes_to (calls_of m) m.frame words (m.frame.place + 1)) s in
    ⊎_elim (λ x. subst to (sym x.1) (next.0 x.0)) (λ x. subst to (sym x.1) (next.1 x.0)) (c.select.ensures o.z o.y o.x _ o.words))
