use Rattle.std.proofs.Common.{◌∷◌, sym, subst, ◌+◌, ◌∙◌, arith}
use Rattle.wh_model.specs.Focus.{running}
use Rattle.wh_control.specs.ControlSteps.{goes_to}
use Rattle.wh_control.specs.Next.{Next}
use Rattle.wh_control.specs.Parts.{funcs_in}
use Rattle.wh_machine.specs.Executing.{calls_of}
use Rattle.wh_machine.proofs.ExecutingLemmas.{here, place_fits, free_words, room_after}
use Rattle.wh_syntax.specs.declared.instr.Instr.TheVariants.{I32Const}
use Rattle.wh_machine.proofs.Straight.{i32_const_next}
use Rattle.wh_machine.proofs.instructions.exec_i32_word.Goals as goal

pub push-requires : goal.push-requires
push-requires c =
    let m = c.args.stack.now in
    let r = c.requires.next.1.ready in
    let u = r.sound in
    let st = u.stands in
    let next = i32_const_next u.inst u.context (funcs_in c.requires.next.1.program) u.out (calls_of m) u.s m.frame u.a u.ws st.running c.args.number (here r) c.from.result (c.from.ensures ∙ c.requires.word) (let e = c.from.ensures in let fits = c.ranges.word.fits in omega (arith, e, fits)) in
    let room = room_after (goes_to (calls_of m) m.frame (c.from.result ∷ m.words) (m.frame.place + 1)) st next in
    omega (arith, room)

pub advance-requires : goal.advance-requires
advance-requires c = place_fits c.requires.next.1.ready

pub returns : goal.returns
returns c code =
    let m = c.args.stack.now in
    free_words code m c.advance.new.stack c.push.new.self (I32Const c.args.number) c.advance.ensures (λ labels h. h) (λ p k flat most r cx inst out s a ws st.
    subst (λ words. Next inst cx (funcs_in p) out (running s a ws) 0 (goes_to (calls_of m) m.frame words (m.frame.place + 1)) s) (sym c.push.ensures)
    (i32_const_next inst cx (funcs_in p) out (calls_of m) s m.frame a ws st.running c.args.number (here r) c.from.result (c.from.ensures ∙ c.requires.word) (let e = c.from.ensures in let fits = c.ranges.word.fits in omega (arith, e, fits))))
