use Rattle.std.proofs.Common.{◌≡◌, ◌≤◌, ◌+◌, is_some, sym, ap, subst, ◌∙◌, length}
use Rattle.wh_control.specs.Represents.{RepresentsCalls, result_of}
use Rattle.wh_control.specs.ControlSteps.{cut, words_carried, left}
use Rattle.wh_control.proofs.Jumps.{return_next, return_room}
use Rattle.wh_control.specs.Parts.{funcs_in}
use Rattle.wh_machine.specs.Program.{parts_in}
use Rattle.wh_machine.specs.Executing.{calls_of, ended_calls}
use Rattle.wh_machine.proofs.ExecutingLemmas.{here, one_step}
use Rattle.wh_machine.proofs.calling.exec_return.Goals as goal

pub leave-requires : goal.leave-requires
leave-requires c =
    let m = c.args.stack.now in
    let r = c.requires.4 in
    let n = r.sound.stands.running in
    subst (λ b. m.frame.base + words_carried b ≤ length m.words) (sym (c.has_result-carries.ensures n.frame.func n.frame.at)) (return_room n (here r))

pub returns-then-leave : goal.returns-then-leave
returns-then-leave c code k flat most r =
    let p = parts_in c.args.program.now in
    let m = c.args.stack.now in (
      (λ cx inst out s a ws st.
          let n = st.running in
          let next = return_next inst cx p.hosts (funcs_in p) out (calls_of m) s m.frame a ws st.instance.program n (here r) in
          let same : left (cut m.words (words_carried (is_some (result_of n.frame.func.type))) m.frame.base) m.waiting ≡ calls_of c.leave.new.stack =
          sym (c.if-leave.ensures.calls ∙ ap (λ x. left (cut m.words (words_carried x) m.frame.base) m.waiting) (c.has_result-carries.ensures n.frame.func n.frame.at)) in
          (s, next.0, one_step 1 next.1, subst (λ x. RepresentsCalls cx (funcs_in p) out x s next.0) same next.2, st.store)),
      λ e. cc,
    )

pub returns : goal.returns
returns c code k flat most r =
    let p = parts_in c.args.program.now in
    let m = c.args.stack.now in (
      (λ cx inst out s a ws st.
          let n = st.running in
          let next = return_next inst cx p.hosts (funcs_in p) out (calls_of m) s m.frame a ws st.instance.program n (here r) in
          let same : left (cut m.words (words_carried (is_some (result_of n.frame.func.type))) m.frame.base) m.waiting ≡ ended_calls c.leave.new.stack =
          sym (c.if-leave.ensures.calls ∙ ap (λ x. left (cut m.words (words_carried x) m.frame.base) m.waiting) (c.has_result-carries.ensures n.frame.func n.frame.at)) in
          (s, next.0, one_step 1 next.1, subst (λ x. RepresentsCalls cx (funcs_in p) out x s next.0) same next.2, st.store)),
      λ e. cc,
    )
