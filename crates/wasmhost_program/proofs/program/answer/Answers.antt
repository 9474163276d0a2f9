use Rattle.std.proofs.Common.{◌≡◌, ◌∙◌, ℕ, Ok, ap, arith, is_some, map, refl, string_bytes, subst, sym}
use Rattle.wasmhost_program.specs.ProgramOutput.{RunsAsWords, EndsSo, EndsWith, HoldsOver, is_unread, runs_amid}
use Rattle.wasmhost_program.proofs.Runs.{as_words, asked_ends, ends_faultless, ends_stopped, ends_well, holds_over, served_over}
use Rattle.wasmhost_program.proofs.program.answer.Goals.{in-Ok, in-Err-Memory, in-Ok-outcome, in-Err}
use Rattle.wasmhost_program.proofs.program.answer.Goals as goal

pub returns-clause-amid : goal.returns-clause-amid
returns-clause-amid g c =
    let known = g.S.Folder.known c.args.folder.now in
    let files = g.S.Source.files c.args.folder.now in
    let words = map string_bytes c.args.words.now in
    let remaining = g.R.Read.remaining in
    let contents = g.W.Write.contents in
    let input = remaining c.args.input.now.inner in
    let before = contents c.args.output.now.inner in
    let ran = c.match-read_args in
    let left = remaining ran.input.inner in
    let after = contents ran.output.inner in
    let ends : HoldsOver ran.outcome.1 (λ met. EndsSo (runs_amid met) known files words input left before after ran.outcome.0) = elim ran.branch [
      | in-Ok w ↦
          subst (λ i. HoldsOver ran.outcome.1 (λ met. EndsSo (runs_amid met) known files words input (remaining i.inner) before after ran.outcome.0)) (sym w.input-is)
          (subst (λ o. HoldsOver ran.outcome.1 (λ met. EndsSo (runs_amid met) known files words input (remaining w.run_given.new.input.inner) before (contents o.inner) ran.outcome.0)) (sym w.output-is)
          (subst (λ r. HoldsOver r.1 (λ met. EndsSo (runs_amid met) known files words input (remaining w.run_given.new.input.inner) before (contents w.run_given.new.output.inner) r.0)) (sym w.outcome-is)
          (holds_over w.run_given.result.1 _ _ (λ met. asked_ends (runs_amid met) known files words input (remaining w.run_given.new.input.inner) before (contents w.run_given.new.output.inner) w.in-Ok.given w.run_given.result.0 w.in-Ok.ensures.accepts w.in-Ok.ensures.asks)
          w.run_given.ensures.amid)))
      | in-Err-Memory w ↦
          subst (λ i. HoldsOver ran.outcome.1 (λ met. EndsSo (runs_amid met) known files words input (remaining i.inner) before after ran.outcome.0)) (sym w.input-is)
          (subst (λ o. HoldsOver ran.outcome.1 (λ met. EndsSo (runs_amid met) known files words input input before (contents o.inner) ran.outcome.0)) (sym w.output-is)
          (subst (λ r. HoldsOver r.1 (λ met. EndsSo (runs_amid met) known files words input input before before r.0)) (sym w.outcome-is) (is_unread refl refl)))
    ] in
    elim c.match-outcome.branch [
      | in-Ok-outcome w ↦ holds_over ran.outcome.1 _ _ (λ met. ends_well (runs_amid met) known files words input left before after ran.outcome.0 _ c.match-outcome.status w.in-Ok-outcome.is w.status-is) ends
      | in-Err w ↦ holds_over ran.outcome.1 _ _ (λ met. ends_stopped (runs_amid met) known files words input left before after ran.outcome.0 w.in-Err.fault c.match-outcome.status w.in-Err.is (w.status-is ∙ w.stop-status.ensures)) ends
    ]

pub returns-clause-ends : goal.returns-clause-ends
returns-clause-ends g c served =
    let known = g.S.Folder.known c.args.folder.now in
    let files = g.S.Source.files c.args.folder.now in
    let words = map string_bytes c.args.words.now in
    let remaining = g.R.Read.remaining in
    let contents = g.W.Write.contents in
    let ran = c.match-read_args in
    ends_faultless known files words (remaining c.args.input.now.inner) (remaining ran.input.inner) (contents c.args.output.now.inner) (contents ran.output.inner) c.match-outcome.status
    (served_over ran.outcome.1 (λ met. EndsWith (runs_amid met) known files words (remaining c.args.input.now.inner) (remaining ran.input.inner) (contents c.args.output.now.inner) (contents ran.output.inner) c.match-outcome.status)
    (returns-clause-amid g c) served)

pub returns-clause-config : goal.returns-clause-config
returns-clause-config g c =
    let known = g.S.Folder.known c.args.folder.now in
    let words = map string_bytes c.args.words.now in
    let ran = c.match-read_args in
    let asked : (status : ℕ) → (status ≡ 0 → ran.outcome.0 ≡ Ok tt) → RunsAsWords known words status (is_some ran.outcome.1) ran.outcome.2 = elim ran.branch [
      | in-Ok w ↦ λ status ends.
          let r = w.run_given.result in
          subst (λ r. RunsAsWords known words status (is_some r.1) r.2) (sym w.outcome-is)
          (as_words known words w.in-Ok.given r.0 status (is_some r.1) r.2 w.in-Ok.ensures.asks (λ zero_is. sym (ap (λ r. r.0) w.outcome-is) ∙ ends zero_is) w.run_given.ensures.config)
      | in-Err-Memory w ↦ λ status ends.
          subst (λ r. RunsAsWords known words status (is_some r.1) r.2) (sym w.outcome-is)
          (λ zero_is. let bad = sym (ap (λ r. r.0) w.outcome-is) ∙ ends zero_is in absurd (cc bad))
    ] in
    elim c.match-outcome.branch [
      | in-Ok-outcome w ↦ asked c.match-outcome.status (λ zero_is. w.in-Ok-outcome.is)
      | in-Err w ↦ asked c.match-outcome.status (λ zero_is. let one_is = w.status-is ∙ w.stop-status.ensures in absurd (omega (arith, one_is, zero_is)))
    ]
