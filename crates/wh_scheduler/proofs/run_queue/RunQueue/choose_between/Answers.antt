use Rattle.std.proofs.Common.{◌≡◌, ◌≢◌, ◌∙◌, ◌<◌, Some, get_or, inl, inr, slice_get, vec_len, sym, ap, subst, true, false, arith}
use Rattle.std.proofs.lemmas.Option.{slice_get_read}
use Rattle.wh_scheduler.proofs.RunQueues.{out_or_done_more, rest_more}
use Rattle.wh_scheduler.proofs.run_queue.RunQueue.choose_between.Goals.{in-Out, in-Later, in-Never}
use Rattle.wh_scheduler.proofs.run_queue.RunQueue.choose_between.Goals as goal

pub loop-at-preserved : goal.loop-at-preserved
loop-at-preserved c =
    let was = c.loop-at.invariant in
    let entries = c.args.self.now.entries in
    let at = c.loop-at.at in
    let entry = c.index-entry.result.now in
    let within : at < vec_len entries = omega (arith, c.loop-at-test.true, c.requires.1) in
    let there : slice_get entries.items at ≡ Some entry =
    slice_get_read _ _ _ entry entries.ok.0 within (c.index-entry.ensures ∙ ap (λ z. get_or z at entry) was.0) in
    elim c.match-prospect_of.branch [
      | in-Out w ↦ (
        was.0,
        was.1,
        λ no. out_or_done_more c.args.host.now entries.items c.args.from at entry (was.2 (sym w.waits-is ∙ no)) there (inl (c.prospect_of.ensures.dispatched w.in-Out.is)),
        λ no none. absurd (let bad : true ≡ false = sym w.is_dispatched-is ∙ none in cc bad),
        λ yes. was.4 (sym w.waits-is ∙ yes),
        λ yes. (at, entry, there, c.prospect_of.ensures.dispatched w.in-Out.is),
        was.6,
        was.7,
        was.8,
        was.9,
      )
      | in-Later w ↦ (
        was.0,
        was.1,
        λ no. absurd (let bad : true ≡ false = sym w.waits-is ∙ no in cc bad),
        λ no none. absurd (let bad : true ≡ false = sym w.waits-is ∙ no in cc bad),
        λ yes. (let later = c.prospect_of.ensures.later w.in-Later.is in (at, entry, there, later.0, later.1, subst (λ r. r ≢ Some entry.id) was.1 later.2)),
        λ yes. was.5 (sym w.is_dispatched-is ∙ yes),
        was.6,
        was.7,
        was.8,
        was.9,
      )
      | in-Never w ↦ (
        was.0,
        was.1,
        λ no. out_or_done_more c.args.host.now entries.items c.args.from at entry (was.2 (sym w.waits-is ∙ no)) there (inr (c.prospect_of.ensures.never w.in-Never.is).1),
        λ no none. rest_more c.args.host.now entries.items c.args.from at entry (was.3 (sym w.waits-is ∙ no) (sym w.is_dispatched-is ∙ none)) there (c.prospect_of.ensures.never w.in-Never.is),
        λ yes. was.4 (sym w.waits-is ∙ yes),
        λ yes. was.5 (sym w.is_dispatched-is ∙ yes),
        was.6,
        was.7,
        was.8,
        was.9,
      )
    ]
