use Rattle.std.proofs.Common.{inr, Some, Ok, Err, ap, sym, refl, ◌∙◌, length, subst}
use Rattle.wolqedir.specs.Rooms.{laid_in}
use Rattle.wolqedir.specs.Transcribed.{ExportTellsTranscript, all_words}
use Rattle.wolqedir.proofs.Helding.{same_held}
use Rattle.wolqedir.proofs.telling.wq_transcript_of.Goals as goal

pub returns-in-Ok-words_of : goal.returns-in-Ok-words_of
returns-in-Ok-words_of c =
    let words = c.deref-in-Ok-words_of.ensures.value ∙ c.in-Ok-words_of.ensures ∙ ap all_words c.calls.ensures in
    inr (
      λ other. absurd (other refl),
      inr (
        c.deref.result.now,
        _,
        c.in-Some.ensures.some ∙ ap Some (sym c.deref.ensures),
        c.put.ensures.held,
        c.put.ensures.sound,
        subst (λ id. ExportTellsTranscript id c.args.room.now c.lay.new.room c.args.len.now c.lay.new.len 0 c.deref.result.now c.in-Some.hand.value) c.named.ensures (record {
          answer = Ok c.in-Ok.transcript;
          answered = refl;
          same = sym c.deref.ensures;
          shows = c.in-Ok.ensures.shows;
          replays = c.in-Ok.ensures.replays;
          laid = c.lay.ensures.room ∙ ap (λ items. laid_in items c.args.room.now) words;
          counted = c.lay.ensures.len ∙ ap length words;
        }),
      ),
    )

pub returns : goal.returns
returns c = inr (
  λ _. (same_held (c.in-Some.ensures.some ∙ ap Some (sym c.deref.ensures)) c.put.ensures.held (sym c.deref.ensures), (refl, refl)),
  inr (
    c.deref.result.now,
    _,
    c.in-Some.ensures.some ∙ ap Some (sym c.deref.ensures),
    c.put.ensures.held,
    c.put.ensures.sound,
    subst (λ id. ExportTellsTranscript id c.args.room.now c.args.room.now c.args.len.now c.args.len.now c.of_host.result c.deref.result.now c.in-Some.hand.value) c.named.ensures (record {
      answer = Err c.in-Err.error;
      answered = c.of_host.ensures;
      same = sym c.deref.ensures;
      shows = c.in-Err.ensures.shows;
      replays = c.in-Err.ensures.replays;
      laid = refl;
      counted = refl;
    }),
  ),
)
