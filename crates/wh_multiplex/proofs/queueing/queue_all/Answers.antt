-- Frames of what went are queued, and the rest goes on.
use Rattle.std.proofs.Common.{◌≡◌, [], ◌∷◌, ◌++◌, rules, refl, sym, ap, ◌∙◌, arith, append_assoc, append-nil, drop_of_length-le}
use Rattle.std.proofs.lemmas.List.Elements.{All-nil}
use Rattle.wh_multiplex.specs.Multiplexing.{IsDataOn, close_frame}
use Rattle.wh_multiplex.proofs.Queued.{data_of, Carries-more, queued_more, all_went, Sends-done, Sends-open}
use Rattle.wh_multiplex.proofs.queueing.queue_all.Goals as goal

pub loop-rest-init : goal.loop-rest-init
loop-rest-init c = ([], [], refl, record { each = All-nil (IsDataOn c.args.connection); joined = refl }, sym (append-nil _))

pub loop-rest-preserved : goal.loop-rest-preserved
loop-rest-preserved c =
    let (went, parts, split, carries, queued) = c.loop-rest.invariant in
    let piece = c.first_piece.result.0.now in (
      went ++ piece,
      parts ++ data_of c.args.connection piece ∷ [],
      split ∙ ap (λ l. went ++ l) c.first_piece.ensures.joined ∙ sym (append_assoc went piece _),
      Carries-more c.args.connection went piece parts (omega arith) c.first_piece.ensures.within carries,
      queued_more _ _ _ parts (data_of c.args.connection piece) queued c.in_ok-queue_frame.ensures.ok,
    )

pub returns-in_ok-queue_frame-2-clause-ok : goal.returns-in_ok-queue_frame-2-clause-ok
returns-in_ok-queue_frame-2-clause-ok c =
    let (went, parts, split, carries, queued) = c.loop-rest.invariant in
    let empty : c.loop-rest.rest.now ≡ [] = drop_of_length-le c.loop-rest.rest.now {i = 0} (search rules) in (
      parts ++ close_frame c.args.connection ∷ [],
      Sends-done c.args.connection c.args.bytes.now went c.args.is_done parts carries (all_went _ went _ split empty) c.if-is_done.true,
      queued_more _ _ _ parts (close_frame c.args.connection) queued c.in_ok-queue_frame-2.ensures.ok,
    )
