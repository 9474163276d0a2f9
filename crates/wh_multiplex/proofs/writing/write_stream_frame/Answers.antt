-- The head and then the bytes are the frame's.
use Rattle.std.proofs.Common.{◌≡◌, ◌++◌, ◌∙◌, ap, length, subst}
use Rattle.std.specs.Io.KnownBytes.{Appends}
use Rattle.std.proofs.KnownBytes.{Appends-trans}
use Rattle.wh_multiplex.specs.StreamFrames.{stream_frame_bytes}
use Rattle.wh_multiplex.proofs.Sent.{on_err, whole, head_part, rest_part}
use Rattle.wh_multiplex.proofs.writing.write_stream_frame.Goals as goal

pub returns-in_err-put-clause-err : goal.returns-in_err-put-clause-err
returns-in_err-put-clause-err g c =
    let frame = c.args.frame.now in
    let bytes = c.as_slice-bytes.result.now in
    let head = c.head_bytes_of-head.result in
    let all = whole head bytes frame c.head_bytes_of-head.ensures c.as_slice-bytes.ensures in
    let (went, kept, split, appended) = c.in_err-put.ensures.err in
    on_err c.from_residual.result _ (went, kept ++ bytes, head_part head bytes went kept (stream_frame_bytes frame) all split, appended)

pub returns-in-Ok-clause-ok : goal.returns-in-Ok-clause-ok
returns-in-Ok-clause-ok g c =
    let all = whole c.head_bytes_of-head.result c.as_slice-bytes.result.now c.args.frame.now c.head_bytes_of-head.ensures c.as_slice-bytes.ensures in
    subst (Appends _ _) all (Appends-trans _ _ _ _ _ c.in_ok-put.ensures.ok c.in-Ok.ensures.ok)

pub returns-in-Err-clause-err : goal.returns-in-Err-clause-err
returns-in-Err-clause-err g c =
    let frame = c.args.frame.now in
    let bytes = c.as_slice-bytes.result.now in
    let head = c.head_bytes_of-head.result in
    let all = whole head bytes frame c.head_bytes_of-head.ensures c.as_slice-bytes.ensures in
    let (went, kept, split, appended) = c.in-Err.ensures.err in
    (head ++ went, kept, rest_part head bytes went kept (stream_frame_bytes frame) all split, Appends-trans _ _ _ _ _ c.in_ok-put.ensures.ok appended)
