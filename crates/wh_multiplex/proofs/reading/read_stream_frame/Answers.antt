-- A head and what it announces are a frame, and less is none.
use Rattle.std.proofs.Common.{◌≡◌, ℕ, ◌<◌, ◌++◌, length, take, sym, ap, subst, arith, take_all, ◌∙◌}
use Rattle.std.specs.Io.KnownBytes.{Consumes}
use Rattle.std.proofs.KnownBytes.{Consumes-trans}
use Rattle.wh_multiplex.specs.StreamFrames.{head_bytes}
use Rattle.wh_multiplex.proofs.Spelled.{short_lacks, cut_short, lacks}
use Rattle.wh_multiplex.proofs.reading.read_stream_frame.Goals as goal

pub returns-in-Err-clause-err : goal.returns-in-Err-clause-err
returns-in-Err-clause-err g c =
    let (came, eats, lt) = c.in-Err.ensures.err in
    (came, eats, short_lacks came (omega arith))

pub returns-then-count-lt-HEAD-clause-err : goal.returns-then-count-lt-HEAD-clause-err
returns-then-count-lt-HEAD-clause-err g c =
    let cut = cut_short c.fill.new.buffer c.in-Ok.count c.in-Ok.ensures.bound c.if-count-eq0.false (omega arith) in
    (take c.in-Ok.count c.fill.new.buffer, c.in-Ok.ensures.bytes, (cut.0, cut.1, c.in-Ok.ensures.end (omega arith)))

pub returns-in-Err-head_of-clause-err : goal.returns-in-Err-head_of-clause-err
returns-in-Err-head_of-clause-err g c =
    (c.fill.new.buffer, subst (Consumes _ _) (take_all c.in-Ok.count c.fill.new.buffer (omega arith)) c.in-Ok.ensures.bytes, c.in-Err-head_of.ensures.err _)

pub returns-in-Ok-read_bytes-clause-frame : goal.returns-in-Ok-read_bytes-clause-frame
returns-in-Ok-read_bytes-clause-frame g c =
    let (spelled, fits, within) = c.in-Ok-head_of.ensures.ok in
    let (len, eats) = c.in-Ok-read_bytes.ensures.ok in
    let head = c.in-Ok-head_of.head in
    let bytes = c.in-Ok-read_bytes.bytes in
    let eats_head = subst (Consumes _ _) (take_all c.in-Ok.count c.fill.new.buffer (omega arith) ∙ spelled) c.in-Ok.ensures.bytes in (
      (fits, omega arith),
      subst (Consumes _ _) (ap (λ n. head_bytes head.connection head.kind n ++ bytes) (sym len)) (Consumes-trans _ _ _ _ _ eats_head eats),
    )

pub returns-in-Err-read_bytes-clause-err : goal.returns-in-Err-read_bytes-clause-err
returns-in-Err-read_bytes-clause-err g c =
    let (spelled, fits, within) = c.in-Ok-head_of.ensures.ok in
    let (part, eats, why) = c.in-Err-read_bytes.ensures.err in
    let head = c.in-Ok-head_of.head in
    let eats_head = subst (Consumes _ _) (take_all c.in-Ok.count c.fill.new.buffer (omega arith) ∙ spelled) c.in-Ok.ensures.bytes in (
      head_bytes head.connection head.kind head.count ++ part,
      Consumes-trans _ _ _ _ _ eats_head eats,
      lacks c.in-Err-read_bytes.fault head.connection head.kind head.count part _ fits within why,
    )
