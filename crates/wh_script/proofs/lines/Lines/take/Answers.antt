use Rattle.std.proofs.Common.{rules, ◌-◌, take, drop, ap, refl, arith}
use Rattle.wh_script.proofs.Coming.{cut_at, cut_all, some_piece}
use Rattle.wh_script.proofs.lines.Lines.take.Goals as goal

pub returns-clause-piece : goal.returns-clause-piece
returns-clause-piece c =
    let l = c.args.self.now in
    let piece = c.first_piece-is_last.result.0.now in
    let bytes = take (l.end - l.next) (drop l.next c.deref.result.now) in
    let same = ap (λ xs. take (l.end - l.next) (drop l.next xs)) c.deref.ensures.value in (
      piece,
      record {
        free = c.first_piece-is_last.ensures.free;
        some = search rules;
        cut = let z = rw c.if-not-is_last.false at c.first_piece-is_last.ensures.cut in cut_at l.chunk.items bytes piece l.next l.end c.requires.within.next same z;
        held = c.in_ok-keep.ensures.held;
      },
    )

pub returns-then-not-is_last-clause-piece : goal.returns-then-not-is_last-clause-piece
returns-then-not-is_last-clause-piece c =
    let l = c.args.self.now in
    let piece = c.first_piece-is_last.result.0.now in
    let bytes = take (l.end - l.next) (drop l.next c.deref.result.now) in
    let same = ap (λ xs. take (l.end - l.next) (drop l.next xs)) c.deref.ensures.value in
    let z = rw c.if-not-is_last.true at c.first_piece-is_last.ensures.cut in (
      piece,
      record {
        free = c.first_piece-is_last.ensures.free;
        some = λ _. some_piece c.deref.result.now bytes piece l.next l.end c.requires.some (omega (arith, c.requires.within.end, c.deref.ensures.len)) refl z;
        cut = cut_all l.chunk.items bytes piece l.next l.end c.requires.within.next same z;
        held = c.in_ok-keep.ensures.held;
      },
    )
