use Rattle.std.proofs.Common.{rules, ◌++◌, ap, vec_items, arith, length-append}
use Rattle.wh_script.specs.Coming.{unread, coming}
use Rattle.wh_script.proofs.Coming.{fails_at, says, last_line, consumes_on, line_ends, line_goes_on, holds_same}
use Rattle.wh_script.proofs.lines.Lines.read.Goals as goal

pub returns-then-begun-clause-line : goal.returns-then-begun-clause-line
returns-then-begun-clause-line g c =
    let left = g.R.Read.remaining in
    let inv = c.loop.invariant.so_far in
    let line = inv.0 in
    let l = c.has_more.new.self in
    let kept = c.in_ok-has_more.ensures.line in
    let held = holds_same l.line.items c.loop.self.line.items l.is_long c.loop.self.is_long line (ap vec_items kept.0) kept.1 inv.2 in
    let a = coming c.args.self.now (left c.args.reader.now.inner) in
    let b = coming l (left c.has_more.new.reader.inner) in
    let some = rw c.if-begun.true at inv.3 in
    let end = rw c.if-not-branch.true at c.in_ok-has_more.ensures.more in
    let whole = consumes_on a (coming c.loop.self (left c.loop.reader.inner)) b line inv.4 c.in_ok-has_more.ensures.bytes in
    says c.kind.result a b l.line.items line (last_line a b line inv.1 some whole end) (c.kind.ensures line held)

pub returns-then-branch-clause-line : goal.returns-then-branch-clause-line
returns-then-branch-clause-line g c =
    let left = g.R.Read.remaining in
    let inv = c.loop.invariant.so_far in
    let line = inv.0 in
    let l = c.has_more.new.self in
    let kept = c.in_ok-has_more.ensures.line in
    let held = holds_same l.line.items c.loop.self.line.items l.is_long c.loop.self.is_long line (ap vec_items kept.0) kept.1 inv.2 in
    let n = c.take.new.self in
    let a = coming c.args.self.now (left c.args.reader.now.inner) in
    let b = coming n (left c.has_more.new.reader.inner) in
    let piece = c.in_ok-take.ensures.piece.0 in
    let took = c.in_ok-take.ensures.piece.1 in
    let cut = rw c.if-branch.true at took.cut in
    says c.kind-then-branch.result a b n.line.items (line ++ piece) (line_ends a (coming c.loop.self (left c.loop.reader.inner)) (left c.has_more.new.reader.inner) (unread l) (unread n) line piece inv.1 took.free inv.4 c.in_ok-has_more.ensures.bytes cut) (c.kind-then-branch.ensures (line ++ piece) (took.held line held))

pub loop-preserved : goal.loop-preserved
loop-preserved g c =
    let left = g.R.Read.remaining in
    let inv = c.loop.invariant.so_far in
    let line = inv.0 in
    let l = c.has_more.new.self in
    let kept = c.in_ok-has_more.ensures.line in
    let held = holds_same l.line.items c.loop.self.line.items l.is_long c.loop.self.is_long line (ap vec_items kept.0) kept.1 inv.2 in
    let n = c.take.new.self in
    let a = coming c.args.self.now (left c.args.reader.now.inner) in
    let piece = c.in_ok-take.ensures.piece.0 in
    let took = c.in_ok-take.ensures.piece.1 in
    let cut = rw c.if-branch.false at took.cut in
    let more = line_goes_on a (coming c.loop.self (left c.loop.reader.inner)) (left c.has_more.new.reader.inner) (unread l) (unread n) line piece inv.1 took.free inv.4 c.in_ok-has_more.ensures.bytes cut in
    record { within = search rules; so_far = (line ++ piece, more.0, took.held line held, omega (arith, length-append line piece, took.some c.if-branch.false), more.1) }

pub returns-in_err-has_more-clause-failed : goal.returns-in_err-has_more-clause-failed
returns-in_err-has_more-clause-failed g c =
    let left = g.R.Read.remaining in
    let inv = c.loop.invariant.so_far in
    fails_at (coming c.args.self.now (left c.args.reader.now.inner)) (coming c.loop.self (left c.loop.reader.inner)) (left c.has_more.new.reader.inner) c.from_residual.result inv.0 inv.1 inv.4 c.in_err-has_more.ensures.none
