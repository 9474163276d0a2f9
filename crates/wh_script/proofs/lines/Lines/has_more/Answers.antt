use Rattle.wh_script.specs.Coming.{unread}
use Rattle.wh_script.proofs.Coming.{filled, filled_nothing, nothing_unread, on_err}
use Rattle.wh_script.proofs.lines.Lines.has_more.Goals as goal

pub returns-clause-bytes : goal.returns-clause-bytes
returns-clause-bytes g c =
    let l = c.args.self.now in
    let left = g.R.Read.remaining in
    filled (left c.args.reader.now.inner) (left c.fill.new.reader.inner) (unread l) (unread c.fill.new.self) (nothing_unread l.chunk.items l.next l.end c.if-self.false) c.in_ok-more.ensures.bytes

pub returns-in_err-more-clause-none : goal.returns-in_err-more-clause-none
returns-in_err-more-clause-none g c =
    let l = c.args.self.now in
    let left = g.R.Read.remaining in
    on_err c.from_residual.result (filled_nothing (left c.args.reader.now.inner) (left c.fill.new.reader.inner) (unread l) (nothing_unread l.chunk.items l.next l.end c.if-self.false) c.in_err-more.ensures.none)
