use Rattle.std.proofs.Common.{◌∙◌, ap}
use Rattle.wh_cell.specs.Locking.{BooksState}
use Rattle.wh_threads.specs.Counting.{SharesState}
use Rattle.wh_scheduler.proofs.OwnTurns.{owner_alone}
use Rattle.wh_scheduler.proofs.here.scan_in_hand.Goals as goal

pub returns-clause-books : goal.returns-clause-books
returns-clause-books g c =
    let s = c.own_scan.ensures.scans in
    s.books ∙ ap (λ n. (let z : BooksState = record c.args.locked.now.books { offers = n } in z)) s.counted.book_is

pub returns-clause-own : goal.returns-clause-own
returns-clause-own g c = ap (λ (z : SharesState). z.owner) c.own_scan.ensures.counted

pub returns-clause-only : goal.returns-clause-only
returns-clause-only g c = owner_alone c.args.shares.now c.own_scan.new.shares _ c.own_scan.ensures.counted
