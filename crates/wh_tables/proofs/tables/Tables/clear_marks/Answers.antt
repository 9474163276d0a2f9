use Rattle.std.proofs.Common.{List, rules}
use Rattle.wh_pages.specs.Table.{PageTableState}
use Rattle.wh_tables.specs.Index.{Counted}
use Rattle.wh_tables.specs.Tables.{AreIndexed}
use Rattle.wh_tables.proofs.Newcomers.{kept_unmarked, marks_gone, same_limits, same_pages}
use Rattle.wh_tables.proofs.tables.Tables.clear_marks.Goals as goal

pub invariant_of-self : goal.invariant_of-self
invariant_of-self c =
    let tables : List PageTableState = c.self.inside.tables.items in
    let x : Counted = c.self.inside.index in
    let kept : AreIndexed tables x = c.self.invariant in
    rw (c.clear_tables.ensures, c.clear_marks.ensures) (kept_unmarked tables x kept)

pub returns : goal.returns
returns c = search (rules, same_pages, same_limits, marks_gone)
