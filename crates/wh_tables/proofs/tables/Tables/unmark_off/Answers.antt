use Rattle.std.proofs.Common.{◌≡◌, List, false, Some, sym, subst, rules}
use Rattle.wh_space_model.specs.{page_at}
use Rattle.wh_pages.specs.Table.{PageTableState}
use Rattle.wh_tables.specs.Index.{Counted}
use Rattle.wh_tables.specs.Tables.{AreIndexed, TablesState}
use Rattle.wh_tables.proofs.Keeping.{kept_mark, mark_alike, page_there, row_within, same_size, tables_mark}
use Rattle.wh_tables.proofs.tables.Tables.unmark_off.Goals as goal

pub untouch-requires : goal.untouch-requires
untouch-requires c = search (rules, row_within, page_there)

pub invariant_of-self : goal.invariant_of-self
invariant_of-self c =
    let tables : List PageTableState = c.self.inside.tables.items in
    let x : Counted = c.self.inside.index in
    let kept : AreIndexed tables x = c.self.invariant in
    let there = subst (λ (s : TablesState). page_at s.pages c.args.place c.args.number ≡ Some c.requires.0) (sym c.self.view_is) c.requires.1 in
    kept_mark tables x x c.args.place c.args.number c.index_mut.result.now c.untouch.new.self false kept c.index_mut.ensures.value c.untouch.ensures (same_size x.chains)
    (mark_alike tables x c.args.place c.args.number c.requires.0 false kept there c.requires.2)

pub returns : goal.returns
returns c = search (rules, tables_mark, same_size)
