use Rattle.std.proofs.Common.{◌≡◌, List, true, false, Some, sym, subst, rules}
use Rattle.wh_space_model.specs.{page_at, IsOnFrame}
use Rattle.wh_pages.specs.Table.{PageTableState}
use Rattle.wh_tables.specs.Index.{Counted, HoldsOn}
use Rattle.wh_tables.specs.Tables.{AreIndexed, TablesState, marked_of, pages_by_place}
use Rattle.wh_tables.proofs.Keeping.{kept_mark, page_there, place_small, row_within, tables_mark}
use Rattle.wh_tables.proofs.Standing.{page_of_standing}
use Rattle.wh_tables.proofs.tables.Tables.unmark_on.Goals as goal

pub overflow_cast-id : goal.overflow_cast-id
overflow_cast-id c = search (rules, page_of_standing, page_there, place_small)

pub unmark-requires : goal.unmark-requires
unmark-requires c = search rules

pub untouch-requires : goal.untouch-requires
untouch-requires c = search (rules, page_of_standing, page_there, row_within)

pub invariant_of-self : goal.invariant_of-self
invariant_of-self c =
    let tables : List PageTableState = c.self.inside.tables.items in
    let x : Counted = c.self.inside.index in
    let kept : AreIndexed tables x = c.self.invariant in
    let on = subst (λ (s : TablesState). IsOnFrame s.pages c.args.place c.args.number c.args.frame) (sym c.self.view_is) c.requires.on in
    let was = page_of_standing (pages_by_place tables) c.args.frame (record { place = c.args.place; page = c.args.number }) on in
    let within = page_there tables c.args.place c.args.number was.0 was.1 in
    let marked = subst (λ (s : TablesState). page_at s.marks c.args.place c.args.number ≡ Some true) (sym c.self.view_is) c.requires.mark in
    let holds : HoldsOn x (marked_of tables) c.args.frame (record { place = c.args.place; page = c.args.number }) true = record { index = kept.index; on = on; mark = marked } in
    kept_mark tables x c.unmark.new.self c.args.place c.args.number c.index_mut.result.now c.untouch.new.self false kept c.index_mut.ensures.value c.untouch.ensures c.unmark.ensures.large
    (c.unmark.ensures.index (marked_of tables) holds)

pub returns : goal.returns
returns c = search (rules, tables_mark)
