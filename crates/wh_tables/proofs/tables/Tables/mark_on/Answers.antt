use Rattle.std.proofs.Common.{◌≡◌, List, true, false, Some, sym, subst, rules}
use Rattle.wh_space_model.specs.{page_at, IsOnFrame}
use Rattle.wh_pages.specs.Table.{PageTableState}
use Rattle.wh_tables.specs.Index.{Counted, HoldsOn}
use Rattle.wh_tables.specs.Tables.{AreIndexed, TablesState, marked_of, pages_by_place}
use Rattle.wh_tables.proofs.Keeping.{kept_mark, page_there, place_small, row_within, tables_mark}
use Rattle.wh_tables.proofs.Standing.{page_of_standing}
use Rattle.wh_tables.proofs.tables.Tables.mark_on.Goals as goal

pub overflow_cast-id : goal.overflow_cast-id
overflow_cast-id c = search (rules, page_of_standing, page_there, place_small)

pub mark-requires : goal.mark-requires
mark-requires c = search rules

pub touch-requires : goal.touch-requires
touch-requires c = search (rules, page_of_standing, page_there, row_within)

pub invariant_of-self : goal.invariant_of-self
invariant_of-self c =
    let tables : List PageTableState = c.self.inside.tables.items in
    let x : Counted = c.self.inside.index in
    let kept : AreIndexed tables x = c.self.invariant in
    let on = subst (λ (s : TablesState). IsOnFrame s.pages c.args.place c.args.number c.args.frame) (sym c.self.view_is) c.requires.on in
    let was = page_of_standing (pages_by_place tables) c.args.frame (record { place = c.args.place; page = c.args.number }) on in
    let within = page_there tables c.args.place c.args.number was.0 was.1 in
    let marked = subst (λ (s : TablesState). page_at s.marks c.args.place c.args.number ≡ Some false) (sym c.self.view_is) c.requires.mark in
    let holds : HoldsOn x (marked_of tables) c.args.frame (record { place = c.args.place; page = c.args.number }) false = record { index = kept.index; on = on; mark = marked } in
    kept_mark tables x c.mark.new.self c.args.place c.args.number c.index_mut.result.now c.touch.new.self true kept c.index_mut.ensures.value c.touch.ensures c.mark.ensures.large
    (c.mark.ensures.index (marked_of tables) holds)

pub returns : goal.returns
returns c = search (rules, tables_mark)
