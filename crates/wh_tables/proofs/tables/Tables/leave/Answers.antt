use Rattle.std.proofs.Common.{List, sym, subst, rules}
use Rattle.wh_pages.specs.Table.{PageTableState}
use Rattle.wh_tables.specs.Index.{Counted, HoldsOn}
use Rattle.wh_tables.specs.Tables.{AreIndexed, TablesState, marked_of, pages_by_place}
use Rattle.wh_space_model.specs.declared.states.Page.TheVariants.{Untouched}
use Rattle.wh_space_model.specs.{IsOnFrame}
use Rattle.wh_tables.proofs.Keeping.{kept_page, mark_there, page_there, place_small, place_within, row_within, tables_page}
use Rattle.wh_tables.proofs.Standing.{page_of_standing}
use Rattle.wh_tables.proofs.tables.Tables.leave.Goals as goal

pub overflow_cast-id : goal.overflow_cast-id
overflow_cast-id c = search (rules, page_of_standing, page_there, place_small)

pub is_touched-touched-requires : goal.is_touched-touched-requires
is_touched-touched-requires c = search (rules, page_of_standing, page_there, row_within)

pub leave-requires : goal.leave-requires
leave-requires c = search (rules, page_of_standing, page_there, mark_there, place_within)

pub set-requires : goal.set-requires
set-requires c = search (rules, page_of_standing, page_there, row_within)

pub invariant_of-self : goal.invariant_of-self
invariant_of-self c =
    let tables : List PageTableState = c.self.inside.tables.items in
    let x : Counted = c.self.inside.index in
    let kept : AreIndexed tables x = c.self.invariant in
    let on = subst (λ (s : TablesState). IsOnFrame s.pages c.args.place c.args.number c.args.frame) (sym c.self.view_is) c.requires in
    let was = page_of_standing (pages_by_place tables) c.args.frame (record { place = c.args.place; page = c.args.number }) on in
    let within = page_there tables c.args.place c.args.number was.0 was.1 in
    let holds : HoldsOn x (marked_of tables) c.args.frame (record { place = c.args.place; page = c.args.number }) c.is_touched-touched.result =
    record { index = kept.index; on = on; mark = mark_there tables c.args.place c.args.number c.index.result.now c.is_touched-touched.result c.index.ensures (place_within tables c.args.place c.args.number within) c.is_touched-touched.ensures } in
    kept_page tables x c.leave.new.self c.args.place c.args.number c.index_mut.result.now c.set.new.self Untouched kept c.index_mut.ensures.value c.set.ensures c.leave.ensures.large
    (c.leave.ensures.index (marked_of tables) holds)

pub returns : goal.returns
returns c = search (rules, tables_page)
