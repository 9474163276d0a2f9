use Rattle.std.proofs.Common.{◌≡◌, List, Some, sym, subst, rules}
use Rattle.wh_space_model.specs.{page_at}
use Rattle.wh_pages.specs.Table.{PageTableState}
use Rattle.wh_tables.specs.Index.{Counted, HoldsOff}
use Rattle.wh_tables.specs.Tables.{AreIndexed, TablesState, marked_of}
use Rattle.wh_tables.proofs.Keeping.{frame_nowhere, frame_stands, kept_page, links_there, mark_there, page_there, place_small, place_within, row_within, tables_page}
use Rattle.wh_tables.proofs.tables.Tables.come.Goals as goal

pub overflow_cast-id : goal.overflow_cast-id
overflow_cast-id c = search (rules, page_there, place_small)

pub is_touched-touched-requires : goal.is_touched-touched-requires
is_touched-touched-requires c = search (rules, page_there, row_within)

pub come-requires-clause-held : goal.come-requires-clause-held
come-requires-clause-held c =
    let tables : List PageTableState = c.self.inside.tables.items in
    let x : Counted = c.self.inside.index in
    let kept : AreIndexed tables x = c.self.invariant in
    let was = c.requires.off.0 in
    let there = subst (λ (s : TablesState). page_at s.pages c.args.place c.args.number ≡ Some was) (sym c.self.view_is) c.requires.off.1 in
    let within = page_there tables c.args.place c.args.number was there in
    let holds : HoldsOff x (marked_of tables) (record { place = c.args.place; page = c.args.number }) was c.is_touched-touched.result =
    record { index = kept.index; there = there; nowhere = frame_nowhere was c.requires.off.2; mark = mark_there tables c.args.place c.args.number c.index.result.now c.is_touched-touched.result c.index.ensures (place_within tables c.args.place c.args.number within) c.is_touched-touched.ensures } in
    (marked_of tables, was, c.args.page, holds, frame_stands c.args.frame c.args.page c.requires.on)

pub come-requires-clause-within : goal.come-requires-clause-within
come-requires-clause-within c = search (rules, page_there, links_there)

pub set-requires : goal.set-requires
set-requires c = search (rules, page_there, row_within)

pub invariant_of-self : goal.invariant_of-self
invariant_of-self c =
    let tables : List PageTableState = c.self.inside.tables.items in
    let x : Counted = c.self.inside.index in
    let kept : AreIndexed tables x = c.self.invariant in
    let was = c.requires.off.0 in
    let there = subst (λ (s : TablesState). page_at s.pages c.args.place c.args.number ≡ Some was) (sym c.self.view_is) c.requires.off.1 in
    let within = page_there tables c.args.place c.args.number was there in
    let holds : HoldsOff x (marked_of tables) (record { place = c.args.place; page = c.args.number }) was c.is_touched-touched.result =
    record { index = kept.index; there = there; nowhere = frame_nowhere was c.requires.off.2; mark = mark_there tables c.args.place c.args.number c.index.result.now c.is_touched-touched.result c.index.ensures (place_within tables c.args.place c.args.number within) c.is_touched-touched.ensures } in
    kept_page tables x c.come.new.self c.args.place c.args.number c.index_mut.result.now c.set.new.self c.args.page kept c.index_mut.ensures.value c.set.ensures c.come.ensures.large
    (c.come.ensures.index (marked_of tables) was c.args.page holds (frame_stands c.args.frame c.args.page c.requires.on))

pub returns : goal.returns
returns c = search (rules, tables_page)
