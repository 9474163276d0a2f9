use Rattle.std.proofs.Common.{◌≡◌, ℕ, ◌<◌, List, Some, None, length, sym, subst, arith, rules}
use Rattle.wh_space_model.specs.declared.states.Page.{Page}
use Rattle.wh_space_model.specs.{frame_of, page_at}
use Rattle.wh_pages.specs.Table.{PageTableState}
use Rattle.wh_tables.specs.Index.{Counted}
use Rattle.wh_tables.specs.Tables.{AreIndexed, TablesState, pages_by_place}
use Rattle.wh_tables.proofs.Keeping.{long_map}
use Rattle.wh_tables.proofs.Newcomers.{kept_gone, none_stands, tables_row}
use Rattle.wh_tables.proofs.tables.Tables.forget.Goals as goal

pub invariant_of-self : goal.invariant_of-self
invariant_of-self c =
    let tables : List PageTableState = c.self.inside.tables.items in
    let x : Counted = c.self.inside.index in
    let kept : AreIndexed tables x = c.self.invariant in
    let there = subst (λ (s : TablesState). c.args.place < length s.pages) (sym c.self.view_is) c.requires.there in
    let long = long_map (λ (t : PageTableState). t.pages) tables in
    let off = subst (λ (s : TablesState). (p : ℕ) (page : Page) → page_at s.pages c.args.place p ≡ Some page → frame_of page ≡ None) (sym c.self.view_is) c.requires.off in
    kept_gone tables x c.args.place c.index_mut-table.result.now c.clear.new.self kept (omega arith) c.index_mut-table.ensures.value c.clear.ensures (none_stands (pages_by_place tables) c.args.place off)

pub returns : goal.returns
returns c = search (rules, tables_row)
