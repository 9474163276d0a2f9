use Rattle.std.proofs.Common.{◌≢◌, ℕ, ◌+◌, ◌<◌, ◌≤◌, List, [], length, get_or, sym, ap, subst, arith, rules}
use Rattle.wh_pages.specs.Table.{PageTableState}
use Rattle.wh_tables.specs.Index.{Counted}
use Rattle.wh_tables.specs.Tables.{AreIndexed, TablesState}
use Rattle.wh_tables.proofs.Keeping.{column_at, long_map}
use Rattle.wh_tables.proofs.Newcomers.{kept_grown, tables_row}
use Rattle.wh_tables.proofs.tables.Tables.grow.Goals as goal

pub invariant_of-self : goal.invariant_of-self
invariant_of-self c =
    let tables : List PageTableState = c.self.inside.tables.items in
    let x : Counted = c.self.inside.index in
    let kept : AreIndexed tables x = c.self.invariant in
    let row : PageTableState = c.index_mut-table.result.now in
    let there = subst (λ (s : TablesState). c.args.place < length s.pages) (sym c.self.view_is) c.requires.there in
    let long = long_map (λ (t : PageTableState). t.pages) tables in
    let within : c.args.place < length tables = omega arith in
    let room = subst (λ (s : TablesState). length (get_or s.pages c.args.place []) + c.args.count ≤ get_or s.limits c.args.place 0) (sym c.self.view_is) c.requires.room in
    let pages = ap length (column_at (λ (t : PageTableState). t.pages) tables c.args.place row [] within c.index_mut-table.ensures.value) in
    let limit = column_at (λ (t : PageTableState). t.max) tables c.args.place row 0 within c.index_mut-table.ensures.value in
    let fits : length row.pages + c.args.count ≤ row.max = omega arith in
    let apart = subst (λ (s : TablesState). (j : ℕ) → j ≢ c.args.place → 1 ≤ length (get_or s.pages j []) → get_or s.numbers j 0 ≢ get_or s.numbers c.args.place 0) (sym c.self.view_is) c.requires.apart in
    kept_grown tables x c.args.place c.args.count row c.grow.new.self kept within c.index_mut-table.ensures.value (c.grow.ensures.grown (c.grow.ensures.fits.1 fits)) fits apart

pub returns : goal.returns
returns c = search (rules, long_map, column_at, tables_row)
