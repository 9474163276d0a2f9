use Rattle.std.proofs.Common.{◌≡◌, ◌≢◌, ℕ, ◌≤◌, List, [], length, get_or, sym, ap, ◌∙◌, subst, arith, rules}
use Rattle.wh_space_model.specs.{with_row}
use Rattle.wh_pages.specs.Table.{PageTableState}
use Rattle.wh_tables.specs.Index.{Counted}
use Rattle.wh_tables.specs.Tables.{AreIndexed, TablesState}
use Rattle.wh_tables.proofs.Arriving.{MayArrive, kept_arrived, tables_arrived}
use Rattle.wh_tables.proofs.Keeping.{long_map}
use Rattle.wh_tables.proofs.tables.Tables.enter.Goals as goal

pub invariant_of-self-2 : goal.invariant_of-self-2
invariant_of-self-2 c =
    let tables : List PageTableState = c.self.inside.tables.items in
    let x : Counted = c.self.inside.index in
    let kept : AreIndexed tables x = c.self.invariant in
    let rows = c.put_row.ensures ∙ ap (λ xs. with_row xs c.args.place c.in_ok-table.table) c.in_ok-reserve.ensures.items ∙ ap (λ (t : PageTableState). with_row tables c.args.place t) c.in_ok-table.ensures in
    let long = long_map (λ (t : PageTableState). t.pages) tables in
    let place = subst (λ (s : TablesState). c.args.place ≤ length s.pages) (sym c.self.view_is) c.requires.place.1 in
    let empty = subst (λ (s : TablesState). get_or s.pages c.args.place [] ≡ []) (sym c.self.view_is) c.requires.empty in
    let fresh = subst (λ (s : TablesState). (j : ℕ) → 1 ≤ length (get_or s.pages j []) → get_or s.numbers j 0 ≢ c.args.number) (sym c.self.view_is) c.requires.fresh in
    let may : MayArrive tables x c.args.place c.args.number c.args.pages c.args.max = record { few = c.requires.place.0; place = omega arith; empty = empty; fresh = fresh; fits = c.requires.within.0; most = c.requires.within.1 } in
    rw (rows, c.in_ok-enter.ensures.ok) (kept_arrived tables x c.args.place c.args.number c.args.pages c.args.max kept may)

pub returns-clause-ok : goal.returns-clause-ok
returns-clause-ok c = search (rules, tables_arrived)
