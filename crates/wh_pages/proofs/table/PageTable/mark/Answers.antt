use Rattle.std.proofs.Common.{◌<◌, refl, length, ap, ◌∙◌, arith}
use Rattle.wh_pages.specs.Parts.{page_of}
use Rattle.wh_pages.specs.Table.{PageTableState}
use Rattle.wh_pages.proofs.Columns.{length-column, same_table}
use Rattle.wh_pages.proofs.Counts.{column_get, put_again, slice_there}
use Rattle.wh_pages.proofs.table.PageTable.mark.Goals as goal

pub returns : goal.returns
returns c =
    let a = c.self.inside in
    let i = c.self.invariant in
    let there = ap (λ (t : PageTableState). length t.pages) c.self.view_is in
    let long = length-column page_of a.rows a.len (let w = i.within in let r = i.room in omega (arith, w, r)) in
    let below : c.args.at < a.len = (let h = c.requires in omega (arith, h, there, long)) in
    let page = slice_there c.args.at (page_of c.get-old.result) (ap (λ (t : PageTableState). t.pages) c.self.view_is) (column_get page_of a.rows a.len c.args.at c.get-old.result below c.get-old.ensures) in
    c.put.ensures ∙ same_table _ _ _ _ c.args.self.now.max (put_again c.args.self.now.pages c.args.at (page_of c.get-old.result) page) refl
