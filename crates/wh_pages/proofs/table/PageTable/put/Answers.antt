use Rattle.std.proofs.Common.{◌<◌, length, map, take, refl, ap, arith}
use Rattle.std.proofs.lemmas.List.{length-set}
use Rattle.wh_pages.specs.Parts.{page_of}
use Rattle.wh_pages.specs.Table.{PageTableState}
use Rattle.wh_space_model.specs.{swapped}
use Rattle.wh_space_model.proofs.Sums.{get_tally, set_tally}
use Rattle.wh_pages.proofs.Counts.{column_get, swapped_most}
use Rattle.wh_pages.proofs.Columns.{column-set, length-column, same_table}
use Rattle.wh_pages.proofs.table.PageTable.put.Goals as goal

pub overflow_sub-self : goal.overflow_sub-self
overflow_sub-self c =
    let i = c.self.invariant in
    let a = c.self.inside in
    let there = ap (λ (t : PageTableState). length t.pages) c.self.view_is in
    let long = length-column page_of a.rows a.len (let w = i.within in let r = i.room in omega (arith, w, r)) in
    let below : c.args.at < a.len = (let h = c.requires in omega (arith, h, there, long)) in
    let was = column_get page_of a.rows a.len c.args.at c.get-old.result below c.get-old.ensures in
    let some = get_tally swapped (map page_of (take a.len a.rows)) c.args.at (page_of c.get-old.result) was in
    omega (arith, some, i.swapped, c.swaps.ensures.is)

pub overflow_add-self : goal.overflow_add-self
overflow_add-self c =
    let i = c.self.invariant in
    let a = c.self.inside in
    let long = length-column page_of a.rows a.len (let w = i.within in let r = i.room in omega (arith, w, r)) in
    let most = swapped_most (map page_of (take a.len a.rows)) in
    omega (arith, most, long, i.within, i.most, i.swapped, c.swaps-2.ensures.one)

pub invariant_of-self : goal.invariant_of-self
invariant_of-self c =
    let i = c.self.invariant in
    let a = c.self.inside in
    let rooms = ap length c.set.ensures in
    let same = length-set a.rows c.args.at c.args.entry in
    let there = ap (λ (t : PageTableState). length t.pages) c.self.view_is in
    let long = length-column page_of a.rows a.len (let w = i.within in let r = i.room in omega (arith, w, r)) in
    let below : c.args.at < a.len = (let h = c.requires in omega (arith, h, there, long)) in
    let was = column_get page_of a.rows a.len c.args.at c.get-old.result below c.get-old.ensures in
    let pages = column-set page_of a.rows c.set.new.self a.len c.args.at c.args.entry (page_of c.args.entry) below c.set.ensures refl in
    let sum = set_tally swapped (map page_of (take a.len a.rows)) c.args.at (page_of c.get-old.result) (page_of c.args.entry) was in
    let some = get_tally swapped (map page_of (take a.len a.rows)) c.args.at (page_of c.get-old.result) was in
    record {
      within = i.within;
      room = omega (arith, i.room, rooms, same);
      most = i.most;
      swapped = rw pages (omega (arith, sum, some, i.swapped, c.swaps.ensures.is, c.swaps-2.ensures.is));
    }

pub returns : goal.returns
returns c =
    let a = c.self.inside in
    let i = c.self.invariant in
    let there = ap (λ (t : PageTableState). length t.pages) c.self.view_is in
    let long = length-column page_of a.rows a.len (let w = i.within in let r = i.room in omega (arith, w, r)) in
    let below : c.args.at < a.len = (let h = c.requires in omega (arith, h, there, long)) in
    rw (← c.self.view_is) (same_table _ _ _ _ a.max
    (column-set page_of a.rows c.set.new.self a.len c.args.at c.args.entry (page_of c.args.entry) below c.set.ensures refl)
    (column-set (λ entry. entry.touched) a.rows c.set.new.self a.len c.args.at c.args.entry c.args.entry.touched below c.set.ensures refl))
