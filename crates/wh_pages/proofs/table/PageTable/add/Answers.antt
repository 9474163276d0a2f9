use Rattle.std.proofs.Common.{◌≡◌, ◌<◌, ◌≤◌, length, ap, ◌∙◌, arith}
use Rattle.std.proofs.lemmas.List.{length-set}
use Rattle.wh_pages.specs.Parts.{page_of}
use Rattle.wh_pages.specs.Table.{PageTableState}
use Rattle.wh_space_model.specs.{swapped}
use Rattle.wh_pages.proofs.Counts.{tally_added}
use Rattle.wh_pages.proofs.Columns.{length-column}
use Rattle.wh_pages.proofs.table.PageTable.add.Goals as goal

pub invariant_of-self : goal.invariant_of-self
invariant_of-self c =
    let a = c.self.inside in
    let i = c.self.invariant in
    let few : a.len ≤ length a.rows = (let w = i.within in let r = i.room in omega (arith, w, r)) in
    let long = length-column page_of a.rows a.len few in
    let pages_long = ap (λ (t : PageTableState). length t.pages) c.self.view_is in
    let max_is = ap (λ (t : PageTableState). t.max) c.self.view_is in
    let rooms = ap length c.set.ensures ∙ length-set a.rows a.len c.blank.result in
    let below : a.len < length a.rows = (let room = c.requires in omega (arith, room, pages_long, max_is, long, i.room)) in
    let added = tally_added swapped page_of a.rows a.len c.blank.result below in
    let blank : swapped (page_of c.blank.result) ≡ 0 = ap swapped c.blank.ensures.page in
    record {
      within = (let room = c.requires in omega (arith, room, pages_long, max_is, long));
      room = (let r = i.room in omega (arith, r, rooms));
      most = i.most;
      swapped = rw (c.set.ensures) (omega (arith, added, i.swapped, blank));
    }
