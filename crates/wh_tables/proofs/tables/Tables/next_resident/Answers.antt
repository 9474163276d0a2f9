use Rattle.std.proofs.Common.{arith}
use Rattle.wh_pages.specs.Table.{PageTableState}
use Rattle.wh_tables.specs.Tables.{marks_by_place, pages_by_place}
use Rattle.wh_tables.proofs.Finding.{next_at, next_nowhere}
use Rattle.wh_tables.proofs.Keeping.{long_map}
use Rattle.wh_tables.proofs.tables.Tables.next_resident.Goals as goal

pub returns-then-place-len : goal.returns-then-place-len
returns-then-place-len c =
    let long = long_map (λ (t : PageTableState). t.pages) c.self.inside.tables.items in
    rw (← c.self.view_is) (next_nowhere (pages_by_place c.self.inside.tables.items) (marks_by_place c.self.inside.tables.items) c.args.place c.args.idle c.args.from (omega (arith, long, c.if-place-len.true, c.len.ensures)))

pub returns : goal.returns
returns c = rw (← c.self.view_is) (next_at c.self.inside.tables.items c.args.place c.index.result.now c.args.idle c.args.from c.next_resident.result (omega (arith, c.if-place-len.false, c.len.ensures)) c.index.ensures c.next_resident.ensures)
