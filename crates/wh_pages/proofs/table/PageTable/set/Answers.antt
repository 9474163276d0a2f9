use Rattle.std.proofs.Common.{slice_set, ap, ◌∙◌}
use Rattle.wh_pages.proofs.Columns.{same_table}
use Rattle.wh_pages.proofs.Counts.{put_again}
use Rattle.wh_pages.proofs.table.PageTable.set.Goals as goal

pub returns : goal.returns
returns c =
    c.put.ensures
    ∙ same_table _ _ _ _ c.args.self.now.max (ap (slice_set c.args.self.now.pages c.args.at) c.new.ensures.page)
    (ap (slice_set c.args.self.now.touched c.args.at) c.new.ensures.touched ∙ put_again c.args.self.now.touched c.args.at c.is_touched-touched.result c.is_touched-touched.ensures)
