use Rattle.std.proofs.Common.{true, Some, refl, ap, ◌∙◌}
use Rattle.wh_tables.proofs.Keeping.{put_again}
use Rattle.wh_tables.proofs.tables.Tables.touch.Goals as goal

pub returns-then-is_touched : goal.returns-then-is_touched
returns-then-is_touched c = rw (put_again c.args.self.now.marks c.args.place c.args.number true (c.is_touched.ensures ∙ ap Some c.if-is_touched.true)) refl
