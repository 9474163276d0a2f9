use Rattle.std.proofs.Common.{false, Some, refl, ap, ◌∙◌}
use Rattle.wh_tables.proofs.Keeping.{put_again}
use Rattle.wh_tables.proofs.tables.Tables.untouch.Goals as goal

pub returns-then-not-is_touched : goal.returns-then-not-is_touched
returns-then-not-is_touched c = rw (put_again c.args.self.now.marks c.args.place c.args.number false (c.is_touched.ensures ∙ ap Some c.if-not-is_touched.true)) refl
