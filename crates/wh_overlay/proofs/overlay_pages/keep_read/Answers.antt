use Rattle.std.proofs.Common.{◌<◌, ◌≤◌, rules}
use Rattle.wh_overlay.proofs.Marks.{marks_fewer}
use Rattle.wh_overlay.proofs.overlay_pages.keep_read.Goals as goal

pub push_reserved-requires : goal.push_reserved-requires
push_reserved-requires c = search (rules, marks_fewer)
