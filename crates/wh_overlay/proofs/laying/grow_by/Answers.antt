use Rattle.std.proofs.Common.{◌≡◌, ◌≤◌, [], rules}
use Rattle.wh_overlay.proofs.Grown.{come_after, sees_grown}
use Rattle.wh_overlay.proofs.LaidSteps.{growth_step, no_growth}
use Rattle.wh_overlay.proofs.laying.grow_by.Goals as goal

pub returns-then-pages-eq0 : goal.returns-then-pages-eq0
returns-then-pages-eq0 c = search (rules, no_growth)

pub returns : goal.returns
returns c = search (rules, growth_step, sees_grown, come_after)
