use Rattle.std.proofs.Common.{◌≡◌, ◌+◌, ◌*◌, ◌<◌, ◌^◌, ◌∙◌, rules}
use Rattle.wh_space_model.proofs.Reading.{view_length}
use Rattle.wh_overlay.proofs.overlay.Overlay.new.Goals as goal

pub invariant_of-result : goal.invariant_of-result
invariant_of-result c = search (rules, view_length)
