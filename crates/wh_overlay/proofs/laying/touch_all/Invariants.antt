use Rattle.std.proofs.Common.{◌≡◌, [], take}
use Rattle.wh_space_model.specs.{view}
use Rattle.wh_overlay.specs.LaidBack.{HasLaid}
use Rattle.wh_overlay.proofs.laying.touch_all.Given as goal

abbrev pub invariant-loop-number : goal.invariant-loop-number
invariant-loop-number l =
    HasLaid l.fn.memory l.fn.place 0 (take l.number-index l.fn.numbers) (view l.fn.memory l.fn.place) [] l.memory × (l.place ≡ l.fn.place) × (l.numbers ≡ l.fn.numbers)
