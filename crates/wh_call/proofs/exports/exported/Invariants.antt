use Rattle.std.proofs.Common.{◌≡◌, ◌<◌, ℕ, slice_get, Some}
use Rattle.wh_syntax.specs.declared.module.Export.{Export}
use Rattle.wh_call.specs.Exports.{IsFuncOf}
use Rattle.wh_call.proofs.exports.exported.Given as goal

abbrev pub invariant-loop-at : goal.invariant-loop-at
invariant-loop-at l = (i : ℕ) (e : Export) → i < l.at → slice_get l.exports i ≡ Some e → ¬ (IsFuncOf l.name e)
