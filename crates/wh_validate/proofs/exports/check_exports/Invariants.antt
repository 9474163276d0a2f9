use Rattle.std.proofs.Common.{ℕ, ◌<◌, get_or, take}
use Rattle.wh_syntax.specs.declared.module.Export.{Export}
use Rattle.wh_bodies.specs.View.{view_context}
use Rattle.wh_validate.specs.Parts.{IsExport}
use Rattle.wh_validate.specs.SeenNames.{HasSeen}
use Rattle.wh_validate.proofs.exports.check_exports.Given as goal

abbrev pub invariant-loop-export : goal.invariant-loop-export
invariant-loop-export l = record {
  there : (k : ℕ) (d : Export) → k < l.export-index → IsExport (view_context l.context) (get_or l.exports k d);
  seen : HasSeen l.names (take l.export-index l.exports);
}
