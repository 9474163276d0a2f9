use Rattle.std.proofs.Common.{◌≡◌, drop, filter, slice_get}
use Rattle.wh_host.specs.ModuleExports.{is_func}
use Rattle.wh_syntax.specs.declared.module.Export.{Export}
use Rattle.wh_host.proofs.exporting.func_export.Given as goal

abbrev pub invariant-loop-export : goal.invariant-loop-export
invariant-loop-export l = slice_get (filter (λ (e : Export). is_func e.kind) (drop l.export-index l.exports)) l.left ≡ slice_get (filter (λ (e : Export). is_func e.kind) l.exports) l.at
