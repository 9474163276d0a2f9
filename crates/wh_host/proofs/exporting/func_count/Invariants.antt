use Rattle.std.proofs.Common.{◌≡◌, ◌≤◌, ◌+◌, drop, filter, length}
use Rattle.wh_host.specs.ModuleExports.{is_func}
use Rattle.wh_syntax.specs.declared.module.Export.{Export}
use Rattle.wh_host.proofs.exporting.func_count.Given as goal

abbrev pub invariant-loop-export : goal.invariant-loop-export
invariant-loop-export l = (l.count ≤ l.export-index) × (l.count + length (filter (λ (e : Export). is_func e.kind) (drop l.export-index l.exports)) ≡ length (filter (λ (e : Export). is_func e.kind) l.exports))
