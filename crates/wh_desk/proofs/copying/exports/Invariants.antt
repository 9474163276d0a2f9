use Rattle.std.proofs.Common.{◌≡◌, ℕ, Some, length, slice_get}
use Rattle.std.specs.String.{string_bytes}
use Rattle.wh_host.specs.ModuleExports.{ShowsExport}
use Rattle.wh_desk.specs.OwnCopies.{type_of_export}
use Rattle.wh_desk.specs.declared.copying.DeskExport.{DeskExport}
use Rattle.wh_desk.proofs.copying.exports.Given as goal

abbrev pub invariant-loop-at : goal.invariant-loop-at
invariant-loop-at l = record {
  many : length l.all.items ≡ l.at;
  shows : (i : ℕ) (x : DeskExport) → slice_get l.all.items i ≡ Some x → ShowsExport l.host l.of.number i (string_bytes x.name) (type_of_export x);
}
