use Rattle.std.proofs.Common.{◌≡◌, ◌+◌, ℕ, Some, length, slice_get}
use Rattle.wh_instance.specs.declared.stages.CallStatus.{CallStatus}
use Rattle.wh_host.specs.Telling.{TellsOf}
use Rattle.wh_desk.proofs.copying.ends.Given as goal

abbrev pub invariant-loop-i : goal.invariant-loop-i
invariant-loop-i l = record {
  many : length l.statuses.items ≡ l.i;
  told : (k : ℕ) (status : CallStatus) → slice_get l.statuses.items k ≡ Some status → TellsOf l.host l.id (l.from + k) (Some status);
}
