use Rattle.std.proofs.Common.{◌≡◌, ◌+◌, ◌≤◌, ◌<◌, ℕ, Some, slice_get}
use Rattle.wh_host.specs.Rounds.{AllAreFree}
use Rattle.wh_host.specs.declared.rounds.Runner.{Runner}
use Rattle.wh_threads.specs.Working.{ReceivedTurnsState}
use Rattle.wh_scheduler.proofs.round_room.give_all.Given as goal

abbrev pub invariant-loop-at : goal.invariant-loop-at
invariant-loop-at l = record {
  free : AllAreFree l.runners;
  received : (k : ℕ) (y : Runner) → k < l.at → slice_get l.runners k ≡ Some y
      → (o : ReceivedTurnsState) × (slice_get l.fn.orders k ≡ Some o) × (o.instance ≡ y.id) × (o.quantum ≡ l.aim.quantum) × (l.aim.further + 1 ≤ o.count);
}
