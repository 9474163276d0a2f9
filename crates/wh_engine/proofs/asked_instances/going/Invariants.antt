use Rattle.std.proofs.Common.{[], ◌≢◌}
use Rattle.wh_engine.specs.Draining.{SomeGoes}
use Rattle.wh_engine.proofs.asked_instances.going.Given as goal

abbrev pub invariant-loop-id : goal.invariant-loop-id
invariant-loop-id l = l.going.items ≢ [] → SomeGoes l.host
