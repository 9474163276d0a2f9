use Rattle.std.proofs.Common.{subst, sym}
use Rattle.wh_reclaim.specs.Together.{AreTogether}
use Rattle.wh_reclaim.proofs.Together.{new_together}
use Rattle.bench_host.proofs.pool.Pool.new.Goals as goal

pub invariant_of-result : goal.invariant_of-result
invariant_of-result c = record {
  together = subst (λ held. AreTogether c.in_ok-memory.memory held) (sym c.in_ok-device.ensures.held)
      (new_together c.in_ok-memory.memory c.args.frames c.args.slots _ c.in_ok-memory.ensures.is);
}
