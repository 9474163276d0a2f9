use Rattle.wh_swap.specs.MemorySwaps.{memory_held}
use Rattle.wh_space.proofs.Keeping.{keeps_store}
use Rattle.wh_reclaim.proofs.Together.{same_pass}
use Rattle.bench_host.proofs.pool.Pool.store.Goals as goal

pub invariant_of-self : goal.invariant_of-self
invariant_of-self c = record {
  together = same_pass c.args.self.now.memory c.store.new.self (memory_held c.args.self.now.device)
      (keeps_store c.args.self.now.memory c.args.place _ _ c.store.result c.store.new.self c.invariant.ensures.sound c.store.ensures.leaves).pass
      c.args.self.now.together;
}
