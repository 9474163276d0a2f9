use Rattle.std.proofs.Common.{sym}
use Rattle.bench_host.proofs.Places.{somebody}
use Rattle.bench_host.proofs.pool.Pool.look.Goals as goal

pub returns-then-is_at : goal.returns-then-is_at
returns-then-is_at c = somebody c.args.self.now.memory c.args.number _ (sym c.if-is_at.ensures)
