use Rattle.std.proofs.Common.{arith}
use Rattle.wh_threads.proofs.Tallies.{tally_same}
use Rattle.wh_threads.proofs.worker.Worker.is_idle.Goals as goal

pub returns : goal.returns
returns g c =
    let same = tally_same c.self.inside.tally c.self.inside.from in
    grind (arith, same)
