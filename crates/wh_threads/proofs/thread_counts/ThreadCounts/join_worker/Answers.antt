use Rattle.std.proofs.Common.{ap, ◌∙◌, ◌++◌}
use Rattle.crossbeam_channel.specs.Claims.{view}
use Rattle.wh_threads.specs.Counting.{WorkerState}
use Rattle.wh_threads.proofs.Grown.{worker_grew}
use Rattle.wh_threads.proofs.thread_counts.ThreadCounts.join_worker.Goals as goal

pub returns-clause-grown : goal.returns-clause-grown
returns-clause-grown g c =
    let parts = c.into_parts-worker.ensures in
    worker_grew c.args.self.now.tallies c.take_worker.new.self.tallies c.args.seat c.args.handle.promise.from
    c.into_parts-worker.result.0.tally (view c.args.slip.now).received (view c.join.result.slip).received
    (view c.put_back.new.slip).received c.requires.seat (λ i. (c.take_worker.ensures.counted i).tallies)
    (ap (λ (w : WorkerState). w.tally.turns) parts.0 ∙ c.join.ensures.turns)
    ((λ i. (c.put_back.ensures.both i).received)
    ∙ (λ i. (view c.args.slip.now).received ++ (view (parts.1 i)).received))
