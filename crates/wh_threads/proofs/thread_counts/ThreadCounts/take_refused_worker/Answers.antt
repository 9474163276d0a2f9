use Rattle.wh_threads.proofs.Grown.{back_idle}
use Rattle.wh_threads.proofs.thread_counts.ThreadCounts.take_refused_worker.Goals as goal

pub returns-clause-same : goal.returns-clause-same
returns-clause-same g c =
    back_idle c.args.self.now c.take_worker.new.self c.args.seat c.args.unstarted.worker.from
    c.args.unstarted.worker.tally c.requires.seat c.requires.idle c.take_worker.ensures.counted
