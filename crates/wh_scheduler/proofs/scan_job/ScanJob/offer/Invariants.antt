use Rattle.std.proofs.Common.{◌≡◌}
use Rattle.wh_scheduler.proofs.scan_job.ScanJob.offer.Given as goal

abbrev pub invariant-loop-look : goal.invariant-loop-look
invariant-loop-look g l = l.helper.from ≡ l.fn.helper.from
