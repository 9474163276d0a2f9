use Rattle.std.proofs.Common.{rules}
use Rattle.wh_instance.proofs.Requested.{retries}
use Rattle.wh_instance.proofs.host_instance.HostInstance.retry.Goals as goal

pub returns-clause-some : goal.returns-clause-some
returns-clause-some c is_true l limit bytes t given = search (rules, retries)
