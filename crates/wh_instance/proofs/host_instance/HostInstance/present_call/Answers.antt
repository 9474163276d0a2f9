use Rattle.std.proofs.Common.{rules}
use Rattle.wh_instance.proofs.Requested.{as_many_ended}
use Rattle.wh_instance.proofs.host_instance.HostInstance.present_call.Goals as goal

pub returns : goal.returns
returns c l limit bytes t given = search (rules, as_many_ended)
