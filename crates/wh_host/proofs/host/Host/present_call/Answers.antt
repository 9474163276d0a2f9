use Rattle.std.proofs.Common.{rules}
use Rattle.wh_host.proofs.host.Host.present_call.Goals as goal

pub returns-in_default : goal.returns-in_default
returns-in_default c w st t live = search rules

pub returns-then-not-has_number : goal.returns-then-not-has_number
returns-then-not-has_number c w st t live = search rules

pub returns : goal.returns
returns c = search rules
