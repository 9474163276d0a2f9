use Rattle.std.proofs.Common.{rules}
use Rattle.wh_host.proofs.Tellings.{told_here}
use Rattle.wh_host.proofs.Fields.{host_of, shown_host}
use Rattle.wh_host.proofs.host.Host.call_status.Goals as goal

pub returns-in_default : goal.returns-in_default
returns-in_default c w st = search rules

pub returns-then-not-has_number : goal.returns-then-not-has_number
returns-then-not-has_number c w st = search rules

pub returns-in_default-module_at : goal.returns-in_default-module_at
returns-in_default-module_at c w st = search rules

pub returns : goal.returns
returns c w st = search (rules, told_here, host_of, shown_host)
