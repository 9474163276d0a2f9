use Rattle.std.proofs.Common.{rules}
use Rattle.wh_host.proofs.Charges.{charges_here}
use Rattle.wh_host.proofs.Fields.{host_of, shown_host}
use Rattle.wh_host.proofs.host.Host.charges.Goals as goal

pub returns-in_default : goal.returns-in_default
returns-in_default c w st = search rules

pub returns-then-not-has_number : goal.returns-then-not-has_number
returns-then-not-has_number c w st = search rules

pub returns : goal.returns
returns c w st = search (rules, charges_here, host_of, shown_host)
