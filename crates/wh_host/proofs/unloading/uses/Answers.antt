use Rattle.std.proofs.Common.{sym}
use Rattle.wh_host.proofs.KeptModules.{is_user, no_user}
use Rattle.wh_host.proofs.unloading.uses.Goals as goal

pub returns-in_default : goal.returns-in_default
returns-in_default c = no_user c.args.entries.now.slots c.args.number c.args.place (sym c.in_default.ensures)

pub returns : goal.returns
returns c = is_user c.args.entries.now.slots c.args.number c.args.place c.in-Some.entry.now c.is_of.result (sym c.in-Some.ensures) c.is_of.ensures
