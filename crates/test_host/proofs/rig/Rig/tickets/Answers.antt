use Rattle.test_host.proofs.Carrying.{roll_tickets}
use Rattle.test_host.proofs.rig.Rig.tickets.Goals as goal

pub returns : goal.returns
returns c = roll_tickets c.args.self.now.host c.in_ok-roll.roll c.tickets.result c.args.self.now.stands c.in_ok-roll.ensures.ok c.tickets.ensures
