use Rattle.test_host.proofs.Carrying.{carried_on, host_on}
use Rattle.test_host.proofs.rig.Rig.epoch.Goals as goal

pub invariant_of-self : goal.invariant_of-self
invariant_of-self c = record {
  stands = host_on c.args.self.now.host c.epoch.new.self c.args.self.now.stands (λ w st. let t = c.epoch.ensures.moves w st in (t.0, t.2));
  carried = carried_on c.args.self.now.host.space c.epoch.new.self.space _ _ _ c.epoch.ensures.backing.pass c.args.self.now.carried;
}
