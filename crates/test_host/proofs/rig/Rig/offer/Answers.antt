use Rattle.test_host.proofs.Carrying.{carried_on, host_on}
use Rattle.test_host.proofs.rig.Rig.offer.Goals as goal

pub invariant_of-self : goal.invariant_of-self
invariant_of-self g c = record {
  stands = host_on c.args.self.now.host c.offer-outcome.new.self c.args.self.now.stands (λ w st. let t = c.offer-outcome.ensures.moves w st in (t.0, t.2));
  carried = carried_on c.args.self.now.host.space c.offer-outcome.new.self.space _ _ _ c.offer-outcome.ensures.backing.pass c.args.self.now.carried;
}
