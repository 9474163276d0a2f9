use Rattle.test_host.proofs.Carrying.{carried_on, host_on}
use Rattle.test_host.proofs.rig.Rig.invoke_at.Goals as goal

pub invariant_of-self : goal.invariant_of-self
invariant_of-self c = record {
  stands = host_on c.args.self.now.host c.invoke_at.new.self c.args.self.now.stands (λ w st. let t = c.invoke_at.ensures.asks w st in (t.3, t.6));
  carried = carried_on c.args.self.now.host.space c.invoke_at.new.self.space _ _ _ c.invoke_at.ensures.backing.pass c.args.self.now.carried;
}
