use Rattle.test_host.proofs.Carrying.{carried_on, host_on}
use Rattle.test_host.proofs.rig.Rig.cancel.Goals as goal

pub invariant_of-self : goal.invariant_of-self
invariant_of-self c = record {
  stands = host_on c.args.self.now.host c.cancel-answer.new.self c.args.self.now.stands (λ w st. let t = c.cancel-answer.ensures.asks w st in (t.1, t.4));
  carried = carried_on c.args.self.now.host.space c.cancel-answer.new.self.space _ _ _ c.cancel-answer.ensures.backing.pass c.args.self.now.carried;
}
