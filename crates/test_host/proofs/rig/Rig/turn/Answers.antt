use Rattle.test_host.proofs.Carrying.{carried_on, host_on}
use Rattle.test_host.proofs.rig.Rig.turn.Goals as goal

pub invariant_of-self : goal.invariant_of-self
invariant_of-self c = record {
  stands = host_on c.args.self.now.host c.turn-end.new.self c.args.self.now.stands (λ w st. let t = c.turn-end.ensures.turns w st in (t.0, t.3));
  carried = carried_on c.args.self.now.host.space c.turn-end.new.self.space _ _ _ c.turn-end.ensures.backing.pass c.args.self.now.carried;
}
