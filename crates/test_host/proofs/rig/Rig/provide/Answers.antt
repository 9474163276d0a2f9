use Rattle.std.proofs.Common.{◌≡◌, length, arith}
use Rattle.wh_swap.specs.Written.{page_held}
use Rattle.test_host.proofs.Carrying.{host_on, none_left}
use Rattle.test_host.proofs.rig.Rig.provide.Goals as goal

pub invariant_of-self : goal.invariant_of-self
invariant_of-self c =
    let none : length c.args.self.now.leaving.items ≡ 0 = grind (arith, c.args.self.now.leaving.ok, c.if-not-keeps_none.ensures.leaving) in
    let none2 : length c.args.self.now.coming.items ≡ 0 = grind (arith, c.args.self.now.coming.ok, c.if-not-keeps_none.ensures.coming) in
    let h2 = c.provide-answer.new.self in
    let some = host_on c.args.self.now.host h2 c.args.self.now.stands (λ w st. let t = c.provide-answer.ensures.anyhow w st in (t.1, t.4)) in
    record {
      stands = some;
      carried = none_left h2 (page_held c.provide-answer.new.device) c.args.self.now.leaving.items c.args.self.now.coming.items some c.provide-answer.ensures.agrees none none2;
    }
