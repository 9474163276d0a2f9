use Rattle.std.proofs.Common.{inl, ℕ, refl, sym, subst, arith}
use Rattle.std.proofs.Math.Nat.{one-mul}
use Rattle.wh_machine.specs.CallStates.{setting_of}
use Rattle.wh_instance.specs.Advancing.{AdvancesAny}
use Rattle.wh_instance.proofs.host_instance.HostInstance.advance_burst.Goals as goal

pub returns : goal.returns
returns g c =
    let w = setting_of c.args.linked.now g.M.LinearMem.bytes g.M.LinearMem.ready g.M.LinearMem.keeps (g.M.LinearMem.limit c.args.memory.now) in
    let k = c.advance-came in
    record {
      advances = subst (λ (q : ℕ). AdvancesAny w q c.args.self.now c.args.memory.now k.result.0 k.result.1 k.result.2 k.new.self k.new.memory) (sym (one-mul c.args.burst.quantum)) k.ensures.advances;
      used = inl refl;
      few = omega arith;
      leave = omega arith;
      stays = k.ensures.stays;
      keeps = k.ensures.keeps;
    }
