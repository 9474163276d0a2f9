use Rattle.std.proofs.Common.{◌≡◌, ◌∙◌, inl, inr, ℕ, suc, ◌+◌, ◌*◌, ◌-◌, refl, sym, ap, subst, arith}
use Rattle.std.proofs.Math.Nat.{suc-mul, one-mul}
use Rattle.wh_machine.specs.CallStates.{setting_of, call_state}
use Rattle.wh_instance.specs.Computed.{ComputesWithin}
use Rattle.wh_instance.proofs.BurstTurns.{goes_further, in_fuel, some_taken, still_there}
use Rattle.wh_instance.proofs.burst.compute_burst.Goals as goal

pub loop-behind-init : goal.loop-behind-init
loop-behind-init g c =
    let w = setting_of c.args.linked.now g.M.LinearMem.bytes g.M.LinearMem.ready g.M.LinearMem.keeps (g.M.LinearMem.limit c.args.memory.now) in
    let r = c.compute-came in
    let before = call_state c.args.machine.now c.args.store.now c.args.memory.now in
    let after = call_state r.new.machine r.new.store r.new.memory in
    record {
      turns = refl;
      leave = c.none.ensures;
      computes = subst (λ n. ComputesWithin w before n c.args.left r.result.0 r.result.1 after) (sym (one-mul c.args.burst.quantum)) r.ensures.computes;
      used = inl refl;
      keeps = r.ensures.keeps;
    }

pub compute-came-requires-in-loop-behind : goal.compute-came-requires-in-loop-behind
compute-came-requires-in-loop-behind g c =
    let w = setting_of c.args.linked.now g.M.LinearMem.bytes g.M.LinearMem.ready g.M.LinearMem.keeps (g.M.LinearMem.limit c.args.memory.now) in
    let z = c.loop-behind in
    let before = call_state c.args.machine.now c.args.store.now c.args.memory.now in
    let mid = call_state z.machine z.store z.memory in
    let first = subst (λ a. ComputesWithin w before (z.ended.turns * c.args.burst.quantum) c.args.left a z.ended.charges mid) (c.if-not-goes_on.ensures.may refl).0 z.invariant.computes in
    let limit = g.met.M.LinearMem.keeps_limit c.args.memory.now z.memory z.invariant.keeps in
    rw limit (still_there w before mid (z.ended.turns * c.args.burst.quantum) c.args.left z.ended.charges first c.requires).0

pub overflow_sub-rest : goal.overflow_sub-rest
overflow_sub-rest g c =
    let w = setting_of c.args.linked.now g.M.LinearMem.bytes g.M.LinearMem.ready g.M.LinearMem.keeps (g.M.LinearMem.limit c.args.memory.now) in
    let z = c.loop-behind in
    let before = call_state c.args.machine.now c.args.store.now c.args.memory.now in
    let mid = call_state z.machine z.store z.memory in
    let first = subst (λ a. ComputesWithin w before (z.ended.turns * c.args.burst.quantum) c.args.left a z.ended.charges mid) (c.if-not-goes_on.ensures.may refl).0 z.invariant.computes in
    let less = (still_there w before mid (z.ended.turns * c.args.burst.quantum) c.args.left z.ended.charges first c.requires).1 in
    omega (arith, less)

pub loop-behind-preserved : goal.loop-behind-preserved
loop-behind-preserved g c =
    let w = setting_of c.args.linked.now g.M.LinearMem.bytes g.M.LinearMem.ready g.M.LinearMem.keeps (g.M.LinearMem.limit c.args.memory.now) in
    let z = c.loop-behind in
    let q = c.args.burst.quantum in
    let left = c.args.left in
    let r = c.compute-came-in-loop-behind in
    let before = call_state c.args.machine.now c.args.store.now c.args.memory.now in
    let mid = call_state z.machine z.store z.memory in
    let after = call_state r.new.machine r.new.store r.new.memory in
    let first = subst (λ a. ComputesWithin w before (z.ended.turns * q) left a z.ended.charges mid) (c.if-not-goes_on.ensures.may refl).0 z.invariant.computes in
    let stands = still_there w before mid (z.ended.turns * q) left z.ended.charges first c.requires in
    let limit = g.met.M.LinearMem.keeps_limit c.args.memory.now z.memory z.invariant.keeps in
    let then = subst (λ (n : ℕ). ComputesWithin (setting_of c.args.linked.now g.M.LinearMem.bytes g.M.LinearMem.ready g.M.LinearMem.keeps n) mid q (left - z.ended.charges) r.result.0 r.result.1 after) limit r.ensures.computes in
    let both = goes_further w before mid after (z.ended.turns * q) q left z.ended.charges r.result.1 r.result.0 first then in
    let least = (c.if-not-goes_on.ensures.may refl).1 in
    let some = some_taken w before mid after (z.ended.turns * q) q left z.ended.charges r.result.1 r.result.0 first c.requires least then in
    let turns : c.from.result + 2 ≡ suc z.ended.turns = omega (arith, c.from.ensures, z.invariant.turns) in
    let grows : (c.from.result + 2) * q ≡ z.ended.turns * q + q = ap (λ n. n * q) turns ∙ suc-mul z.ended.turns q in
    record {
      turns = omega (arith, c.from.ensures);
      leave = (let one = c.if-not-goes_on.ensures.leave refl in let had = z.invariant.leave in omega (arith, one, had));
      computes = subst (λ n. ComputesWithin w before n left r.result.0 (z.ended.charges + r.result.1) after) (sym grows) both;
      used = inr (least, omega arith, omega (arith, grows, stands.2, some));
      keeps = g.met.M.LinearMem.keeps_more c.args.memory.now z.memory r.new.memory z.invariant.keeps r.ensures.keeps;
    }

pub overflow_add-ended : goal.overflow_add-ended
overflow_add-ended g c =
    let w = setting_of c.args.linked.now g.M.LinearMem.bytes g.M.LinearMem.ready g.M.LinearMem.keeps (g.M.LinearMem.limit c.args.memory.now) in
    let z = c.loop-behind in
    let q = c.args.burst.quantum in
    let left = c.args.left in
    let r = c.compute-came-in-loop-behind in
    let before = call_state c.args.machine.now c.args.store.now c.args.memory.now in
    let mid = call_state z.machine z.store z.memory in
    let after = call_state r.new.machine r.new.store r.new.memory in
    let first = subst (λ a. ComputesWithin w before (z.ended.turns * q) left a z.ended.charges mid) (c.if-not-goes_on.ensures.may refl).0 z.invariant.computes in
    let stands = still_there w before mid (z.ended.turns * q) left z.ended.charges first c.requires in
    let limit = g.met.M.LinearMem.keeps_limit c.args.memory.now z.memory z.invariant.keeps in
    let then = subst (λ (n : ℕ). ComputesWithin (setting_of c.args.linked.now g.M.LinearMem.bytes g.M.LinearMem.ready g.M.LinearMem.keeps n) mid q (left - z.ended.charges) r.result.0 r.result.1 after) limit r.ensures.computes in
    let few = in_fuel w mid after q (left - z.ended.charges) r.result.1 r.result.0 then stands.0 in
    omega (arith, stands.1, few, c.ranges.left.fits)
