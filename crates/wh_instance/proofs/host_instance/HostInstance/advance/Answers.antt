use Rattle.std.proofs.Common.{◌≡◌, ◌∙◌, ⊎_elim, ℕ, ◌*◌, ap, subst, arith}
use Rattle.std.proofs.Math.Nat.{one-mul}
use Rattle.wh_machine.specs.CallStates.{setting_of}
use Rattle.wh_instance.specs.Advancing.{AdvancesTenant}
use Rattle.wh_instance.proofs.host_instance.HostInstance.advance.Goals as goal

pub returns-in-UnderWay-clause-advances : goal.returns-in-UnderWay-clause-advances
returns-in-UnderWay-clause-advances g c t e es is_open given =
    let w = setting_of c.args.linked.now g.M.LinearMem.bytes g.M.LinearMem.ready g.M.LinearMem.keeps (g.M.LinearMem.limit c.args.memory.now) in
    let k = c.advance_on-ended in
    let one : k.result.turns ≡ 1 = ⊎_elim (λ is. is) (λ more. absurd (let two = more.0 in omega (arith, k.ensures.few, two))) k.ensures.used in
    let all : k.result.turns * c.args.q ≡ c.args.q = ap (λ n. n * c.args.q) one ∙ one-mul c.args.q in
    subst (λ (q : ℕ). AdvancesTenant w q c.args.memory.now t e es k.result.came 0 k.result.charges k.new.self k.new.memory) all (k.ensures.advances t e es is_open given)
