use Rattle.std.proofs.Common.{◌≡◌, Some, slice_get, subst, arith}
use Rattle.wh_machine.proofs.Holding.{its_stack}
use Rattle.wh_machine.specs.declared.machine.Stack.{Stack}
use Rattle.wh_machine.proofs.Lookups.{top_first}
use Rattle.wh_machine.proofs.machine.Machine.result.Goals as goal

pub returns : goal.returns
returns c =
    let same = its_stack c.in-Some.is c.self.view_is in
    subst (λ (z : Stack). Some c.top.result ≡ slice_get z.words 0) same (top_first c.in-Some.stack.words c.top.result (omega (arith, c.if-len-eq0.false, c.len.ensures)) c.top.ensures)
