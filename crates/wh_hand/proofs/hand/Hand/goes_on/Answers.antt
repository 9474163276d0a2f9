use Rattle.std.proofs.Common.{not, subst}
use Rattle.wh_host.specs.Paging.{Tells}
use Rattle.wh_hand.specs.HandStates.{HandState}
use Rattle.wh_hand.specs.Running.{AnyGoesOn}
use Rattle.wh_hand.proofs.Steps.{told_by_line}
use Rattle.wh_hand.proofs.hand.Hand.goes_on.Goals as goal

pub returns : goal.returns
returns c =
    let i = c.self.inside in
    subst (λ (z : HandState). Tells z.host (not c.is_empty.result) AnyGoesOn) c.self.view_is
    (told_by_line i.host i.line.items i.line.len c.is_empty.result i.line.ok.0 c.is_empty.ensures c.self.invariant.lists)
