use Rattle.std.proofs.Common.{◌∙◌, refl}
use Rattle.wh_cell.proofs.Steps.{left_in_step}
use Rattle.wh_cell.proofs.locked.Locked.sync_owner.Goals as goal

pub invariant_of-self : goal.invariant_of-self
invariant_of-self g c =
    let s = c.self.invariant in
    left_in_step g.D.SwapDev.held g.D.SwapDev.keeps g.D.SwapDev.honest g.D.SwapDev.faults _ c.self.inside.host c.leave.new.left s s.some s.fits (λ led. led) (record { pass = refl; frames = refl; slots = refl; tax = refl }) (c.leave.ensures.left ∙ c.leave.ensures.owner)
