use Rattle.std.proofs.Common.{◌∙◌, Some, sym, ap}
use Rattle.wh_cell.specs.Knowing.{KnownState}
use Rattle.wh_cell.proofs.Steps.{read_in_step}
use Rattle.wh_cell.proofs.locked.Locked.read.Goals as goal

pub invariant_of-self : goal.invariant_of-self
invariant_of-self g c =
    let r = c.read-read in
    let agreed = c.agree.ensures.agreed in
    let has = ap (λ k. k.device) (agreed ∙ c.backing.invariant.knows) in
    read_in_step g.D.SwapDev.held g.D.SwapDev.keeps g.D.SwapDev.honest g.D.SwapDev.faults _ c.backing.inside.device r.new.device _ c.settle.new.known c.self.invariant has
    (c.settle.ensures.known ∙ c.settle.ensures.keeper ∙ ap (λ (k : KnownState g.row.D.Denot). (let z : KnownState g.row.D.Denot = record k { device = Some r.new.device } in z)) (c.agree.ensures.same.0 ∙ sym agreed))
    r.ensures.serves r.ensures.held
