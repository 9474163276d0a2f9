use Rattle.std.proofs.Common.{◌∙◌, sym, ap}
use Rattle.wh_cell.specs.Knowing.{without_ticket}
use Rattle.wh_cell.proofs.Steps.{fetched_in_step}
use Rattle.wh_cell.proofs.locked.Locked.fetch_commit.Goals as goal

pub invariant_of-self : goal.invariant_of-self
invariant_of-self g c =
    let f = c.fetch_commit-end in
    let s = c.self.invariant in
    let slot = c.args.fetched.ticket.slot in
    let agreed = c.agree.ensures.agreed in
    let called = c.requires.called s.device (sym (ap (λ k. k.device) agreed) ∙ s.agrees.has) in
    let known = c.commit.ensures.known ∙ c.commit.ensures.keeper ∙ ap (λ k. without_ticket k c.slot-slot.result c.args.device.now) (c.agree.ensures.same.0 ∙ sym agreed)
    ∙ ap (λ k. without_ticket c.self.inside.known k c.args.device.now) c.slot-slot.ensures in
    fetched_in_step g.D.SwapDev.held g.D.SwapDev.keeps g.D.SwapDev.honest g.D.SwapDev.faults _ f.new.self c.commit.new.known c.args.fetched.id c.args.fetched.call slot c.args.fetched.ticket.bytes c.args.answer f.result.0 c.args.device.now
    s f.ensures.moves f.ensures.anyhow f.ensures.ends called known
