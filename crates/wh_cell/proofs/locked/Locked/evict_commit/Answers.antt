use Rattle.std.proofs.Common.{◌∙◌, refl, sym, ap}
use Rattle.wh_cell.specs.Knowing.{without_ticket}
use Rattle.wh_cell.proofs.Steps.{evicted_in_step}
use Rattle.wh_cell.proofs.locked.Locked.evict_commit.Goals as goal

pub invariant_of-self : goal.invariant_of-self
invariant_of-self g c =
    let e = c.evict_commit-end in
    let s = c.self.invariant in
    let slot = c.args.eviction.ticket.slot in
    let agreed = c.agree.ensures.agreed in
    let called = c.requires.called s.device (sym (ap (λ k. k.device) agreed) ∙ s.agrees.has) in
    let known = c.commit.ensures.known ∙ c.commit.ensures.keeper ∙ ap (λ k. without_ticket k c.slot-slot.result c.args.device.now) (c.agree.ensures.same.0 ∙ sym agreed)
    ∙ ap (λ k. without_ticket c.self.inside.known k c.args.device.now) c.slot-slot.ensures in
    evicted_in_step g.D.SwapDev.held g.D.SwapDev.keeps g.D.SwapDev.honest g.D.SwapDev.faults _ e.new.self c.commit.new.known _ c.args.eviction.id c.args.eviction.call slot c.args.eviction.ticket.bytes c.args.answer e.result.0 c.args.device.now
    s e.ensures.moves e.ensures.ends called known (ap (λ b. b.charges) c.count_evictions.ensures.books)

pub invariant_of-self-else-eq : goal.invariant_of-self-else-eq
invariant_of-self-else-eq g c =
    let e = c.evict_commit-end in
    let s = c.self.invariant in
    let slot = c.args.eviction.ticket.slot in
    let agreed = c.agree.ensures.agreed in
    let called = c.requires.called s.device (sym (ap (λ k. k.device) agreed) ∙ s.agrees.has) in
    let known = c.commit.ensures.known ∙ c.commit.ensures.keeper ∙ ap (λ k. without_ticket k c.slot-slot.result c.args.device.now) (c.agree.ensures.same.0 ∙ sym agreed)
    ∙ ap (λ k. without_ticket c.self.inside.known k c.args.device.now) c.slot-slot.ensures in
    evicted_in_step g.D.SwapDev.held g.D.SwapDev.keeps g.D.SwapDev.honest g.D.SwapDev.faults _ e.new.self c.commit.new.known _ c.args.eviction.id c.args.eviction.call slot c.args.eviction.ticket.bytes c.args.answer e.result.0 c.args.device.now
    s e.ensures.moves e.ensures.ends called known refl
