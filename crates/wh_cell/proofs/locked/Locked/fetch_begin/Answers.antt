use Rattle.std.proofs.Common.{◌∙◌, Some, sym, ap, subst}
use Rattle.wh_space_model.specs.{pass_of, to_read}
use Rattle.wh_host.specs.TicketsOut.{slot_to_read}
use Rattle.wh_cell.specs.Knowing.{AgreesWith, with_ticket}
use Rattle.wh_cell.specs.Locking.{LockedState}
use Rattle.wh_cell.proofs.Beginning.{fetch_content, fetch_passes, goes_out, has_content, may_wait, sound_of}
use Rattle.wh_cell.proofs.Passing.{Passes, out_with}
use Rattle.wh_cell.proofs.Steps.{begun_in_step, idle_in_step}
use Rattle.wh_cell.proofs.locked.Locked.fetch_begin.Goals as goal

pub invariant_of-self : goal.invariant_of-self
invariant_of-self g c =
    let f = c.fetch_begin in
    let h = c.self.inside.host in
    let known = ap (λ (l : LockedState g.row.D.Denot). l.known) c.self.view_is ∙ c.requires.agree in
    let waits = may_wait h c.args.id c.self.invariant.some c.if-not-awaits_frame.ensures in
    let passes = fetch_passes h f.new.self c.args.id f.result waits f.ensures.begins f.ensures.idle in
    let slot = ap slot_to_read c.in-Ok.is ∙ ap Some (sym c.slot.ensures) in
    begun_in_step g.D.SwapDev.held g.D.SwapDev.keeps g.D.SwapDev.honest g.D.SwapDev.faults _ f.new.self c.begin_read.new.known c.slot.result to_read c.self.invariant f.ensures.moves
    (subst (λ x. Passes h.space h.space.slots.held (out_with (pass_of h.space).out x to_read) f.new.self.space) slot passes)
    (c.begin_read.ensures.known ∙ c.begin_read.ensures.keeper ∙ ap (λ k. with_ticket k c.slot.result to_read) (sym known))

pub invariant_of-self-in-Err : goal.invariant_of-self-in-Err
invariant_of-self-in-Err g c =
    let f = c.fetch_begin in
    let h = c.self.inside.host in
    let waits = may_wait h c.args.id c.self.invariant.some c.if-not-awaits_frame.ensures in
    let passes = fetch_passes h f.new.self c.args.id f.result waits f.ensures.begins f.ensures.idle in
    idle_in_step g.D.SwapDev.held g.D.SwapDev.keeps g.D.SwapDev.honest g.D.SwapDev.faults _ f.new.self c.self.invariant f.ensures.moves
    (subst (λ x. Passes h.space h.space.slots.held (out_with (pass_of h.space).out x to_read) f.new.self.space) (ap slot_to_read c.in-Err.is) passes)

pub returns-in-Ok-clause-begun : goal.returns-in-Ok-clause-begun
returns-in-Ok-clause-begun g c =
    let f = c.fetch_begin in
    let h = c.self.inside.host in
    let device = c.self.invariant.device in
    let slot = c.in-Ok.fetched.ticket.slot in
    let known = ap (λ (l : LockedState g.row.D.Denot). l.known) c.self.view_is ∙ c.requires.agree in
    let agrees = subst (λ k. AgreesWith g.D.SwapDev.held h.space k device) known c.self.invariant.agrees in
    let waits = may_wait h c.args.id c.self.invariant.some c.if-not-awaits_frame.ensures in
    let sound = sound_of h c.self.invariant.some in
    let is = ap slot_to_read c.in-Ok.is in
    let passes = subst (λ x. Passes h.space h.space.slots.held (out_with (pass_of h.space).out x to_read) f.new.self.space) is (fetch_passes h f.new.self c.args.id f.result waits f.ensures.begins f.ensures.idle) in
    let after = c.begin_read.ensures.keeper ∙ ap (λ k. with_ticket c.args.keeper.now k to_read) c.slot.ensures in
    let out = goes_out g.D.SwapDev.held h.space f.new.self.space c.args.keeper.now c.begin_read.new.self device slot to_read sound agrees passes c.in-Ok.ensures.out after in (
      out,
      has_content g.D.SwapDev.held h.space f.new.self.space c.args.keeper.now c.begin_read.new.self device slot to_read agrees
          (fetch_content h f.new.self c.args.id f.result slot is sound waits f.ensures.begins f.ensures.idle),
    )
