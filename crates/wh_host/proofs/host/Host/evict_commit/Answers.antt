use Rattle.std.proofs.Common.{◌≡◌, is_ok, ap, subst, ◌∙◌}
use Rattle.wh_space.specs.TicketOwners.{ticket_place}
use Rattle.wh_host.specs.TicketsOut.{EndsEvict, KeepsFault, evict_fault}
use Rattle.wh_host.specs.Hosting.{HostState}
use Rattle.wh_host.proofs.KeptCounts.{whatever_counted}
use Rattle.wh_host.proofs.Carrying.{evict_ended, nobody_left}
use Rattle.wh_host.proofs.Fields.{host_of, shown_host}
use Rattle.wh_host.proofs.host.Host.evict_commit.Goals as goal

pub invariant_of-self : goal.invariant_of-self
invariant_of-self c =
    let h = host_of c.self.inside in
    let inv = c.self.invariant in
    let kept = subst (λ f. KeepsFault h.entries c.args.eviction.id c.args.eviction.call f c.keep_fault.new.entries.slots) c.fault_of_evict.ensures c.keep_fault.ensures in
    let made = evict_ended h inv.0 c.args.eviction.id c.args.eviction.call c.args.eviction.ticket.slot (is_ok c.args.device) c.args.eviction.ticket.bytes c.commit_written-end.result.0 (evict_fault c.commit_written-end.result.0 c.args.device) c.commit_written-end.new.memory c.keep_fault.new.entries.slots c.leave_released.new.entries.slots inv.1 c.commit_written-end.ensures.ends kept c.leave_released.ensures.stays in
    (made.0, whatever_counted _ made.0 _ made.2)

pub returns-clause-moves : goal.returns-clause-moves
returns-clause-moves c w st =
    let h = host_of c.self.inside in
    let kept = subst (λ f. KeepsFault h.entries c.args.eviction.id c.args.eviction.call f c.keep_fault.new.entries.slots) c.fault_of_evict.ensures c.keep_fault.ensures in
    let made = evict_ended h w c.args.eviction.id c.args.eviction.call c.args.eviction.ticket.slot (is_ok c.args.device) c.args.eviction.ticket.bytes c.commit_written-end.result.0 (evict_fault c.commit_written-end.result.0 c.args.device) c.commit_written-end.new.memory c.keep_fault.new.entries.slots c.leave_released.new.entries.slots (shown_host w c.self.view_is st) c.commit_written-end.ensures.ends kept c.leave_released.ensures.stays in
    (made.0, made.1, whatever_counted _ made.0 _ made.2)

pub returns-clause-ends : goal.returns-clause-ends
returns-clause-ends c =
    let space : (host_of c.self.inside).space ≡ c.args.self.now.space = ap (λ (z : HostState). z.space) c.self.view_is in
    subst (λ s. EndsEvict s c.args.eviction.ticket.slot (is_ok c.args.device) c.args.eviction.ticket.bytes c.commit_written-end.result.0 c.commit_written-end.new.memory) space c.commit_written-end.ensures.ends

pub returns-clause-leaves : goal.returns-clause-leaves
returns-clause-leaves c at e free =
    let h = host_of c.self.inside in
    let inv = c.self.invariant in
    let space : h.space ≡ c.args.self.now.space = ap (λ (z : HostState). z.space) c.self.view_is in
    let kept = subst (λ f. KeepsFault h.entries c.args.eviction.id c.args.eviction.call f c.keep_fault.new.entries.slots) c.fault_of_evict.ensures c.keep_fault.ensures in
    let made = evict_ended h inv.0 c.args.eviction.id c.args.eviction.call c.args.eviction.ticket.slot (is_ok c.args.device) c.args.eviction.ticket.bytes c.commit_written-end.result.0 (evict_fault c.commit_written-end.result.0 c.args.device) c.commit_written-end.new.memory c.keep_fault.new.entries.slots c.leave_released.new.entries.slots inv.1 c.commit_written-end.ensures.ends kept c.leave_released.ensures.stays in
    let told = c.ticket_place-place.ensures ∙ ap (ticket_place h.space) c.slot.ensures ∙ ap (λ s. ticket_place s c.args.eviction.ticket.slot) space ∙ e in
    nobody_left (record h { entries = c.leave_released.new.entries.slots; space = c.commit_written-end.new.memory }) made.0 at made.2 free (c.leave_released.ensures.leaves at told free)
