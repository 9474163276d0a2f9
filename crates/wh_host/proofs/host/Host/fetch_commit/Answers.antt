use Rattle.std.proofs.Common.{◌≡◌, [], OnOk, get_or, sym, ap, subst, ◌∙◌, rules}
use Rattle.wh_space_model.specs.{to_read}
use Rattle.wh_space.specs.TicketOwners.{ticket_place}
use Rattle.wh_host.specs.TicketsOut.{IsOut, KeepsFault, fetch_fault}
use Rattle.wh_host.specs.Hosting.{HostState}
use Rattle.wh_host.proofs.KeptCounts.{whatever_counted}
use Rattle.wh_host.proofs.Carrying.{fetch_ended, fetch_ended_anyhow, is_fetching, nobody_left}
use Rattle.wh_host.proofs.Fields.{host_of, shown_host}
use Rattle.wh_host.proofs.host.Host.fetch_commit.Goals as goal

pub fetch_commit-end-requires : goal.fetch_commit-end-requires
fetch_commit-end-requires c =
    let h = host_of c.self.inside in
    let space : h.space ≡ c.args.self.now.space = ap (λ (z : HostState). z.space) c.self.view_is in
    is_fetching h.space c.args.fetched.ticket.slot (subst (λ s. IsOut s c.args.fetched.ticket.slot to_read) (sym space) c.requires.out)

pub invariant_of-self : goal.invariant_of-self
invariant_of-self c =
    let h = host_of c.self.inside in
    let inv = c.self.invariant in
    let kept = subst (λ f. KeepsFault h.entries c.args.fetched.id c.args.fetched.call f c.keep_fault.new.entries.slots) c.fault_of_fetch.ensures c.keep_fault.ensures in
    let made = fetch_ended_anyhow h inv.0 c.args.fetched.id c.args.fetched.call c.args.fetched.ticket.slot c.args.device c.args.fetched.ticket.bytes c.fetch_commit-end.result.0 (fetch_fault c.fetch_commit-end.result.0 c.args.device) c.fetch_commit-end.new.memory c.keep_fault.new.entries.slots c.leave_released.new.entries.slots inv.1 c.fetch_commit-end.ensures.commits kept c.leave_released.ensures.stays in
    (made.1, whatever_counted _ made.1 _ made.4)

pub returns-clause-moves : goal.returns-clause-moves
returns-clause-moves c held w st =
    let h = host_of c.self.inside in
    let space : h.space ≡ c.args.self.now.space = ap (λ (z : HostState). z.space) c.self.view_is in
    let read = subst (λ s. OnOk c.args.device (get_or s.slots.held c.args.fetched.ticket.slot [] ≡ c.args.fetched.ticket.bytes)) (sym space) held in
    let kept = subst (λ f. KeepsFault h.entries c.args.fetched.id c.args.fetched.call f c.keep_fault.new.entries.slots) c.fault_of_fetch.ensures c.keep_fault.ensures in
    let made = fetch_ended h w c.args.fetched.id c.args.fetched.call c.args.fetched.ticket.slot c.args.device c.args.fetched.ticket.bytes c.fetch_commit-end.result.0 (fetch_fault c.fetch_commit-end.result.0 c.args.device) c.fetch_commit-end.new.memory c.keep_fault.new.entries.slots c.leave_released.new.entries.slots (shown_host w c.self.view_is st) read c.fetch_commit-end.ensures.commits kept c.leave_released.ensures.stays in
    (made.0, made.1, whatever_counted _ made.0 _ made.2)

pub returns-clause-ends : goal.returns-clause-ends
returns-clause-ends c = search rules

pub returns-clause-leaves : goal.returns-clause-leaves
returns-clause-leaves c at e free =
    let h = host_of c.self.inside in
    let inv = c.self.invariant in
    let space : h.space ≡ c.args.self.now.space = ap (λ (z : HostState). z.space) c.self.view_is in
    let kept = subst (λ f. KeepsFault h.entries c.args.fetched.id c.args.fetched.call f c.keep_fault.new.entries.slots) c.fault_of_fetch.ensures c.keep_fault.ensures in
    let made = fetch_ended_anyhow h inv.0 c.args.fetched.id c.args.fetched.call c.args.fetched.ticket.slot c.args.device c.args.fetched.ticket.bytes c.fetch_commit-end.result.0 (fetch_fault c.fetch_commit-end.result.0 c.args.device) c.fetch_commit-end.new.memory c.keep_fault.new.entries.slots c.leave_released.new.entries.slots inv.1 c.fetch_commit-end.ensures.commits kept c.leave_released.ensures.stays in
    let told = c.ticket_place-place.ensures ∙ ap (ticket_place h.space) c.slot.ensures ∙ ap (λ s. ticket_place s c.args.fetched.ticket.slot) space ∙ e in
    nobody_left (record h { entries = c.leave_released.new.entries.slots; space = c.fetch_commit-end.new.memory }) made.1 at made.4 free (c.leave_released.ensures.leaves at told free)

pub returns-clause-anyhow : goal.returns-clause-anyhow
returns-clause-anyhow c w st =
    let h = host_of c.self.inside in
    let kept = subst (λ f. KeepsFault h.entries c.args.fetched.id c.args.fetched.call f c.keep_fault.new.entries.slots) c.fault_of_fetch.ensures c.keep_fault.ensures in
    let made = fetch_ended_anyhow h w c.args.fetched.id c.args.fetched.call c.args.fetched.ticket.slot c.args.device c.args.fetched.ticket.bytes c.fetch_commit-end.result.0 (fetch_fault c.fetch_commit-end.result.0 c.args.device) c.fetch_commit-end.new.memory c.keep_fault.new.entries.slots c.leave_released.new.entries.slots (shown_host w c.self.view_is st) c.fetch_commit-end.ensures.commits kept c.leave_released.ensures.stays in
    (made.0, made.1, made.2, made.3, whatever_counted _ made.1 _ made.4)
