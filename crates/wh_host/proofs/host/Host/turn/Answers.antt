use Rattle.std.proofs.Common.{◌≡◌, ◌∙◌, ◌-◌, ◌≤◌, arith, Some, ap, drop, length, slice_set, subst, sym}
use Rattle.wh_journal.specs.Calls.{JournalState}
use Rattle.wh_host.specs.Hosting.{HostState}
use Rattle.wh_host.specs.HostCounting.{after_turn, counts_after_turn}
use Rattle.wh_host.specs.Reporting.{all_sharers}
use Rattle.wh_host.proofs.FewerSharing.{turn_shares}
use Rattle.wh_host.proofs.KeptCounts.{turn_counted, whatever_counted}
use Rattle.wh_host.proofs.Hosts.{idle_host, put_back, lies_here, turned_here, no_module_less}
use Rattle.wh_host.proofs.Fields.{another_there, host_of, nobody_there, some_host, shown_host}
use Rattle.wh_host.proofs.host.Host.turn.Goals as goal

pub returns-in_default-clause-turns : goal.returns-in_default-clause-turns
returns-in_default-clause-turns c w st =
    let (none, here) = nobody_there (host_of c.self.inside) w c.args.id c.self.view_is st (sym c.in_default.ensures.value) in
    idle_host w c.args.id c.args.q none here

pub invariant_of-self-then-not-has_number : goal.invariant_of-self-then-not-has_number
invariant_of-self-then-not-has_number c =
    some_host (put_back (host_of c.self.inside) c.args.id.place c.in-Some.entry.now (sym c.in-Some.ensures.value)) c.self.invariant

pub returns-then-not-has_number-clause-turns : goal.returns-then-not-has_number-clause-turns
returns-then-not-has_number-clause-turns c w st =
    let (none, here) = another_there (host_of c.self.inside) w c.args.id c.in-Some.entry.now c.self.view_is st (sym c.in-Some.ensures.value) c.if-not-has_number.ensures in
    idle_host w c.args.id c.args.q none here

pub invariant_of-self-in_default-module_at : goal.invariant_of-self-in_default-module_at
invariant_of-self-in_default-module_at c =
    some_host (put_back (host_of c.self.inside) c.args.id.place c.in-Some.entry.now (sym c.in-Some.ensures.value)) c.self.invariant

pub returns-in_default-module_at-clause-turns : goal.returns-in_default-module_at-clause-turns
returns-in_default-module_at-clause-turns c w st =
    absurd (no_module_less (host_of c.self.inside) w c.args.id.place c.args.id.number c.in-Some.entry.now (shown_host w c.self.view_is st) (sym c.in-Some.ensures.value) c.if-not-has_number.ensures (sym c.in_default-module_at.ensures))

pub turn_at-turned-requires : goal.turn_at-turned-requires
turn_at-turned-requires c =
    let inv = c.self.invariant in
    let lies = lies_here (host_of c.self.inside) inv.0 c.args.id.place c.args.id.number c.in-Some.entry.now c.in-Some-module_at.module.now inv.1 (sym c.in-Some.ensures.value) c.if-not-has_number.ensures (sym c.in-Some-module_at.ensures) in
    (lies.0, lies.2)

pub invariant_of-self-2 : goal.invariant_of-self-2
invariant_of-self-2 c =
    let inv = c.self.invariant in
    let made = turned_here (host_of c.self.inside) inv.0 c.args.id c.args.q c.in-Some.entry.now _ c.in-Some-module_at.module.now c.turn_at-turned.result.0 c.turn_at-turned.result.1 c.turn_at-turned.new.memory inv.1 (sym c.in-Some.ensures.value) c.if-not-has_number.ensures (sym c.in-Some-module_at.ensures) c.turn_at-turned.ensures.turns in
    (made.0, whatever_counted _ made.0 _ made.3)

pub returns-clause-turns : goal.returns-clause-turns
returns-clause-turns c w st =
    let made = turned_here (host_of c.self.inside) w c.args.id c.args.q c.in-Some.entry.now _ c.in-Some-module_at.module.now c.turn_at-turned.result.0 c.turn_at-turned.result.1 c.turn_at-turned.new.memory (shown_host w c.self.view_is st) (sym c.in-Some.ensures.value) c.if-not-has_number.ensures (sym c.in-Some-module_at.ensures) c.turn_at-turned.ensures.turns in
    (made.0, made.1, made.2, whatever_counted _ made.0 _ made.3)

pub returns-clause-counts : goal.returns-clause-counts
returns-clause-counts c =
    let before = c.ended_len-before.ensures ∙ ap (λ (j : JournalState). length j.ended) c.journal.ensures in
    let fewer = c.saturating_sub-breaks.ensures ∙ ap (λ n. n - c.sharers_of.result) c.sharers_of-sharers.ensures ∙ ap (λ n. all_sharers c.self.inside.memory - n) c.sharers_of.ensures in
    let counted = c.count_turn.ensures ∙ ap (λ (j : JournalState). after_turn c.self.inside.counts c.turn_at-turned.result.0 c.turn_at-turned.result.1 (drop c.ended_len-before.result j.ended) c.saturating_sub-breaks.result) c.journal-2.ensures in
    subst (λ (z : HostState). c.count_turn.new.self ≡ counts_after_turn z c.args.id c.turn_at-turned.result.0 c.turn_at-turned.result.1 (record (host_of c.self.inside) { entries = slice_set c.self.inside.entries.slots c.args.id.place (Some (record c.in-Some.entry.now { tenant = c.turn_at-turned.new.tenant })); space = c.turn_at-turned.new.memory; counts = c.count_turn.new.self })) c.self.view_is
    (turn_counted (host_of c.self.inside) c.args.id c.in-Some.entry.now c.turn_at-turned.new.tenant c.turn_at-turned.result.0 c.turn_at-turned.result.1 c.turn_at-turned.new.memory c.ended_len-before.result c.saturating_sub-breaks.result c.count_turn.new.self (sym c.in-Some.ensures.value) before fewer counted)

pub returns-in_default-clause-shares : goal.returns-in_default-clause-shares
returns-in_default-clause-shares c = subst (λ (z : HostState). all_sharers c.self.inside.memory ≤ all_sharers z.space) c.self.view_is (omega arith)

pub returns-then-not-has_number-clause-shares : goal.returns-then-not-has_number-clause-shares
returns-then-not-has_number-clause-shares c = subst (λ (z : HostState). all_sharers c.self.inside.memory ≤ all_sharers z.space) c.self.view_is (omega arith)

pub returns-in_default-module_at-clause-shares : goal.returns-in_default-module_at-clause-shares
returns-in_default-module_at-clause-shares c = subst (λ (z : HostState). all_sharers c.self.inside.memory ≤ all_sharers z.space) c.self.view_is (omega arith)

pub returns-clause-shares : goal.returns-clause-shares
returns-clause-shares c =
    subst (λ (z : HostState). all_sharers c.turn_at-turned.new.memory ≤ all_sharers z.space) c.self.view_is (turn_shares c.args.id.place c.turn_at-turned.result.0 c.self.inside.memory c.turn_at-turned.new.memory c.turn_at-turned.ensures.memory)
