use Rattle.std.proofs.Common.{◌≡◌, Some, drop, length, slice_set, refl, sym, ap, subst, ◌∙◌, rules}
use Rattle.wh_host_model.specs.Host.{call_ok, call_no_instance, call_no_call, no_one_to_cancel, no_call_to_cancel}
use Rattle.wh_space_model.specs.{ended}
use Rattle.wh_journal.specs.Calls.{JournalState}
use Rattle.wh_host.specs.HostCounting.{counts_after_cancel, with_ended_calls}
use Rattle.wh_host.specs.Hosting.{HostState, IsHost}
use Rattle.wh_host.proofs.KeptCounts.{cancel_counted, whatever_counted}
use Rattle.wh_host.proofs.Hosts.{kept_back, put_back}
use Rattle.wh_host.proofs.Fields.{another_there, host_of, nobody_there, some_host, shown_host, unmoved_there}
use Rattle.wh_host.proofs.Requests.{cancelled_here, lives_there}
use Rattle.wh_host.proofs.host.Host.cancel.Goals as goal

pub returns-in_default-clause-asks : goal.returns-in_default-clause-asks
returns-in_default-clause-asks c w st =
    let (none, here) = nobody_there (host_of c.self.inside) w c.args.id c.self.view_is st (sym c.in_default.ensures.value) in
    (call_no_instance, w, refl, no_one_to_cancel none, here)

pub invariant_of-self-then-not-has_number : goal.invariant_of-self-then-not-has_number
invariant_of-self-then-not-has_number c =
    some_host (put_back (host_of c.self.inside) c.args.id.place c.in-Some.entry.now (sym c.in-Some.ensures.value)) c.self.invariant

pub returns-then-not-has_number-clause-asks : goal.returns-then-not-has_number-clause-asks
returns-then-not-has_number-clause-asks c w st =
    let (none, here) = another_there (host_of c.self.inside) w c.args.id c.in-Some.entry.now c.self.view_is st (sym c.in-Some.ensures.value) c.if-not-has_number.ensures in
    (call_no_instance, w, refl, no_one_to_cancel none, here)

pub returns-then-not-has_number-clause-err : goal.returns-then-not-has_number-clause-err
returns-then-not-has_number-clause-err c = search (rules, put_back, host_of)

pub invariant_of-self-then-not-cancel : goal.invariant_of-self-then-not-cancel
invariant_of-self-then-not-cancel c =
    some_host (kept_back (host_of c.self.inside) c.args.id.place c.in-Some.entry.now c.cancel.new.self (c.if-not-cancel.ensures.none refl).1 (sym c.in-Some.ensures.value)) c.self.invariant

pub returns-then-not-cancel-clause-asks : goal.returns-then-not-cancel-clause-asks
returns-then-not-cancel-clause-asks c w st =
    let none = c.if-not-cancel.ensures.none refl in
    let who = unmoved_there (host_of c.self.inside) w c.args.id c.in-Some.entry.now c.cancel.new.self _ c.self.view_is st (sym c.in-Some.ensures.value) c.if-not-has_number.ensures none.0 none.1 in
    (call_no_call, w, refl, no_call_to_cancel who.1 who.2, who.3)

pub returns-then-not-cancel-clause-err : goal.returns-then-not-cancel-clause-err
returns-then-not-cancel-clause-err c = search (rules, kept_back, host_of)

pub end-requires : goal.end-requires
end-requires c =
    let inv = c.self.invariant in
    let who = lives_there (host_of c.self.inside) inv.0 c.args.id.place c.args.id.number c.in-Some.entry.now inv.1 (sym c.in-Some.ensures.value) c.if-not-has_number.ensures in
    (who.0, who.1)

pub invariant_of-self-2 : goal.invariant_of-self-2
invariant_of-self-2 c =
    let h = host_of c.self.inside in
    let inv = c.self.invariant in
    let made = cancelled_here h inv.0 c.args.id c.in-Some.entry.now c.cancel.new.self inv.1 (sym c.in-Some.ensures.value) c.if-not-has_number.ensures (c.if-not-cancel.ensures.some refl) in
    (made.0, whatever_counted _ made.0 _ (subst (λ s. IsHost (record h { entries = slice_set h.entries c.args.id.place (Some (record c.in-Some.entry.now { tenant = c.cancel.new.self })); space = s }) made.0) (sym c.end.ensures) made.2))

pub returns-clause-asks : goal.returns-clause-asks
returns-clause-asks c w st =
    let h = host_of c.self.inside in
    let made = cancelled_here h w c.args.id c.in-Some.entry.now c.cancel.new.self (shown_host w c.self.view_is st) (sym c.in-Some.ensures.value) c.if-not-has_number.ensures (c.if-not-cancel.ensures.some refl) in
    (call_ok, made.0, refl, made.1, whatever_counted _ made.0 _ (subst (λ s. IsHost (record h { entries = slice_set h.entries c.args.id.place (Some (record c.in-Some.entry.now { tenant = c.cancel.new.self })); space = s }) made.0) (sym c.end.ensures) made.2))

pub returns-clause-memory : goal.returns-clause-memory
returns-clause-memory c = c.end.ensures ∙ ap (λ (z : HostState). ended z.space c.args.id.place) c.self.view_is

pub returns-clause-counts : goal.returns-clause-counts
returns-clause-counts c =
    let before = c.ended_len-before.ensures ∙ ap (λ (j : JournalState). length j.ended) c.journal.ensures in
    let counted = c.count_ended.ensures ∙ ap (λ (j : JournalState). with_ended_calls c.self.inside.counts (drop c.ended_len-before.result j.ended)) c.journal-2.ensures in
    subst (λ (z : HostState). c.count_ended.new.self ≡ counts_after_cancel z c.args.id (record (host_of c.self.inside) { entries = slice_set c.self.inside.entries.slots c.args.id.place (Some (record c.in-Some.entry.now { tenant = c.cancel.new.self })); space = c.end.new.self; counts = c.count_ended.new.self })) c.self.view_is
    (cancel_counted (host_of c.self.inside) c.args.id c.in-Some.entry.now c.cancel.new.self c.end.new.self c.ended_len-before.result c.count_ended.new.self (sym c.in-Some.ensures.value) before counted)
