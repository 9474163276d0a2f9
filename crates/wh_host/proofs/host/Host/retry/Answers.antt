use Rattle.std.proofs.Common.{refl, sym, rules}
use Rattle.wh_host_model.specs.Host.{Retries, retry, call_ok, call_no_instance, call_no_call, is_retried, no_one_to_retry, no_fault_to_retry}
use Rattle.wh_host.proofs.Hosts.{asked_here, kept_back, put_back, retry_stays}
use Rattle.wh_host.proofs.Fields.{another_there, host_of, nobody_there, some_host, shown_host, unmoved_there}
use Rattle.wh_host.proofs.host.Host.retry.Goals as goal

pub returns-in_default-clause-asks : goal.returns-in_default-clause-asks
returns-in_default-clause-asks c w st =
    let (none, here) = nobody_there (host_of c.self.inside) w c.args.id c.self.view_is st (sym c.in_default.ensures.value) in
    (call_no_instance, w, refl, no_one_to_retry none, here)

pub invariant_of-self-then-not-has_number : goal.invariant_of-self-then-not-has_number
invariant_of-self-then-not-has_number c =
    some_host (put_back (host_of c.self.inside) c.args.id.place c.in-Some.entry.now (sym c.in-Some.ensures.value)) c.self.invariant

pub returns-then-not-has_number-clause-asks : goal.returns-then-not-has_number-clause-asks
returns-then-not-has_number-clause-asks c w st =
    let (none, here) = another_there (host_of c.self.inside) w c.args.id c.in-Some.entry.now c.self.view_is st (sym c.in-Some.ensures.value) c.if-not-has_number.ensures in
    (call_no_instance, w, refl, no_one_to_retry none, here)

pub returns-then-not-has_number-clause-err : goal.returns-then-not-has_number-clause-err
returns-then-not-has_number-clause-err c = search (rules, put_back, host_of)

pub invariant_of-self-then-not-retry : goal.invariant_of-self-then-not-retry
invariant_of-self-then-not-retry c =
    some_host (kept_back (host_of c.self.inside) c.args.id.place c.in-Some.entry.now c.retry.new.self (c.if-not-retry.ensures.none refl).1 (sym c.in-Some.ensures.value)) c.self.invariant

pub returns-then-not-retry-clause-asks : goal.returns-then-not-retry-clause-asks
returns-then-not-retry-clause-asks c w st =
    let none = c.if-not-retry.ensures.none refl in
    let who = unmoved_there (host_of c.self.inside) w c.args.id c.in-Some.entry.now c.retry.new.self _ c.self.view_is st (sym c.in-Some.ensures.value) c.if-not-has_number.ensures none.0 none.1 in
    (call_no_call, w, refl, no_fault_to_retry who.1 who.2, who.3)

pub returns-then-not-retry-clause-err : goal.returns-then-not-retry-clause-err
returns-then-not-retry-clause-err c = search (rules, kept_back, host_of)

pub invariant_of-self-2 : goal.invariant_of-self-2
invariant_of-self-2 c =
    let inv = c.self.invariant in
    let made = asked_here (host_of c.self.inside) inv.0 c.args.id c.in-Some.entry.now _ Retries inv.1 (sym c.in-Some.ensures.value) c.if-not-has_number.ensures retry_stays (c.if-not-retry.ensures.some refl) (retry c.args.id) (λ t t2 live is. (call_ok, is_retried live is)) in
    (_, made.4)

pub returns-clause-asks : goal.returns-clause-asks
returns-clause-asks c w st =
    let made = asked_here (host_of c.self.inside) w c.args.id c.in-Some.entry.now _ Retries (shown_host w c.self.view_is st) (sym c.in-Some.ensures.value) c.if-not-has_number.ensures retry_stays (c.if-not-retry.ensures.some refl) (retry c.args.id) (λ t t2 live is. (call_ok, is_retried live is)) in
    (call_ok, _, refl, is_retried made.2 made.3, made.4)
