use Rattle.std.proofs.Common.{refl, sym, rules}
use Rattle.wh_host_model.specs.Host.{Refuels, refuel, call_ok, call_no_instance, call_no_call, is_refueled, no_one_to_refuel, no_call_to_refuel}
use Rattle.wh_host.proofs.Hosts.{asked_here, kept_back, put_back, refuel_stays}
use Rattle.wh_host.proofs.Fields.{another_there, host_of, nobody_there, some_host, shown_host, unmoved_there}
use Rattle.wh_host.proofs.host.Host.refuel.Goals as goal

pub returns-in_default-clause-asks : goal.returns-in_default-clause-asks
returns-in_default-clause-asks c w st =
    let (none, here) = nobody_there (host_of c.self.inside) w c.args.id c.self.view_is st (sym c.in_default.ensures.value) in
    (call_no_instance, w, refl, no_one_to_refuel none, here)

pub invariant_of-self-then-not-has_number : goal.invariant_of-self-then-not-has_number
invariant_of-self-then-not-has_number c =
    some_host (put_back (host_of c.self.inside) c.args.id.place c.in-Some.entry.now (sym c.in-Some.ensures.value)) c.self.invariant

pub returns-then-not-has_number-clause-asks : goal.returns-then-not-has_number-clause-asks
returns-then-not-has_number-clause-asks c w st =
    let (none, here) = another_there (host_of c.self.inside) w c.args.id c.in-Some.entry.now c.self.view_is st (sym c.in-Some.ensures.value) c.if-not-has_number.ensures in
    (call_no_instance, w, refl, no_one_to_refuel none, here)

pub returns-then-not-has_number-clause-err : goal.returns-then-not-has_number-clause-err
returns-then-not-has_number-clause-err c = search (rules, put_back, host_of)

pub invariant_of-self-then-not-refuel : goal.invariant_of-self-then-not-refuel
invariant_of-self-then-not-refuel c =
    some_host (kept_back (host_of c.self.inside) c.args.id.place c.in-Some.entry.now c.refuel.new.self (c.if-not-refuel.ensures.none refl).1 (sym c.in-Some.ensures.value)) c.self.invariant

pub returns-then-not-refuel-clause-asks : goal.returns-then-not-refuel-clause-asks
returns-then-not-refuel-clause-asks c w st =
    let none = c.if-not-refuel.ensures.none refl in
    let who = unmoved_there (host_of c.self.inside) w c.args.id c.in-Some.entry.now c.refuel.new.self _ c.self.view_is st (sym c.in-Some.ensures.value) c.if-not-has_number.ensures none.0 none.1 in
    (call_no_call, w, refl, no_call_to_refuel who.1 who.2, who.3)

pub returns-then-not-refuel-clause-err : goal.returns-then-not-refuel-clause-err
returns-then-not-refuel-clause-err c = search (rules, kept_back, host_of)

pub invariant_of-self-2 : goal.invariant_of-self-2
invariant_of-self-2 c =
    let inv = c.self.invariant in
    let made = asked_here (host_of c.self.inside) inv.0 c.args.id c.in-Some.entry.now _ (λ t t2. Refuels t c.args.fuel t2) inv.1 (sym c.in-Some.ensures.value) c.if-not-has_number.ensures (λ t t2. refuel_stays t c.args.fuel t2) (c.if-not-refuel.ensures.some refl) (refuel c.args.id c.args.fuel) (λ t t2 live is. (call_ok, is_refueled live is)) in
    (_, made.4)

pub returns-clause-asks : goal.returns-clause-asks
returns-clause-asks c w st =
    let made = asked_here (host_of c.self.inside) w c.args.id c.in-Some.entry.now _ (λ t t2. Refuels t c.args.fuel t2) (shown_host w c.self.view_is st) (sym c.in-Some.ensures.value) c.if-not-has_number.ensures (λ t t2. refuel_stays t c.args.fuel t2) (c.if-not-refuel.ensures.some refl) (refuel c.args.id c.args.fuel) (λ t t2 live is. (call_ok, is_refueled live is)) in
    (call_ok, _, refl, is_refueled made.2 made.3, made.4)
