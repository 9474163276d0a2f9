use Rattle.std.proofs.Common.{ap, ◌≡◌, ◌+◌, ◌-◌, Some, None, refl, sym, subst, arith, rules}
use Rattle.wh_host_model.specs.Host.{no_one_to_release}
use Rattle.wh_space_model.specs.{Exits}
use Rattle.wh_host.specs.Hosting.{HostState}
use Rattle.wh_host.proofs.Backed.{exits_backing, same_backing, then_backing}
use Rattle.wh_host.proofs.Hosts.{one_there, put_back}
use Rattle.wh_host.proofs.Requests.{gone_here, lives_there}
use Rattle.wh_host.proofs.Fields.{another_there, host_of, nobody_there, some_host, shown_host}
use Rattle.wh_host.proofs.host.Host.release.Goals as goal

pub returns-in_default-clause-goes : goal.returns-in_default-clause-goes
returns-in_default-clause-goes c w st =
    let (none, here) = nobody_there (host_of c.self.inside) w c.args.id c.self.view_is st (sym c.in_default.ensures.value) in
    (None, w, refl, no_one_to_release none, here)

pub invariant_of-self-then-not-has_number : goal.invariant_of-self-then-not-has_number
invariant_of-self-then-not-has_number c =
    some_host (put_back (host_of c.self.inside) c.args.id.place c.in-Some.entry.now (sym c.in-Some.ensures.value)) c.self.invariant

pub returns-then-not-has_number-clause-goes : goal.returns-then-not-has_number-clause-goes
returns-then-not-has_number-clause-goes c w st =
    let (none, here) = another_there (host_of c.self.inside) w c.args.id c.in-Some.entry.now c.self.view_is st (sym c.in-Some.ensures.value) c.if-not-has_number.ensures in
    (None, w, refl, no_one_to_release none, here)

pub returns-then-not-has_number-clause-err : goal.returns-then-not-has_number-clause-err
returns-then-not-has_number-clause-err c = search (rules, put_back, host_of)

pub exit-requires : goal.exit-requires
exit-requires c =
    let inv = c.self.invariant in
    lives_there (host_of c.self.inside) inv.0 c.args.id.place c.args.id.number c.in-Some.entry.now inv.1 (sym c.in-Some.ensures.value) c.if-not-has_number.ensures

pub overflow_sub-self : goal.overflow_sub-self
overflow_sub-self c =
    let inv = c.self.invariant in
    one_there (host_of c.self.inside) inv.0 c.args.id.place c.args.id.number c.in-Some.entry.now inv.1 (sym c.in-Some.ensures.value) c.if-not-has_number.ensures

pub invariant_of-self-2 : goal.invariant_of-self-2
invariant_of-self-2 c =
    let i = c.self.inside in
    let h = host_of i in
    let inv = c.self.invariant in
    let x = c.in-Some.entry.now in
    let some = one_there h inv.0 c.args.id.place c.args.id.number x inv.1 (sym c.in-Some.ensures.value) c.if-not-has_number.ensures in
    let fewer : i.live ≡ 1 + (i.live - 1) = omega (arith, some) in
    let made = gone_here h inv.0 c.args.id x c.take_output-output.new.self c.take_output-output.result.items c.leave_place.new.entries.slots c.exit.new.self (i.live - 1) inv.1 (sym c.in-Some.ensures.value) c.if-not-has_number.ensures c.take_output-output.ensures c.exit.ensures c.leave_place.ensures fewer in
    (made.0, made.2)

pub returns-clause-goes : goal.returns-clause-goes
returns-clause-goes c w st =
    let i = c.self.inside in
    let h = host_of i in
    let here = shown_host w c.self.view_is st in
    let x = c.in-Some.entry.now in
    let some = one_there h w c.args.id.place c.args.id.number x here (sym c.in-Some.ensures.value) c.if-not-has_number.ensures in
    let fewer : i.live ≡ 1 + (i.live - 1) = omega (arith, some) in
    let made = gone_here h w c.args.id x c.take_output-output.new.self c.take_output-output.result.items c.leave_place.new.entries.slots c.exit.new.self (i.live - 1) here (sym c.in-Some.ensures.value) c.if-not-has_number.ensures c.take_output-output.ensures c.exit.ensures c.leave_place.ensures fewer in
    (Some c.take_output-output.result.items, made.0, refl, made.1, made.2)

pub returns-clause-backing : goal.returns-clause-backing
returns-clause-backing c =
    let s = c.self.inside.memory in
    let here = same_backing c.args.self.now.space s (ap (λ (z : HostState). z.space) c.self.view_is) in
    then_backing c.args.self.now.space s c.exit.new.self here (exits_backing s c.args.id.place c.exit.new.self c.exit.ensures)

pub returns-clause-memory : goal.returns-clause-memory
returns-clause-memory c = subst (λ s. Exits s c.args.id.place c.exit.new.self) (ap (λ (z : HostState). z.space) c.self.view_is) c.exit.ensures
