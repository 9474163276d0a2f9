use Rattle.std.proofs.Common.{◌≡◌, Err, Ok, Some, slice_set, sym, ap, subst, ◌∙◌, rules}
use Rattle.wh_host_model.specs.Host.{AwaitsFrame}
use Rattle.wh_space_model.specs.{tickets, IsProvided, FailsToProvide, FailsTruly, Provides, ProvidesTruly}
use Rattle.wh_host.specs.HostCounting.{with_fault}
use Rattle.wh_host.specs.Hosting.{HostState, IsHost, entry_at}
use Rattle.wh_host.specs.Paging.{WaitsFor}
use Rattle.wh_host.proofs.KeptCounts.{provision_counted, whatever_counted}
use Rattle.wh_host.proofs.Hosts.{put_back}
use Rattle.wh_host.proofs.Paged.{another_waits, failed_anyhow, failed_here, keeps_fault, no_one_waits, nothing_anyhow, nothing_moves, nothing_waits, provided_anyhow, provided_here, waits_stands, waits_there}
use Rattle.wh_host.proofs.Fields.{back_there, host_of, some_host, shown_host, still_waits}
use Rattle.wh_host.proofs.host.Host.provide.Goals as goal

pub returns-in_default-clause-moves : goal.returns-in_default-clause-moves
returns-in_default-clause-moves g c honest w st =
    nothing_moves (host_of c.self.inside) w c.args.id AwaitsFrame (shown_host w c.self.view_is st)

pub returns-in_default-clause-provides : goal.returns-in_default-clause-provides
returns-in_default-clause-provides g c need waits honest = search rules

pub returns-in_default-clause-right : goal.returns-in_default-clause-right
returns-in_default-clause-right g c need waits =
    absurd (no_one_waits (host_of c.self.inside) c.args.id need (sym c.in_default.ensures.value) (still_waits c.args.id need c.self.view_is waits))

pub returns-then-not-has_number-clause-provides : goal.returns-then-not-has_number-clause-provides
returns-then-not-has_number-clause-provides g c need waits honest = search rules

pub returns-then-not-has_number-clause-right : goal.returns-then-not-has_number-clause-right
returns-then-not-has_number-clause-right g c need waits =
    absurd (another_waits (host_of c.self.inside) c.args.id need c.in-Some.entry.now (sym c.in-Some.ensures.value) c.if-not-has_number.ensures (still_waits c.args.id need c.self.view_is waits))

pub returns-then-not-awaits_frame-clause-provides : goal.returns-then-not-awaits_frame-clause-provides
returns-then-not-awaits_frame-clause-provides g c need waits honest = search rules

pub returns-then-not-awaits_frame-clause-right : goal.returns-then-not-awaits_frame-clause-right
returns-then-not-awaits_frame-clause-right g c need waits =
    absurd (nothing_waits (host_of c.self.inside) c.args.id need c.in-Some.entry.now (sym c.in-Some.ensures.value) c.if-not-has_number.ensures c.if-not-awaits_frame.ensures (still_waits c.args.id need c.self.view_is waits))

pub invariant_of-self-then-not-has_number : goal.invariant_of-self-then-not-has_number
invariant_of-self-then-not-has_number g c =
    some_host (put_back (host_of c.self.inside) c.args.id.place c.in-Some.entry.now (sym c.in-Some.ensures.value)) c.self.invariant

pub returns-then-not-has_number-clause-moves : goal.returns-then-not-has_number-clause-moves
returns-then-not-has_number-clause-moves g c honest w st =
    nothing_moves _ w c.args.id AwaitsFrame (back_there (host_of c.self.inside) w c.args.id.place c.in-Some.entry.now c.self.view_is st (sym c.in-Some.ensures.value))

pub returns-then-not-has_number-clause-idle : goal.returns-then-not-has_number-clause-idle
returns-then-not-has_number-clause-idle g c none = search (rules, put_back, host_of)

pub invariant_of-self-then-not-awaits_frame : goal.invariant_of-self-then-not-awaits_frame
invariant_of-self-then-not-awaits_frame g c =
    some_host (put_back (host_of c.self.inside) c.args.id.place c.in-Some.entry.now (sym c.in-Some.ensures.value)) c.self.invariant

pub returns-then-not-awaits_frame-clause-moves : goal.returns-then-not-awaits_frame-clause-moves
returns-then-not-awaits_frame-clause-moves g c honest w st =
    nothing_moves _ w c.args.id AwaitsFrame (back_there (host_of c.self.inside) w c.args.id.place c.in-Some.entry.now c.self.view_is st (sym c.in-Some.ensures.value))

pub returns-then-not-awaits_frame-clause-idle : goal.returns-then-not-awaits_frame-clause-idle
returns-then-not-awaits_frame-clause-idle g c none = search (rules, put_back, host_of)

pub invariant_of-self-in-Ok : goal.invariant_of-self-in-Ok
invariant_of-self-in-Ok g c =
    let h = host_of c.self.inside in
    let x = c.in-Some.entry.now in
    let at : entry_at h.entries c.args.id.place ≡ Some x = sym c.in-Some.ensures.value in
    let inv = c.self.invariant in
    let none : tickets h.space ≡ 0 = ap (λ (z : HostState). tickets z.space) c.self.view_is ∙ c.requires.none_out in
    let kept = put_back h c.args.id.place x at in
    let made = provided_anyhow h inv.0 c.args.id x c.in-Ok.left c.provide.new.memory inv.1 at c.if-not-has_number.ensures c.if-not-awaits_frame.ensures none (λ need stands. c.in-Ok.ensures.provides need stands) in
    (made.1, whatever_counted _ made.1 _ (subst (λ z. IsHost (record z { space = c.provide.new.memory }) made.1) (sym kept) made.4))

pub returns-in-Ok-clause-moves : goal.returns-in-Ok-clause-moves
returns-in-Ok-clause-moves g c honest w st =
    let h = host_of c.self.inside in
    let x = c.in-Some.entry.now in
    let at : entry_at h.entries c.args.id.place ≡ Some x = sym c.in-Some.ensures.value in
    let none : tickets h.space ≡ 0 = ap (λ (z : HostState). tickets z.space) c.self.view_is ∙ c.requires.none_out in
    let kept = put_back h c.args.id.place x at in
    let made = provided_here h w c.args.id x c.in-Ok.left c.provide.new.memory (shown_host w c.self.view_is st) at c.if-not-has_number.ensures c.if-not-awaits_frame.ensures none (λ need stands. c.in-Ok.ensures.truly need stands honest) in
    (made.0, made.1, whatever_counted _ made.0 _ (subst (λ z. IsHost (record z { space = c.provide.new.memory }) made.0) (sym kept) made.2))

pub returns-in-Ok-clause-idle : goal.returns-in-Ok-clause-idle
returns-in-Ok-clause-idle g c none =
    let h = host_of c.self.inside in
    let x = c.in-Some.entry.now in
    let at : entry_at h.entries c.args.id.place ≡ Some x = sym c.in-Some.ensures.value in
    let inv = c.self.invariant in
    let some = waits_there h inv.0 c.args.id x inv.1 at c.if-not-has_number.ensures c.if-not-awaits_frame.ensures in
    absurd (none some.0 (subst (λ z. WaitsFor z c.args.id some.0) c.self.view_is some.1))

pub returns-clause-idle : goal.returns-clause-idle
returns-clause-idle g c none =
    let h = host_of c.self.inside in
    let x = c.in-Some.entry.now in
    let at : entry_at h.entries c.args.id.place ≡ Some x = sym c.in-Some.ensures.value in
    let inv = c.self.invariant in
    let some = waits_there h inv.0 c.args.id x inv.1 at c.if-not-has_number.ensures c.if-not-awaits_frame.ensures in
    absurd (none some.0 (subst (λ z. WaitsFor z c.args.id some.0) c.self.view_is some.1))

pub returns-in-Ok-clause-provides : goal.returns-in-Ok-clause-provides
returns-in-Ok-clause-provides g c need waits honest =
    let h = host_of c.self.inside in
    let space : h.space ≡ c.args.self.now.space = ap (λ (z : HostState). z.space) c.self.view_is in
    subst (λ s. ProvidesTruly s c.args.id.place need c.in-Ok.left c.provide.new.memory) space (c.in-Ok.ensures.truly need (waits_stands h c.args.id need (still_waits c.args.id need c.self.view_is waits)) honest)

pub returns-in-Ok-clause-right : goal.returns-in-Ok-clause-right
returns-in-Ok-clause-right g c need waits =
    let h = host_of c.self.inside in
    let space : h.space ≡ c.args.self.now.space = ap (λ (z : HostState). z.space) c.self.view_is in
    subst (λ s. IsProvided s c.args.id.place need c.in-Ok.left c.provide.new.memory) space (c.in-Ok.ensures.right need (waits_stands h c.args.id need (still_waits c.args.id need c.self.view_is waits)))

pub returns-clause-fails : goal.returns-clause-fails
returns-clause-fails g c need waits honest =
    let h = host_of c.self.inside in
    let space : h.space ≡ c.args.self.now.space = ap (λ (z : HostState). z.space) c.self.view_is in
    subst (λ s. FailsTruly s c.args.id.place need c.provide.new.memory) space (c.in-Err.ensures.fails_truly need (waits_stands h c.args.id need (still_waits c.args.id need c.self.view_is waits)) honest)

pub invariant_of-self-2 : goal.invariant_of-self-2
invariant_of-self-2 g c =
    let h = host_of c.self.inside in
    let x = c.in-Some.entry.now in
    let at : entry_at h.entries c.args.id.place ≡ Some x = sym c.in-Some.ensures.value in
    let inv = c.self.invariant in
    let none : tickets h.space ≡ 0 = ap (λ (z : HostState). tickets z.space) c.self.view_is ∙ c.requires.none_out in
    let keeps = keeps_fault x.tenant c.fail.new.self c.in-Err.fault c.fail.result c.fail.ensures.some c.fail.ensures.none c.if-not-awaits_frame.ensures in
    let made = failed_anyhow h inv.0 c.args.id x c.fail.new.self c.in-Err.fault c.provide.new.memory inv.1 at c.if-not-has_number.ensures c.if-not-awaits_frame.ensures none (λ need stands. c.in-Err.ensures.fails need stands) keeps in
    (made.1, whatever_counted _ made.1 _ made.4)

pub returns-clause-moves : goal.returns-clause-moves
returns-clause-moves g c honest w st =
    let h = host_of c.self.inside in
    let x = c.in-Some.entry.now in
    let at : entry_at h.entries c.args.id.place ≡ Some x = sym c.in-Some.ensures.value in
    let none : tickets h.space ≡ 0 = ap (λ (z : HostState). tickets z.space) c.self.view_is ∙ c.requires.none_out in
    let keeps = keeps_fault x.tenant c.fail.new.self c.in-Err.fault c.fail.result c.fail.ensures.some c.fail.ensures.none c.if-not-awaits_frame.ensures in
    let made = failed_here h w c.args.id x c.fail.new.self c.in-Err.fault c.provide.new.memory (shown_host w c.self.view_is st) at c.if-not-has_number.ensures c.if-not-awaits_frame.ensures none (λ need stands. c.in-Err.ensures.fails_truly need stands honest) keeps in
    (made.0, made.1, whatever_counted _ made.0 _ made.2)

pub returns-in-Ok-clause-whole : goal.returns-in-Ok-clause-whole
returns-in-Ok-clause-whole g c = search rules

pub returns-clause-whole : goal.returns-clause-whole
returns-clause-whole g c = search rules

pub returns-in_default-clause-anyhow : goal.returns-in_default-clause-anyhow
returns-in_default-clause-anyhow g c w st =
    nothing_anyhow (host_of c.self.inside) w c.args.id AwaitsFrame (shown_host w c.self.view_is st)

pub returns-then-not-has_number-clause-anyhow : goal.returns-then-not-has_number-clause-anyhow
returns-then-not-has_number-clause-anyhow g c w st =
    nothing_anyhow _ w c.args.id AwaitsFrame (back_there (host_of c.self.inside) w c.args.id.place c.in-Some.entry.now c.self.view_is st (sym c.in-Some.ensures.value))

pub returns-then-not-awaits_frame-clause-anyhow : goal.returns-then-not-awaits_frame-clause-anyhow
returns-then-not-awaits_frame-clause-anyhow g c w st =
    nothing_anyhow _ w c.args.id AwaitsFrame (back_there (host_of c.self.inside) w c.args.id.place c.in-Some.entry.now c.self.view_is st (sym c.in-Some.ensures.value))

pub returns-in-Ok-clause-anyhow : goal.returns-in-Ok-clause-anyhow
returns-in-Ok-clause-anyhow g c w st =
    let h = host_of c.self.inside in
    let x = c.in-Some.entry.now in
    let at : entry_at h.entries c.args.id.place ≡ Some x = sym c.in-Some.ensures.value in
    let none : tickets h.space ≡ 0 = ap (λ (z : HostState). tickets z.space) c.self.view_is ∙ c.requires.none_out in
    let kept = put_back h c.args.id.place x at in
    let made = provided_anyhow h w c.args.id x c.in-Ok.left c.provide.new.memory (shown_host w c.self.view_is st) at c.if-not-has_number.ensures c.if-not-awaits_frame.ensures none (λ need stands. c.in-Ok.ensures.provides need stands) in
    (made.0, made.1, made.2, made.3, whatever_counted _ made.1 _ (subst (λ z. IsHost (record z { space = c.provide.new.memory }) made.1) (sym kept) made.4))

pub returns-clause-anyhow : goal.returns-clause-anyhow
returns-clause-anyhow g c w st =
    let h = host_of c.self.inside in
    let x = c.in-Some.entry.now in
    let at : entry_at h.entries c.args.id.place ≡ Some x = sym c.in-Some.ensures.value in
    let none : tickets h.space ≡ 0 = ap (λ (z : HostState). tickets z.space) c.self.view_is ∙ c.requires.none_out in
    let keeps = keeps_fault x.tenant c.fail.new.self c.in-Err.fault c.fail.result c.fail.ensures.some c.fail.ensures.none c.if-not-awaits_frame.ensures in
    let made = failed_anyhow h w c.args.id x c.fail.new.self c.in-Err.fault c.provide.new.memory (shown_host w c.self.view_is st) at c.if-not-has_number.ensures c.if-not-awaits_frame.ensures none (λ need stands. c.in-Err.ensures.fails need stands) keeps in
    (made.0, made.1, made.2, made.3, whatever_counted _ made.1 _ made.4)

pub returns-in_default-clause-provides_anyhow : goal.returns-in_default-clause-provides_anyhow
returns-in_default-clause-provides_anyhow g c need waits = search rules

pub returns-then-not-has_number-clause-provides_anyhow : goal.returns-then-not-has_number-clause-provides_anyhow
returns-then-not-has_number-clause-provides_anyhow g c need waits = search rules

pub returns-then-not-awaits_frame-clause-provides_anyhow : goal.returns-then-not-awaits_frame-clause-provides_anyhow
returns-then-not-awaits_frame-clause-provides_anyhow g c need waits = search rules

pub returns-in-Ok-clause-provides_anyhow : goal.returns-in-Ok-clause-provides_anyhow
returns-in-Ok-clause-provides_anyhow g c need waits =
    let h = host_of c.self.inside in
    let space : h.space ≡ c.args.self.now.space = ap (λ (z : HostState). z.space) c.self.view_is in
    subst (λ s. Provides s c.args.id.place need c.in-Ok.left c.provide.new.memory) space (c.in-Ok.ensures.provides need (waits_stands h c.args.id need (still_waits c.args.id need c.self.view_is waits)))

pub returns-clause-fails_anyhow : goal.returns-clause-fails_anyhow
returns-clause-fails_anyhow g c need waits =
    let h = host_of c.self.inside in
    let space : h.space ≡ c.args.self.now.space = ap (λ (z : HostState). z.space) c.self.view_is in
    subst (λ s. FailsToProvide s c.args.id.place need c.provide.new.memory) space (c.in-Err.ensures.fails need (waits_stands h c.args.id need (still_waits c.args.id need c.self.view_is waits)))

pub returns-in_default-clause-counts : goal.returns-in_default-clause-counts
returns-in_default-clause-counts g c need waits =
    absurd (no_one_waits (host_of c.self.inside) c.args.id need (sym c.in_default.ensures.value) (still_waits c.args.id need c.self.view_is waits))

pub returns-then-not-has_number-clause-counts : goal.returns-then-not-has_number-clause-counts
returns-then-not-has_number-clause-counts g c need waits =
    absurd (another_waits (host_of c.self.inside) c.args.id need c.in-Some.entry.now (sym c.in-Some.ensures.value) c.if-not-has_number.ensures (still_waits c.args.id need c.self.view_is waits))

pub returns-then-not-awaits_frame-clause-counts : goal.returns-then-not-awaits_frame-clause-counts
returns-then-not-awaits_frame-clause-counts g c need waits =
    absurd (nothing_waits (host_of c.self.inside) c.args.id need c.in-Some.entry.now (sym c.in-Some.ensures.value) c.if-not-has_number.ensures c.if-not-awaits_frame.ensures (still_waits c.args.id need c.self.view_is waits))

pub returns-in-Ok-clause-counts : goal.returns-in-Ok-clause-counts
returns-in-Ok-clause-counts g c need waits =
    let h = host_of c.self.inside in
    let stands = waits_stands h c.args.id need (still_waits c.args.id need c.self.view_is waits) in
    provision_counted h c.args.self.now c.args.id need (Ok c.in-Ok.left) (slice_set h.entries c.args.id.place (Some c.in-Some.entry.now)) c.provide.new.memory c.count_moves.new.self c.provide.new.moved.left c.provide.new.moved.came c.self.view_is (c.in-Ok.ensures.moves need stands) c.in-Ok.ensures.left c.count_moves.ensures

pub returns-clause-counts : goal.returns-clause-counts
returns-clause-counts g c need waits =
    let h = host_of c.self.inside in
    let stands = waits_stands h c.args.id need (still_waits c.args.id need c.self.view_is waits) in
    provision_counted h c.args.self.now c.args.id need (Err c.in-Err.fault) (slice_set h.entries c.args.id.place (Some (record c.in-Some.entry.now { tenant = c.fail.new.self }))) c.provide.new.memory c.count_fault.new.self c.provide.new.moved.left c.provide.new.moved.came c.self.view_is (c.in-Err.ensures.moves need stands) tt (c.count_fault.ensures ∙ ap with_fault c.count_moves-2.ensures)
