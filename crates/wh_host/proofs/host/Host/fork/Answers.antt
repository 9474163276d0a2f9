use Rattle.std.proofs.Common.{Option, List, refl, sym, ap, subst}
use Rattle.wh_host_model.specs.Host.{fork_no_instance, fork_ok, fork_out_of_memory, no_one_to_fork}
use Rattle.wh_space_model.specs.{IsSound}
use Rattle.wh_space.specs.Arrivals.{claimed}
use Rattle.wh_params.specs.View.{view_quota}
use Rattle.wh_host.specs.declared.parts.InstanceEntry.{InstanceEntry}
use Rattle.wh_host.specs.Hosting.{HostState, IsHost}
use Rattle.wh_host.proofs.Backed.{copies_backing, same_backing, then_backing}
use Rattle.wh_host.proofs.Fields.{host_of, shown_host}
use Rattle.wh_host.proofs.ForkedHosts.{copied_here, idle_there, no_memory_here, refused_fork}
use Rattle.wh_host.proofs.Hosts.{no_module_less, nobody, somebody_else}
use Rattle.wh_host.proofs.Requests.{sound_here}
use Rattle.wh_host.proofs.host.Host.fork.Goals as goal

pub returns-in_default-clause-forks : goal.returns-in_default-clause-forks
returns-in_default-clause-forks c w st =
    (fork_no_instance, w, refl, no_one_to_fork (nobody (host_of c.self.inside) w c.args.id (shown_host w c.self.view_is st) (sym c.in_default.ensures)), st)

pub returns-then-not-has_number-clause-forks : goal.returns-then-not-has_number-clause-forks
returns-then-not-has_number-clause-forks c w st =
    (fork_no_instance, w, refl, no_one_to_fork (somebody_else (host_of c.self.inside) w c.args.id c.in-Some.entry.now (shown_host w c.self.view_is st) (sym c.in-Some.ensures) c.if-not-has_number.ensures), st)

pub returns-in_default-module_at-clause-forks : goal.returns-in_default-module_at-clause-forks
returns-in_default-module_at-clause-forks c w st =
    absurd (no_module_less (host_of c.self.inside) w c.args.id.place c.args.id.number c.in-Some.entry.now (shown_host w c.self.view_is st) (sym c.in-Some.ensures) c.if-not-has_number.ensures (sym c.in_default-module_at.ensures))

pub returns-in-Err-clause-forks : goal.returns-in-Err-clause-forks
returns-in-Err-clause-forks c w st =
    let refused = refused_fork (host_of c.self.inside) w c.args.id c.in-Some.entry.now c.in-Some-module_at.module.now (view_quota c.args.quota) c.in-Err.error (shown_host w c.self.view_is st) (sym c.in-Some.ensures) c.if-not-has_number.ensures (sym c.in-Some-module_at.ensures) c.in-Err.ensures.err in
    (refused.0, w, refused.1, refused.2, st)

pub returns-in_default-checked_add-clause-forks : goal.returns-in_default-checked_add-clause-forks
returns-in_default-checked_add-clause-forks c w st =
    (fork_out_of_memory, w, refl, no_memory_here (host_of c.self.inside) w c.args.id c.in-Some.entry.now c.in-Some-module_at.module.now (view_quota c.args.quota) c.in-Ok.granted (shown_host w c.self.view_is st) (sym c.in-Some.ensures) c.if-not-has_number.ensures (sym c.in-Some-module_at.ensures) c.in-Ok.ensures.ok, st)

pub copied_entry-requires : goal.copied_entry-requires
copied_entry-requires c =
    let h = host_of c.self.inside in
    let inv = c.self.invariant in
    record { idle = idle_there h inv.0 c.args.id c.in-Some.entry.now c.in-Some-module_at.module.now inv.1 (sym c.in-Some.ensures) c.if-not-has_number.ensures (sym c.in-Some-module_at.ensures) c.in-Ok.ensures.ok.granted.may }

pub returns-in_default-copied_entry-clause-forks : goal.returns-in_default-copied_entry-clause-forks
returns-in_default-copied_entry-clause-forks c w st =
    (fork_out_of_memory, w, refl, no_memory_here (host_of c.self.inside) w c.args.id c.in-Some.entry.now c.in-Some-module_at.module.now (view_quota c.args.quota) c.in-Ok.granted (shown_host w c.self.view_is st) (sym c.in-Some.ensures) c.if-not-has_number.ensures (sym c.in-Some-module_at.ensures) c.in-Ok.ensures.ok, st)

pub invariant_of-self : goal.invariant_of-self
invariant_of-self c =
    let h = host_of c.self.inside in
    let inv = c.self.invariant in
    (inv.0, subst (λ s. IsHost (record h { entries = c.copy_next-copied.new.entries.slots; space = s }) inv.0) (sym c.in_default-copied.ensures.memory) (subst (λ (zs : List (Option InstanceEntry)). IsHost (record h { entries = zs }) inv.0) (sym c.in_default-copied.ensures.entries) inv.1))

pub returns-in_default-copied-clause-forks : goal.returns-in_default-copied-clause-forks
returns-in_default-copied-clause-forks c w st =
    let h = host_of c.self.inside in
    let here = shown_host w c.self.view_is st in
    let kept = subst (λ s. IsHost (record h { entries = c.copy_next-copied.new.entries.slots; space = s }) w) (sym c.in_default-copied.ensures.memory) (subst (λ (zs : List (Option InstanceEntry)). IsHost (record h { entries = zs }) w) (sym c.in_default-copied.ensures.entries) here) in
    (fork_out_of_memory, w, refl, no_memory_here h w c.args.id c.in-Some.entry.now c.in-Some-module_at.module.now (view_quota c.args.quota) c.in-Ok.granted here (sym c.in-Some.ensures) c.if-not-has_number.ensures (sym c.in-Some-module_at.ensures) c.in-Ok.ensures.ok, kept)

pub invariant_of-self-2 : goal.invariant_of-self-2
invariant_of-self-2 c =
    let i = c.self.inside in
    let inv = c.self.invariant in
    let made = copied_here (host_of i) inv.0 c.args.id c.in-Some.entry.now c.in-Ok-copied_entry.copy c.in-Some-module_at.module.now (view_quota c.args.quota) c.in-Ok.granted c.promise_by-promise.result c.in-Ok-copied.place c.insert_reserved.result c.in-Some-checked_add.next i.entries c.copy_next-copied.new.entries c.insert_reserved.new.self c.copy_next-copied.new.memory inv.1 (sym c.in-Some.ensures) c.if-not-has_number.ensures (sym c.in-Some-module_at.ensures) c.in-Ok.ensures.ok c.in-Ok-copied_entry.ensures c.promise_by-promise.ensures refl c.in-Ok-copied.ensures.ok c.insert_reserved.ensures.key c.insert_reserved.ensures.updates c.in-Some-checked_add.ensures.1 in
    (made.0, made.2)

pub returns-clause-forks : goal.returns-clause-forks
returns-clause-forks c w st =
    let i = c.self.inside in
    let made = copied_here (host_of i) w c.args.id c.in-Some.entry.now c.in-Ok-copied_entry.copy c.in-Some-module_at.module.now (view_quota c.args.quota) c.in-Ok.granted c.promise_by-promise.result c.in-Ok-copied.place c.insert_reserved.result c.in-Some-checked_add.next i.entries c.copy_next-copied.new.entries c.insert_reserved.new.self c.copy_next-copied.new.memory (shown_host w c.self.view_is st) (sym c.in-Some.ensures) c.if-not-has_number.ensures (sym c.in-Some-module_at.ensures) c.in-Ok.ensures.ok c.in-Ok-copied_entry.ensures c.promise_by-promise.ensures refl c.in-Ok-copied.ensures.ok c.insert_reserved.ensures.key c.insert_reserved.ensures.updates c.in-Some-checked_add.ensures.1 in
    (fork_ok _, made.0, refl, made.1, made.2)

pub returns-clause-backing : goal.returns-clause-backing
returns-clause-backing c =
    let s = c.self.inside.memory in
    let h = host_of c.self.inside in
    let inv = c.self.invariant in
    let before = same_backing c.args.self.now.space s (ap (λ (z : HostState). z.space) c.self.view_is) in
    let sound : IsSound s = subst IsSound (sym inv.1.space) (sound_here h inv.0 inv.1) in
    then_backing c.args.self.now.space s c.copy_next-copied.new.memory before
    (copies_backing s c.args.id.place c.in-Ok-copied.place (claimed c.promise_by-promise.result) c.copy_next-copied.new.memory sound c.in-Ok-copied.ensures.ok.copies)
