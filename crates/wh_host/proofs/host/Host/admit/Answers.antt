use Rattle.std.proofs.Common.{Some, refl, sym, subst, ◌∙◌, ◌+◌, arith, Option, List, rules}
use Rattle.slab.specs.Slab.{Updates}
use Rattle.wh_host_model.specs.{no_module}
use Rattle.wh_host_model.specs.Host.{admit_ok, admit_refused, admit_out_of_memory, no_memory_to_admit}
use Rattle.wh_load.specs.Refusing.{view_linked}
use Rattle.wh_admit.specs.declared.room.Room.{Room}
use Rattle.wh_admit.specs.AdmitErrors.{fault_of}
use Rattle.wh_params.specs.View.{view_params}
use Rattle.wh_host.specs.declared.parts.InstanceEntry.{InstanceEntry}
use Rattle.wh_host.specs.Admitting.{fault_answer}
use Rattle.wh_host.specs.Hosting.{IsHost}
use Rattle.wh_host.proofs.Comers.{admitted_here, begins_as, few_live, module_is_small, no_module_is_there, refused_as, room_for, stands}
use Rattle.wh_host.proofs.Requests.{has_its_place, module_meant}
use Rattle.wh_host.proofs.Fields.{host_of, shown_host}
use Rattle.wh_host.proofs.host.Host.admit.Goals as goal

pub returns-in_default-clause-admits : goal.returns-in_default-clause-admits
returns-in_default-clause-admits c w st =
    (admit_refused no_module, w, refl, no_module_is_there (host_of c.self.inside) w c.args.of.number (view_params c.args.params) (shown_host w c.self.view_is st) c.deref.ensures.value c.in_default.ensures, st)

pub returns-in_default-module_at-clause-admits : goal.returns-in_default-module_at-clause-admits
returns-in_default-module_at-clause-admits c w st =
    absurd (has_its_place (host_of c.self.inside) w c.args.of.number c.in-Some.module_ref (shown_host w c.self.view_is st) c.deref.ensures.value c.in-Some.ensures (sym c.in_default-module_at.ensures))

pub returns-in-Err-clause-admits : goal.returns-in-Err-clause-admits
returns-in-Err-clause-admits c w st =
    let known = module_meant (host_of c.self.inside) w c.args.of.number c.in-Some.module_ref c.in-Some-module_at.module.now (shown_host w c.self.view_is st) c.deref.ensures.value c.in-Some.ensures (sym c.in-Some-module_at.ensures) in
    let i = c.self.inside in
    let h = host_of i in
    let room : Room = record { frames = c.frames_left.result; slots = c.slots_left.result; live = i.live } in
    let stand = stands h w c.args.of.number c.in-Some-module_at.module.now room (shown_host w c.self.view_is st) known.0 c.frames_left.ensures c.slots_left.ensures refl in
    (fault_answer (fault_of c.in-Err.error), w, refl, refused_as w c.args.of.number (view_params c.args.params) (view_linked c.in-Some-module_at.module.now.linked) room stand (fault_of c.in-Err.error) c.in-Err.ensures.err, st)

pub returns-in_default-checked_add-clause-admits : goal.returns-in_default-checked_add-clause-admits
returns-in_default-checked_add-clause-admits c w st =
    let known = module_meant (host_of c.self.inside) w c.args.of.number c.in-Some.module_ref c.in-Some-module_at.module.now (shown_host w c.self.view_is st) c.deref.ensures.value c.in-Some.ensures (sym c.in-Some-module_at.ensures) in
    let stand = stands (host_of c.self.inside) w c.args.of.number c.in-Some-module_at.module.now (record { frames = c.frames_left.result; slots = c.slots_left.result; live = c.self.inside.live }) (shown_host w c.self.view_is st) known.0 c.frames_left.ensures c.slots_left.ensures refl in
    (admit_out_of_memory, w, refl, no_memory_to_admit (c.in-Ok.ensures.ok w c.args.of.number stand), st)

pub new_entry_for-made-requires : goal.new_entry_for-made-requires
new_entry_for-made-requires c =
    let inv = c.self.invariant in
    let known = module_meant (host_of c.self.inside) inv.0 c.args.of.number c.in-Some.module_ref c.in-Some-module_at.module.now inv.1 c.deref.ensures.value c.in-Some.ensures (sym c.in-Some-module_at.ensures) in
    record { few = module_is_small (host_of c.self.inside) inv.0 c.args.of.number c.in-Some-module_at.module.now inv.1 known.0 }

pub returns-in_default-made-clause-admits : goal.returns-in_default-made-clause-admits
returns-in_default-made-clause-admits c w st =
    let known = module_meant (host_of c.self.inside) w c.args.of.number c.in-Some.module_ref c.in-Some-module_at.module.now (shown_host w c.self.view_is st) c.deref.ensures.value c.in-Some.ensures (sym c.in-Some-module_at.ensures) in
    let stand = stands (host_of c.self.inside) w c.args.of.number c.in-Some-module_at.module.now (record { frames = c.frames_left.result; slots = c.slots_left.result; live = c.self.inside.live }) (shown_host w c.self.view_is st) known.0 c.frames_left.ensures c.slots_left.ensures refl in
    (admit_out_of_memory, w, refl, no_memory_to_admit (c.in-Ok.ensures.ok w c.args.of.number stand), st)

pub enter_next-entered-requires-clause-room : goal.enter_next-entered-requires-clause-room
enter_next-entered-requires-clause-room c =
    let i = c.self.inside in
    let h = host_of i in
    let inv = c.self.invariant in
    let known = module_meant (host_of c.self.inside) inv.0 c.args.of.number c.in-Some.module_ref c.in-Some-module_at.module.now inv.1 c.deref.ensures.value c.in-Some.ensures (sym c.in-Some-module_at.ensures) in
    let stand = stands h inv.0 c.args.of.number c.in-Some-module_at.module.now (record { frames = c.frames_left.result; slots = c.slots_left.result; live = c.self.inside.live }) inv.1 known.0 c.frames_left.ensures c.slots_left.ensures refl in
    let p = view_params c.args.params in
    let none = c.in-Ok.ensures.ok inv.0 c.args.of.number stand in
    let begins = begins_as (view_linked c.in-Some-module_at.module.now.linked) p c.in-Ok.admitted c.in-Ok.ensures.begins in
    room_for h inv.0 c.args.of.number i.next (view_linked c.in-Some-module_at.module.now.linked) p c.in-Ok.admitted inv.1 none begins

pub invariant_of-self : goal.invariant_of-self
invariant_of-self c =
    let h = host_of c.self.inside in
    let inv = c.self.invariant in
    (inv.0, subst (λ s. IsHost (record h { entries = c.enter_next-entered.new.entries.slots; space = s }) inv.0) (sym c.in_default-entered.ensures.memory) (subst (λ (zs : List (Option InstanceEntry)). IsHost (record h { entries = zs }) inv.0) (sym c.in_default-entered.ensures.entries) inv.1))

pub returns-in_default-entered-clause-admits : goal.returns-in_default-entered-clause-admits
returns-in_default-entered-clause-admits c w st =
    let h = host_of c.self.inside in
    let here = shown_host w c.self.view_is st in
    let known = module_meant (host_of c.self.inside) w c.args.of.number c.in-Some.module_ref c.in-Some-module_at.module.now here c.deref.ensures.value c.in-Some.ensures (sym c.in-Some-module_at.ensures) in
    let stand = stands h w c.args.of.number c.in-Some-module_at.module.now (record { frames = c.frames_left.result; slots = c.slots_left.result; live = c.self.inside.live }) here known.0 c.frames_left.ensures c.slots_left.ensures refl in
    let kept = subst (λ s. IsHost (record h { entries = c.enter_next-entered.new.entries.slots; space = s }) w) (sym c.in_default-entered.ensures.memory) (subst (λ (zs : List (Option InstanceEntry)). IsHost (record h { entries = zs }) w) (sym c.in_default-entered.ensures.entries) here) in
    (admit_out_of_memory, w, refl, no_memory_to_admit (c.in-Ok.ensures.ok w c.args.of.number stand), kept)

pub overflow_add-self : goal.overflow_add-self
overflow_add-self c =
    let h = host_of c.self.inside in
    let inv = c.self.invariant in
    let known = module_meant (host_of c.self.inside) inv.0 c.args.of.number c.in-Some.module_ref c.in-Some-module_at.module.now inv.1 c.deref.ensures.value c.in-Some.ensures (sym c.in-Some-module_at.ensures) in
    let stand = stands h inv.0 c.args.of.number c.in-Some-module_at.module.now (record { frames = c.frames_left.result; slots = c.slots_left.result; live = c.self.inside.live }) inv.1 known.0 c.frames_left.ensures c.slots_left.ensures refl in
    let none = c.in-Ok.ensures.ok inv.0 c.args.of.number stand in
    omega (arith, few_live h inv.0 c.args.of.number (view_params c.args.params) inv.1 none)

pub invariant_of-self-2 : goal.invariant_of-self-2
invariant_of-self-2 c =
    let i = c.self.inside in
    let h = host_of i in
    let inv = c.self.invariant in
    let known = module_meant (host_of c.self.inside) inv.0 c.args.of.number c.in-Some.module_ref c.in-Some-module_at.module.now inv.1 c.deref.ensures.value c.in-Some.ensures (sym c.in-Some-module_at.ensures) in
    let stand = stands h inv.0 c.args.of.number c.in-Some-module_at.module.now (record { frames = c.frames_left.result; slots = c.slots_left.result; live = c.self.inside.live }) inv.1 known.0 c.frames_left.ensures c.slots_left.ensures refl in
    let p = view_params c.args.params in
    let none = c.in-Ok.ensures.ok inv.0 c.args.of.number stand in
    let begins = begins_as (view_linked c.in-Some-module_at.module.now.linked) p c.in-Ok.admitted c.in-Ok.ensures.begins in
    let made = admitted_here h inv.0 c.args.of.number c.in-Some.module_ref p c.in-Some-module_at.module.now c.in-Ok.admitted c.in-Ok-made.entry c.in-Ok-entered.place i.entries c.enter_next-entered.new.entries c.insert_reserved.new.self c.enter_next-entered.new.memory inv.1 known.0 none begins c.in-Ok-made.ensures known.2 (sym c.in-Some-module_at.ensures) known.1 refl c.in-Ok-entered.ensures.ok (subst (λ n. Updates c.enter_next-entered.new.entries c.insert_reserved.new.self n (Some c.in-Ok-made.entry)) (c.insert_reserved.ensures.key ∙ c.in-Ok-entered.ensures.ok.next) c.insert_reserved.ensures.updates) in
    (made.0, subst (λ n. IsHost (record h { entries = c.insert_reserved.new.self.slots; live = i.live + 1; space = c.enter_next-entered.new.memory; next = n }) made.0) (sym c.in-Some-checked_add.ensures.1) made.2)

pub returns-clause-admits : goal.returns-clause-admits
returns-clause-admits c w st =
    let i = c.self.inside in
    let h = host_of i in
    let here = shown_host w c.self.view_is st in
    let known = module_meant (host_of c.self.inside) w c.args.of.number c.in-Some.module_ref c.in-Some-module_at.module.now here c.deref.ensures.value c.in-Some.ensures (sym c.in-Some-module_at.ensures) in
    let stand = stands h w c.args.of.number c.in-Some-module_at.module.now (record { frames = c.frames_left.result; slots = c.slots_left.result; live = c.self.inside.live }) here known.0 c.frames_left.ensures c.slots_left.ensures refl in
    let p = view_params c.args.params in
    let none = c.in-Ok.ensures.ok w c.args.of.number stand in
    let begins = begins_as (view_linked c.in-Some-module_at.module.now.linked) p c.in-Ok.admitted c.in-Ok.ensures.begins in
    let made = admitted_here h w c.args.of.number c.in-Some.module_ref p c.in-Some-module_at.module.now c.in-Ok.admitted c.in-Ok-made.entry c.in-Ok-entered.place i.entries c.enter_next-entered.new.entries c.insert_reserved.new.self c.enter_next-entered.new.memory here known.0 none begins c.in-Ok-made.ensures known.2 (sym c.in-Some-module_at.ensures) known.1 refl c.in-Ok-entered.ensures.ok (subst (λ n. Updates c.enter_next-entered.new.entries c.insert_reserved.new.self n (Some c.in-Ok-made.entry)) (c.insert_reserved.ensures.key ∙ c.in-Ok-entered.ensures.ok.next) c.insert_reserved.ensures.updates) in
    (admit_ok _, made.0, refl, made.1, subst (λ n. IsHost (record h { entries = c.insert_reserved.new.self.slots; live = i.live + 1; space = c.enter_next-entered.new.memory; next = n }) made.0) (sym c.in-Some-checked_add.ensures.1) made.2)

pub returns-clause-memory : goal.returns-clause-memory
returns-clause-memory c = search rules
