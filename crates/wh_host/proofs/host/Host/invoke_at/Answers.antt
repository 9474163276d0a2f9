use Rattle.std.proofs.Common.{[], ap, refl, sym, ◌∙◌, rules}
use Rattle.wh_host_model.specs.Host.{invoke_ok, invoke_no_instance, has_no_instance}
use Rattle.wh_instance.specs.Invoked.{refusal_of}
use Rattle.wh_host.specs.CallRequests.{refusal_answer}
use Rattle.wh_host.proofs.Hosts.{kept_back, no_module_less, put_back}
use Rattle.wh_host.proofs.Fields.{another_there, host_of, nobody_there, some_host, shown_host}
use Rattle.wh_syntax.specs.declared.module.Module.{Module}
use Rattle.wh_host_model.specs.Host.{invoke_refused}
use Rattle.wh_host_model.specs.Owners.{no_export}
use Rattle.wh_host.proofs.Exporters.{asked_nobody, asked_none, asked_there}
use Rattle.wh_host.proofs.Requests.{invoked_here, refused_here, some_tenant}
use Rattle.wh_host.proofs.host.Host.invoke_at.Goals as goal

pub returns-in_default-clause-asks : goal.returns-in_default-clause-asks
returns-in_default-clause-asks c w st =
    let (none, here) = nobody_there (host_of c.self.inside) w c.args.id c.self.view_is st (sym c.in_default.ensures.value) in
    ([], asked_nobody w c.args.id c.args.at [] none, invoke_no_instance, w, refl, has_no_instance none, here)

pub invariant_of-self-then-not-has_number : goal.invariant_of-self-then-not-has_number
invariant_of-self-then-not-has_number c =
    some_host (put_back (host_of c.self.inside) c.args.id.place c.in-Some.entry.now (sym c.in-Some.ensures.value)) c.self.invariant

pub returns-then-not-has_number-clause-asks : goal.returns-then-not-has_number-clause-asks
returns-then-not-has_number-clause-asks c w st =
    let (none, here) = another_there (host_of c.self.inside) w c.args.id c.in-Some.entry.now c.self.view_is st (sym c.in-Some.ensures.value) c.if-not-has_number.ensures in
    ([], asked_nobody w c.args.id c.args.at [] none, invoke_no_instance, w, refl, has_no_instance none, here)

pub returns-then-not-has_number-clause-err : goal.returns-then-not-has_number-clause-err
returns-then-not-has_number-clause-err c = search (rules, put_back, host_of)

pub invariant_of-self-in_default-module_at : goal.invariant_of-self-in_default-module_at
invariant_of-self-in_default-module_at c =
    some_host (put_back (host_of c.self.inside) c.args.id.place c.in-Some.entry.now (sym c.in-Some.ensures.value)) c.self.invariant

pub returns-in_default-module_at-clause-asks : goal.returns-in_default-module_at-clause-asks
returns-in_default-module_at-clause-asks c w st =
    absurd (no_module_less (host_of c.self.inside) w c.args.id.place c.args.id.number c.in-Some.entry.now (shown_host w c.self.view_is st) (sym c.in-Some.ensures.value) c.if-not-has_number.ensures (sym c.in_default-module_at.ensures))

pub invariant_of-self-in_default-func_export : goal.invariant_of-self-in_default-func_export
invariant_of-self-in_default-func_export c =
    some_host (put_back (host_of c.self.inside) c.args.id.place c.in-Some.entry.now (sym c.in-Some.ensures.value)) c.self.invariant

pub returns-in_default-func_export-clause-asks : goal.returns-in_default-func_export-clause-asks
returns-in_default-func_export-clause-asks c w st =
    let here = shown_host w c.self.view_is st in
    let asked = asked_none (host_of c.self.inside) w c.args.id c.args.at c.args.given.now c.args.fuel c.in-Some.entry.now c.in-Some-module_at.module.now c.deref.result.now here (sym c.in-Some.ensures.value) c.if-not-has_number.ensures (sym c.in-Some-module_at.ensures) (c.deref.ensures.value ∙ ap (λ (m : Module). m.exports.items) c.module.ensures.same) c.in_default-func_export.ensures in
    (asked.0, asked.1, invoke_refused no_export, w, refl, asked.2, shown_host w (put_back (host_of c.self.inside) c.args.id.place c.in-Some.entry.now (sym c.in-Some.ensures.value)) here)

pub returns-in_default-func_export-clause-err : goal.returns-in_default-func_export-clause-err
returns-in_default-func_export-clause-err c = search (rules, put_back, host_of)

pub invoke-requires : goal.invoke-requires
invoke-requires c =
    let inv = c.self.invariant in
    some_tenant (host_of c.self.inside) inv.0 c.args.id c.in-Some.entry.now c.in-Some-module_at.module.now inv.1 (sym c.in-Some.ensures.value) c.if-not-has_number.ensures (sym c.in-Some-module_at.ensures)

pub invariant_of-self-in-Err : goal.invariant_of-self-in-Err
invariant_of-self-in-Err c =
    some_host (kept_back (host_of c.self.inside) c.args.id.place c.in-Some.entry.now c.invoke.new.self c.in-Err.ensures.err.1 (sym c.in-Some.ensures.value)) c.self.invariant

pub returns-in-Err-clause-asks : goal.returns-in-Err-clause-asks
returns-in-Err-clause-asks c w st =
    let h = host_of c.self.inside in
    let here = shown_host w c.self.view_is st in
    let x = c.in-Some.entry.now in
    let refused = refused_here h w c.args.id c.as_str-name.result.now c.args.given.now c.args.fuel x c.in-Some-module_at.module.now c.in-Err.error here (sym c.in-Some.ensures.value) c.if-not-has_number.ensures (sym c.in-Some-module_at.ensures) c.in-Err.ensures.err.0 in
    let asked = (asked_there (host_of c.self.inside) w c.args.id c.args.at c.in-Some.entry.now c.in-Some-module_at.module.now c.deref.result.now c.in-Some-func_export.export.now c.as_str-name.result.now (shown_host w c.self.view_is st) (sym c.in-Some.ensures.value) c.if-not-has_number.ensures (sym c.in-Some-module_at.ensures) (c.deref.ensures.value ∙ ap (λ (m : Module). m.exports.items) c.module.ensures.same) c.in-Some-func_export.ensures c.as_str-name.ensures.value) in
    (c.as_str-name.result.now, asked, refusal_answer (refusal_of c.in-Err.error), w, refl, refused, shown_host w (kept_back h c.args.id.place x c.invoke.new.self c.in-Err.ensures.err.1 (sym c.in-Some.ensures.value)) here)

pub returns-in-Err-clause-err : goal.returns-in-Err-clause-err
returns-in-Err-clause-err c = search (rules, kept_back, host_of)

pub invariant_of-self-2 : goal.invariant_of-self-2
invariant_of-self-2 c =
    let inv = c.self.invariant in
    let made = invoked_here (host_of c.self.inside) inv.0 c.args.id c.as_str-name.result.now c.args.given.now c.args.fuel c.in-Ok.place c.in-Some.entry.now c.invoke.new.self c.in-Some-module_at.module.now inv.1 (sym c.in-Some.ensures.value) c.if-not-has_number.ensures (sym c.in-Some-module_at.ensures) c.in-Ok.ensures.ok in
    (made.0, made.2)

pub returns-clause-asks : goal.returns-clause-asks
returns-clause-asks c w st =
    let made = invoked_here (host_of c.self.inside) w c.args.id c.as_str-name.result.now c.args.given.now c.args.fuel c.in-Ok.place c.in-Some.entry.now c.invoke.new.self c.in-Some-module_at.module.now (shown_host w c.self.view_is st) (sym c.in-Some.ensures.value) c.if-not-has_number.ensures (sym c.in-Some-module_at.ensures) c.in-Ok.ensures.ok in
    let asked = (asked_there (host_of c.self.inside) w c.args.id c.args.at c.in-Some.entry.now c.in-Some-module_at.module.now c.deref.result.now c.in-Some-func_export.export.now c.as_str-name.result.now (shown_host w c.self.view_is st) (sym c.in-Some.ensures.value) c.if-not-has_number.ensures (sym c.in-Some-module_at.ensures) (c.deref.ensures.value ∙ ap (λ (m : Module). m.exports.items) c.module.ensures.same) c.in-Some-func_export.ensures c.as_str-name.ensures.value) in
    (c.as_str-name.result.now, asked, invoke_ok c.in-Ok.place, made.0, refl, made.1, made.2)
