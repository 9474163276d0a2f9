use Rattle.std.proofs.Common.{◌<◌, length, refl, sym, subst, arith}
use Rattle.wh_host_model.specs.Host.{modules_full, host_out_of_memory, load_ok, load_refused, load_out_of_memory}
use Rattle.wh_host.specs.Hosting.{IsHost}
use Rattle.wh_host.proofs.Requests.{bytes_refused, kept_here, modules_are_full, no_room_to_keep}
use Rattle.wh_host.proofs.Fields.{host_of, shown_host}
use Rattle.wh_host.proofs.host.Host.load.Goals as goal

pub returns-in-Err-clause-loads : goal.returns-in-Err-clause-loads
returns-in-Err-clause-loads c w st =
    let made = bytes_refused w c.args.bytes.now c.in-Err.error c.in-Err.ensures.err in
    (made.0, w, made.1, made.2, st)

pub returns-then-len-ge-MOST_MODULES-clause-loads : goal.returns-then-len-ge-MOST_MODULES-clause-loads
returns-then-len-ge-MOST_MODULES-clause-loads c w st =
    (load_refused modules_full, w, refl, modules_are_full (host_of c.self.inside) w c.args.bytes.now _ (shown_host w c.self.view_is st) c.in-Ok.ensures.ok (omega (arith, c.if-len-ge-MOST_MODULES.true, c.len.ensures)), st)

pub returns-in_default-clause-loads : goal.returns-in_default-clause-loads
returns-in_default-clause-loads c w st =
    let i = c.self.inside in
    let few : length i.module_refs.items < 1024 = omega (arith, c.if-len-ge-MOST_MODULES.false, c.len.ensures) in
    (load_out_of_memory host_out_of_memory, w, refl, no_room_to_keep (host_of i) w c.args.bytes.now _ (shown_host w c.self.view_is st) c.in-Ok.ensures.ok few, st)

pub invariant_of-self : goal.invariant_of-self
invariant_of-self c =
    let h = host_of c.self.inside in
    let inv = c.self.invariant in
    (inv.0, subst (λ rs. IsHost (record h { modules = c.keep-kept.new.modules.slots; module_refs = rs }) inv.0) (sym c.in_default-kept.ensures.refs) (subst (λ ms. IsHost (record h { modules = ms }) inv.0) (sym c.in_default-kept.ensures.modules) inv.1))

pub returns-in_default-kept-clause-loads : goal.returns-in_default-kept-clause-loads
returns-in_default-kept-clause-loads c w st =
    let i = c.self.inside in
    let h = host_of i in
    let here = shown_host w c.self.view_is st in
    let few : length i.module_refs.items < 1024 = omega (arith, c.if-len-ge-MOST_MODULES.false, c.len.ensures) in
    let kept = subst (λ rs. IsHost (record h { modules = c.keep-kept.new.modules.slots; module_refs = rs }) w) (sym c.in_default-kept.ensures.refs) (subst (λ ms. IsHost (record h { modules = ms }) w) (sym c.in_default-kept.ensures.modules) here) in
    (load_out_of_memory host_out_of_memory, w, refl, no_room_to_keep h w c.args.bytes.now _ here c.in-Ok.ensures.ok few, kept)

pub invariant_of-self-2 : goal.invariant_of-self-2
invariant_of-self-2 c =
    let i = c.self.inside in
    let inv = c.self.invariant in
    let few : length i.module_refs.items < 1024 = omega (arith, c.if-len-ge-MOST_MODULES.false, c.len.ensures) in
    let made = kept_here (host_of i) inv.0 c.args.bytes.now _ _ _ i.next_module c.in-Some.next inv.1 c.in-Ok-kept.ensures.ok c.in-Ok.ensures.ok refl few c.in-Some.ensures.1 in
    (made.0, made.2)

pub returns-clause-loads : goal.returns-clause-loads
returns-clause-loads c w st =
    let i = c.self.inside in
    let few : length i.module_refs.items < 1024 = omega (arith, c.if-len-ge-MOST_MODULES.false, c.len.ensures) in
    let made = kept_here (host_of i) w c.args.bytes.now _ _ _ i.next_module c.in-Some.next (shown_host w c.self.view_is st) c.in-Ok-kept.ensures.ok c.in-Ok.ensures.ok refl few c.in-Some.ensures.1 in
    (load_ok i.next_module, made.0, refl, made.1, made.2)
