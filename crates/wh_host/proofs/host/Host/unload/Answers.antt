use Rattle.std.proofs.Common.{refl}
use Rattle.wh_host_model.specs.Host.{unload_in_use, unload_no_module, unload_ok}
use Rattle.wh_host.proofs.Requests.{in_use_here, not_there, unloaded_here}
use Rattle.wh_host.proofs.Fields.{host_of, shown_host}
use Rattle.wh_host.proofs.host.Host.unload.Goals as goal

pub returns-in_default-clause-unloads : goal.returns-in_default-clause-unloads
returns-in_default-clause-unloads c w st =
    (unload_no_module, w, refl, not_there (host_of c.self.inside) w c.args.id.number (shown_host w c.self.view_is st) c.deref.ensures.value c.in_default.ensures.found, st)

pub returns-then-is_used-clause-unloads : goal.returns-then-is_used-clause-unloads
returns-then-is_used-clause-unloads c w st =
    (unload_in_use, w, refl, in_use_here (host_of c.self.inside) w c.args.id.number c.in-Some.at (shown_host w c.self.view_is st) c.deref.ensures.value c.in-Some.ensures.found c.if-is_used.ensures, st)

pub invariant_of-self : goal.invariant_of-self
invariant_of-self c =
    let inv = c.self.invariant in
    let made = unloaded_here (host_of c.self.inside) inv.0 c.args.id.number c.in-Some.at c.let_go.new.modules.slots c.let_go.new.module_refs.items inv.1 c.deref.ensures.value c.in-Some.ensures.found c.if-is_used.ensures c.let_go.ensures in
    (made.0, made.2)

pub returns-clause-unloads : goal.returns-clause-unloads
returns-clause-unloads c w st =
    let made = unloaded_here (host_of c.self.inside) w c.args.id.number c.in-Some.at c.let_go.new.modules.slots c.let_go.new.module_refs.items (shown_host w c.self.view_is st) c.deref.ensures.value c.in-Some.ensures.found c.if-is_used.ensures c.let_go.ensures in
    (unload_ok, made.0, refl, made.1, made.2)
