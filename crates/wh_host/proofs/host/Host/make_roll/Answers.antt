use Rattle.std.proofs.Common.{◌≡◌, ◌∙◌, ap, map, refl, sym, subst}
use Rattle.wh_host.specs.Rolls.{listed_modules, listed_refs, view_listed, view_listed_module}
use Rattle.wh_host.specs.InstanceRefs.{AreInstanceRefs}
use Rattle.wh_host.proofs.Enrolling.{roll_is}
use Rattle.wh_host.proofs.Fields.{host_of, shown_host}
use Rattle.wh_host.proofs.host.Host.make_roll.Goals as goal

pub invariant_of-result : goal.invariant_of-result
invariant_of-result c =
    let i = c.self.inside in
    let h = host_of i in
    let inv = c.self.invariant in
    let instance_refs = c.in_ok-instance_refs.instance_refs.items in
    let are = subst (λ z. AreInstanceRefs z instance_refs) (sym c.self.view_is) c.in_ok-instance_refs.ensures in
    let modules = map view_listed_module c.in_ok-modules.modules.items in
    let instances = map view_listed c.in_ok-instances.instances.items in
    let numbered : modules ≡ listed_modules h.modules h.module_refs = c.in_ok-modules.ensures ∙ ap (listed_modules h.modules) c.deref.ensures.value in
    let listed : instances ≡ listed_refs h.entries instance_refs = c.in_ok-instances.ensures ∙ ap (listed_refs h.entries) c.deref-2.ensures.value in
    (inv.0, inv.1.comes, roll_is h instance_refs modules i.next c.tickets.result instances are numbered refl c.tickets.ensures listed inv.0 inv.1)

pub returns : goal.returns
returns c w st =
    let i = c.self.inside in
    let h = host_of i in
    let instance_refs = c.in_ok-instance_refs.instance_refs.items in
    let are = subst (λ z. AreInstanceRefs z instance_refs) (sym c.self.view_is) c.in_ok-instance_refs.ensures in
    let modules = map view_listed_module c.in_ok-modules.modules.items in
    let instances = map view_listed c.in_ok-instances.instances.items in
    let numbered : modules ≡ listed_modules h.modules h.module_refs = c.in_ok-modules.ensures ∙ ap (listed_modules h.modules) c.deref.ensures.value in
    let listed : instances ≡ listed_refs h.entries instance_refs = c.in_ok-instances.ensures ∙ ap (listed_refs h.entries) c.deref-2.ensures.value in
    roll_is h instance_refs modules i.next c.tickets.result instances are numbered refl c.tickets.ensures listed w (shown_host w c.self.view_is st)
