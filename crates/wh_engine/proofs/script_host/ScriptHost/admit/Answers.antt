use Rattle.std.proofs.Common.{◌≡◌, ◌<◌, ◌∙◌, ◌++◌, ◌∷◌, [], List, length, None, false, ap, sym, subst, refl}
use Rattle.wh_host.specs.Paging.{IsGoing, Tells}
use Rattle.wh_names.specs.NamePlaces.{place_of_name}
use Rattle.wh_engine.specs.declared.parts.NamedInstance.{NamedInstance}
use Rattle.wh_engine.proofs.Admitted.{admitted, guest_again, refused, refused_again}
use Rattle.wh_engine.proofs.Again.{whole_in}
use Rattle.wh_engine.proofs.Whole.{keeps_whole}
use Rattle.wh_engine.specs.RepresentedScript.{ScriptHostState}
use Rattle.wh_engine.proofs.script_host.ScriptHost.admit.Goals as goal

pub returns-in-Ok-clause-ok : goal.returns-in-Ok-clause-ok
returns-in-Ok-clause-ok g c =
    rw (← c.self.view_is) (λ settings m s.
    let free = subst (λ (z : ScriptHostState g.row.D.Denot). place_of_name z.instance_names c.args.inst.now ≡ None) (sym c.self.view_is) c.requires.free in
    let there = subst (λ (z : ScriptHostState g.row.D.Denot). c.args.of < length z.module_names) (sym c.self.view_is) c.requires.there in
    let x : NamedInstance = record { name = c.in_ok-name.name; id = c.in-Ok.id; has_start = c.can_go_on-has_start.result; is_released = false; last_printed = None } in
    guest_again settings _ m c.args.inst.now c.args.of _ _ c.ask.new.self c.add.new.self x c.push_reserved.new.self.items s
    (c.push_reserved.ensures.items ∙ ap (λ (xs : List NamedInstance). xs ++ x ∷ []) c.reserve.ensures.items)
    (admitted settings (whole_in s) m c.args.inst.now c.args.of _ c.in-Ok.id c.ask.new.self.host c.add.new.self
    x
    (s.instances ++ x ∷ []) s.stands free there c.in-Ok.ensures.asks.0 (keeps_whole c.self.inside.host.host.space c.ask.new.self.host.space c.in-Ok.ensures.backing)
    c.in_ok-add.ensures.ok
    (subst (λ h. Tells h c.can_go_on-has_start.result (λ w. IsGoing w c.in-Ok.id)) c.host.ensures c.can_go_on-has_start.ensures) (record { id = refl; name = c.in_ok-name.ensures.ok; live = refl; unsaid = refl })
    refl))

pub returns-in-Err-clause-ok : goal.returns-in-Err-clause-ok
returns-in-Err-clause-ok g c =
    rw (← c.self.view_is) (λ settings m s.
    let there = subst (λ (z : ScriptHostState g.row.D.Denot). c.args.of < length z.module_names) (sym c.self.view_is) c.requires.there in
    let got = refused_again settings _ m c.args.inst.now c.args.of _ _ c.ask.new.self c.remove_last.new.self c.reserve.new.self.items s c.reserve.ensures.items
    (refused settings (whole_in s) m c.args.inst.now c.args.of _ c.in-Err.error c.ask.new.self.host c.add.new.self c.remove_last.new.self s.instances s.stands there
    c.in-Err.ensures.asks.0 (keeps_whole c.self.inside.host.host.space c.ask.new.self.host.space c.in-Err.ensures.backing)
    c.in_ok-add.ensures.ok
    c.remove_last.ensures refl) in
    rw (sym c.number.ensures) at got)
