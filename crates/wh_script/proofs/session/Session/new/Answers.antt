use Rattle.std.proofs.Common.{◌∙◌, ap, refl, subst, sym}
use Rattle.wh_reclaim.specs.Together.{AreTogether}
use Rattle.wh_cell.specs.LeftByOwner.{LeftState}
use Rattle.wh_cell.proofs.Begun.{new_agrees, new_led, new_uncharged}
use Rattle.wh_settings.specs.View.{settings_of}
use Rattle.wh_host.specs.Hosting.{IsNewHost}
use Rattle.wh_scheduler.specs.InHand.{OwnedState}
use Rattle.wh_script.proofs.session.Session.new.Goals as goal

pub new-requires-2-clause-uncharged : goal.new-requires-2-clause-uncharged
new-requires-2-clause-uncharged g c = new_uncharged c.in-Ok.host c.args.settings.now.frames c.args.settings.now.slots _ c.in-Ok.ensures.ok

pub new-requires-2-clause-led : goal.new-requires-2-clause-led
new-requires-2-clause-led g c honest = new_led c.in-Ok.host c.args.settings.now.frames c.args.settings.now.slots _ c.in-Ok.ensures.ok

pub new-requires-2-clause-together : goal.new-requires-2-clause-together
new-requires-2-clause-together g c =
    subst (λ held. AreTogether c.in-Ok.host.space held) (sym c.requires.empty) (new_agrees c.in-Ok.host c.args.settings.now.frames c.args.settings.now.slots _ c.in-Ok.ensures.ok)

pub returns-clause-stands : goal.returns-clause-stands
returns-clause-stands g c =
    let settings = settings_of c.args.settings.now in
    let same = ap (λ (o : LeftState g.row.D.Denot). o.host) c.in-Ok-new.ensures.host in
    c.new-3.ensures.stands settings c.args.settings.now.tax refl refl
    (subst (λ h. IsNewHost h c.args.settings.now.frames c.args.settings.now.slots c.args.settings.now.tax) (sym same) c.in-Ok.ensures.ok)

pub returns-clause-device : goal.returns-clause-device
returns-clause-device g c =
    ap (λ (o : OwnedState g.row.D.Denot). o.device) c.new-3.ensures.host ∙ ap (λ (o : LeftState g.row.D.Denot). o.device) c.in-Ok-new.ensures.host
