use Rattle.std.proofs.Common.{◌≡◌, [], refl, sym, ap, subst, ◌∙◌}
use Rattle.wh_instance.specs.Tenancy.{HostInstanceState, IsTenant}
use Rattle.wh_instance.proofs.Duplicates.{copied_tenant}
use Rattle.wh_instance.proofs.host_instance.HostInstance.copy.Goals as goal

pub returns : goal.returns
returns c l limit bytes t given =
    let i = c.self.inside in
    let x1 : HostInstanceState = record { store = i.store; machine = i.machine; places = i.places.items; cursor = i.cursor; progress = i.progress; journal = i.journal; waiting_for = i.waiting_for; dead = i.dead } in
    let same : x1 ≡ c.args.self.now = c.self.view_is in
    let rep : IsTenant l limit x1 bytes t = subst (λ z. IsTenant l limit z bytes t) (sym same) given in
    let idle : i.journal.open_calls ≡ [] = ap (λ (z : HostInstanceState). z.journal.open_calls) same ∙ c.requires.idle in
    copied_tenant l limit x1 _ bytes t idle c.in_ok-store.ensures refl c.in_ok-journal.ensures refl refl rep
