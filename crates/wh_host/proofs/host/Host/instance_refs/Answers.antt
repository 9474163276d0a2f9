use Rattle.std.proofs.Common.{subst}
use Rattle.wh_host.specs.InstanceRefs.{AreInOrder, AreInstanceRefs}
use Rattle.wh_host.proofs.Reports.{if_ok, seats_are}
use Rattle.wh_host.proofs.Fields.{host_of}
use Rattle.wh_host.proofs.host.Host.instance_refs.Goals as goal

pub returns : goal.returns
returns c =
    let i = c.self.inside in
    let h = host_of i in
    if_ok c.refs_in_order.result (λ instance_refs. AreInOrder i.entries.slots c.places.result instance_refs.items) (λ instance_refs. AreInstanceRefs c.args.self.now instance_refs.items)
    (λ instance_refs order. subst (λ z. AreInstanceRefs z instance_refs.items) c.self.view_is (seats_are h instance_refs.items (subst (λ n. AreInOrder i.entries.slots n instance_refs.items) c.places.ensures order)))
    c.refs_in_order.ensures
