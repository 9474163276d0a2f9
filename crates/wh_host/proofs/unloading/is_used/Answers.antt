use Rattle.wh_host.proofs.KeptModules.{nobody_behind, nor_there}
use Rattle.wh_host.proofs.unloading.is_used.Goals as goal

pub returns : goal.returns
returns c =
    nobody_behind c.args.entries.now.slots c.args.number c.loop-place.place c.capacity-place-end.result c.capacity-place-end.ensures.slots c.loop-place-test.false c.loop-place.invariant

pub loop-place-preserved : goal.loop-place-preserved
loop-place-preserved c = nor_there c.args.entries.now.slots c.args.number c.loop-place.place c.loop-place.invariant c.if-uses.ensures
