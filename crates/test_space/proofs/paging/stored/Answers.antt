use Rattle.std.proofs.Common.{[], ◌∷◌}
use Rattle.wh_space.proofs.Keeping.{keeps_store}
use Rattle.wh_reclaim.proofs.Together.{same_pass}
use Rattle.test_space.proofs.paging.stored.Goals as goal

pub returns : goal.returns
returns g c =
    same_pass c.args.memory.now c.store.new.self _ (keeps_store c.args.memory.now c.args.place c.args.at (c.args.byte ∷ []) c.store.result c.store.new.self c.invariant.ensures.sound c.store.ensures.leaves).pass c.requires
