use Rattle.wh_space.proofs.Keeping.{keeps_load}
use Rattle.wh_reclaim.proofs.Together.{same_pass}
use Rattle.test_space.proofs.paging.loaded.Goals as goal

pub returns : goal.returns
returns g c =
    same_pass c.args.memory.now c.load.new.self _ (keeps_load c.args.memory.now c.args.place c.args.at _ c.load.result c.load.new.self c.load.ensures.leaves).pass c.requires
