use Rattle.std.proofs.Common.{arith}
use Rattle.wh_pages.proofs.Leaves.{leaf_there, entry_written}
use Rattle.wh_pages.proofs.rows.Rows.set.Goals as goal

pub index_mut-requires : goal.index_mut-requires
index_mut-requires c =
    let there = rw (← c.self.view_is) at c.requires in
    omega (arith, leaf_there c.self.inside.leaves.items c.args.at c.self.invariant there, c.self.inside.leaves.ok.0)

pub returns : goal.returns
returns c =
    let there = rw (← c.self.view_is) at c.requires in
    rw (← c.self.view_is, c.set.ensures) (entry_written c.self.inside.leaves.items c.args.at c.index_mut.result.now c.args.entry c.self.invariant there c.index_mut.ensures.value)
