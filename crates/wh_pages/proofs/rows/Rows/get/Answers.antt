use Rattle.std.proofs.Common.{arith}
use Rattle.wh_pages.proofs.Leaves.{leaf_there, entry_read}
use Rattle.wh_pages.proofs.rows.Rows.get.Goals as goal

pub index-requires : goal.index-requires
index-requires c =
    let there = rw (← c.self.view_is) at c.requires in
    omega (arith, leaf_there c.self.inside.leaves.items c.args.at c.self.invariant there, c.self.inside.leaves.ok.0)

pub returns : goal.returns
returns c =
    let there = rw (← c.self.view_is) at c.requires in
    rw (← c.self.view_is) (entry_read c.self.inside.leaves.items c.args.at c.index.result.now c.get.result c.self.invariant there c.index.ensures c.get.ensures)
