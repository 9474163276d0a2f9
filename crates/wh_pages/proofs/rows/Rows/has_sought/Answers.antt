use Rattle.std.proofs.Common.{arith}
use Rattle.wh_pages.specs.Leaves.{IsSoughtEntry}
use Rattle.wh_pages.proofs.Leaves.{leaf_at, seen_in_leaf}
use Rattle.wh_pages.proofs.rows.Rows.has_sought.Goals as goal

pub index-requires : goal.index-requires
index-requires c =
    let there = rw (← c.self.view_is) at c.requires in
    omega (arith, leaf_at c.self.inside.leaves.items c.args.leaf c.self.invariant there, c.self.inside.leaves.ok.0)

pub returns : goal.returns
returns c none q e from below there =
    let within = rw (← c.self.view_is) at c.requires in
    let at = rw (← c.self.view_is) at there in
    seen_in_leaf (λ entry. ¬ IsSoughtEntry c.args.idle entry) c.self.inside.leaves.items c.args.leaf q c.index.result.now e c.self.invariant within from below c.index.ensures at (c.has_sought.ensures none)
