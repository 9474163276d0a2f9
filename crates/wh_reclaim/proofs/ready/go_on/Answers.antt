use Rattle.std.proofs.Common.{inl, sym, ◌∙◌}
use Rattle.wh_reclaim.proofs.Beginning.{some_swapped}
use Rattle.wh_reclaim.proofs.Going.{few_pinned}
use Rattle.wh_reclaim.proofs.ready.go_on.Goals as goal

pub fetch_now-requires-clause-pinned : goal.fetch_now-requires-clause-pinned
fetch_now-requires-clause-pinned g c = few_pinned c.args.memory.now c.args.place c.args.need c.in-Some.page c.invariant.ensures.sound c.requires.serving c.requires.once c.in-Some.ensures.0

pub returns-in-Ok-clause-goes_on : goal.returns-in-Ok-clause-goes_on
returns-in-Ok-clause-goes_on g c =
    (inl (some_swapped c.args.memory.now c.args.place c.args.need c.in-Some.page c.in-Some.ensures.0, sym c.free.ensures ∙ c.if-free-eq0.true), c.in-Ok.ensures.revokes)
