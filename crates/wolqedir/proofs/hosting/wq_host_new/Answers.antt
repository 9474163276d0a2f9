use Rattle.std.proofs.Common.{inl, inr, refl, Some, ap, ◌∙◌}
use Rattle.wolqedir.proofs.hosting.wq_host_new.Goals as goal
use Rattle.wolqedir.proofs.Helding.{is_held}

pub returns-then-is_full : goal.returns-then-is_full
returns-then-is_full c = inr (inl (refl, refl, is_held _ (c.is_full.ensures.full c.if-is_full.true)))

pub returns-in-Ok-new : goal.returns-in-Ok-new
returns-in-Ok-new c = inl (c.in-Some.tax, c.in-Ok.hand, refl, c.is_full.ensures.empty c.if-is_full.false, c.put.ensures.held ∙ ap Some c.in-Ok-new.ensures.ok, c.in-Some.ensures, c.in-Ok.ensures.host, c.in-Ok.ensures.output, c.in-Ok.ensures.counts)
