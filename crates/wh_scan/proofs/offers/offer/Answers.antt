use Rattle.std.proofs.Common.{◌∙◌, inl, refl, sym}
use Rattle.wh_scan.proofs.Gone.{gone}
use Rattle.wh_scan.proofs.offers.offer.Goals as goal

pub returns-then-not-is_at : goal.returns-then-not-is_at
returns-then-not-is_at g c = inl (refl, inl (gone c.args.memory.now c.args.place c.args.number c.args.page c.invariant.ensures.sound (sym c.is_at.ensures ∙ c.if-not-is_at.true)))
