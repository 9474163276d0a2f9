use Rattle.std.proofs.Common.{◌+◌, ◌*◌, ◌<◌, ◌≤◌, ◌^◌, length, refl, sym, ap, subst, arith}
use Rattle.wh_space_model.specs.{view}
use Rattle.wh_space.specs.Steps.{page_limit}
use Rattle.wh_overlay.specs.LaidPages.{IsNoted, OverlayPagesState}
use Rattle.wh_overlay.specs.Over.{AreAtHand, HasGrown, OverlayState, ReadsAreThere, frames_lacking, sees}
use Rattle.wh_overlay.proofs.Seen.{grow_page, seen_length, there_longer}
use Rattle.wh_overlay.proofs.overlay.Overlay.grow_by.Goals as goal

pub invariant_of-self : goal.invariant_of-self
invariant_of-self c =
    let o = c.self.inside in
    let seen = seen_length o.lower.now o.place o.upper c.invariant-2.ensures.sound c.self.invariant.at_hand c.invariant.ensures.whole in
    let few = subst (λ (z : OverlayState). length (sees z) + c.args.pages * 65536 < 2 ^ 44) (sym c.self.view_is) c.requires.few in
    let limit = subst (λ (z : OverlayState). length (sees z) + c.args.pages * 65536 ≤ page_limit z.lower z.place * 65536) (sym c.self.view_is) c.requires.limit in
    let all : length (view o.lower.now o.place) + (o.upper.grown + c.args.pages) * 65536 ≤ page_limit o.lower.now o.place * 65536 = omega (arith, seen, limit) in
    let most : length (view o.lower.now o.place) + (o.upper.grown + c.args.pages) * 65536 < 2 ^ 44 = omega (arith, seen, few) in
    record {
      at_hand = subst (λ (u : OverlayPagesState). AreAtHand o.lower.now o.place u.pages) (sym c.grow.ensures) c.self.invariant.at_hand;
      there = subst (ReadsAreThere o.lower.now o.place) (sym c.grow.ensures) (there_longer o.lower.now o.place o.upper c.args.pages c.self.invariant.there);
      frames = subst (λ (u : OverlayPagesState). frames_lacking o.lower.now o.place u.pages ≤ u.taken) (sym c.grow.ensures) c.self.invariant.frames;
      lent = subst (λ (u : OverlayPagesState). u.taken ≤ u.lent) (sym c.grow.ensures) c.self.invariant.lent;
      counted = subst (λ (u : OverlayPagesState). length (view o.lower.now o.place) + u.grown * 65536 < 2 ^ 44) (sym c.grow.ensures) most;
      limited = subst (λ (u : OverlayPagesState). HasGrown o.lower.now o.place u) (sym c.grow.ensures) (λ some. all);
    }

pub returns-clause-grown : goal.returns-clause-grown
returns-clause-grown c =
    let o = c.self.inside in
    rw (← c.self.view_is) (grow_page o.lower.now o.place o.upper c.grow.new.self c.args.pages c.invariant-2.ensures.sound c.self.invariant.at_hand c.invariant.ensures.whole c.grow.ensures)

pub returns-clause-lower : goal.returns-clause-lower
returns-clause-lower c = rw (← c.self.view_is) (record { lower = refl; place = refl; page_limit = refl; lent = ap (λ (u : OverlayPagesState). u.lent) c.grow.ensures; reads = λ number is. subst (λ (u : OverlayPagesState). IsNoted u.reads number) (sym c.grow.ensures) is; stays = λ h. (invariant_of-self c, c.invariant-3.ensures.whole) })
