use Rattle.std.proofs.Common.{◌≡◌, ◌∙◌, ◌+◌, ◌*◌, ◌<◌, ◌≤◌, ◌^◌, refl, ap, sym, subst, length, arith, rules}
use Rattle.wh_model.specs.Execution.{written}
use Rattle.wh_space_model.specs.{view}
use Rattle.wh_overlay.specs.LaidPages.{IsNoted, IsWrittenAt, OverlayPagesState, with_upper}
use Rattle.wh_overlay.specs.Over.{HasGrown, IsOverSame, OverlayState, ReadsAreThere, frames_lacking, sees}
use Rattle.wh_overlay.proofs.OverPages.{page_with}
use Rattle.wh_overlay.proofs.Seen.{still_at_hand, still_lacking, write_page}
use Rattle.wh_overlay.proofs.overlay.Overlay.write.Goals as goal

pub invariant_of-self : goal.invariant_of-self
invariant_of-self c =
    let o = c.self.inside in
    let done = c.write.ensures in
    let x = done.0 in
    let y = page_with x c.args.offset c.args.given.now in
    let had = c.self.invariant.frames in
    let lacking = still_lacking o.lower.now o.place c.in-Some.at o.upper.pages x y done.1 refl in
    record {
      at_hand = search (rules, still_at_hand);
      there = subst (ReadsAreThere o.lower.now o.place) (sym done.2) c.self.invariant.there;
      frames = subst (λ (u : OverlayPagesState). frames_lacking o.lower.now o.place u.pages ≤ u.taken) (sym done.2) (omega (arith, had, lacking));
      lent = subst (λ (u : OverlayPagesState). u.taken ≤ u.lent) (sym done.2) c.self.invariant.lent;
      counted = subst (λ (u : OverlayPagesState). length (view o.lower.now o.place) + u.grown * 65536 < 2 ^ 44) (sym done.2) c.self.invariant.counted;
      limited = subst (λ (u : OverlayPagesState). HasGrown o.lower.now o.place u) (sym done.2) c.self.invariant.limited;
    }

pub returns-clause-wrote : goal.returns-clause-wrote
returns-clause-wrote c =
    let o = c.self.inside in
    let at = subst (λ (z : OverlayState). IsWrittenAt z.upper.pages c.args.number c.in-Some.at) (sym c.self.view_is) c.in-Some.ensures.some in
    let seen : sees c.own.new.self ≡ sees c.args.self.now = c.in-Some.ensures.sees in
    let before : with_upper (view o.lower.now o.place) o.upper ≡ sees c.own.new.self = ap (λ (z : OverlayState). sees z) c.self.view_is in
    λ yes.
    write_page o.lower.now o.place o.upper c.write.new.self c.args.number c.in-Some.at c.args.offset c.args.given.now c.invariant-2.ensures.sound c.self.invariant.at_hand c.invariant.ensures.whole c.invariant.ensures.once at c.write.ensures c.requires.inside
    ∙ ap (λ z. written z (4096 * c.args.number + c.args.offset) c.args.given.now) (before ∙ seen)

pub returns-clause-lower : goal.returns-clause-lower
returns-clause-lower c =
    let first = subst (λ (z : OverlayState). IsOverSame c.args.self.now z) (sym c.self.view_is) c.own.ensures.lower in
    record { lower = first.lower; place = first.place; page_limit = first.page_limit; lent = ap (λ (u : OverlayPagesState). u.lent) c.write.ensures.2 ∙ first.lent; reads = λ number is. subst (λ (u : OverlayPagesState). IsNoted u.reads number) (sym c.write.ensures.2) (first.reads number is); stays = λ h. (invariant_of-self c, c.invariant-3.ensures.whole) }
