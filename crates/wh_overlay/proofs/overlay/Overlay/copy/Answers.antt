use Rattle.std.proofs.Common.{◌≡◌, ◌∙◌, ◌+◌, ◌*◌, ◌++◌, ◌∷◌, [], ap, refl, slice_get, subst, sym, arith}
use Rattle.wh_space_model.specs.{view, page_at}
use Rattle.wh_model.specs.Execution.{bytes_at}
use Rattle.wh_overlay.specs.declared.overlay_pages.WrittenPage.{WrittenPage}
use Rattle.wh_overlay.specs.LaidPages.{IsAmong, IsNoted, OverlayPagesState}
use Rattle.wh_overlay.specs.Over.{OverlayState}
use Rattle.wh_overlay.proofs.LaidSteps.{lacks_most}
use Rattle.wh_overlay.proofs.Marks.{last_there}
use Rattle.wh_overlay.proofs.Seen.{add_page, added_over}
use Rattle.wh_overlay.proofs.overlay.Overlay.copy.Goals as goal

pub invariant_of-self : goal.invariant_of-self
invariant_of-self c =
    let o = c.self.inside in
    let left = c.if-not-has_frame.ensures in
    let added = c.add-at.ensures.added in
    added_over o.lower.now o.place o.upper c.add-at.new.self c.args.number 1 c.peek.new.into c.self.invariant c.if-not-peek.ensures.hand (lacks_most (page_at o.lower.now.tables o.place c.args.number)) (omega (arith, left))
    (ap (λ (u : OverlayPagesState). u.pages) added) (ap (λ (u : OverlayPagesState). u.reads) added) (ap (λ (u : OverlayPagesState). u.grown) added) (ap (λ (u : OverlayPagesState). u.taken) added) (ap (λ (u : OverlayPagesState). u.lent) added)

pub returns-clause-some : goal.returns-clause-some
returns-clause-some c =
    let o = c.self.inside in
    let x : WrittenPage = record { number = c.args.number; bytes = c.peek.new.into } in
    let added = c.add-at.ensures in (
      x,
      ap (λ (u : OverlayPagesState). slice_get u.pages c.add-at.result) added.added ∙ ap (slice_get (o.upper.pages ++ x ∷ [])) added.place ∙ last_there o.upper.pages x,
      refl,
    )

pub returns-clause-sees : goal.returns-clause-sees
returns-clause-sees c =
    let o = c.self.inside in
    let new = subst (λ (z : OverlayState). ¬ (IsAmong z.upper.pages c.args.number)) (sym c.self.view_is) c.requires.new in
    let start : 4096 * c.args.number + 0 ≡ 4096 * c.args.number = omega arith in
    let read = subst (λ n. c.peek.new.into ≡ bytes_at (view o.lower.now o.place) n 4096) start (c.if-not-peek.ensures.read refl) in
    rw (← c.self.view_is) (add_page o.lower.now o.place o.upper c.add-at.new.self c.args.number c.peek.new.into c.invariant-2.ensures.sound c.self.invariant.at_hand c.invariant.ensures.whole new c.if-not-peek.ensures.hand read
    (ap (λ (u : OverlayPagesState). u.grown) c.add-at.ensures.added) (ap (λ (u : OverlayPagesState). u.pages) c.add-at.ensures.added))

pub returns-clause-lower : goal.returns-clause-lower
returns-clause-lower c =
    rw (← c.self.view_is) (record { lower = refl; place = refl; page_limit = refl; lent = ap (λ (u : OverlayPagesState). u.lent) c.add-at.ensures.added; reads = λ number is. subst (λ (u : OverlayPagesState). IsNoted u.reads number) (sym c.add-at.ensures.added) is; stays = λ h. (invariant_of-self c, c.invariant-3.ensures.whole) })
