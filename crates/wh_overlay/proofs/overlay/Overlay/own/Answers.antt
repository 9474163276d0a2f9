use Rattle.std.proofs.Common.{◌∙◌, ◌++◌, ◌∷◌, [], ap, refl, slice_get, subst, sym, arith, rules}
use Rattle.wh_space_model.specs.{IsAtHand, at}
use Rattle.wh_overlay.specs.declared.overlay_pages.WrittenPage.{WrittenPage}
use Rattle.wh_overlay.specs.LaidPages.{IsNoted, OverlayPagesState}
use Rattle.wh_overlay.specs.Over.{lacks_frame}
use Rattle.wh_overlay.proofs.Marks.{last_there}
use Rattle.wh_overlay.proofs.Seen.{add_page, added_over}
use Rattle.wh_overlay.proofs.overlay.Overlay.own.Goals as goal

pub returns-clause-sees : goal.returns-clause-sees
returns-clause-sees c =
    let o = c.self.inside in
    let private = c.in-Some-private_page.ensures.private in
    rw (← c.self.view_is) (add_page o.lower.now o.place o.upper c.add-at.new.self c.args.number c.in-Some-private_page.bytes.now c.invariant-2.ensures.sound c.self.invariant.at_hand c.invariant.ensures.whole c.in_default.ensures.none (subst IsAtHand (sym private.1) refl)
    c.in-Some-private_page.ensures.some (ap (λ (u : OverlayPagesState). u.grown) c.add-at.ensures.added) (ap (λ (u : OverlayPagesState). u.pages) c.add-at.ensures.added))

pub returns-clause-can : goal.returns-clause-can
returns-clause-can c = search rules

pub invariant_of-self : goal.invariant_of-self
invariant_of-self c =
    let o = c.self.inside in
    let private = c.in-Some-private_page.ensures.private in
    let none = ap (at lacks_frame) private.1 in
    let lent = c.self.invariant.lent in
    let added = c.add-at.ensures.added in
    added_over o.lower.now o.place o.upper c.add-at.new.self c.args.number 0 c.in-Some-private_page.bytes.now c.self.invariant (subst IsAtHand (sym private.1) refl) (omega (arith, none)) (omega (arith, lent))
    (ap (λ (u : OverlayPagesState). u.pages) added) (ap (λ (u : OverlayPagesState). u.reads) added) (ap (λ (u : OverlayPagesState). u.grown) added) (ap (λ (u : OverlayPagesState). u.taken) added) (ap (λ (u : OverlayPagesState). u.lent) added)

pub returns-clause-lower : goal.returns-clause-lower
returns-clause-lower c =
    rw (← c.self.view_is) (record { lower = refl; place = refl; page_limit = refl; lent = ap (λ (u : OverlayPagesState). u.lent) c.add-at.ensures.added; reads = λ number is. subst (λ (u : OverlayPagesState). IsNoted u.reads number) (sym c.add-at.ensures.added) is; stays = λ h. (invariant_of-self c, c.invariant-3.ensures.whole) })

pub returns-clause-some : goal.returns-clause-some
returns-clause-some c =
    let o = c.self.inside in
    let x : WrittenPage = record { number = c.args.number; bytes = c.in-Some-private_page.bytes.now } in
    let added = c.add-at.ensures in (
      x,
      ap (λ (u : OverlayPagesState). slice_get u.pages c.add-at.result) added.added ∙ ap (slice_get (o.upper.pages ++ x ∷ [])) added.place ∙ last_there o.upper.pages x,
      refl,
    )
