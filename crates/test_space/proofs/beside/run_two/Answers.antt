use Rattle.std.proofs.Common.{◌∙◌, ◌≤◌, ap, subst}
use Rattle.wh_overlay.specs.LaidPages.{OverlayPagesState}
use Rattle.wh_overlay.specs.Over.{AreAtHand, HasGrown, ReadsAreThere, frames_lacking}
use Rattle.test_space.proofs.beside.run_two.Goals as goal

pub returns-clause-hand : goal.returns-clause-hand
returns-clause-hand c =
    let is = c.loop.invariant in
    let one = c.into_upper.result.pages in
    let two = c.into_upper-2.result.pages in (
      subst (λ s. AreAtHand s c.args.places.0 one) is.1 (subst (λ p. AreAtHand c.loop.here.lower p one) is.2 c.into_upper.ensures.hand),
      subst (λ s. AreAtHand s c.args.places.1 two) is.3 (subst (λ p. AreAtHand c.loop.there.lower p two) is.4 c.into_upper-2.ensures.hand),
    )

pub returns-clause-frames : goal.returns-clause-frames
returns-clause-frames c =
    let is = c.loop.invariant in
    let one = c.into_upper.result in
    let two = c.into_upper-2.result in
    let lent = ap (λ (u : OverlayPagesState). u.lent) c.into_upper.ensures.upper ∙ is.5 in
    let lent2 = ap (λ (u : OverlayPagesState). u.lent) c.into_upper-2.ensures.upper ∙ is.6 in (
      subst (λ n. frames_lacking c.args.memory.now c.args.places.0 one.pages ≤ n) lent
          (subst (λ s. frames_lacking s c.args.places.0 one.pages ≤ one.lent) is.1 (subst (λ p. frames_lacking c.loop.here.lower p one.pages ≤ one.lent) is.2 c.into_upper.ensures.frames)),
      subst (λ n. frames_lacking c.args.memory.now c.args.places.1 two.pages ≤ n) lent2
          (subst (λ s. frames_lacking s c.args.places.1 two.pages ≤ two.lent) is.3 (subst (λ p. frames_lacking c.loop.there.lower p two.pages ≤ two.lent) is.4 c.into_upper-2.ensures.frames)),
    )

pub returns-clause-limited : goal.returns-clause-limited
returns-clause-limited c =
    let is = c.loop.invariant in
    let one = c.into_upper.result in
    let two = c.into_upper-2.result in (
      subst (λ s. HasGrown s c.args.places.0 one) is.1 (subst (λ p. HasGrown c.loop.here.lower p one) is.2 c.into_upper.ensures.limited),
      subst (λ s. HasGrown s c.args.places.1 two) is.3 (subst (λ p. HasGrown c.loop.there.lower p two) is.4 c.into_upper-2.ensures.limited),
    )

pub returns-clause-there : goal.returns-clause-there
returns-clause-there c =
    let is = c.loop.invariant in
    let one = c.into_upper.result in
    let two = c.into_upper-2.result in (
      subst (λ s. ReadsAreThere s c.args.places.0 one) is.1 (subst (λ p. ReadsAreThere c.loop.here.lower p one) is.2 (let over = c.into_upper.ensures.over.0 in over.there)),
      subst (λ s. ReadsAreThere s c.args.places.1 two) is.3 (subst (λ p. ReadsAreThere c.loop.there.lower p two) is.4 (let over = c.into_upper-2.ensures.over.0 in over.there)),
    )
