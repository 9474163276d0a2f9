use Rattle.std.proofs.Common.{◌≡◌, ◌≢◌, ◌∙◌, Some, ◌<◌, ◌≤◌, get_or, inl, length, length-set, refl, rules, subst, sym}
use Rattle.std.proofs.lemmas.Option.{slice_get_read}
use Rattle.wh_overlay.specs.LaidPages.{OverlayPagesState}
use Rattle.wh_overlay.proofs.Marks.{get_there, known_page, marked_read, noted_read}
use Rattle.wh_overlay.proofs.overlay_pages.OverlayPages.note_read.Goals as goal

pub invariant_of-self : goal.invariant_of-self
invariant_of-self c = search (rules, length-set, marked_read, noted_read)

pub returns-else-index-eq0 : goal.returns-else-index-eq0
returns-else-index-eq0 c =
    let o = c.self.inside in
    let had = c.self.invariant in
    let marks = o.marks.items in
    let less : c.args.number < length marks = subst (λ (u : OverlayPagesState). c.args.number < u.most) (sym c.self.view_is) c.requires in
    let both : Some (get_or marks c.args.number 0) ≡ Some c.index.result.now = sym (get_there marks c.args.number less) ∙ slice_get_read marks (length marks) c.args.number c.index.result.now refl less c.index.ensures in
    let is : get_or marks c.args.number 0 ≡ c.index.result.now = cc both in
    let some : get_or o.marks.items c.args.number 0 ≢ 0 = λ none. (let e = sym is ∙ none in c.if-index-eq0.false e) in
    rw (← c.self.view_is) (inl (refl, known_page o.pages.items o.reads.items o.marks.items c.args.number had.0 had.4 some))
