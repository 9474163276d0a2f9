use Rattle.std.proofs.Common.{◌<◌, length, length-set, refl, sym, subst, arith}
use Rattle.std.proofs.lemmas.Option.{slice_get_read}
use Rattle.wh_overlay.specs.LaidPages.{OverlayPagesState}
use Rattle.wh_overlay.proofs.Marks.{marked_again}
use Rattle.wh_overlay.proofs.overlay_pages.OverlayPages.write.Goals as goal

pub invariant_of-self : goal.invariant_of-self
invariant_of-self c =
    let had = c.self.invariant in
    let pages = c.self.inside.pages.items in
    let page = c.index_mut.result.now in
    let within : c.args.at < length pages = subst (λ (u : OverlayPagesState). c.args.at < length u.pages) (sym c.self.view_is) c.requires.there in
    let there = slice_get_read pages (length pages) c.args.at page refl within c.index_mut.ensures.value in (
      marked_again pages c.self.inside.marks.items c.args.at page (record { number = page.number; bytes = c.overwrite.new.bytes }) had.0 there refl c.overwrite.array_long,
      had.1,
      had.2,
      (let same = length-set pages c.args.at (record { number = page.number; bytes = c.overwrite.new.bytes }) in let few = had.3 in omega (arith, same, few)),
      had.4,
      had.5,
    )
