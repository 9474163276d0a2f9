use Rattle.std.proofs.Common.{◌≡◌, ◌∙◌, ◌+◌, ◌*◌, ◌<◌, ◌≤◌, ℕ, [], slice_get, subst, ap, sym, arith, rules}
use Rattle.wh_space_model.specs.{view}
use Rattle.wh_overlay.specs.LaidBack.{HasLaid}
use Rattle.wh_overlay.specs.LaidPages.{OverlayPagesState, grown_by, laid_over}
use Rattle.wh_overlay.specs.Over.{frames_lacking}
use Rattle.wh_overlay.proofs.LaidSteps.{lacking_less}
use Rattle.wh_overlay.proofs.SomeLaid.{grown_and_read, then_written}
use Rattle.wh_overlay.proofs.overlay_pages.OverlayPages.lay.Goals as goal

pub touch_all-requires : goal.touch_all-requires
touch_all-requires c = search rules

pub write_all-requires-clause-hand : goal.write_all-requires-clause-hand
write_all-requires-clause-hand c = search rules

pub write_all-requires-clause-whole : goal.write_all-requires-clause-whole
write_all-requires-clause-whole c = search rules

pub write_all-requires-clause-frames : goal.write_all-requires-clause-frames
write_all-requires-clause-frames c =
    let s = c.args.memory.now in
    let i = c.args.place in
    let m2 = c.touch_all.new.memory in
    let h = grown_and_read s c.grow_by.new.memory m2 i c.self.inside.grown c.deref.result.now c.grow_by.ensures c.touch_all.ensures in
    let pages = c.deref-2.ensures.value ∙ ap (λ (u : OverlayPagesState). u.pages) c.self.view_is in
    let is = ap (frames_lacking m2 i) pages in
    omega (arith, lacking_less s m2 i c.args.self.now.pages h.alone c.requires.hand, h.free, is, c.requires.frames)

pub returns-clause-laid : goal.returns-clause-laid
returns-clause-laid c =
    let s = c.args.memory.now in
    let i = c.args.place in
    let m2 = c.touch_all.new.memory in
    let m3 = c.write_all.new.memory in
    let g = c.self.inside.grown in
    let read = c.deref.result.now in
    let written = c.deref-2.result.now in
    let h = grown_and_read s c.grow_by.new.memory m2 i g read c.grow_by.ensures c.touch_all.ensures in
    let pages = c.deref-2.ensures.value ∙ ap (λ (u : OverlayPagesState). u.pages) c.self.view_is in
    let reads = c.deref.ensures.value ∙ ap (λ (u : OverlayPagesState). u.reads) c.self.view_is in
    let grown = ap (λ (u : OverlayPagesState). u.grown) c.self.view_is in
    let all = then_written s m2 m3 i g read written h c.write_all.ensures (λ k x there. c.requires.hand k x (ap (λ xs. slice_get xs k) (sym pages) ∙ there)) in
    let by_grown = subst (λ n. HasLaid s i n read (laid_over (grown_by (view s i) n) written) written m3) grown all in
    let by_reads = subst (λ rs. HasLaid s i c.args.self.now.grown rs (laid_over (grown_by (view s i) c.args.self.now.grown) written) written m3) reads by_grown in
    subst (λ xs. HasLaid s i c.args.self.now.grown c.args.self.now.reads (laid_over (grown_by (view s i) c.args.self.now.grown) xs) xs m3) pages by_reads
