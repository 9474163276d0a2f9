use Rattle.std.proofs.Common.{◌≡◌, ◌∙◌, [], Some, get_or, length-set, slice_get, refl}
use Rattle.std.proofs.lemmas.Option.{slice_get-get_or}
use Rattle.wh_overlay.specs.declared.overlay_pages.WrittenPage.{WrittenPage}
use Rattle.wh_overlay.proofs.Marks.{next_unmarked, none_left, past_the_end, was_marked, was_one, zero_there}
use Rattle.wh_overlay.proofs.overlay_pages.clear_written.Goals.{in-Some, in_default}
use Rattle.wh_overlay.proofs.overlay_pages.clear_written.Goals as goal

pub loop-page-preserved : goal.loop-page-preserved
loop-page-preserved c =
    let had = c.loop-page.invariant in
    let pages = c.args.pages.now in
    let marks = c.loop-page.marks.items in
    let k = c.loop-page.page-index in
    let x : WrittenPage = get_or pages k (record { number = 0; bytes = [] }) in
    let there : slice_get pages k ≡ Some x = slice_get-get_or pages k (record { number = 0; bytes = [] }) c.loop-page-test.true in
    elim c.match-get_mut.branch [
      | in-Some w ↦ rw w.marks-is (next_unmarked pages marks _ k x had.0 there (zero_there marks x.number) (was_marked marks x.number), length-set marks x.number 0 ∙ had.1, refl, λ p one. had.3 p (was_one marks x.number p one))
      | in_default w ↦ (let it = w.in_default.ensures.item in rw w.marks-is (next_unmarked pages marks marks k x had.0 there (past_the_end marks x.number it.3) (λ n j mark. mark), had.1, refl, had.3))
    ]

pub returns-clause-marks : goal.returns-clause-marks
returns-clause-marks c = none_left c.args.pages.now c.loop-page.marks.items c.loop-page.page-index c.loop-page-test.false c.loop-page.invariant.0
