use Rattle.std.proofs.Common.{◌≡◌, ◌∙◌, ◌≤◌, Some, length-set, get_or, slice_get, refl, arith}
use Rattle.std.proofs.lemmas.Option.{slice_get-get_or}
use Rattle.wh_overlay.proofs.Marks.{next_read, no_reads_left, past_the_end, unmarked_read, was_one, zero_there}
use Rattle.wh_overlay.proofs.overlay_pages.clear_read.Goals.{in-Some, in_default}
use Rattle.wh_overlay.proofs.overlay_pages.clear_read.Goals as goal

pub loop-number-init : goal.loop-number-init
loop-number-init c = (c.requires.marks, refl, λ p one. (let is = c.requires.reads p one in (is.0, omega arith, is.1)), refl)

pub loop-number-preserved : goal.loop-number-preserved
loop-number-preserved c =
    let had = c.loop-number.invariant in
    let marks = c.loop-number.marks.items in
    let reads = c.args.reads.now in
    let k = c.loop-number.number-index in
    let number = get_or reads k 0 in
    let there : slice_get reads k ≡ Some number = slice_get-get_or reads k 0 c.loop-number-test.true in
    elim c.match-get_mut.branch [
      | in-Some w ↦ rw w.marks-is (unmarked_read marks number had.0, length-set marks number 0 ∙ had.1, next_read reads marks _ k number had.2 there (zero_there marks number) (was_one marks number), refl)
      | in_default w ↦ (let it = w.in_default.ensures.item in rw w.marks-is (had.0, had.1, next_read reads marks marks k number had.2 there (past_the_end marks number it.3) (λ p one. one), refl))
    ]

pub returns-clause-noted : goal.returns-clause-noted
returns-clause-noted c = no_reads_left c.args.reads.now c.loop-number.marks.items c.loop-number.number-index c.loop-number-test.false c.loop-number.invariant.2
