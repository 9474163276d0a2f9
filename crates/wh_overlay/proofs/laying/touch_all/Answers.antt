use Rattle.std.proofs.Common.{◌≡◌, ◌+◌, ◌*◌, ◌≤◌, [], ◌∷◌, Some, ap, get_or, refl, slice_get, subst, take}
use Rattle.std.proofs.lemmas.Option.{slice_get-get_or}
use Rattle.wh_space_model.specs.{view}
use Rattle.wh_overlay.specs.LaidBack.{HasLaid}
use Rattle.wh_overlay.proofs.Marks.{taken_next}
use Rattle.wh_overlay.proofs.LaidSteps.{laid_on, no_step, touch_step}
use Rattle.wh_overlay.proofs.SomeLaid.{is_loaded}
use Rattle.wh_overlay.proofs.laying.touch_all.Goals as goal

pub loop-number-init : goal.loop-number-init
loop-number-init c = (no_step c.args.memory.now c.args.place, refl, refl)

pub loop-number-preserved : goal.loop-number-preserved
loop-number-preserved c =
    let s = c.args.memory.now in
    let i = c.args.place in
    let m = c.loop-number.memory in
    let had = c.loop-number.invariant.0 in
    let numbers = c.args.numbers.now in
    let k = c.loop-number.number-index in
    let p = get_or numbers k 0 in
    let there : slice_get numbers k ≡ Some p = slice_get-get_or numbers k 0 c.loop-number-test.true in
    let hand = had.at_hand p (c.requires p (k, there)) in
    let s2 = c.load.new.self in
    let at : 4096 * c.from.result ≡ 4096 * p = ap (λ n. 4096 * n) c.from.ensures in
    let step = touch_step m i p s2 c.invariant.ensures.sound hand (is_loaded m i p (4096 * c.from.result) c.load.result (0 ∷ []) c.load.new.into s2 c.invariant.ensures.sound hand at refl c.load.ensures.loads c.load.ensures.leaves) in
    let all = laid_on s i 0 (take k numbers) (p ∷ []) (take (k + 1) numbers) (view s i) (view m i) [] [] m s2 had step (taken_next numbers k p there) (λ k x there. absurd (cc there)) in
    (subst (λ b. HasLaid s i 0 (take (k + 1) numbers) b [] s2) had.sees all, refl, refl)
