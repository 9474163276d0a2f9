use Rattle.std.proofs.Common.{◌≡◌, ◌∙◌, ℕ, ◌+◌, ◌*◌, ◌≤◌, List, [], ◌∷◌, ◌++◌, inl, Some, drop, take, get_or, slice_get, zero, suc, refl, ap, sym, subst, arith}
use Rattle.std.proofs.lemmas.Option.{slice_get-get_or}
use Rattle.wh_model.specs.Execution.{Stores, written}
use Rattle.wh_space_model.specs.{tally, Space, view, IsAtHand, at, page_at}
use Rattle.wh_space_model.specs.Ready.{Ready}
use Rattle.wh_space.specs.Steps.{LeavesStore}
use Rattle.wh_overlay.specs.declared.overlay_pages.WrittenPage.{WrittenPage}
use Rattle.wh_overlay.specs.LaidBack.{HasLaid}
use Rattle.wh_overlay.specs.LaidPages.{laid_over}
use Rattle.wh_overlay.specs.Over.{AreAtHand, lacks_frame}
use Rattle.wh_overlay.proofs.LaidSteps.{is_stored, lacking_less, laid_on, no_step, page_ready, page_step}
use Rattle.wh_overlay.proofs.laying.write_all.Goals as goal

pub loop-page-init : goal.loop-page-init
loop-page-init c = (no_step c.args.memory.now c.args.place, refl, refl, refl)

next : (xs : List WrittenPage) (i : ℕ) (x : WrittenPage) → slice_get xs i ≡ Some x → drop i xs ≡ x ∷ drop (i + 1) xs
next [] i x there = absurd (cc there)
next (y ∷ xs) zero x there = let e : y ≡ x = cc there in ap (λ z. z ∷ xs) e
next (y ∷ xs) (suc i) x there = let e : suc i + 1 ≡ suc (i + 1) = omega arith in next xs i x there ∙ ap (λ n. x ∷ drop n (y ∷ xs)) (sym e)

-- the first ones with the next one
one_more : (xs : List WrittenPage) (i : ℕ) (x : WrittenPage) → slice_get xs i ≡ Some x → take i xs ++ x ∷ [] ≡ take (i + 1) xs
one_more [] i x there = absurd (cc there)
one_more (y ∷ xs) zero x there = let e : y ≡ x = cc there in ap (λ z. z ∷ []) (sym e)
one_more (y ∷ xs) (suc i) x there = let e : suc i + 1 ≡ suc (i + 1) = omega arith in ap (λ zs. y ∷ zs) (one_more xs i x there) ∙ ap (λ n. take n (y ∷ xs)) (sym e)

-- what they are in all
in_all : (w : WrittenPage → ℕ) (xs : List WrittenPage) (i : ℕ) (x : WrittenPage) → slice_get xs i ≡ Some x → tally w (take i xs) + w x ≤ tally w xs
in_all w [] i x there = absurd (cc there)
in_all w (y ∷ xs) zero x there = let e : w y ≡ w x = ap w (cc there) in omega (arith, e)
in_all w (y ∷ xs) (suc i) x there = let rest = in_all w xs i x there in omega (arith, rest)

only : (s : Space) (i : ℕ) (x : WrittenPage) → IsAtHand (page_at s.tables i x.number) → AreAtHand s i (x ∷ [])
only s i x hand zero y there = let e : x ≡ y = cc there in subst (λ (z : WrittenPage). IsAtHand (page_at s.tables i z.number)) e hand
only s i x hand (suc k) y there = absurd (cc there)

pub loop-page-preserved : goal.loop-page-preserved
loop-page-preserved c =
    let s = c.args.memory.now in
    let i = c.args.place in
    let m = c.loop-page.memory in
    let had = c.loop-page.invariant in
    let pages = c.args.pages.now in
    let k = c.loop-page.page-index in
    let x : WrittenPage = get_or pages k (record { number = 0; bytes = [] }) in
    let there : slice_get pages k ≡ Some x = slice_get-get_or pages k (record { number = 0; bytes = [] }) c.loop-page-test.true in
    let hand = c.requires.hand k x there in
    let long = c.requires.whole k x there in
    let sum = in_all (λ (z : WrittenPage). at lacks_frame (page_at s.tables i z.number)) pages k x there in
    let one = lacking_less s m i (x ∷ []) had.0.alone (only s i x hand) in
    let ready = page_ready m i x c.invariant.ensures.sound long (had.0.at_hand x.number hand) (omega (arith, sum, one, had.0.free, c.requires.frames)) in
    let s2 = c.store.new.self in
    let stores = subst (λ n. Stores (Ready m i) (view m i) (4096 * n) x.bytes c.store.result (view s2 i)) c.from.ensures c.store.ensures.stores in
    let leaves = subst (λ n. LeavesStore m i (4096 * n) x.bytes c.store.result s2) c.from.ensures c.store.ensures.leaves in
    let done = is_stored m i (4096 * x.number) x.bytes c.store.result s2 c.invariant.ensures.sound ready.0 ready.1 stores leaves in
    let step = page_step m i x c.store.new.self c.invariant.ensures.sound long done in
    let all = laid_on s i 0 [] [] [] (view m i) (written (view m i) (4096 * x.number) x.bytes) (take k pages) (x ∷ []) m c.store.new.self had.0 step (λ p is. inl is) (only s i x hand) in (
      subst (λ xs. HasLaid s i 0 [] (view c.store.new.self i) xs c.store.new.self) (one_more pages k x there) (subst (λ b. HasLaid s i 0 [] b (take k pages ++ x ∷ []) c.store.new.self) (sym step.sees) all),
      ap (λ b. laid_over b (drop (k + 1) pages)) step.sees ∙ sym (ap (laid_over (view m i)) (next pages k x there)) ∙ had.1,
      refl,
      refl,
    )
