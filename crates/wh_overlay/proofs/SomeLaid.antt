-- Where what is written beside a memory can be written back, there is a memory in which it is, and there is ready what was over it.
use Rattle.std.proofs.Common.{◌≡◌, ◌∙◌, inl, inr, ℕ, ◌+◌, ◌*◌, ◌/◌, ◌%◌, ◌<◌, ◌⊎◌, ◌≤◌, Bool, true, false, cond, List, [], ◌∷◌, ◌++◌, length, get_or, replicate, slice_set, zero, suc, refl, sym, ap, subst, arith}
use Rattle.std.proofs.lemmas.Bool.{cases_lt}
use Rattle.wh_model.specs.declared.memory.Got.{Got}
use Rattle.wh_model.specs.declared.memory.Got.TheVariants.{Value, Trap, NotReady}
use Rattle.wh_model.specs.declared.memory.Need.{Need}
use Rattle.wh_model.specs.declared.memory.Grown.TheVariants.{Done}
use Rattle.wh_model.specs.Execution.{written, Loads, reading}
use Rattle.wh_space_model.specs.declared.states.Page.TheVariants.{Untouched}
use Rattle.wh_space_model.specs.{Space, view, IsAtHand, pages_of_need, Touches, touching, IsSound, at, page_at}
use Rattle.wh_space_model.specs.Ready.{Ready}
use Rattle.wh_space_model.proofs.Deciding.{no_bytes_are_ready}
use Rattle.wh_space_model.proofs.Enlarged.{grows_by_zeros, grows_soundly}
use Rattle.wh_space_model.proofs.Reading.{on_one_page, view_length}
use Rattle.wh_space_model.proofs.Filling.{at_hand, some_store}
use Rattle.wh_space_model.proofs.Putting.{is_page}
use Rattle.wh_space.specs.Steps.{CanBreak, CanStep, LeavesLoad, page_limit}
use Rattle.wh_space.proofs.Blocks.{can_break}
use Rattle.wh_space.proofs.Loading.{one_hand}
use Rattle.wh_space.proofs.Storing.{can_step_one}
use Rattle.wh_overlay.specs.declared.overlay_pages.WrittenPage.{WrittenPage}
use Rattle.wh_overlay.specs.LaidPages.{AreWhole, IsAmong, IsNoted, OverlayPagesState, grown_by, laid_over}
use Rattle.wh_overlay.specs.LaidBack.{HasLaid, IsLaid}
use Rattle.wh_overlay.specs.Over.{AreAtHand, CanRead, CanStepOver, CanWrite, IsOnItsOwn, IsOver, IsThereToRead, IsWholeOver, frames_lacking, lacks_frame}
use Rattle.wh_overlay.proofs.Grown.{come_behind, lives}
use Rattle.wh_overlay.proofs.LaidSteps.{can_be_written, growth_step, lacking_less, lacks_most, laid_on, no_growth, no_step, page_ready, page_step, touch_step}

-- ---- a step on one page

step_ready : (s : Space) (i : ℕ) (need : Need) → 1 ≤ need.length → need.at % 4096 + need.length ≤ 4096 → CanStep s i need.writes ((need.at / 4096) ∷ []) → Ready s i need
step_ready s i need some within can = subst (CanStep s i need.writes) (sym (on_one_page need.at need.length some within)) can

-- what is there is at hand once it has grown
pub there_then : (s : Space) (i : ℕ) (u : OverlayPagesState) (p : ℕ) (m : Space) → ((q : ℕ) → IsAtHand (page_at s.tables i q) → IsAtHand (page_at m.tables i q))
    → ((q : ℕ) → length (get_or s.tables i []) ≤ q → q < length (get_or s.tables i []) + 16 * u.grown → IsAtHand (page_at m.tables i q)) → IsThereToRead s i u p → IsAtHand (page_at m.tables i p)
there_then s i u p m stay come (inl hand) = stay p hand
there_then s i u p m stay come (inr (least, less)) = come p least less

-- what is ready over a memory is ready once it is written back, where the frames that are lent are free
pub laid_ready : (s : Space) (i : ℕ) (u : OverlayPagesState) (s2 : Space) (need : Need) → IsSound s → IsOver s i u → u.lent ≤ length s.pool.free → IsLaid s i u s2 → CanStepOver s i u need → Ready s2 i need
laid_ready s i u s2 need sound over room laid (inl none) = no_bytes_are_ready s2 i need none
laid_ready s i u s2 need sound over room laid (inr (within, can)) = elim (cases_lt 0 need.length) [
  | inl some ↦ step_ready s2 i need (omega (arith, some)) within (by need.writes can)
  | inr none ↦ no_bytes_are_ready s2 i need (omega (arith, none))
]
  where
    p : ℕ
    p = need.at / 4096

    among : IsAmong u.pages p → IsOnItsOwn s2 i p
    among (k, (x, there, same)) = subst (IsOnItsOwn s2 i) same (laid.own k x there).0

    breaks : IsOnItsOwn s2 i p → CanBreak s2 i p
    breaks own = can_break s2 i p own.0 (laid.keeps.sound sound) own.1

    can_be : CanWrite s i u p → CanBreak s2 i p
    can_be (inl here) = breaks (among here)
    can_be (inr (inl own, less, room)) = breaks (laid.alone p own)
    can_be (inr (inr (hand, left), less, some)) =
        let most = lacks_most (page_at s2.tables i p) in
        can_be_written s2 i p (laid.keeps.sound sound) (laid.at_hand p hand) (omega (arith, laid.free, over.frames, left, room, most))

    there_at_hand : CanRead s i u p → IsAtHand (page_at s2.tables i p)
    there_at_hand (inl here) = let own = among here in subst IsAtHand (sym own.1) refl
    there_at_hand (inr (less, there)) = there_then s i u p s2 laid.at_hand laid.come there

    by : (writes : Bool) → cond writes (CanWrite s i u p) (CanRead s i u p) → CanStep s2 i writes (p ∷ [])
    by true it = can_step_one s2 i p (can_be it)
    by false it = (one_hand s2 i p (there_at_hand it), omega arith)

-- ---- growth

grown_laid : (s : Space) (i n : ℕ) → IsSound s → (1 ≤ n → length (view s i) + n * 65536 ≤ page_limit s i * 65536) → (m : Space) × HasLaid s i n [] (grown_by (view s i) n) [] m
grown_laid s i zero sound limited = (s, no_growth s i)
grown_laid s i (suc k) sound limited =
    let n = suc k in
    let within = limited (omega arith) in
    let it = lives s.occupants i (omega (arith, within)) in
    let m : Space = record s {
      tables = slice_set s.tables i (get_or s.tables i [] ++ replicate (16 * n) Untouched);
      touched = slice_set s.touched i (get_or s.touched i [] ++ replicate (16 * n) false);
    } in
    let long = view_length s i sound in
    let fits : length (get_or s.tables i []) + 16 * n ≤ it.occupant.max = omega (arith, within, long, it.limit) in
    let sound2 : IsSound m = grows_soundly s i n it.occupant m sound it.there it.live fits refl in
    let many : 65536 * n ≡ n * 65536 = omega arith in
    let sees : view m i ≡ grown_by (view s i) n = grows_by_zeros s i n it.occupant m sound it.there refl ∙ ap (λ z. view s i ++ replicate z 0) many in
    (m, growth_step s m i n (Done 0) sound2 refl sees (λ p least less. come_behind s m i n 0 p refl sound it.there least less))

-- ---- pages

page_laid : (s : Space) (i : ℕ) (x : WrittenPage) → IsSound s → length x.bytes ≡ 4096 → IsAtHand (page_at s.tables i x.number) → at lacks_frame (page_at s.tables i x.number) ≤ length s.pool.free
    → (m : Space) × HasLaid s i 0 [] (written (view s i) (4096 * x.number) x.bytes) (x ∷ []) m
page_laid s i x sound long hand some =
    let ready = page_ready s i x sound long hand some in
    let few : length x.bytes ≤ 4096 = omega (arith, long) in
    let st = some_store s i (4096 * x.number) x.bytes sound ready.0 ready.1 few in
    (st.0, page_step s i x st.0 sound long st.1)

each_laid : (s : Space) (i : ℕ) (xs : List WrittenPage) → IsSound s → AreAtHand s i xs → AreWhole xs → frames_lacking s i xs ≤ length s.pool.free → (m : Space) × HasLaid s i 0 [] (laid_over (view s i) xs) xs m
each_laid s i [] sound hand whole some = (s, no_step s i)
each_laid s i (x ∷ xs) sound hand whole some =
    let one = page_laid s i x sound (whole 0 x refl) (hand 0 x refl) (omega (arith, some)) in
    let m = one.0 in
    let h = one.1 in
    let others : AreAtHand s i xs = λ k y there. hand (suc k) y there in
    let then : AreAtHand m i xs = λ k y there. h.at_hand y.number (others k y there) in
    let less = lacking_less s m i xs h.alone others in
    let rest = each_laid m i xs (h.keeps.sound sound) then (λ k y there. whole (suc k) y there) (omega (arith, some, less, h.free)) in
    let all = laid_on s i 0 [] [] [] (written (view s i) (4096 * x.number) x.bytes) (laid_over (view m i) xs) (x ∷ []) xs m rest.0 h rest.1 (λ p is. inl is) others in
    (rest.0, subst (λ b. HasLaid s i 0 [] b (x ∷ xs) rest.0) (ap (λ b. laid_over b xs) h.sees) all)

-- pages are read
reads_laid : (s : Space) (i : ℕ) (ps : List ℕ) → IsSound s → ((p : ℕ) → IsNoted ps p → IsAtHand (page_at s.tables i p)) → (m : Space) × HasLaid s i 0 ps (view s i) [] m
reads_laid s i [] sound hand = (s, no_step s i)
reads_laid s i (p ∷ ps) sound hand =
    let m : Space = record s { touched = touching s.touched i (pages_of_need (reading (4096 * p) 1)) } in
    let h = touch_step s i p m sound (hand p (0, refl)) refl in
    let rest = reads_laid m i ps (h.keeps.sound sound) (λ q is. h.at_hand q (hand q (suc is.0, is.1))) in
    let all = laid_on s i 0 (p ∷ []) ps (p ∷ ps) (view s i) (view m i) [] [] m rest.0 h rest.1 (either p ps) (λ k x there. absurd (cc there)) in
    (rest.0, subst (λ b. HasLaid s i 0 (p ∷ ps) b [] rest.0) h.sees all)
  where
    either : (p : ℕ) (ps : List ℕ) (q : ℕ) → IsNoted (p ∷ ps) q → IsNoted (p ∷ []) q ⊎ IsNoted ps q
    either p ps q (zero, there) = inl (0, there)
    either p ps q (suc k, there) = inr (k, there)

-- it has grown, and pages were read
pub grown_and_read : (s m1 m2 : Space) (i g : ℕ) (rs : List ℕ) → HasLaid s i g [] (grown_by (view s i) g) [] m1 → HasLaid m1 i 0 rs (view m1 i) [] m2 → HasLaid s i g rs (grown_by (view s i) g) [] m2
grown_and_read s m1 m2 i g rs first second =
    subst (λ b. HasLaid s i g rs b [] m2) first.sees (laid_on s i g [] rs rs (grown_by (view s i) g) (view m1 i) [] [] m1 m2 first second (λ p is. inr is) (λ k x there. absurd (cc there)))

-- and pages were written
pub then_written : (s m m2 : Space) (i g : ℕ) (rs : List ℕ) (xs : List WrittenPage) → HasLaid s i g rs (grown_by (view s i) g) [] m → HasLaid m i 0 [] (laid_over (view m i) xs) xs m2 → AreAtHand s i xs → HasLaid s i g rs (laid_over (grown_by (view s i) g) xs) xs m2
then_written s m m2 i g rs xs first second hand =
    let all = laid_on s i g rs [] rs (grown_by (view s i) g) (laid_over (view m i) xs) [] xs m m2 first second (λ p is. inl is) hand in
    subst (λ b. HasLaid s i g rs b xs m2) (ap (λ b. laid_over b xs) first.sees) all

-- there is such a memory
pub some_laid : (s : Space) (i : ℕ) (u : OverlayPagesState) → IsSound s → IsWholeOver s i u → u.lent ≤ length s.pool.free → (m : Space) × IsLaid s i u m
some_laid s i u sound (over, whole) room =
    let grown = grown_laid s i u.grown sound over.limited in
    let m1 = grown.0 in
    let g = grown.1 in
    let read = reads_laid m1 i u.reads (g.keeps.sound sound) (λ p is. there_then s i u p m1 g.at_hand g.come (over.there p is)) in
    let m = read.0 in
    let h = grown_and_read s m1 m i u.grown u.reads g read.1 in
    let hand = over.at_hand in
    let then : AreAtHand m i u.pages = λ k y there. h.at_hand y.number (hand k y there) in
    let less = lacking_less s m i u.pages h.alone hand in
    let rest = each_laid m i u.pages (h.keeps.sound sound) then whole (omega (arith, over.frames, over.lent, room, less, h.free)) in
    (rest.0, then_written s m rest.0 i u.grown u.reads u.pages h rest.1 hand)

-- where nothing was written and nothing read it is the one that there was
pub none_laid : (s : Space) (i : ℕ) (u : OverlayPagesState) → u.pages ≡ [] → u.reads ≡ [] → u.grown ≡ 0 → IsLaid s i u s
none_laid s i u none unread same =
    subst (λ rs. HasLaid s i u.grown rs (laid_over (grown_by (view s i) u.grown) u.pages) u.pages s) (sym unread)
    (subst (λ xs. HasLaid s i u.grown [] (laid_over (grown_by (view s i) u.grown) xs) xs s) (sym none) (subst (λ n. HasLaid s i n [] (grown_by (view s i) n) [] s) (sym same) (no_growth s i)))

-- a load of the first byte of a page that is at hand is done
pub is_loaded : (s : Space) (i p k : ℕ) (got : Got) (into into2 : List ℕ) (s2 : Space) → IsSound s → IsAtHand (page_at s.tables i p) → k ≡ 4096 * p → length into ≡ 1 → Loads (Ready s i) (view s i) k into got into2 → LeavesLoad s i k (length into) got s2 → Touches s i (4096 * p) 1 s2
is_loaded s i p k Value into into2 s2 sound hand at one loads leaves = subst (λ n. Touches s i n 1 s2) at (subst (λ n. Touches s i k n s2) one leaves)
is_loaded s i p k Trap into into2 s2 sound hand at one loads leaves = absurd (
    let on = at_hand (page_at s.tables i p) hand in
    omega (arith, view_length s i sound, loads.0, (is_page s.tables i p on.0 on.1).1, one, at))
is_loaded s i p k (NotReady need) into into2 s2 sound hand at one loads leaves =
    let number : k / 4096 ≡ p = omega (arith, at) in
    let start : k % 4096 ≡ 0 = omega (arith, at) in
    let can : CanStep s i false (p ∷ []) = (one_hand s i p hand, omega arith) in
    let can2 = subst (λ q. CanStep s i false (q ∷ [])) (sym number) can in
    let ready : Ready s i (reading k 1) = step_ready s i (reading k 1) (omega arith) (omega (arith, start)) can2 in
    absurd (loads.3 (subst (Ready s i) (sym loads.2) (subst (λ n. Ready s i (reading k n)) (sym one) ready)))
