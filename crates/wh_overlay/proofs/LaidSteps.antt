-- Steps by which what was written beside a memory is written back, and several one after the other.
use Rattle.std.proofs.Common.{◌≡◌, ◌≢◌, ◌∙◌, ◌⊎◌, inl, inr, ℕ, ◌+◌, ◌*◌, ◌/◌, ◌%◌, ◌<◌, ◌≤◌, Bool, true, false, List, [], ◌∷◌, ◌++◌, Option, None, Some, length, length-append, get_or, replicate, slice_get, zero, suc, refl, sym, ap, subst, arith, rules}
use Rattle.std.proofs.lemmas.Bool.{cases_eq}
use Rattle.std.proofs.lemmas.Bool.Decides.{nat_tests}
use Rattle.wh_model.specs.declared.memory.Got.{Got}
use Rattle.wh_model.specs.declared.memory.Got.TheVariants.{Value, Trap, NotReady}
use Rattle.wh_model.specs.declared.memory.Grown.{Grown}
use Rattle.wh_model.specs.declared.memory.Grown.TheVariants.{Done, Refused}
use Rattle.wh_model.specs.Execution.Memory.{writing}
use Rattle.wh_model.specs.Execution.{Stores, reading, written}
use Rattle.wh_space_model.specs.declared.states.Page.{Page}
use Rattle.wh_space_model.specs.declared.states.Page.TheVariants.{Untouched, Private, Shared, Leaving, LeavingShared, Coming, Swapped}
use Rattle.wh_space_model.specs.{zero_page, BreaksEach, GetsFrame, LeavesSharers, TakesFrame, with_fewer, IsTouched, Space, frame_bytes, sharers, view, IsAtHand, copies, pages_of_need, IsSound, at, joined, page_at, put, untouched, Overwrites, Touches, touching}
use Rattle.wh_space_model.specs.Breaks.{Breaks}
use Rattle.wh_space_model.specs.Ready.{Ready}
use Rattle.wh_space_model.proofs.Tally.{one_same, one_other, tally-append}
use Rattle.wh_space_model.proofs.Counting.{frames_one_page, shared_frame, single}
use Rattle.wh_space_model.proofs.Filled.{stores_are_right}
use Rattle.wh_space_model.proofs.Filling.{at_hand}
use Rattle.wh_space_model.proofs.Putting.{is_page, put_other, put_this}
use Rattle.wh_space_model.proofs.Quiet.{steps_quiet}
use Rattle.wh_space_model.proofs.Reading.{on_one_page, view_length}
use Rattle.wh_space.specs.Steps.{CanBreak, CanStep, LeavesGrowth, LeavesStore}
use Rattle.wh_space.specs.StepViews.{keeps_all, keeps_on}
use Rattle.wh_space.proofs.Keeping.{keeps_growth, keeps_load, keeps_store}
use Rattle.wh_space.proofs.Storing.{can_step_one}
use Rattle.wh_overlay.specs.declared.overlay_pages.WrittenPage.{WrittenPage}
use Rattle.wh_overlay.specs.LaidPages.{IsNoted, grown_by}
use Rattle.wh_overlay.specs.LaidBack.{HasLaid}
use Rattle.wh_overlay.specs.Over.{AreAtHand, IsOnItsOwn, frames_lacking, lacks_frame}
use Rattle.wh_overlay.proofs.Grown.{in_front, others_stay, same_before}
use Rattle.wh_overlay.proofs.Marks.{got_there}

-- ---- frames

takes_free : (s : Space) (i g : ℕ) (bytes : List ℕ) (s2 : Space) → TakesFrame s i g bytes s2 → length s.pool.free ≤ length s2.pool.free + 1
takes_free s i g bytes s2 (inl (rest, (before, behind, was, now), is)) =
    let e : length s2.pool.free ≡ length rest = ap (λ (z : Space). length z.pool.free) is in
    omega (arith, ap length was, ap length now, length-append before (g ∷ behind), length-append before behind, e)
takes_free s i g bytes s2 (inr (rest, of, is)) = let e : length s2.pool.free ≡ length s.pool.free = ap (λ (z : Space). length z.pool.free) is in omega (arith, e)

leaves_free : (s : Space) (i f g : ℕ) (s2 : Space) → LeavesSharers s i f g s2 → length s.pool.free ≤ length s2.pool.free + 1
leaves_free s i f g s2 (inl (one, same, is)) = let e : length s2.pool.free ≡ length s.pool.free = ap (λ (z : Space). length z.pool.free) is in omega (arith, e)
leaves_free s i f g s2 (inr (more, takes)) = takes_free (with_fewer s f) i g (frame_bytes s f) s2 takes

gets_free : (s : Space) (i : ℕ) (x : Page) (g : ℕ) (s2 : Space) → GetsFrame s i x g s2 → length s.pool.free ≤ length s2.pool.free + lacks_frame x
gets_free s i Untouched g s2 gets = takes_free s i g zero_page s2 gets
gets_free s i (Private f) g s2 (same, is) = let e : length s2.pool.free ≡ length s.pool.free = ap (λ (z : Space). length z.pool.free) is in omega (arith, e)
gets_free s i (Leaving f) g s2 (same, is) = let e : length s2.pool.free ≡ length s.pool.free = ap (λ (z : Space). length z.pool.free) is in omega (arith, e)
gets_free s i (Shared f) g s2 gets = leaves_free s i f g s2 gets
gets_free s i (LeavingShared f) g s2 gets = leaves_free s i f g s2 gets
gets_free s i (Coming k) g s2 none = absurd none
gets_free s i (Swapped k) g s2 none = absurd none

breaks_free : (s : Space) (i p : ℕ) (s2 : Space) → Breaks s i p s2 → length s.pool.free ≤ length s2.pool.free + at lacks_frame (page_at s.tables i p)
breaks_free s i p s2 b =
    let e : length s2.pool.free ≡ length b.mid.pool.free = ap (λ (z : Space). length z.pool.free) b.after in
    let w : at lacks_frame (page_at s.tables i p) ≡ lacks_frame b.page = ap (at lacks_frame) b.was in
    omega (arith, gets_free s i b.page b.frame b.mid b.gets, e, w)

-- bytes of one page are written
over_free : (s : Space) (i k p : ℕ) (given : List ℕ) (s2 : Space) → pages_of_need (writing k (length given)) ≡ p ∷ [] → Overwrites s i k given s2 → length s.pool.free ≤ length s2.pool.free + at lacks_frame (page_at s.tables i p)
over_free s i k p given s2 pages o =
    let each = subst (λ ps. BreaksEach s i ps o.mid) pages o.breaks in
    let e : length o.mid.pool.free ≡ length each.0.pool.free = ap (λ (z : Space). length z.pool.free) each.2 in
    let f : length s2.pool.free ≡ length o.mid.pool.free = ap (λ (z : Space). length z.pool.free) o.fills.after in
    omega (arith, breaks_free s i p each.0 each.1, e, f)

copies_one : (n : ℕ) → copies 1 n ≤ 1
copies_one n = grind (arith, nat_tests)

wants_at_most : (s : Space) (x : Page) → untouched x + single s (shared_frame x) ≤ lacks_frame x
unfolding single shared_frame
wants_at_most s Untouched = omega arith
wants_at_most s (Private f) = omega arith
wants_at_most s (Shared f) = let one = copies_one (sharers s f) in omega (arith, one)
wants_at_most s (Leaving f) = omega arith
wants_at_most s (LeavingShared f) = let one = copies_one (sharers s f) in omega (arith, one)
wants_at_most s (Coming k) = omega arith
wants_at_most s (Swapped k) = omega arith

-- a page that is at hand can be written where a frame is free for it
pub can_be_written : (s : Space) (i p : ℕ) → IsSound s → IsAtHand (page_at s.tables i p) → at lacks_frame (page_at s.tables i p) ≤ length s.pool.free → CanBreak s i p
can_be_written s i p sound hand some =
    let x = at_hand (page_at s.tables i p) hand in
    let w : at lacks_frame (page_at s.tables i p) ≡ lacks_frame x.0 = ap (at lacks_frame) x.1 in
    (hand, omega (arith, frames_one_page s i p x.0 sound.frames x.1, wants_at_most s x.0, w, some))

lacks_one : (x : Page) → lacks_frame x ≤ 1
lacks_one Untouched = omega arith
lacks_one (Private f) = omega arith
lacks_one (Shared f) = omega arith
lacks_one (Leaving f) = omega arith
lacks_one (LeavingShared f) = omega arith
lacks_one (Coming k) = omega arith
lacks_one (Swapped k) = omega arith

-- of a page at hand no more is lacking than of one that isn't alone
pub lacks_most : (o : Option Page) → at lacks_frame o ≤ 1
lacks_most None = omega arith
lacks_most (Some x) = lacks_one x

-- ---- nothing is done

pub no_step : (s : Space) (i : ℕ) → HasLaid s i 0 [] (view s i) [] s
no_step s i = record {
  sees = refl;
  keeps = keeps_all i s;
  read = λ p is. absurd (let none = is.1 in cc none);
  own = λ k x there. absurd (cc there);
  free = omega arith;
  at_hand = λ p hand. hand;
  come = λ p least less. absurd (omega (arith, least, less));
  alone = λ p is. is;
  touched = λ p is. is;
  others = λ j other. refl;
}

-- ---- pages are marked

some_at : {X : Type 0} (xs : List X) (p : ℕ) → p < length xs → (x : X) × (slice_get xs p ≡ Some x)
some_at [] p less = absurd (omega (arith, less))
some_at (x ∷ xs) zero less = (x, refl)
some_at (x ∷ xs) (suc p) less = some_at xs p (omega (arith, less))

put_true : (t : List (List Bool)) (i p q : ℕ) → page_at t i q ≡ Some true → page_at (put t i p true) i q ≡ Some true
put_true t i p q was = elim (cases_eq q p) [
  | inl same ↦ (let there : page_at t i p ≡ Some true = ap (page_at t i) (sym same) ∙ was in ap (page_at (put t i p true) i) same ∙ put_this t i p true true there)
  | inr other ↦ put_other t i p q true other ∙ was
]

-- on which page its first byte lies
first_byte : (p : ℕ) → pages_of_need (reading (4096 * p) 1) ≡ p ∷ []
first_byte p =
    let k = 4096 * p in
    let number : k / 4096 ≡ p = omega arith in
    let start : k % 4096 ≡ 0 = omega arith in
    on_one_page k 1 (omega arith) (omega (arith, start)) ∙ ap (λ z. z ∷ []) number

-- a page is read
pub touch_step : (s : Space) (i p : ℕ) (s2 : Space) → IsSound s → IsAtHand (page_at s.tables i p) → Touches s i (4096 * p) 1 s2 → HasLaid s i 0 (p ∷ []) (view s i) [] s2
touch_step s i p s2 sound hand is =
    let tables : s2.tables ≡ s.tables = ap (λ (z : Space). z.tables) is in
    let free : length s2.pool.free ≡ length s.pool.free = ap (λ (z : Space). length z.pool.free) is in
    let on = at_hand (page_at s.tables i p) hand in
    let less = (is_page s.tables i p on.0 on.1).1 in
    let mark = some_at (get_or s.touched i []) p (omega (arith, less, sound.occupants.marks i)) in
    let marked : s2.touched ≡ put s.touched i p true = ap (λ (z : Space). z.touched) is ∙ ap (touching s.touched i) (first_byte p) in
    let here : IsTouched s2 i p = ap (λ t. page_at t i p) marked ∙ put_this s.touched i p mark.0 true mark.1 in
    record {
      sees = ap (λ (b : List (List (List ℕ))). joined (get_or b i [])) ((steps_quiet s i).touches (4096 * p) 1 s2 is);
      keeps = keeps_load s i (4096 * p) 1 Value s2 is;
      read = λ q read. subst (IsTouched s2 i) (the_number p q read) here;
      own = λ j x there. absurd (cc there);
      free = omega (arith, free);
      at_hand = λ q hand. subst (λ t. IsAtHand (page_at t i q)) (sym tables) hand;
      come = λ q least less. absurd (omega (arith, least, less));
      alone = λ q own. (own.0, ap (λ t. page_at t i q) tables ∙ own.1);
      touched = λ q was. ap (λ t. page_at t i q) marked ∙ put_true s.touched i p q was;
      others = λ j other. ap (λ t. get_or t j []) tables;
    }
  where
    the_number : (p q : ℕ) → IsNoted (p ∷ []) q → p ≡ q
    the_number p q (zero, there) = cc there
    the_number p q (suc k, there) = absurd (cc there)

-- ---- it grows

marks_before : (s s2 : Space) (i n p : ℕ) (grown : Grown) → LeavesGrowth s i n grown s2 → IsTouched s i p → IsTouched s2 i p
marks_before s s2 i n p (Done pages) grew was =
    let row = get_or s.touched i [] in
    let more : List Bool = replicate (16 * n) false in
    let less = (is_page s.touched i p true was).0 in
    ap (λ (z : Space). page_at z.touched i p) grew ∙ ap (λ t. slice_get t p) (got_there s.touched i (row ++ more) [] less) ∙ in_front row more p true was
marks_before s s2 i n p Refused same was = ap (λ (z : Space). page_at z.touched i p) same ∙ was

same_free : (s s2 : Space) (i n : ℕ) (grown : Grown) → LeavesGrowth s i n grown s2 → length s2.pool.free ≡ length s.pool.free
same_free s s2 i n (Done pages) grew = ap (λ (z : Space). length z.pool.free) grew
same_free s s2 i n Refused same = ap (λ (z : Space). length z.pool.free) same

pub growth_step : (s s2 : Space) (i n : ℕ) (grown : Grown) → IsSound s2 → LeavesGrowth s i n grown s2 → view s2 i ≡ grown_by (view s i) n
    → ((p : ℕ) → length (get_or s.tables i []) ≤ p → p < length (get_or s.tables i []) + 16 * n → page_at s2.tables i p ≡ Some Untouched) → HasLaid s i n [] (grown_by (view s i) n) [] s2
growth_step s s2 i n grown sound leaves sees come =
    let free = same_free s s2 i n grown leaves in
    record {
      sees = sees;
      keeps = keeps_growth s i n grown s2 sound leaves;
      read = λ p is. absurd (let none = is.1 in cc none);
      own = λ k x there. absurd (cc there);
      free = omega (arith, free);
      at_hand = search (rules, at_hand, same_before);
      come = λ p least less. subst IsAtHand (sym (come p least less)) refl;
      alone = λ p own. (own.0, same_before s s2 i n grown p (Private own.0) leaves own.1);
      touched = λ p was. marks_before s s2 i n p grown leaves was;
      others = λ j other. others_stay s s2 i n j grown leaves other;
    }

-- by nothing
pub no_growth : (s : Space) (i : ℕ) → HasLaid s i 0 [] (grown_by (view s i) 0) [] s
no_growth s i = subst (λ b. HasLaid s i 0 [] b [] s) (no_more (view s i)) (no_step s i)
  where
    no_more : (xs : List ℕ) → xs ≡ grown_by xs 0
    no_more [] = refl
    no_more (x ∷ xs) = ap (λ z. x ∷ z) (no_more xs)

-- ---- a page is written

the_one : (x : WrittenPage) (k : ℕ) (y : WrittenPage) → slice_get (x ∷ []) k ≡ Some y → x ≡ y
the_one x zero y there = cc there
the_one x (suc k) y there = absurd (cc there)

-- on which page its bytes lie
pub its_page : (x : WrittenPage) → length x.bytes ≡ 4096 → pages_of_need (writing (4096 * x.number) (length x.bytes)) ≡ x.number ∷ []
its_page x long =
    let k = 4096 * x.number in
    let number : k / 4096 ≡ x.number = omega arith in
    let start : k % 4096 ≡ 0 = omega arith in
    on_one_page k (length x.bytes) (omega (arith, long)) (omega (arith, long, start)) ∙ ap (λ z. z ∷ []) number

pub page_step : (s : Space) (i : ℕ) (x : WrittenPage) (s2 : Space) → IsSound s → length x.bytes ≡ 4096 → Overwrites s i (4096 * x.number) x.bytes s2 → HasLaid s i 0 [] (written (view s i) (4096 * x.number) x.bytes) (x ∷ []) s2
page_step s i x s2 sound long o =
    let p = x.number in
    let k = 4096 * p in
    let pages = its_page x long in
    let right = stores_are_right s i k x.bytes s2 sound o in
    let own : IsOnItsOwn s2 i p = right.own p (rw pages (let e = one_same p p refl in omega (arith, e))) in
    let rest : (q : ℕ) → q ≢ p → page_at s2.tables i q ≡ page_at s.tables i q = λ q other. right.rest q (rw pages (let e = one_other q p other in omega (arith, e))) in
    let each = subst (λ ps. BreaksEach s i ps o.mid) pages o.breaks in
    let marked : s2.touched ≡ put s.touched i p true = right.touched ∙ ap (touching s.touched i) pages in
    let marks = sound.occupants.marks i in
    let mark = some_at (get_or s.touched i []) p (omega (arith, (is_page s.tables i p each.1.page each.1.was).1, marks)) in
    let touched : IsTouched s2 i p = ap (λ t. page_at t i p) marked ∙ put_this s.touched i p mark.0 true mark.1 in
    let free = over_free s i k p x.bytes s2 pages o in
    record {
      sees = right.sees;
      keeps = keeps_store s i k x.bytes Value s2 sound o;
      read = λ q is. absurd (let none = is.1 in cc none);
      own = λ j y there. subst (λ (z : WrittenPage). IsOnItsOwn s2 i z.number × IsTouched s2 i z.number) (the_one x j y there) (own, touched);
      free = omega (arith, free);
      at_hand = search (rules, cases_eq);
      come = λ q least less. absurd (omega (arith, least, less));
      alone = search (rules, cases_eq);
      touched = λ q is. ap (λ t. page_at t i q) marked ∙ put_true s.touched i p q is;
      others = right.other_tables;
    }

-- and that can be done
pub page_ready : (s : Space) (i : ℕ) (x : WrittenPage) → IsSound s → length x.bytes ≡ 4096 → IsAtHand (page_at s.tables i x.number) → at lacks_frame (page_at s.tables i x.number) ≤ length s.pool.free
    → Ready s i (writing (4096 * x.number) (length x.bytes)) × (4096 * x.number + length x.bytes ≤ 4096 * length (get_or s.tables i []))
page_ready s i x sound long hand some =
    let on = at_hand (page_at s.tables i x.number) hand in
    let can = can_step_one s i x.number (can_be_written s i x.number sound hand some) in
    (subst (CanStep s i true) (sym (its_page x long)) can, omega (arith, long, (is_page s.tables i x.number on.0 on.1).1))

-- a store that is ready is done
pub is_stored : (s : Space) (i k : ℕ) (given : List ℕ) (got : Got) (s2 : Space) → IsSound s → Ready s i (writing k (length given)) → k + length given ≤ 4096 * length (get_or s.tables i [])
    → Stores (Ready s i) (view s i) k given got (view s2 i) → LeavesStore s i k given got s2 → Overwrites s i k given s2
is_stored s i k given Value s2 sound ready fits stores leaves = leaves
is_stored s i k given Trap s2 sound ready fits stores leaves = absurd (let long = view_length s i sound in let past = stores.0 in omega (arith, long, past, fits))
is_stored s i k given (NotReady need) s2 sound ready fits stores leaves = absurd (stores.3 (subst (Ready s i) (sym stores.2) ready))

-- ---- one after the other

in_either : {X : Type 0} (xs ys : List X) (k : ℕ) (x : X) → slice_get (xs ++ ys) k ≡ Some x → (slice_get xs k ≡ Some x) ⊎ ((j : ℕ) × (slice_get ys j ≡ Some x))
in_either [] ys k x there = inr (k, there)
in_either (z ∷ xs) ys zero x there = inl there
in_either (z ∷ xs) ys (suc k) x there = in_either xs ys k x there

-- of pages that are at hand no more are lacking later
lacks_less : (s m : Space) (i p : ℕ) → ((q : ℕ) → IsOnItsOwn s i q → IsOnItsOwn m i q) → IsAtHand (page_at s.tables i p) → at lacks_frame (page_at m.tables i p) ≤ at lacks_frame (page_at s.tables i p)
lacks_less s m i p stays hand = let x = at_hand (page_at s.tables i p) hand in by x.0 x.1
  where
    most : (x : Page) → page_at s.tables i p ≡ Some x → lacks_frame x ≡ 1 → at lacks_frame (page_at m.tables i p) ≤ at lacks_frame (page_at s.tables i p)
    most x is one =
        let w : at lacks_frame (page_at s.tables i p) ≡ lacks_frame x = ap (at lacks_frame) is in
        omega (arith, w, one, lacks_most (page_at m.tables i p))

    by : (x : Page) → page_at s.tables i p ≡ Some x → at lacks_frame (page_at m.tables i p) ≤ at lacks_frame (page_at s.tables i p)
    by Untouched is = most Untouched is refl
    by (Private f) is = let own = stays p (f, is) in let w : at lacks_frame (page_at m.tables i p) ≡ 0 = ap (at lacks_frame) own.1 in omega (arith, w)
    by (Shared f) is = most (Shared f) is refl
    by (Leaving f) is = most (Leaving f) is refl
    by (LeavingShared f) is = most (LeavingShared f) is refl
    by (Coming k) is = most (Coming k) is refl
    by (Swapped k) is = most (Swapped k) is refl

pub lacking_less : (s m : Space) (i : ℕ) (ys : List WrittenPage) → ((q : ℕ) → IsOnItsOwn s i q → IsOnItsOwn m i q) → AreAtHand s i ys → frames_lacking m i ys ≤ frames_lacking s i ys
lacking_less s m i [] stays hand = omega arith
lacking_less s m i (y ∷ ys) stays hand =
    let rest = lacking_less s m i ys stays (λ k x there. hand (suc k) x there) in
    omega (arith, lacks_less s m i y.number stays (hand 0 y refl), rest)

pub laid_on : (s : Space) (i g : ℕ) (rs ts us : List ℕ) (b c : List ℕ) (xs ys : List WrittenPage) (m m2 : Space) → HasLaid s i g rs b xs m → HasLaid m i 0 ts c ys m2 → ((p : ℕ) → IsNoted us p → IsNoted rs p ⊎ IsNoted ts p) → AreAtHand s i ys → HasLaid s i g us c (xs ++ ys) m2
laid_on s i g rs ts us b c xs ys m m2 first second reads hand = record {
  sees = second.sees;
  keeps = keeps_on i i s m m2 refl first.keeps second.keeps;
  read = λ p is. elim (reads p is) [
    | inl before ↦ second.touched p (first.read p before)
    | inr now ↦ second.read p now
  ];
  own = λ k x there. elim (in_either xs ys k x there) [
    | inl before ↦ (let is = first.own k x before in (second.alone x.number is.0, second.touched x.number is.1))
    | inr now ↦ second.own now.0 x now.1
  ];
  free = search (rules, lacking_less, tally-append);
  at_hand = λ p is. second.at_hand p (first.at_hand p is);
  come = λ p least less. second.at_hand p (first.come p least less);
  alone = λ p is. second.alone p (first.alone p is);
  touched = λ p is. second.touched p (first.touched p is);
  others = λ j other. second.others j other ∙ first.others j other;
}
