-- A page that is unshared.
use Rattle.wh_space_model.specs.{zero_page, IsTaken, Pool, one_if, tally, ticket_of, Pins, Slots, Space, frame_bytes, sharers, GetsFrame, LeavesSharers, TakesFrame, fewer_sharers, standing_alone, with_fewer, copies, may_take, IsSound, at, owns, page_at, put, resident, shares, untouched}
use Rattle.wh_pages.specs.Table.{IsFrameIfTouched, own_frame_of}
use Rattle.wh_space.proofs.Marking.{own_touched}
use Rattle.std.proofs.Common.{length-set, ◌≡◌, ℕ, ◌+◌, ◌<◌, ◌≤◌, inl, inr, List, [], ◌∷◌, Option, Some, None, IfSome, length, get_or, slice_get, slice_set, zero, suc, true, refl, sym, ◌∙◌, ap, subst, arith}
use Rattle.std.proofs.lemmas.Bool.Decides.{nat_tests}
use Rattle.wh_space_model.specs.declared.states.Mark.{Mark}
use Rattle.wh_space_model.specs.declared.states.Mark.TheVariants.{Plain}
use Rattle.wh_space_model.specs.declared.states.Page.{Page}
use Rattle.wh_space_model.specs.declared.states.Page.TheVariants.{Untouched, Private, Shared, Leaving, LeavingShared, Coming, Swapped}
use Rattle.wh_space_model.specs.Breaks.{Breaks}
use Rattle.wh_space_model.proofs.Counting.{frames_one_page, shared_frame, single}
use Rattle.wh_space_model.proofs.Filled.{breaks_soundly}
use Rattle.wh_space_model.proofs.Putting.{get_pages, is_page, put_this}
use Rattle.wh_space_model.proofs.Reading.{shared_taken}
use Rattle.wh_space.specs.declared.memory.Memory.TheInside.{Inside}
use Rattle.wh_space.specs.UnchangedTables.{fixed_in}
use Rattle.wh_space.specs.Parts.{IsWell, space_of}
use Rattle.wh_space.specs.Steps.{CanBreak, Owns}
use Rattle.wh_space.specs.Pinning.{FrameGoes, pins_of}
use Rattle.wh_space.specs.Slotting.{leaver_of, voids_leaver}
use Rattle.wh_space.proofs.Earmarked.{goes_frames, takes_frame}
use Rattle.wh_space.proofs.Voids.{void_tickets, voided_is}
use Rattle.wh_space.proofs.Wellness.{well_with}

-- ---- what a page is that owns a frame, or shares it

one_is : (f g : ℕ) → one_if f g ≡ 1 → f ≡ g
one_is f g one = grind (arith, nat_tests)

pub page_there : (w : Page → ℕ) (o : Option Page) → at w o ≡ 1 → (x : Page) × (o ≡ Some x) × (w x ≡ 1)
page_there w None one = absurd (omega arith)
page_there w (Some x) one = (x, refl, one)

record HasFrame (x : Page) (o : Option ℕ) : Type 0 where
  pub touched : untouched x ≡ 0
  pub hand : resident x ≡ 1
  pub shared : shared_frame x ≡ o

owned : (x : Page) (f : ℕ) → owns f x ≡ 1 → HasFrame x None
unfolding shared_frame
owned Untouched f one = absurd (omega arith)
owned (Private g) f one = record { touched = refl; hand = refl; shared = refl }
owned (Shared g) f one = absurd (omega arith)
owned (Leaving g) f one = record { touched = refl; hand = refl; shared = refl }
owned (LeavingShared g) f one = absurd (omega arith)
owned (Coming k) f one = absurd (omega arith)
owned (Swapped k) f one = absurd (omega arith)

shared : (x : Page) (f : ℕ) → shares f x ≡ 1 → HasFrame x (Some f)
unfolding shared_frame
shared Untouched f one = absurd (omega arith)
shared (Private g) f one = absurd (omega arith)
shared (Shared g) f one = record { touched = refl; hand = refl; shared = ap Some (sym (one_is f g one)) }
shared (Leaving g) f one = absurd (omega arith)
shared (LeavingShared g) f one = record { touched = refl; hand = refl; shared = ap Some (sym (one_is f g one)) }
shared (Coming k) f one = absurd (omega arith)
shared (Swapped k) f one = absurd (omega arith)

-- ---- when it can be unshared

single_none : (s : Space) (x : Page) → HasFrame x None → single s (shared_frame x) ≡ 0
unfolding single
single_none s x has = rw has.shared refl

single_last : (s : Space) (x : Page) (f : ℕ) → HasFrame x (Some f) → sharers s f ≡ 1 → single s (shared_frame x) ≡ 0
unfolding single
single_last s x f has last = rw (has.shared, last) refl

one_copy : (n : ℕ) → 2 ≤ n → copies 1 n ≡ 1
one_copy n some = grind (arith, nat_tests)

single_more : (s : Space) (x : Page) (f : ℕ) → HasFrame x (Some f) → 2 ≤ sharers s f → single s (shared_frame x) ≡ 1
unfolding single
single_more s x f has some = rw has.shared (one_copy (sharers s f) some)

can : (s : Space) (i p : ℕ) (x : Page) → IsSound s → page_at s.tables i p ≡ Some x → untouched x + resident x ≡ 1 → untouched x + single s (shared_frame x) ≤ may_take s i → CanBreak s i p
can s i p x sound there hand enough = (rw there hand, rw (frames_one_page s i p x sound.frames there) enough)

pub can_keep : (s : Space) (i p f : ℕ) (x : Page) → IsSound s → page_at s.tables i p ≡ Some x → owns f x ≡ 1 → CanBreak s i p
can_keep s i p f x sound there one = let has = owned x f one in let t = has.touched in let h = has.hand in let z = single_none s x has in can s i p x sound there (omega arith) (omega arith)

untouched_wants : (s : Space) → single s (shared_frame Untouched) ≡ 0
unfolding single shared_frame
untouched_wants s = refl

pub can_take : (s : Space) (i p : ℕ) → IsSound s → page_at s.tables i p ≡ Some Untouched → 1 ≤ may_take s i → CanBreak s i p
can_take s i p sound there some = let z = untouched_wants s in can s i p Untouched sound there refl (omega arith)

pub can_keep_last : (s : Space) (i p f : ℕ) (x : Page) → IsSound s → page_at s.tables i p ≡ Some x → shares f x ≡ 1 → sharers s f ≡ 1 → CanBreak s i p
can_keep_last s i p f x sound there one last = let has = shared x f one in let t = has.touched in let h = has.hand in let z = single_last s x f has last in can s i p x sound there (omega arith) (omega arith)

pub can_copy : (s : Space) (i p f : ℕ) (x : Page) → IsSound s → page_at s.tables i p ≡ Some x → shares f x ≡ 1 → 2 ≤ sharers s f → 1 ≤ may_take s i → CanBreak s i p
can_copy s i p f x sound there one more some = let has = shared x f one in let t = has.touched in let h = has.hand in let z = single_more s x f has more in can s i p x sound there (omega arith) (omega arith)

pub cannot_copy : (s : Space) (i p f : ℕ) (x : Page) → IsSound s → page_at s.tables i p ≡ Some x → shares f x ≡ 1 → 2 ≤ sharers s f → may_take s i ≡ 0 → ¬ CanBreak s i p
cannot_copy s i p f x sound there one more none can =
    let has = shared x f one in let z = single_more s x f has more in let k = can.1 in let wants = frames_one_page s i p x sound.frames there in omega arith

-- ---- the frame that it gets

pub keeps_own : (s : Space) (i f : ℕ) (x : Page) → owns f x ≡ 1 → GetsFrame s i x f s
keeps_own s i f Untouched one = absurd (omega arith)
keeps_own s i f (Private g) one = (one_is f g one, refl)
keeps_own s i f (Shared g) one = absurd (omega arith)
keeps_own s i f (Leaving g) one = (one_is f g one, refl)
keeps_own s i f (LeavingShared g) one = absurd (omega arith)
keeps_own s i f (Coming k) one = absurd (omega arith)
keeps_own s i f (Swapped k) one = absurd (omega arith)

pub leaves_shared : (s : Space) (i f g : ℕ) (x : Page) (mid : Space) → shares f x ≡ 1 → LeavesSharers s i f g mid → GetsFrame s i x g mid
leaves_shared s i f g Untouched mid one leaves = absurd (omega arith)
leaves_shared s i f g (Private h) mid one leaves = absurd (omega arith)
leaves_shared s i f g (Shared h) mid one leaves = subst (λ z. LeavesSharers s i z g mid) (one_is f h one) leaves
leaves_shared s i f g (Leaving h) mid one leaves = absurd (omega arith)
leaves_shared s i f g (LeavingShared h) mid one leaves = subst (λ z. LeavesSharers s i z g mid) (one_is f h one) leaves
leaves_shared s i f g (Coming k) mid one leaves = absurd (omega arith)
leaves_shared s i f g (Swapped k) mid one leaves = absurd (omega arith)

-- ---- what the memory is then

-- the page was unshared, and the memory is well
pub record IsOwned (a b : Inside) (i p g : ℕ) : Type 0 where
  pub well : IsWell b
  pub breaks : Breaks (space_of a) i p (space_of b)
  pub page : page_at (space_of b).tables i p ≡ Some (Private g)

-- there are as many frames then
takes_long : (s : Space) (i g : ℕ) (bytes : List ℕ) (s2 : Space) → TakesFrame s i g bytes s2 → length s2.pool.frames ≡ length s.pool.frames
takes_long s i g bytes s2 (inl (rest, of, is)) = ap (λ (z : Space). length z.pool.frames) is ∙ length-set s.pool.frames g bytes
takes_long s i g bytes s2 (inr (rest, of, is)) = ap (λ (z : Space). length z.pool.frames) is ∙ length-set s.pool.frames g bytes

leaves_long : (s : Space) (i f g : ℕ) (s2 : Space) → LeavesSharers s i f g s2 → length s2.pool.frames ≡ length s.pool.frames
leaves_long s i f g s2 (inl (one, same, is)) = ap (λ (z : Space). length z.pool.frames) is
leaves_long s i f g s2 (inr (more, takes)) = takes_long (with_fewer s f) i g (frame_bytes s f) s2 takes

gets_long : (s : Space) (i : ℕ) (x : Page) (g : ℕ) (s2 : Space) → GetsFrame s i x g s2 → length s2.pool.frames ≡ length s.pool.frames
gets_long s i Untouched g s2 gets = takes_long s i g zero_page s2 gets
gets_long s i (Private f) g s2 (same, is) = ap (λ (z : Space). length z.pool.frames) is
gets_long s i (Leaving f) g s2 (same, is) = ap (λ (z : Space). length z.pool.frames) is
gets_long s i (Shared f) g s2 gets = leaves_long s i f g s2 gets
gets_long s i (LeavingShared f) g s2 gets = leaves_long s i f g s2 gets
gets_long s i (Coming k) g s2 gets = absurd gets
gets_long s i (Swapped k) g s2 gets = absurd gets

pub owned_by : (a b : Inside) (i p g : ℕ) (x y : Page) → IsWell a → b.occupant_entries ≡ a.occupant_entries → b.slots ≡ voids_leaver (leaver_of (get_or a.occupant_entries.items i None)) y a.slots → b.tax ≡ a.tax
    → b.tables.pages ≡ put a.tables.pages i p (Private g) → b.tables.marks ≡ put a.tables.marks i p true
    → fixed_in b.tables ≡ fixed_in a.tables → page_at a.tables.pages i p ≡ Some x → page_at a.tables.pages i p ≡ Some y
    → GetsFrame (space_of a) i x g (record (space_of a) { pool = b.pool; marks = b.content; pins = pins_of b.pins }) → IsOwned a b i p g
owned_by a b i p g x y was occupant_entries slots tax pages marks limits there also gets =
    let s : Space = space_of a in
    let mid : Space = record s { pool = b.pool; marks = b.content; pins = pins_of b.pins } in
    let void = slots ∙ voided_is a i p y was.sound.slots also in
    let after : space_of b ≡ standing_alone mid i p g = rw (pages, marks, occupant_entries, void, tax) refl in
    let breaks : Breaks s i p (space_of b) = record { page = x; was = there; frame = g; mid = mid; gets = gets; after = after } in
    let tickets : (j : ℕ) → tally (ticket_of j) b.slots.uses ≡ tally (ticket_of j) a.slots.uses = λ j. ap (λ (z : Slots). tally (ticket_of j) z.uses) void ∙ void_tickets j i p a.slots.uses in
    record {
      well = well_with a b was occupant_entries limits (gets_long s i x g mid gets) tickets (breaks_soundly s i p (space_of b) was.sound breaks).0;
      breaks = breaks;
      page = ap (λ (t : List (List Page)). page_at t i p) pages ∙ put_this a.tables.pages i p x (Private g) there;
    }

-- ---- a page that was alone and touched already

pub put_found : {X : Type 0} (xss : List (List X)) (i p : ℕ) (x : X) → page_at xss i p ≡ Some x → put xss i p x ≡ xss
put_found [] i p x there = refl
put_found (xs ∷ xss) zero p x there = ap (λ z. z ∷ xss) (same xs p x there) where
  same : {X : Type 0} (xs : List X) (p : ℕ) (x : X) → slice_get xs p ≡ Some x → slice_set xs p x ≡ xs
  same [] p x there = refl
  same (y ∷ xs) zero x there = let e : Some y ≡ Some x = there in cc
  same (y ∷ xs) (suc p) x there = ap (λ z. y ∷ z) (same xs p x there)
put_found (xs ∷ xss) (suc i) p x there = ap (λ z. xs ∷ z) (put_found xss i p x there)

one_own : (g : ℕ) → owns g (Private g) ≡ 1
one_own g = grind (arith, nat_tests)

pub own_already : (a : Inside) (i p : ℕ) (found : Option ℕ) → IsWell a → IsFrameIfTouched own_frame_of (page_at a.tables.pages i p) (page_at a.tables.marks i p) found
    → IfSome found (λ frame. Owns (space_of a) i p (Some frame) (space_of a))
own_already a i p None was is = tt
own_already a i p (Some g) was is =
    let s : Space = space_of a in
    let t = own_touched (page_at a.tables.pages i p) (page_at a.tables.marks i p) g is in
    let gets : GetsFrame s i (Private g) g s = (refl, refl) in
    let o = owned_by a a i p g (Private g) (Private g) was refl refl refl (sym (put_found a.tables.pages i p (Private g) t.0)) (sym (put_found a.tables.marks i p true t.1)) refl t.0 t.0 gets in
    (can_keep s i p g (Private g) was.sound t.0 (one_own g), o.breaks, o.page)

-- ---- a page that shares a frame

pub record IsSharer (s : Space) (i p f : ℕ) : Type 0 where
  pub page : Page
  pub there : page_at s.tables i p ≡ Some page
  pub one : shares f page ≡ 1
  pub some : 1 ≤ sharers s f
  pub taken : IsTaken s.pool f
  pub entry : f < length s.marks
  pub number : p < length (get_or s.tables i [])

pub is_sharer : (s : Space) (i p f : ℕ) → IsSound s → at (shares f) (page_at s.tables i p) ≡ 1 → IsSharer s i p f
is_sharer s i p f sound shared =
    let x = page_there (shares f) (page_at s.tables i p) shared in
    let some = get_pages (shares f) s.tables i p x.0 x.1 in
    let one = x.2 in
    let taken = shared_taken s f sound.frames (omega arith) in
    record {
      page = x.0;
      there = x.1;
      one = one;
      some = omega arith;
      taken = taken;
      entry = omega (arith, sound.frames.marks, taken.0);
      number = (is_page s.tables i p x.0 x.1).1;
    }

pub last_leaves : (s : Space) (i f : ℕ) (x : Page) (marks : List Mark) → shares f x ≡ 1 → sharers s f ≡ 1 → marks ≡ slice_set s.marks f (fewer_sharers 1 (get_or s.marks f Plain))
    → GetsFrame s i x f (record s { marks = marks })
last_leaves s i f x marks one last now = leaves_shared s i f f x (record s { marks = marks }) one (inl (last, refl, ap (λ (m : List Mark). record s { marks = m }) now))

pub copy_leaves : (s : Space) (i f g : ℕ) (x : Page) (marks : List Mark) (taken pool : Pool) (pins : Option Pins) → shares f x ≡ 1 → 2 ≤ sharers s f → marks ≡ slice_set s.marks f (fewer_sharers 1 (get_or s.marks f Plain))
    → FrameGoes i g s.pool s.pins taken pins → pool ≡ record taken { frames = slice_set taken.frames g (get_or taken.frames f []) } → GetsFrame s i x g (record s { pool = pool; marks = marks; pins = pins })
copy_leaves s i f g x marks taken pool pins one more now takes is =
    let left : List Mark = slice_set s.marks f (fewer_sharers 1 (get_or s.marks f Plain)) in
    let frames = goes_frames i g s.pool s.pins taken pins takes in
    let same : pool ≡ record taken { frames = slice_set taken.frames g (frame_bytes s f) } = is ∙ ap (λ (z : List (List ℕ)). record taken { frames = slice_set taken.frames g (get_or z f []) }) frames in
    leaves_shared s i f g x (record s { pool = pool; marks = marks; pins = pins }) one
    (inr (more, subst (λ (m : List Mark). TakesFrame (with_fewer s f) i g (frame_bytes s f) (record s { pool = pool; marks = m; pins = pins })) (sym now) (takes_frame s i g (frame_bytes s f) left taken pool pins takes same)))
