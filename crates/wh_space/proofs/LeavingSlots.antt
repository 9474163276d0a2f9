-- Pages that go with their instance: what of the slots is left.
use Rattle.std.proofs.Common.{◌≡◌, ◌≢◌, ◌==◌, ◌⊎◌, inl, inr, ℕ, ◌+◌, ◌<◌, ◌≤◌, cond, nat_lt, List, [], ◌∷◌, Option, Some, None, length, get_or, slice_get, slice_set, refl, sym, ◌∙◌, ap, subst, arith, length-set, rules}
use Rattle.std.proofs.lemmas.Bool.Decides.{nat_tests}
use Rattle.wh_space_model.specs.{one_if, tally, ticket_of, Occupant, Slots, Space, occupant_at, released_use, IsUsed, LeavesBy, SlotsAreSound, comes_from, count, count_of, lies_in, page_at}
use Rattle.wh_space_model.specs.declared.states.Page.{Page}
use Rattle.wh_space_model.specs.declared.states.Page.TheVariants.{Untouched, Private, Shared, Leaving, LeavingShared, Coming, Swapped}
use Rattle.wh_space_model.specs.declared.states.Slot.{Slot}
use Rattle.wh_space_model.specs.declared.states.Slot.TheVariants.{Vacant, Taken, Evicting, EvictVoid, Fetching, FetchVoid}
use Rattle.wh_space_model.proofs.Tally.{one_other, one_same, tally-append}
use Rattle.wh_space_model.proofs.Exited.{pointwise}
use Rattle.wh_space_model.proofs.Putting.{cond_here, cond_other, get_or_is, get_pages, here_or, set_other, set_same, there_of}
use Rattle.wh_space_model.proofs.Rows.{rows_sum}
use Rattle.wh_space_model.proofs.Sums.{get_tally}
use Rattle.std.proofs.lemmas.List.{get_or-set_other}
use Rattle.wh_space.specs.Slotting.{CanLeaveSlot, CanLeaveSlots, slot_gone, slots_gone, void_use, voids_slot}
use Rattle.wh_space.proofs.LeavingPages.{AreWithin}

-- ---- the use of a slot when n pages have gone that lay in it, and that were coming from it

abbrev pub use_after : ℕ → ℕ → Slot → Slot
use_after lying coming Vacant = Vacant
use_after lying coming Taken = cond (nat_lt 0 lying) Vacant Taken
use_after lying coming (Evicting j p) = Evicting j p
use_after lying coming (EvictVoid j) = EvictVoid j
use_after lying coming (Fetching j p f) = cond (nat_lt 0 coming) (FetchVoid j f) (Fetching j p f)
use_after lying coming (FetchVoid j f) = FetchVoid j f

use_before : (x : Slot) → use_after 0 0 x ≡ x
use_before Vacant = refl
use_before Taken = refl
use_before (Evicting j p) = refl
use_before (EvictVoid j) = refl
use_before (Fetching j p f) = refl
use_before (FetchVoid j f) = refl

some_first : {X : Type 0} (n : ℕ) (a b : X) → 1 ≤ n → cond (nat_lt 0 n) a b ≡ a
some_first n a b some = grind (arith, nat_tests)

none_second : {X : Type 0} (n : ℕ) (a b : X) → n ≡ 0 → cond (nat_lt 0 n) a b ≡ b
none_second n a b none = grind (arith, nat_tests)

pub record AreLeft (s : Space) (gone : List Page) (z : Slots) : Type 0 where
  pub held : z.held ≡ s.slots.held
  pub many : length z.uses ≡ length s.slots.uses
  pub vacant : (k : ℕ) → tally (one_if k) z.vacant ≡ tally (one_if k) s.slots.vacant + tally (lies_in k) gone
  pub uses : (k : ℕ) (x : Slot) → slice_get s.slots.uses k ≡ Some x → slice_get z.uses k ≡ Some (use_after (tally (lies_in k) gone) (tally (comes_from k) gone) x)

none_gone : (s : Space) → AreLeft s [] s.slots
none_gone s = search rules

-- ---- what a slot is used for from which a page comes, or in which one lies

record Comes (s : Space) (k : ℕ) : Type 0 where
  pub place : ℕ
  pub page : ℕ
  pub frame : ℕ
  pub is : slice_get s.slots.uses k ≡ Some (Fetching place page frame)
  pub one : count (comes_from k) s.tables ≡ 1
  pub there : page_at s.tables place page ≡ Some (Coming k)

comes : (s : Space) (k : ℕ) → SlotsAreSound s → 1 ≤ count (comes_from k) s.tables → Comes s k
comes s k sound some = go (slice_get s.slots.uses k) refl (sound.used k) where
  go : (o : Option Slot) → slice_get s.slots.uses k ≡ o → IsUsed s k o → Comes s k
  go None e used = absurd (let z = used.1 in omega arith)
  go (Some Vacant) e used = absurd (let z = used.1 in omega arith)
  go (Some Taken) e used = absurd (let z = used.1 in omega arith)
  go (Some (Evicting j p)) e used = absurd (let z = used.1 in omega arith)
  go (Some (EvictVoid j)) e used = absurd (let z = used.1 in omega arith)
  go (Some (Fetching j p f)) e used = record { place = j; page = p; frame = f; is = e; one = used.1; there = used.3 }
  go (Some (FetchVoid j f)) e used = absurd (let z = used.1 in omega arith)

record Lies (s : Space) (k : ℕ) : Type 0 where
  pub is : slice_get s.slots.uses k ≡ Some Taken
  pub one : count (lies_in k) s.tables ≡ 1
  pub none : tally (one_if k) s.slots.vacant ≡ 0

lies : (s : Space) (k : ℕ) → SlotsAreSound s → 1 ≤ count (lies_in k) s.tables → Lies s k
lies s k sound some = go (slice_get s.slots.uses k) refl (sound.used k) where
  go : (o : Option Slot) → slice_get s.slots.uses k ≡ o → IsUsed s k o → Lies s k
  go None e used = absurd (let z = used.0 in omega arith)
  go (Some Vacant) e used = absurd (let z = used.0 in omega arith)
  go (Some Taken) e used = record { is = e; one = used.0; none = used.2 }
  go (Some (Evicting j p)) e used = absurd (let z = used.0 in omega arith)
  go (Some (EvictVoid j)) e used = absurd (let z = used.0 in omega arith)
  go (Some (Fetching j p f)) e used = absurd (let z = used.0 in omega arith)
  go (Some (FetchVoid j f)) e used = absurd (let z = used.0 in omega arith)

-- ---- one page goes

abbrev Goes : Space → List Page → Page → Slots → Type 0
Goes s gone x z = CanLeaveSlot x z × AreLeft s (x ∷ gone) (slot_gone x z)

-- a page that has nothing to do with slots
no_slot : (s : Space) (gone : List Page) (x : Page) (z : Slots) → ((k : ℕ) → lies_in k x ≡ 0) → ((k : ℕ) → comes_from k x ≡ 0) → AreLeft s gone z → AreLeft s (x ∷ gone) z
no_slot s gone x z none also left = search rules

swapped_goes : (s : Space) (gone rest : List Page) (k : ℕ) (z : Slots) → SlotsAreSound s → AreWithin s gone (Swapped k ∷ rest) → AreLeft s gone z → Goes s gone (Swapped k) z
swapped_goes s gone rest k z sound within left =
    let o = one_same k k refl in
    let all = within (lies_in k) in
    let has = lies s k sound (omega arith) in
    let one = has.one in
    let none : tally (lies_in k) gone ≡ 0 = omega arith in
    let there = there_of s.slots.uses k Taken has.is in
    let many = left.many in
    let vacant = left.vacant k in
    let zero_then = has.none in
    let here : k < length z.uses = omega arith in (
      (here, omega arith),
      record {
        held = left.held;
        many = length-set z.uses k Vacant ∙ many;
        vacant = λ m. (let more = tally-append (one_if m) z.vacant (k ∷ []) in let l = left.vacant m in omega arith);
        uses = search (rules, here_or, one_same, some_first, set_same, one_other, set_other);
      },
    )

coming_goes : (s : Space) (gone rest : List Page) (k : ℕ) (z : Slots) → SlotsAreSound s → AreWithin s gone (Coming k ∷ rest) → AreLeft s gone z → Goes s gone (Coming k) z
coming_goes s gone rest k z sound within left =
    let o = one_same k k refl in
    let all = within (comes_from k) in
    let has = comes s k sound (omega arith) in
    let one = has.one in
    let none : tally (comes_from k) gone ≡ 0 = omega arith in
    let was : Slot = Fetching has.place has.page has.frame in
    let there = there_of s.slots.uses k was has.is in
    let many = left.many in
    let here : k < length z.uses = omega arith in
    let before : slice_get z.uses k ≡ Some was = left.uses k was has.is ∙ ap Some (none_second (tally (comes_from k) gone) (FetchVoid has.place has.frame) was none) in
    let use_now : void_use (get_or z.uses k Vacant) ≡ FetchVoid has.place has.frame = ap void_use (get_or_is z.uses k was Vacant before) in (
      here,
      record {
        held = left.held;
        many = length-set z.uses k _ ∙ many;
        vacant = λ m. (let l = left.vacant m in omega arith);
        uses = search (rules, here_or, one_same, some_first, set_same, one_other, set_other);
      },
    )

goes : (s : Space) (gone rest : List Page) (x : Page) (z : Slots) → SlotsAreSound s → AreWithin s gone (x ∷ rest) → AreLeft s gone z → Goes s gone x z
goes s gone rest Untouched z sound within left = (tt, no_slot s gone Untouched z (λ k. refl) (λ k. refl) left)
goes s gone rest (Private f) z sound within left = (tt, no_slot s gone (Private f) z (λ k. refl) (λ k. refl) left)
goes s gone rest (Shared f) z sound within left = (tt, no_slot s gone (Shared f) z (λ k. refl) (λ k. refl) left)
goes s gone rest (Leaving f) z sound within left = (tt, no_slot s gone (Leaving f) z (λ k. refl) (λ k. refl) left)
goes s gone rest (LeavingShared f) z sound within left = (tt, no_slot s gone (LeavingShared f) z (λ k. refl) (λ k. refl) left)
goes s gone rest (Coming k) z sound within left = coming_goes s gone rest k z sound within left
goes s gone rest (Swapped k) z sound within left = swapped_goes s gone rest k z sound within left

-- ---- all pages of a list go

pub record AllLeave (s : Space) (pages : List Page) (z : Slots) : Type 0 where
  pub can : CanLeaveSlots pages z
  pub all : List Page
  pub same : (w : Page → ℕ) → tally w all ≡ tally w pages
  pub left : AreLeft s all (slots_gone pages z)

all_go_on : (s : Space) (gone pages rest : List Page) (z : Slots) → SlotsAreSound s → AreWithin s gone rest → ((w : Page → ℕ) → tally w gone + tally w rest ≡ tally w pages) → AreLeft s gone z
    → CanLeaveSlots rest z × ((all : List Page) × ((w : Page → ℕ) → tally w all ≡ tally w pages) × AreLeft s all (slots_gone rest z))
all_go_on s gone pages [] z sound within sum left = (tt, (gone, λ w. (let e = sum w in omega arith), left))
all_go_on s gone pages (x ∷ rest) z sound within sum left =
    let first = goes s gone rest x z sound within left in
    let others = all_go_on s (x ∷ gone) pages rest (slot_gone x z) sound (λ w. (let e = within w in omega arith)) (λ w. (let e = sum w in omega arith)) first.1 in
    ((first.0, others.0), others.1)

pub all_leave : (s : Space) (pages : List Page) → SlotsAreSound s → ((w : Page → ℕ) → tally w pages ≤ count w s.tables) → AllLeave s pages s.slots
all_leave s pages sound within =
    let go = all_go_on s [] pages pages s.slots sound (λ w. (let e = within w in omega arith)) (λ w. omega arith) (none_gone s) in
    record { can = go.0; all = go.1.0; same = go.1.1; left = go.1.2 }

-- ---- the slots when the instance has gone, and its ticket of a page that leaves is void

-- a fetch for a page of the instance is the one that is void
fetch_is : (s : Space) (i k j p f : ℕ) → SlotsAreSound s → i < length s.tables → slice_get s.slots.uses k ≡ Some (Fetching j p f)
    → cond (nat_lt 0 (count_of (comes_from k) s.tables i)) (FetchVoid j f) (Fetching j p f) ≡ cond (i == j) (FetchVoid j f) (Fetching j p f)
fetch_is s i k j p f sound less is =
    let used : IsUsed s k (Some (Fetching j p f)) = subst (IsUsed s k) is (sound.used k) in
    let one = used.1 in
    let there : page_at s.tables j p ≡ Some (Coming k) = used.3 in
    let o = one_same k k refl in
    elim (here_or i j) [
      | inl same ↦ search (rules, get_tally, some_first, cond_here)
      | inr other ↦
          (let rows = rows_sum (comes_from k) s.tables i [] less in
          let away : page_at (slice_set s.tables i []) j p ≡ Some (Coming k) = ap (λ (xs : List Page). slice_get xs p) (get_or-set_other s.tables i j [] [] (λ e. other e)) ∙ there in
          let some = get_pages (comes_from k) (slice_set s.tables i []) j p (Coming k) away in
          none_second (count_of (comes_from k) s.tables i) (FetchVoid j f) (Fetching j p f) (omega arith) ∙ sym (cond_other i j (FetchVoid j f) (Fetching j p f) (λ e. other e)))
    ]

-- the ticket of this slot is void, or another one's
slot_or : (o : Option ℕ) (k : ℕ) → (o ≡ Some k) ⊎ (o ≢ Some k)
slot_or None k = inr (λ e. (let bad : None ≡ Some k = e in cc))
slot_or (Some m) k = elim (here_or k m) [ inl same ↦ inl (ap Some same) | inr other ↦ inr (λ e. other (let k2 : Some m ≡ Some k = e in cc)) ]

void_here : (o : Option ℕ) (z : Slots) (k : ℕ) (y : Slot) → o ≡ Some k → slice_get z.uses k ≡ Some y → slice_get (voids_slot o z).uses k ≡ Some (void_use y)
void_here o z k y is at_it = search (rules, get_or_is, set_same, there_of)

void_away : (o : Option ℕ) (z : Slots) (k : ℕ) → o ≢ Some k → slice_get (voids_slot o z).uses k ≡ slice_get z.uses k
void_away None z k other = refl
void_away (Some m) z k other = set_other z.uses m k _ (λ e. other (ap Some (sym e)))

void_vacant : (o : Option ℕ) (z : Slots) → (voids_slot o z).vacant ≡ z.vacant
void_vacant None z = refl
void_vacant (Some k) z = refl

void_held : (o : Option ℕ) (z : Slots) → (voids_slot o z).held ≡ z.held
void_held None z = refl
void_held (Some k) z = refl

void_many : (o : Option ℕ) (z : Slots) → length (voids_slot o z).uses ≡ length z.uses
void_many None z = refl
void_many (Some k) z = length-set z.uses k _

-- the slot by which a page leaves isn't used for anything else
leaves_by : (s : Space) (i k : ℕ) (t : Occupant) (x : Slot) → SlotsAreSound s → occupant_at s i t → slice_get s.slots.uses k ≡ Some x → t.leaves ≡ Some k → LeavesBy i (Some x)
leaves_by s i k t x sound there is at_it = subst (LeavesBy i) is (sound.by_this i k t there at_it)

by_leaves : (s : Space) (i k : ℕ) (t : Occupant) (x : Slot) → SlotsAreSound s → occupant_at s i t → slice_get s.slots.uses k ≡ Some x → LeavesBy i (Some x) → t.leaves ≡ Some k
by_leaves s i k t x sound there is by =
    let found = sound.by_one i k (subst (LeavesBy i) (sym is) by) in
    let one : found.0 ≡ t = cc in
    sym (ap (λ (a : Occupant). a.leaves) one) ∙ found.2

pub record HaveGone (s : Space) (i : ℕ) (z : Slots) : Type 0 where
  pub held : z.held ≡ s.slots.held
  pub many : length z.uses ≡ length s.slots.uses
  pub vacant : (k : ℕ) → tally (one_if k) z.vacant ≡ tally (one_if k) s.slots.vacant + count_of (lies_in k) s.tables i
  pub uses : (k : ℕ) (x : Slot) → slice_get s.slots.uses k ≡ Some x → slice_get z.uses k ≡ Some (released_use i (count_of (lies_in k) s.tables i) x)

use_is : (s : Space) (i k : ℕ) (t : Occupant) (z : Slots) (x : Slot) → SlotsAreSound s → i < length s.tables → occupant_at s i t → slice_get s.slots.uses k ≡ Some x
    → slice_get z.uses k ≡ Some (use_after (count_of (lies_in k) s.tables i) (count_of (comes_from k) s.tables i) x)
    → slice_get (voids_slot t.leaves z).uses k ≡ Some (released_use i (count_of (lies_in k) s.tables i) x)
use_is s i k t z Vacant sound less there is now = search (rules, void_away, leaves_by)
use_is s i k t z Taken sound less there is now = search (rules, void_away, leaves_by)
use_is s i k t z (Evicting j p) sound less there is now = elim (here_or i j) [
  | inl same ↦
      (let by = by_leaves s i k t (Evicting j p) sound there is same in
      void_here t.leaves z k (Evicting j p) by now ∙ ap Some (sym (rw same (cond_here i (EvictVoid i) (Evicting i p)))))
  | inr other ↦ search (rules, void_away, leaves_by, cond_other)
]
use_is s i k t z (EvictVoid j) sound less there is now = search (rules, slot_or, void_here, void_away)
use_is s i k t z (Fetching j p f) sound less there is now = search (rules, void_away, leaves_by, fetch_is)
use_is s i k t z (FetchVoid j f) sound less there is now = search (rules, void_away, leaves_by)

pub have_gone : (s : Space) (i : ℕ) (t : Occupant) → SlotsAreSound s → i < length s.tables → occupant_at s i t → AllLeave s (get_or s.tables i []) s.slots
    → HaveGone s i (voids_slot t.leaves (slots_gone (get_or s.tables i []) s.slots))
have_gone s i t sound less there go =
    let z : Slots = slots_gone (get_or s.tables i []) s.slots in
    record {
      held = void_held t.leaves z ∙ go.left.held;
      many = void_many t.leaves z ∙ go.left.many;
      vacant = λ k. (let e = go.same (lies_in k) in let v = go.left.vacant k in rw (void_vacant t.leaves z) (omega arith));
      uses = λ k x is. (let a = go.same (lies_in k) in let b = go.same (comes_from k) in use_is s i k t z x sound less there is (rw (← a, ← b) (go.left.uses k x is)));
    }

-- ---- as many tickets are out as before

use_ticket : (i n h : ℕ) (x : Slot) → ticket_of h (released_use i n x) ≡ ticket_of h x
use_ticket i n h Vacant = refl
use_ticket i n h Taken = search rules
use_ticket i n h (Evicting j p) = search rules
use_ticket i n h (EvictVoid j) = refl
use_ticket i n h (Fetching j p f) = search rules
use_ticket i n h (FetchVoid j f) = refl

pub same_tickets : (s : Space) (i h : ℕ) (z : Slots) → HaveGone s i z → tally (ticket_of h) z.uses ≡ tally (ticket_of h) s.slots.uses
same_tickets s i h z gone = search (rules, pointwise, use_ticket)
