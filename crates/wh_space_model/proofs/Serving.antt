-- What each move leaves of the way to a ready step.
use Rattle.std.proofs.Common.{◌≡◌, ◌≢◌, ℕ, ◌+◌, ◌<◌, ◌≤◌, ◌==◌, ◌++◌, ◌⊎◌, inl, inr, cond, nat_eq, true, false, Bool, List, [], ◌∷◌, Option, Some, None, length, slice_get, slice_set, refl, sym, ap, ◌∙◌, subst, arith, length-append, min, rules}
use Rattle.std.specs.List.{All}
use Rattle.std.proofs.lemmas.List.Elements.{All-nil, All-cons}
use Rattle.wh_model.specs.declared.memory.Need.{Need}
use Rattle.wh_space_model.specs.{tally, one_if, frame_charge, charged_of, stays, CanLeave, IsShed, MustLeave, NoneMustLeave, is_ticket, tickets, Evicts, Fetches, residents, pinned, Earmarks, Space, Occupant, Pins, occupant_at, kept, kept_by, pinned_by, IsServing, HasPages, IsOnTheWay, LacksFree, far, IsAtHand, among, pages_of_need, frames_to_write, FramesAreSound, IsSound, at, page_at, put, resident, swapped, untouched, count}
use Rattle.wh_space_model.proofs.Tally.{one_same, one_other}
use Rattle.wh_space_model.specs.declared.states.Page.{Page}
use Rattle.wh_space_model.specs.declared.states.Page.TheVariants.{Untouched, Private, Shared, Leaving, LeavingShared, Coming, Swapped}
use Rattle.wh_space_model.specs.declared.states.Slot.TheVariants.{Vacant, Taken}
use Rattle.wh_space_model.proofs.Charging.{charge_few, charged_once, come_charged, occupied, others_charged, own_charged, relieved, stood_there}
use Rattle.std.proofs.lemmas.Bool.{cases_lt}
use Rattle.wh_space_model.specs.Ready.{Ready}
use Rattle.wh_space_model.proofs.Sums.{set_tally, put_tally}
use Rattle.wh_space_model.proofs.Taking.{frame_there, slot_there}
use Rattle.wh_space_model.proofs.Wanting.{few_pages, kinds_of}
use Rattle.wh_space_model.proofs.Putting.{cond_here, here_or, pinned_here, pinned_other, put_other, put_other_row, put_this}
use Rattle.wh_space_model.proofs.Slotting.{vacant_there}

-- the pages that are pinned are the resident ones of the step
residents_in : (s : Space) (i p : ℕ) (ps : List ℕ) → 1 ≤ tally (one_if p) ps → at resident (page_at s.tables i p) ≡ 1 → 1 ≤ tally (one_if p) (residents s i ps)
residents_in s i p [] some there = absurd (omega arith)
residents_in s i p (q ∷ ps) some there =
    elim (here_or p q) [
      | inl same ↦ rw same (let one : nat_eq (at resident (page_at s.tables i p)) 1 ≡ true = rw there refl in rw one (let o = one_same p p refl in omega arith))
      | inr other ↦
          let away = one_other p q (λ e. other (sym e)) in
          let rest = residents_in s i p ps (omega arith) there in
          go (nat_eq (at resident (page_at s.tables i q)) 1) rest
    ] where
      go : (b : Bool) → 1 ≤ tally (one_if p) (residents s i ps) → 1 ≤ tally (one_if p) (cond b (q ∷ residents s i ps) (residents s i ps))
      go true rest = omega arith
      go false rest = rest

residents_of : (s : Space) (i p : ℕ) (ps : List ℕ) → tally (one_if p) (residents s i ps) ≤ tally (one_if p) ps
residents_of s i p [] = omega arith
residents_of s i p (q ∷ ps) = go (nat_eq (at resident (page_at s.tables i q)) 1) (residents_of s i p ps) where
  go : (b : Bool) → tally (one_if p) (residents s i ps) ≤ tally (one_if p) ps → tally (one_if p) (cond b (q ∷ residents s i ps) (residents s i ps)) ≤ one_if p q + tally (one_if p) ps
  go true rest = omega arith
  go false rest = omega arith

-- at first
pub started : (s : Space) (i : ℕ) (need : Need) → HasPages s i need → tickets s ≡ 0 → IsOnTheWay s i need 0 (pinned s i need)
started s i need has none = record {
  serving = search (rules, pinned_here, residents_in, residents_of, pinned_other);
  has_pages = has;
  none_out = none;
  occupants = refl;
  revoked = omega arith;
  others = λ j t other is. omega arith;
}

among_same : (kind : Page → ℕ) (a b : List (List Page)) (i : ℕ) (ps : List ℕ) → ((q : ℕ) → 1 ≤ tally (one_if q) ps → page_at b i q ≡ page_at a i q)
    → tally (λ q. at kind (page_at b i q)) ps ≡ tally (λ q. at kind (page_at a i q)) ps
among_same kind a b i [] each = refl
among_same kind a b i (p ∷ ps) each =
    let here : page_at b i p ≡ page_at a i p = each p (let o = one_same p p refl in omega arith) in
    let rest = among_same kind a b i ps (λ q some. each q (omega arith)) in
    let same : at kind (page_at b i p) ≡ at kind (page_at a i p) = rw here refl in
    omega arith

-- a page of the step isn't the one that leaves
kept_page : (s : Space) (i j p q : ℕ) (need : Need) (y : Page) → IsServing s i need → CanLeave s j p → 1 ≤ tally (one_if q) (pages_of_need need) → page_at (put s.tables j p y) i q ≡ page_at s.tables i q
kept_page s i j p q need y serving leaves some =
    elim (here_or p q) [
      | inr other ↦ search (rules, here_or, put_other, put_other_row)
      | inl here ↦ search (rules, here_or, put_other_row)
    ] where
      leaves_of : j ≡ i → q ≡ p → CanLeave s i q
      leaves_of same here = rw (← same, here) leaves

      stands : (x : Option Page) → at stays x ≡ 1 → at resident x ≡ 1
      stands None h = absurd (omega arith)
      stands (Some Untouched) h = absurd (omega arith)
      stands (Some (Private f)) h = refl
      stands (Some (Shared f)) h = refl
      stands (Some (Leaving f)) h = absurd (omega arith)
      stands (Some (LeavingShared f)) h = absurd (omega arith)
      stands (Some (Coming f)) h = absurd (omega arith)
      stands (Some (Swapped f)) h = absurd (omega arith)

      go : CanLeave s i q → ⊥
      go can = let pin = serving.pinned q some (stands (page_at s.tables i q) can.0) in let free = can.1 in omega arith

-- the page that leaves
stood : (s : Space) (j p : ℕ) (f : ℕ) → ((page_at s.tables j p ≡ Some (Private f)) ⊎ (page_at s.tables j p ≡ Some (Shared f))) → (x : Page) × (page_at s.tables j p ≡ Some x) × (resident x ≡ 1) × (swapped x ≡ 0)
stood s j p f (inl e) = (Private f, e, refl, refl)
stood s j p f (inr e) = (Shared f, e, refl, refl)

-- whatever leaves can leave
pub can_leave : (s : Space) (i : ℕ) (need : Need) (j p : ℕ) → MustLeave s i need j p → CanLeave s j p
can_leave s i need j p (inl (payer, taken)) = taken.0.0
can_leave s i need j p (inr (inl (nobody, shed))) = shed.beside.can
can_leave s i need j p (inr (inr (nobody, own, given))) = rw own given.0

-- of whom a sharer is shed isn't charged for the frame, unless it asks
shed_charged : (s : Space) (i : ℕ) (need : Need) (j p : ℕ) → IsSound s → (shed : IsShed s i need j p) → j ≢ i → frame_charge s j shed.frame ≡ 0
shed_charged s i need j p sound shed other =
    elim (cases_lt 0 (frame_charge s j shed.frame)) [
      | inr zeros ↦ omega arith
      | inl some ↦ search (rules, charge_few, occupied, charged_once)
    ]

min_on : (m a b c : ℕ) → min m a ≤ b → min m b ≤ c → min m a ≤ c
min_on m a b c first second = omega arith

min_kept : (m a b : ℕ) → a ≤ b → min m a ≤ b
min_kept m a b le = omega arith

min_none : (m a b c : ℕ) → a ≤ b + c → c ≡ 0 → min m a ≤ b
min_none m a b c falls none = omega arith

min_one : (m a b c : ℕ) → a ≤ b + c → c ≤ 1 → m < a → min m a ≤ b
min_one m a b c falls one over = omega arith

-- whatever leaves, what is charged to another instance is no less, or its minimum still
keeps_minimum : (s : Space) (i : ℕ) (need : Need) (j p : ℕ) (s2 : Space) (k : ℕ) (t : Occupant) → IsSound s → MustLeave s i need j p → Evicts s j p s2 → k ≢ i → occupant_at s k t
    → min t.min (charged_of s k) ≤ charged_of s2 k
keeps_minimum s i need j p s2 k t sound taken moves other is =
    elim (here_or j k) [
      | inr away ↦ min_kept t.min (charged_of s k) (charged_of s2 k) (others_charged s s2 j moves.frame k (relieved s j p s2 moves) away)
      | inl same ↦ at_that same taken
    ] where
      falls : k ≡ j → charged_of s k ≤ charged_of s2 k + frame_charge s k moves.frame
      falls same = rw same (own_charged s s2 j moves.frame (relieved s j p s2 moves))

      at_that : k ≡ j → MustLeave s i need j p → min t.min (charged_of s k) ≤ charged_of s2 k
      at_that same (inr (inr (nobody, own, given))) = absurd (other (same ∙ own))
      at_that same (inr (inl (nobody, shed))) =
          let here : moves.frame ≡ shed.frame = stood_there s j p s2 moves shed.frame shed.beside.shares in
          let none : frame_charge s j shed.frame ≡ 0 = shed_charged s i need j p sound shed (λ e. other (same ∙ e)) in
          min_none t.min (charged_of s k) (charged_of s2 k) (frame_charge s k moves.frame) (falls same) (rw (same, here) none)
      at_that same (inl (payer, from)) =
          let least = payer.may_pay.0 in
          let both : Some (Some least.0) ≡ Some (Some t) = sym least.1 ∙ subst (λ z. occupant_at s z t) same is in
          let one : least.0 ≡ t = cc in
          let over : t.min < charged_of s k = subst (λ z. t.min < charged_of s z) (sym same) (subst (λ (u : Occupant). u.min < charged_of s j) one least.2) in
          let few = charge_few s k moves.frame in
          min_one t.min (charged_of s k) (charged_of s2 k) (frame_charge s k moves.frame) (falls same) few.0 over

-- one more page has left
pub evict_on : (s0 : Space) (i : ℕ) (need : Need) (n : ℕ) (s : Space) (j p : ℕ) (s2 : Space)
    → IsSound s → IsOnTheWay s0 i need n s → MustLeave s i need j p → Evicts s j p s2 → IsOnTheWay s0 i need (n + 1) s2 × (far s2 i need < far s i need)
evict_on s0 i need n s j p s2 sound way taken moves =
    let vacant = vacant_there s moves.slot moves.others sound.slots moves.vacant in
    let x = stood s j p moves.frame moves.page in
    let y : Page = Swapped moves.slot in
    let tables : s2.tables ≡ put s.tables j p y = ap (λ a. a.tables) moves.leaves in
    let pins : s2.pins ≡ s.pins = ap (λ a. a.pins) moves.leaves in
    let occupants : s2.occupants ≡ s.occupants = ap (λ a. a.occupants) moves.leaves in
    let uses : s2.slots.uses ≡ slice_set s.slots.uses moves.slot Taken = ap (λ a. a.slots.uses) moves.leaves in
    let leaves : CanLeave s j p = can_leave s i need j p taken in
    let page : (q : ℕ) → 1 ≤ tally (one_if q) (pages_of_need need) → page_at s2.tables i q ≡ page_at s.tables i q = λ q some. rw tables (kept_page s i j p q need y way.serving leaves some) in
    let fewer : count resident s2.tables + 1 ≡ count resident s.tables = rw tables (let k = put_tally resident s.tables j p x.0 y x.1 in let r = x.2 in omega arith) in
    let steps : among swapped s2 i (pages_of_need need) ≡ among swapped s i (pages_of_need need) = among_same swapped s.tables s2.tables i (pages_of_need need) page in
    let tickets_same : tickets s2 ≡ tickets s = rw uses (let k = set_tally is_ticket s.slots.uses moves.slot Vacant Taken vacant in omega arith) in
    let before = way.revoked in
    let none = way.none_out in (
      record {
        serving = search rules;
        has_pages = λ q some. rw (page q some) (way.has_pages q some);
        none_out = omega arith;
        occupants = occupants ∙ way.occupants;
        revoked = omega arith;
        others = λ k t other is.
            (let now : occupant_at s k t = rw way.occupants is in
            min_on t.min (charged_of s0 k) (charged_of s k) (charged_of s2 k) (way.others k t other is) (keeps_minimum s i need j p s2 k t sound taken moves other now));
      },
      omega arith,
    )

-- a page of the list was swapped and is not any more
among_less : (a b : List (List Page)) (i p : ℕ) (ps : List ℕ) → at swapped (page_at a i p) ≡ 1 → at swapped (page_at b i p) ≡ 0 → ((q : ℕ) → q ≢ p → page_at b i q ≡ page_at a i q)
    → tally (λ q. at swapped (page_at b i q)) ps + tally (one_if p) ps ≡ tally (λ q. at swapped (page_at a i q)) ps
among_less a b i p [] was is each = refl
among_less a b i p (q ∷ ps) was is each =
    let rest = among_less a b i p ps was is each in
    elim (here_or p q) [
      | inl same ↦ rw same (let o = one_same p p refl in omega arith)
      | inr other ↦ let o = one_other p q (λ e. other (sym e)) in let k : at swapped (page_at b i q) ≡ at swapped (page_at a i q) = rw (each q other) refl in omega arith
    ]

among_swapped : (s : Space) (i p : ℕ) (k : ℕ) → page_at s.tables i p ≡ Some (Swapped k) → at swapped (page_at s.tables i p) ≡ 1
among_swapped s i p k e = rw e refl

kept_none : (pins : Option Pins) (i : ℕ) → length (kept pins) ≡ 0 → length (kept_by pins i) ≡ 0
kept_none None i none = refl
kept_none (Some pins) i none = go (pins.place == i) none where
  go : (b : Bool) → length pins.frames ≡ 0 → length (cond b pins.frames []) ≡ 0
  go true none = none
  go false none = refl

-- one more page has come
pub fetch_on : (s0 : Space) (i : ℕ) (need : Need) (n : ℕ) (s : Space) (p : ℕ) (bytes : List ℕ) (s2 : Space)
    → FramesAreSound s → IsOnTheWay s0 i need n s → 1 ≤ tally (one_if p) (pages_of_need need) → Fetches s i p bytes s2
    → ((k : ℕ) → page_at s.tables i p ≡ Some (Swapped k) → slice_get s.slots.uses k ≡ Some Taken)
    → IsOnTheWay s0 i need n s2 × (far s2 i need < far s i need)
fetch_on s0 i need n s p bytes s2 sound way member moves taken =
    let y : Page = Private moves.frame in
    let tables : s2.tables ≡ put s.tables i p y = ap (λ a. a.tables) moves.leaves in
    let pins : s2.pins ≡ Some (record { place = i; pages = p ∷ pinned_by s.pins i; frames = kept s.pins }) = ap (λ a. a.pins) moves.leaves in
    let occupants : s2.occupants ≡ s.occupants = ap (λ a. a.occupants) moves.leaves in
    let uses : s2.slots.uses ≡ slice_set s.slots.uses moves.slot Vacant = ap (λ a. a.slots.uses) moves.leaves in
    let here : page_at s2.tables i p ≡ Some y = rw tables (put_this s.tables i p (Swapped moves.slot) y moves.page) in
    let page : (q : ℕ) → q ≢ p → page_at s2.tables i q ≡ page_at s.tables i q = λ q other. rw tables (put_other s.tables i p q y other) in
    let more : count resident s2.tables ≡ count resident s.tables + 1 = rw tables (let k = put_tally resident s.tables i p (Swapped moves.slot) y moves.page in omega arith) in
    let was = among_swapped s i p moves.slot moves.page in
    let is_now : at swapped (page_at s2.tables i p) ≡ 0 = rw here refl in
    let steps = among_less s.tables s2.tables i p (pages_of_need need) was is_now page in
    let tickets_same : tickets s2 ≡ tickets s = rw uses (let k = set_tally is_ticket s.slots.uses moves.slot Taken Vacant (taken moves.slot moves.page) in omega arith) in
    let before = way.revoked in
    let none = way.none_out in
    let pages : pinned_by s2.pins i ≡ p ∷ pinned_by s.pins i = rw pins (pinned_here i (p ∷ pinned_by s.pins i) (kept s.pins)) in (
      record {
        serving = search (rules, here_or, one_same, one_other, pinned_other);
        has_pages = search (rules, here_or);
        none_out = omega arith;
        occupants = occupants ∙ way.occupants;
        revoked = omega arith;
        others = λ k t other is.
            (let past = way.others k t other is in
            let least = come_charged s i p bytes s2 sound moves k other in omega arith);
      },
      omega arith,
    )

-- all pages of the step are at hand
all_at_hand : (s : Space) (i : ℕ) (ps : List ℕ) → ((p : ℕ) → 1 ≤ tally (one_if p) ps → (at swapped (page_at s.tables i p) + at untouched (page_at s.tables i p)) + at resident (page_at s.tables i p) ≡ 1)
    → among swapped s i ps ≡ 0 → All (λ p. IsAtHand (page_at s.tables i p)) ps
all_at_hand s i [] each none = All-nil (λ p. IsAtHand (page_at s.tables i p))
all_at_hand s i (p ∷ ps) each none =
    All-cons (λ p. IsAtHand (page_at s.tables i p)) p ps (let one = each p (let o = one_same p p refl in omega arith) in omega arith) (all_at_hand s i ps (λ q some. each q (omega arith)) (omega arith))

-- at last
pub ends_ready : (s0 : Space) (i : ℕ) (need : Need) (n : ℕ) (s : Space) (s2 : Space)
    → IsOnTheWay s0 i need n s → among swapped s i (pages_of_need need) ≡ 0 → Earmarks s i (frames_to_write s i need) s2 → Ready s2 i need
ends_ready s0 i need n s s2 way none moves =
    let tables : s2.tables ≡ s.tables = ap (λ a. a.tables) moves.leaves in
    let pins : s2.pins ≡ Some (record { place = i; pages = pinned_by s.pins i; frames = kept s.pins ++ moves.frames }) = ap (λ a. a.pins) moves.leaves in
    let keeps : kept_by s2.pins i ≡ kept s.pins ++ moves.frames = rw pins (cond_here i (kept s.pins ++ moves.frames) []) in
    let many : length (kept_by s2.pins i) ≡ length (kept s.pins) + length moves.frames = rw keeps (length-append (kept s.pins) moves.frames) in
    let same : frames_to_write s2 i need ≡ frames_to_write s i need = ap (λ a. frames_to_write a i need) moves.leaves in
    let enough = moves.many in
    (rw moves.leaves (all_at_hand s i (pages_of_need need) way.has_pages none), omega arith)

-- where a page has to leave, there is one
pub page_is_there : (s : Space) (i : ℕ) (need : Need) (t : Occupant) → IsSound s → tickets s ≡ 0 → IsServing s i need → occupant_at s i t → LacksFree s i need → NoneMustLeave s i need → ⊥
page_is_there s i need t sound none serving is lacks nobody =
    let enough = frame_there s i need t sound none serving is nobody in
    let kept = kept_none s.pins i serving.kept in
    elim lacks [ inl (some, zeros) ↦ omega arith | inr (all, less) ↦ omega arith ]

-- and a slot for it
pub slot_is_there : (s : Space) (i : ℕ) (need : Need) (t : Occupant) → IsSound s → tickets s ≡ 0 → IsServing s i need → occupant_at s i t → LacksFree s i need → 1 ≤ length s.slots.vacant
slot_is_there s i need t sound none serving is lacks =
    slot_there s i need t sound none serving.kept is (elim lacks [ inl (some, zeros) ↦ inl zeros | inr (all, less) ↦ inr less ])

-- how many may have left
pub bounded : (s0 : Space) (i : ℕ) (need : Need) (n : ℕ) (s : Space) → IsOnTheWay s0 i need n s → n ≤ count resident s0.tables + 2
bounded s0 i need n s way =
    let most = way.revoked in
    let two = kinds_of s0 i (pages_of_need need) (few_pages need) in
    omega arith
