-- A page that leaves with a ticket that comes back at once.
use Rattle.std.proofs.Common.{◌≡◌, ◌≢◌, ◌∙◌, ◌⊎◌, ◌==◌, ◌++◌, inl, inr, ℕ, ◌<◌, cond, true, false, Bool, List, [], ◌∷◌, Option, Some, None, length, get_or, slice_get, slice_set, zero, suc, refl, sym, ap, subst, arith}
use Rattle.std.proofs.lemmas.List.{get_or-set_same}
use Rattle.wh_space_model.specs.{one_if, tally, CanLeave, Evicts, evicted, frame_of, Occupant, Pins, Space, frame_bytes, pinned_by, sharers, IsSound, IsUsed, count, page_at, put, shares, CommitsEvict, IsEvicting, as_before, as_leaving, departing, leaving_by, not_sent, sent_off, unpinned_page, with_held, without}
use Rattle.wh_space_model.specs.declared.states.EvictEnd.{EvictEnd}
use Rattle.wh_space_model.specs.declared.states.Page.{Page}
use Rattle.wh_space_model.specs.declared.states.Page.TheVariants.{Untouched, Private, Shared, Leaving, LeavingShared, Coming, Swapped}
use Rattle.wh_space_model.specs.declared.states.Slot.{Slot}
use Rattle.wh_space_model.specs.declared.states.Slot.TheVariants.{Vacant, Taken, Evicting, Fetching}
use Rattle.wh_space_model.proofs.Tally.{one_same}
use Rattle.wh_space_model.proofs.Putting.{cond_other, put_this, set_same, there_of}
use Rattle.wh_space_model.proofs.Sent.{set_set}
use Rattle.wh_space_model.proofs.Slotting.{vacant_there}
use Rattle.wh_space_model.proofs.Sums.{put_tally}
use Rattle.wh_space.specs.Transits.{IsDeparting, IsFetching, IsSentFor}
use Rattle.wh_space.proofs.Fetching.{lies_there}

-- ---- what is put and put back

put_put : {X : Type 0} (xss : List (List X)) (j p : ℕ) (x y : X) → put (put xss j p x) j p y ≡ put xss j p y
put_put [] j p x y = refl
put_put (xs ∷ xss) zero p x y = ap (λ z. z ∷ xss) (set_set xs p x y)
put_put (xs ∷ xss) (suc j) p x y = ap (λ z. xs ∷ z) (put_put xss j p x y)

set_back : {X : Type 0} (xs : List X) (k : ℕ) (x : X) → slice_get xs k ≡ Some x → slice_set xs k x ≡ xs
set_back [] k x is = refl
set_back (y ∷ xs) zero x is = let e : x ≡ y = some_is (sym is) in ap (λ z. z ∷ xs) e where
  some_is : {X : Type 0} {a b : X} → Some a ≡ Some b → a ≡ b
  some_is e = cc
set_back (y ∷ xs) (suc k) x is = ap (λ z. y ∷ z) (set_back xs k x is)

put_back : {X : Type 0} (xss : List (List X)) (j p : ℕ) (x y : X) → page_at xss j p ≡ Some x → put (put xss j p y) j p x ≡ xss
put_back [] j p x y is = refl
put_back (xs ∷ xss) zero p x y is = ap (λ z. z ∷ xss) (set_set xs p y x ∙ set_back xs p x is)
put_back (xs ∷ xss) (suc j) p x y is = ap (λ z. xs ∷ z) (put_back xss j p x y is)

-- who has the place leaves by the slot, and then by none
occupants_back : (xs : List (Option Occupant)) (j k : ℕ) (t : Occupant) → slice_get xs j ≡ Some (Some t) → t.leaves ≡ None
    → slice_set (slice_set xs j (leaving_by (get_or xs j None) (Some k))) j (leaving_by (get_or (slice_set xs j (leaving_by (get_or xs j None) (Some k))) j None) None) ≡ xs
occupants_back [] j k t there none = refl
occupants_back (x ∷ xs) zero k t there none =
    let e : x ≡ Some t = same there in
    let back : record t { leaves = None } ≡ t = ap (λ (z : Option ℕ). record t { leaves = z }) (sym none) in
    rw e (ap (λ (z : Occupant). Some z ∷ xs) back) where
      same : {a : Option Occupant} → Some a ≡ Some (Some t) → a ≡ Some t
      same e = cc
occupants_back (x ∷ xs) (suc j) k t there none = ap (λ z. x ∷ z) (occupants_back xs j k t there none)

without_none : (p : ℕ) (xs : List ℕ) → tally (one_if p) xs ≡ 0 → without p xs ≡ xs
without_none p [] none = refl
without_none p (q ∷ xs) none =
    let other : q ≢ p = λ e. (let o = one_same p q (sym e) in omega arith) in
    let rest = without_none p xs (omega arith) in
    cond_other p q (without p xs) (q ∷ without p xs) other ∙ ap (λ z. q ∷ z) rest

pins_stay : (pins : Option Pins) (j p : ℕ) → tally (one_if p) (pinned_by pins j) ≡ 0 → unpinned_page pins j p ≡ pins
pins_stay None j p none = refl
pins_stay (Some a) j p none = ap (λ (z : List ℕ). Some (record a { pages = z })) (go (a.place == j) none) where
  go : (b : Bool) → tally (one_if p) (cond b a.pages []) ≡ 0 → cond b (without p a.pages) a.pages ≡ a.pages
  go true none = without_none p a.pages none
  go false none = refl

-- ---- the page, before and as it leaves

pub record AsLeaving (old new : Page) (f : ℕ) : Type 0 where
  pub on : frame_of new ≡ Some f
  pub same : (g : ℕ) → shares g new ≡ shares g old
  pub back : (page : Page) → as_before new page → page ≡ old
  pub stood : (old ≡ Private f) ⊎ (old ≡ Shared f)

leaves_as : (old new : Page) (f : ℕ) → frame_of old ≡ Some f → as_leaving old new → AsLeaving old new f
leaves_as Untouched new f on leaving = absurd leaving
leaves_as (Private g) new f on leaving = rw leaving (record { on = on; same = λ h. refl; back = λ page e. e; stood = inl (let e : g ≡ f = cc in ap Private e) })
leaves_as (Shared g) new f on leaving = rw leaving (record { on = on; same = λ h. refl; back = λ page e. e; stood = inr (let e : g ≡ f = cc in ap Shared e) })
leaves_as (Leaving g) new f on leaving = absurd leaving
leaves_as (LeavingShared g) new f on leaving = absurd leaving
leaves_as (Coming k) new f on leaving = absurd leaving
leaves_as (Swapped k) new f on leaving = absurd leaving

-- ---- in one go

sent_at_once : (s : Space) (j p k f : ℕ) (others : List ℕ) (old new : Page) → CanLeave s j p → page_at s.tables j p ≡ Some old → AsLeaving old new f
    → sent_off (with_held (departing s j p k others new) k (frame_bytes s f)) j p f k ≡ evicted s j p f k others
sent_at_once s j p k f others old new can there like =
    let share = put_tally (shares f) s.tables j p old new there in
    let kind = like.same f in
    let same : count (shares f) (put s.tables j p new) ≡ sharers s f = omega arith in
    let tables = put_put s.tables j p new (Swapped k) in
    let uses = set_set s.slots.uses k (Evicting j p) Taken in
    let occupants = occupants_back s.occupants j k can.2.0 can.2.1 can.2.2 in
    let pins = pins_stay s.pins j p can.1 in
    rw (same, tables, uses, occupants, pins) refl

kept_at_once : (s : Space) (j p k : ℕ) (others : List ℕ) (old new : Page) → CanLeave s j p → page_at s.tables j p ≡ Some old → s.slots.vacant ≡ others ++ k ∷ [] → slice_get s.slots.uses k ≡ Some Vacant
    → not_sent (with_held (departing s j p k others new) k []) j p k old ≡ with_held s k []
kept_at_once s j p k others old new can there vacant is =
    let tables = put_back s.tables j p old new there in
    let uses = set_set s.slots.uses k (Evicting j p) Vacant ∙ set_back s.slots.uses k Vacant is in
    let occupants = occupants_back s.occupants j k can.2.0 can.2.1 can.2.2 in
    rw (tables, uses, occupants, ← vacant) refl

-- ---- the ticket of this page

pub record IsTicketOf (s : Space) (j p k f : ℕ) (new : Page) : Type 0 where
  pub slot : slice_get s.slots.uses k ≡ Some (Evicting j p)
  pub page : page_at s.tables j p ≡ Some new
  pub on : frame_of new ≡ Some f

abbrev place_in : Option Slot → ℕ
place_in (Some (Evicting j p)) = j
place_in _ = 0

abbrev page_in : Option Slot → ℕ
page_in (Some (Evicting j p)) = p
page_in _ = 0

some_page : {x y : Page} → Some x ≡ Some y → x ≡ y
some_page e = cc

some_frame : {x y : ℕ} → Some x ≡ Some y → x ≡ y
some_frame e = cc

same_page : (s : Space) (j p k f i q g : ℕ) (new page : Page) → IsTicketOf s j p k f new → slice_get s.slots.uses k ≡ Some (Evicting i q) → page_at s.tables i q ≡ Some page → frame_of page ≡ Some g
    → (i ≡ j) × (q ≡ p) × (page ≡ new) × (g ≡ f)
same_page s j p k f i q g new page ticket at_it there on =
    let i_is : i ≡ j = ap place_in (sym at_it ∙ ticket.slot) in
    let q_is : q ≡ p = ap page_in (sym at_it ∙ ticket.slot) in
    let here : page_at s.tables j p ≡ Some page = rw (← i_is, ← q_is) there in
    let page_is : page ≡ new = some_page (sym here ∙ ticket.page) in
    let g_is : g ≡ f = some_frame (sym on ∙ (ap frame_of page_is ∙ ticket.on)) in
    (i_is, q_is, page_is, g_is)

-- written, and unchanged: it is in the slot
commit_sent : (s : Space) (j p k f : ℕ) (new : Page) (bytes : List ℕ) (end : EvictEnd) (s2 : Space) → IsTicketOf s j p k f new → bytes ≡ frame_bytes s f → CommitsEvict s k true bytes end s2 → s2 ≡ sent_off s j p f k
commit_sent s j p k f new bytes end s2 ticket are (inl (i, at_it, ends, is)) = absurd (let e = sym at_it ∙ ticket.slot in cc e)
commit_sent s j p k f new bytes end s2 ticket are (inr (i, q, g, at_it, page, there, on, inl (ok, equal, ends, is))) =
    let e = same_page s j p k f i q g new page ticket at_it there on in
    rw (← e.0, ← e.1, ← e.3) is
commit_sent s j p k f new bytes end s2 ticket are (inr (i, q, g, at_it, page, there, on, inr (inl (ok, differ, ends), old, as_it, is))) =
    let e = same_page s j p k f i q g new page ticket at_it there on in
    absurd (differ (are ∙ ap (frame_bytes s) (sym e.3)))
commit_sent s j p k f new bytes end s2 ticket are (inr (i, q, g, at_it, page, there, on, inr (inr (wrong, ends), old, as_it, is))) = absurd (cc wrong)

-- not written: it stays
commit_kept : (s : Space) (j p k f : ℕ) (new : Page) (bytes : List ℕ) (end : EvictEnd) (s2 : Space) → IsTicketOf s j p k f new → CommitsEvict s k false bytes end s2 → (old : Page) × as_before new old × (s2 ≡ not_sent s j p k old)
commit_kept s j p k f new bytes end s2 ticket (inl (i, at_it, ends, is)) = absurd (let e = sym at_it ∙ ticket.slot in cc e)
commit_kept s j p k f new bytes end s2 ticket (inr (i, q, g, at_it, page, there, on, inl (ok, equal, ends, is))) = absurd (cc ok)
commit_kept s j p k f new bytes end s2 ticket (inr (i, q, g, at_it, page, there, on, inr (why, old, as_it, is))) =
    let e = same_page s j p k f i q g new page ticket at_it there on in
    (old, subst (λ z. as_before z old) e.2 as_it, rw (← e.0, ← e.1) is)

-- ---- all of it

ticket_out : (s : Space) (j p k f : ℕ) (others bytes : List ℕ) (old new : Page) → page_at s.tables j p ≡ Some old → AsLeaving old new f → slice_get s.slots.uses k ≡ Some Vacant
    → IsTicketOf (with_held (departing s j p k others new) k bytes) j p k f new
ticket_out s j p k f others bytes old new there like vacant = record {
  slot = set_same s.slots.uses k (Evicting j p) (there_of s.slots.uses k Vacant vacant);
  page = put_this s.tables j p old new there;
  on = like.on;
}

pub evicting_now : (s : Space) (j p k : ℕ) (bytes : List ℕ) (s1 : Space) → IsSound s → IsDeparting s j p k bytes s1 → IsEvicting s1 k
evicting_now s j p k bytes s1 sound (f, old, new, there, on, leaving, are, others, vacant, is) =
    let e : slice_get s1.slots.uses k ≡ Some (Evicting j p) = rw is (set_same s.slots.uses k (Evicting j p) (there_of s.slots.uses k Vacant (vacant_there s k others sound.slots vacant))) in
    inl (j, p, e)

pub sent_now : (s : Space) (j p k : ℕ) (bytes : List ℕ) (s1 s2 : Space) (end : EvictEnd) (s3 : Space) → IsSound s → CanLeave s j p → IsDeparting s j p k bytes s1 → s2 ≡ with_held s1 k bytes → CommitsEvict s2 k true bytes end s3
    → Evicts s j p s3
sent_now s j p k bytes s1 s2 end s3 sound can (f, old, new, there, on, leaving, are, others, vacant, is) held commits =
    let like = leaves_as old new f on leaving in
    let free = vacant_there s k others sound.slots vacant in
    let now : s2 ≡ with_held (departing s j p k others new) k (frame_bytes s f) = held ∙ (ap (λ (z : Space). with_held z k bytes) is ∙ ap (with_held (departing s j p k others new) k) are) in
    let ended : CommitsEvict (with_held (departing s j p k others new) k (frame_bytes s f)) k true bytes end s3 = subst (λ z. CommitsEvict z k true bytes end s3) now commits in
    let sent = commit_sent (with_held (departing s j p k others new) k (frame_bytes s f)) j p k f new bytes end s3 (ticket_out s j p k f others (frame_bytes s f) old new there like free) are ended in
    record {
      frame = f;
      slot = k;
      others = others;
      vacant = vacant;
      page = elim like.stood [ inl e ↦ inl (there ∙ ap Some e) | inr e ↦ inr (there ∙ ap Some e) ];
      leaves = sent ∙ sent_at_once s j p k f others old new can there like;
    }

pub kept_now : (s : Space) (j p k : ℕ) (bytes : List ℕ) (s1 s2 : Space) (end : EvictEnd) (s3 : Space) → IsSound s → CanLeave s j p → IsDeparting s j p k bytes s1 → s2 ≡ with_held s1 k [] → CommitsEvict s2 k false bytes end s3
    → (slice_get s.slots.uses k ≡ Some Vacant) × (s3 ≡ with_held s k [])
kept_now s j p k bytes s1 s2 end s3 sound can (f, old, new, there, on, leaving, are, others, vacant, is) held commits =
    let like = leaves_as old new f on leaving in
    let free = vacant_there s k others sound.slots vacant in
    let now : s2 ≡ with_held (departing s j p k others new) k [] = held ∙ ap (λ (z : Space). with_held z k []) is in
    let ended : CommitsEvict (with_held (departing s j p k others new) k []) k false bytes end s3 = subst (λ z. CommitsEvict z k false bytes end s3) now commits in
    let kept = commit_kept (with_held (departing s j p k others new) k []) j p k f new bytes end s3 (ticket_out s j p k f others [] old new there like free) ended in
    let back : kept.0 ≡ old = like.back kept.0 kept.1 in
    (free, kept.2 ∙ (ap (λ (z : Page). not_sent (with_held (departing s j p k others new) k []) j p k z) back ∙ kept_at_once s j p k others old new can there vacant free))

-- ---- what the slot holds meanwhile

pub slot_held : (s : Space) (j p k : ℕ) (bytes : List ℕ) (s1 : Space) → IsSound s → IsDeparting s j p k bytes s1 → k < length s.slots.held
slot_held s j p k bytes s1 sound (f, old, new, there, on, leaving, are, others, vacant, is) =
    let less = there_of s.slots.uses k Vacant (vacant_there s k others sound.slots vacant) in
    let long = sound.slots.held in
    omega arith

pub held_now : (s : Space) (j p k : ℕ) (bytes : List ℕ) (s1 s2 : Space) → IsSound s → IsDeparting s j p k bytes s1 → s2 ≡ with_held s1 k bytes → get_or s2.slots.held k [] ≡ bytes
held_now s j p k bytes s1 s2 sound departs held =
    let less = slot_held s j p k bytes s1 sound departs in
    let same : s1.slots.held ≡ s.slots.held = held_of departs in
    ap (λ (z : Space). get_or z.slots.held k []) held ∙ get_or-set_same s1.slots.held k bytes [] (rw same less) where
      held_of : IsDeparting s j p k bytes s1 → s1.slots.held ≡ s.slots.held
      held_of (f, old, new, there, on, leaving, are, others, vacant, is) = ap (λ (z : Space). z.slots.held) is

pub still_evicting : (s : Space) (k : ℕ) (bytes : List ℕ) (s2 : Space) → IsEvicting s k → s2 ≡ with_held s k bytes → IsEvicting s2 k
still_evicting s k bytes s2 evicting is = rw is evicting

-- and the slot of a page that lies in it
pub slot_there : (s : Space) (i p k : ℕ) → IsSound s → page_at s.tables i p ≡ Some (Swapped k) → k < length s.slots.held
slot_there s i p k sound there = let lies = lies_there s i p k sound there in let less = lies.slot in let long = sound.slots.held in omega arith

pub slot_whole : (s : Space) (i p k : ℕ) → IsSound s → page_at s.tables i p ≡ Some (Swapped k) → get_or s.slots.held k [] ≢ []
slot_whole s i p k sound there none =
    let lies = lies_there s i p k sound there in
    let used : IsUsed s k (Some Taken) = subst (IsUsed s k) lies.taken (sound.slots.used k) in
    let whole = sound.slots.whole k (let one = used.0 in omega arith) in
    let zero_long : length (get_or s.slots.held k []) ≡ 0 = ap length none in
    absurd (omega arith)

-- a ticket of a fetch is out
pub fetching_now : (s : Space) (i p k : ℕ) (s1 : Space) → IsSound s → page_at s.tables i p ≡ Some (Swapped k) → IsSentFor s i p k s1 → IsFetching s1 k
fetching_now s i p k s1 sound there (f, page, others, kept, is) =
    let lies = lies_there s i p k sound there in
    let e : slice_get s1.slots.uses k ≡ Some (Fetching i p f) = rw is (set_same s.slots.uses k (Fetching i p f) lies.slot) in
    inl (i, p, f, e)
