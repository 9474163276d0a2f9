-- A provision makes the step ready, within its bound, and takes nobody else below the minimum.
use Rattle.std.proofs.Common.{◌≡◌, ℕ, ◌+◌, ◌*◌, ◌/◌, ◌%◌, ◌<◌, ◌≤◌, ◌⊎◌, inl, inr, cond, nat_lt, true, false, Bool, List, [], ◌∷◌, Option, Some, None, length, ◌++◌, slice_get, get_or, zero, suc, refl, sym, ap, ◌∙◌, subst, arith}
use Rattle.std.proofs.lemmas.Bool.Decides.{nat_tests}
use Rattle.wh_model.specs.declared.memory.Need.{Need}
use Rattle.wh_space_model.specs.{tally, one_if, HasPages, IsOnTheWay, Move, Serves, comes, goes, leaves, IsSound, IsUsed, SlotsAreSound, MovesAreFew, ProvisionIsRight, Occupant, Space, kept, occupant_at, pinned_by, charged_of, WaitsForBytes, comes_from, count, page_at, resident, swapped, untouched, frames_to_write, pages_from, is_ticket, tickets}
use Rattle.wh_space_model.proofs.Tally.{one_same, one_other}
use Rattle.wh_space_model.specs.declared.states.Page.{Page}
use Rattle.wh_space_model.specs.declared.states.Page.TheVariants.{Untouched, Private, Shared, Leaving, LeavingShared, Coming, Swapped}
use Rattle.wh_space_model.specs.declared.states.Slot.{Slot}
use Rattle.wh_space_model.specs.declared.states.Slot.TheVariants.{Vacant, Taken, Evicting, EvictVoid, Fetching, FetchVoid}
use Rattle.wh_space_model.proofs.Serving.{bounded, can_leave, ends_ready, evict_on, fetch_on, started}
use Rattle.wh_space_model.proofs.Putting.{cond_here, get_pages, here_or}
use Rattle.wh_space_model.proofs.Reserved.{frames_in_all_few, is_sound_earmarked, is_sound_pinned}
use Rattle.wh_space_model.proofs.Sums.{get_tally}
use Rattle.wh_space_model.proofs.Rooms.{get_there}
use Rattle.wh_space_model.proofs.Evicted.{is_sound_evicted, stood_on}
use Rattle.wh_space_model.proofs.Fetched.{is_sound_fetched}
use Rattle.wh_space_model.proofs.Slotting.{slot_taken, vacant_there}

-- the pages of bytes that are there are there
one_of : (p q : ℕ) → 1 ≤ tally (one_if p) (q ∷ []) → p ≡ q
one_of p q some = elim (here_or p q) [ inl same ↦ sym same | inr other ↦ absurd (let o = one_other p q (λ e. other (sym e)) in omega arith) ]

one_of_two : (p q : ℕ) → 1 ≤ tally (one_if p) (q ∷ (q + 1) ∷ []) → (p ≡ q) ⊎ (p ≡ q + 1)
one_of_two p q some =
    elim (here_or p q) [
      | inl same ↦ inl (sym same)
      | inr other ↦ inr (one_of p (q + 1) (let o = one_other p q (λ e. other (sym e)) in omega arith))
    ]

pages_within : (p first more most : ℕ) → first + suc more ≤ 4096 * most → 1 ≤ tally (one_if p) (pages_from first (suc more)) → p < most
pages_within p first more most fits some = go (nat_lt 4096 (first % 4096 + suc more)) refl some where
  over : (m : ℕ) → nat_lt 4096 m ≡ true → 4096 < m
  over m e = grind (arith, nat_tests)

  go : (b : Bool) → nat_lt 4096 (first % 4096 + suc more) ≡ b → 1 ≤ tally (one_if p) (cond b ((first / 4096) ∷ (first / 4096 + 1) ∷ []) ((first / 4096) ∷ [])) → p < most
  go true e has =
      let far = over (first % 4096 + suc more) e in
      elim (one_of_two p (first / 4096) has) [ inl same ↦ omega arith | inr next ↦ omega arith ]
  go false e has = let same = one_of p (first / 4096) has in omega arith

-- where no ticket is out, none of them is coming
fetch_out : (s : Space) (k : ℕ) (o : Option Slot) → slice_get s.slots.uses k ≡ o → IsUsed s k o → 1 ≤ count (comes_from k) s.tables → 1 ≤ tickets s
fetch_out s k None is used some = absurd (let z = used.1 in omega arith)
fetch_out s k (Some Vacant) is used some = absurd (let z = used.1 in omega arith)
fetch_out s k (Some Taken) is used some = absurd (let z = used.1 in omega arith)
fetch_out s k (Some (Evicting i p)) is used some = absurd (let z = used.1 in omega arith)
fetch_out s k (Some (EvictVoid i)) is used some = absurd (let z = used.1 in omega arith)
fetch_out s k (Some (Fetching i p f)) is used some = let t = get_tally is_ticket s.slots.uses k (Fetching i p f) is in omega arith
fetch_out s k (Some (FetchVoid i f)) is used some = absurd (let z = used.1 in omega arith)

page_kind : (s : Space) (i p : ℕ) (x : Page) → SlotsAreSound s → tickets s ≡ 0 → page_at s.tables i p ≡ Some x → (swapped x + untouched x) + resident x ≡ 1
page_kind s i p Untouched sound none there = refl
page_kind s i p (Private f) sound none there = refl
page_kind s i p (Shared f) sound none there = refl
page_kind s i p (Leaving f) sound none there = refl
page_kind s i p (LeavingShared f) sound none there = refl
page_kind s i p (Swapped k) sound none there = refl
page_kind s i p (Coming k) sound none there =
    let one = get_pages (comes_from k) s.tables i p (Coming k) there in
    let o = one_same k k refl in
    let out = fetch_out s k (slice_get s.slots.uses k) refl (sound.used k) (omega arith) in
    absurd (omega arith)

pub has_pages : (s : Space) (i : ℕ) (need : Need) → IsSound s → tickets s ≡ 0 → WaitsForBytes s i need → HasPages s i need
has_pages s i need sound none stands p some =
    let fits = sound.occupants.needs i stands.0 need stands.1 stands.3 in
    let there = get_there (get_or s.tables i []) p (within need.length refl fits.1 some) in
    rw there.1 (page_kind s i p there.0 sound.slots none there.1) where
      within : (n : ℕ) → need.length ≡ n → need.at + need.length ≤ 4096 * length (get_or s.tables i []) → 1 ≤ tally (one_if p) (pages_from need.at need.length) → p < length (get_or s.tables i [])
      within zero e fits some = absurd (let z : 1 ≤ tally (one_if p) (pages_from need.at 0) = rw e at some in omega arith)
      within (suc more) e fits some = pages_within p need.at more (length (get_or s.tables i [])) (rw e at fits) (rw e at some)

-- on the way through all moves
pub serves_way : (s : Space) (i : ℕ) (need : Need) (moves : List Move) (mid : Space) → IsSound s → tickets s ≡ 0 → WaitsForBytes s i need → Serves s i need moves mid
    → IsSound mid × IsOnTheWay s i need (tally leaves moves) mid
serves_way s i need [] mid sound none stands is = (
  subst IsSound (sym is) (is_sound_pinned s i need sound (stands.0, stands.1, stands.2)),
  subst (IsOnTheWay s i need 0) (sym is) (started s i need (has_pages s i need sound none stands) none),
)
serves_way s i need (comes bytes ∷ moves) s2 sound none stands (mid, before, (p, first, fetches)) =
    let way = serves_way s i need moves mid sound none stands before in
    let taken = slot_taken mid i p fetches.slot way.0.slots fetches.page in
    let on = fetch_on s i need (tally leaves moves) mid p bytes s2 way.0.frames way.1 first.0 fetches (λ k there. slot_taken mid i p k way.0.slots there) in
    let same : tally leaves moves ≡ 0 + tally leaves moves = omega arith in (
      subst IsSound (sym fetches.leaves) (is_sound_fetched mid i p fetches.frame fetches.slot fetches.others bytes way.0 fetches.page fetches.free taken fetches.whole),
      subst (λ n. IsOnTheWay s i need n s2) same on.0,
    )
serves_way s i need (goes ∷ moves) s2 sound none stands (mid, before, (lacks, (j, p, taken, evicts))) =
    let way = serves_way s i need moves mid sound none stands before in
    let on = evict_on s i need (tally leaves moves) mid j p s2 way.0 way.1 taken evicts in
    let same : tally leaves moves + 1 ≡ 1 + tally leaves moves = omega arith in
    let x = stood_on mid j p evicts.frame evicts.page in
    let vacant = vacant_there mid evicts.slot evicts.others way.0.slots evicts.vacant in (
      subst IsSound (sym evicts.leaves) (is_sound_evicted mid j p evicts.frame evicts.slot evicts.others x.0 way.0 (can_leave mid i need j p taken) x.1 x.2 vacant evicts.vacant),
      subst (λ n. IsOnTheWay s i need n s2) same on.0,
    )

-- each move brings the step nearer
pub moves_nearer : MovesAreFew
moves_nearer s i need moves mid sound none stands serves = bounded s i need (tally leaves moves) mid (serves_way s i need moves mid sound none stands serves).1

cond_mine : (i : ℕ) (pages frames : List ℕ) → pinned_by (Some (record { place = i; pages = pages; frames = frames })) i ≡ pages
cond_mine i pages frames = cond_here i pages []

pub provision_is_right : ProvisionIsRight
provision_is_right s i need n s2 sound none stands (moves, mid, serves, many, served, earmarks) =
    let way = serves_way s i need moves mid sound none stands serves in
    let live : (t : Occupant) × occupant_at mid i t × (t.live ≡ true) = (stands.0, ap (λ xs. slice_get xs i) way.1.occupants ∙ stands.1, stands.2) in
    let few = frames_in_all_few mid i need in
    let zeros = way.1.serving.kept in
    let tables : s2.tables ≡ mid.tables = ap (λ a. a.tables) earmarks.leaves in
    let pins : s2.pins ≡ Some (record { place = i; pages = pinned_by mid.pins i; frames = kept mid.pins ++ earmarks.frames }) = ap (λ a. a.pins) earmarks.leaves in
    let pages : pinned_by s2.pins i ≡ pinned_by mid.pins i = rw pins (cond_mine i (pinned_by mid.pins i) (kept mid.pins ++ earmarks.frames)) in
    record {
      sound = is_sound_earmarked mid i (frames_to_write mid i need) s2 way.0 live (omega arith) earmarks;
      ready = ends_ready s i need (tally leaves moves) mid s2 way.1 served.0 earmarks;
      pinned = λ p some there. rw pages (way.1.serving.pinned p some (rw tables at there));
      bounded = (let b = bounded s i need (tally leaves moves) mid way.1 in omega arith);
      others = λ j t other is. (let a = way.1.others j t other is in let e : charged_of s2 j ≡ charged_of mid j = ap (λ a. charged_of a j) earmarks.leaves in omega arith);
    }
