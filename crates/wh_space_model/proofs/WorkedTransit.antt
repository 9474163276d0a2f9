-- Provision, tickets and claims on small spaces, by hand.
use Rattle.std.proofs.Common.{◌≡◌, ℕ, ◌+◌, ◌<◌, ◌≤◌, ◌++◌, inl, inr, List, Option, [], ◌∷◌, Some, None, true, false, Bool, length, get_or, slice_get, zero, suc, refl, sym, ap, ◌∙◌, subst, arith, rules}
use Rattle.wh_model.specs.declared.memory.Need.{Need}
use Rattle.wh_space_model.specs.{tally, one_if, BeginsEvict, CommitsEvict, CommitsFetch, Reserves, departing, not_sent, sent_off, settled, with_free, with_leaving, without_slot, IsOnTouched, charged_of, CanBeTaken, CanLeave, HasLess, IsBeside, IsEarlier, IsPayer, IsShed, MayPay, NobodyPays, Earmarks, Evicts, evicted, pinned, unpinned_of, Exits, freed_by, released_mark, released_use, LacksFree, Provides, goes, Occupant, Space, frame_bytes, kept_by, sharers, Overwrites, below, count_of, lies_in, owns, page_at, shares}
use Rattle.wh_space_model.specs.declared.Tax.{Tax}
use Rattle.wh_space_model.specs.declared.states.Page.{Page}
use Rattle.wh_space_model.specs.declared.states.Page.TheVariants.{Untouched, Private, Shared, Leaving, LeavingShared, Swapped}
use Rattle.wh_space_model.specs.declared.states.Mark.{Mark}
use Rattle.wh_space_model.specs.declared.states.Mark.TheVariants.{Plain, Sharers}
use Rattle.wh_space_model.specs.declared.states.Slot.{Slot}
use Rattle.wh_space_model.specs.declared.states.Slot.TheVariants.{Vacant, Evicting, EvictVoid, FetchVoid}
use Rattle.wh_space_model.specs.declared.states.EvictEnd.TheVariants.{Evicted, Void, Failed}
use Rattle.wh_space_model.specs.declared.states.FetchEnd.TheVariants.{Void as FetchIsVoid}
use Rattle.wh_space_model.proofs.Charging.{charged_at}
use Rattle.wh_space_model.specs.Ready.{Ready}

-- where one alone may have to pay, it does
pub only_payer : (s : Space) (i : ℕ) → MayPay s i → ((j : ℕ) → MayPay s j → j ≡ i) → IsPayer s i
only_payer s i may only = record {
  may_pay = may;
  least = λ j pays less. (let same = only j pays in let l : HasLess s i i = subst (λ z. HasLess s z i) same less in let bad = l may.0.0 may.0.0 may.0.1 may.0.1 in omega arith);
  first = λ j pays earlier. (let same = only j pays in let l : IsEarlier s i i = subst (λ z. IsEarlier s z i) same earlier in absurd (let bad = l may.0.0 may.0.0 may.0.1 may.0.1 in omega arith));
}

abbrev tenant : ℕ → Option Need → Occupant
tenant n stands = record { number = n; live = true; shares = 100; min = 2; max = 16; stands = stands; leaves = None }

-- two instances with these pages, on frames of which these are free
abbrev both : Tax → Option Need → List Page → List Page → List Bool → List ℕ → List Mark → Space
both tax stands a b touched free marks = record {
  occupants = Some (tenant 0 stands) ∷ Some (tenant 1 None) ∷ [];
  tables = a ∷ b ∷ [];
  touched = touched ∷ (true ∷ true ∷ true ∷ []) ∷ [];
  pool = record { frames = [] ∷ [] ∷ [] ∷ [] ∷ [] ∷ []; free = free };
  marks = marks;
  slots = record { uses = Vacant ∷ Vacant ∷ []; vacant = 0 ∷ 1 ∷ []; held = [] ∷ [] ∷ [] };
  pins = None;
  tax = tax;
}

-- where the first has two pages, at its minimum, nobody but the second may have to pay
second_pays : (s : Space) (stands leaves : Option Need) → s.occupants ≡ Some (tenant 0 stands) ∷ Some (tenant 1 leaves) ∷ [] → charged_of s 0 ≡ 2 → (j : ℕ) → MayPay s j → j ≡ 1
second_pays s stands leaves all few zero pays = search rules
second_pays s stands leaves all few (suc zero) pays = refl
second_pays s stands leaves all few (suc (suc j)) pays = search rules

-- Shares 100 and a minimum of 2 each. The first has two idle pages and the greater weight, the second three that were touched:
-- the second pays, since the first isn't above its minimum.
pays_above_minimum : (tax : Tax) → IsPayer (both tax None (Private 0 ∷ Private 1 ∷ []) (Private 2 ∷ Private 3 ∷ Private 4 ∷ []) (false ∷ false ∷ []) [] []) 1
pays_above_minimum tax =
    let s : Space = both tax None (Private 0 ∷ Private 1 ∷ []) (Private 2 ∷ Private 3 ∷ Private 4 ∷ []) (false ∷ false ∷ []) [] [] in
    let more : 2 < 3 = omega arith in
    only_payer s 1 ((tenant 1 None, refl, more), (0, ((refl, refl, (tenant 1 None, refl, refl)), (2, charged_at s 1 0 2 refl refl (λ q on. omega arith))))) (second_pays s None None refl refl)

-- Two instances share two frames of four; the second has a page of its own, and one frame is free. The first is to store over
-- both shared pages. That wants two frames, so it isn't ready.
abbrev over : Need
over = record { at = 4092; length = 8; writes = true }

abbrev shared : Tax → List ℕ → List ℕ → List ℕ → List ℕ → Space
shared tax x y z free = record (both tax (Some over) (Shared 0 ∷ Shared 1 ∷ Untouched ∷ []) (Shared 0 ∷ Shared 1 ∷ Private 2 ∷ []) (true ∷ true ∷ false ∷ []) (3 ∷ []) (Sharers 7 2 ∷ Sharers 8 2 ∷ Plain ∷ Plain ∷ [])) {
  pool = record { frames = x ∷ y ∷ z ∷ free ∷ []; free = 3 ∷ [] };
}

not_ready : (tax : Tax) (x y z free : List ℕ) → ¬ Ready (shared tax x y z free) 0 over
not_ready tax x y z free ready = let enough : 2 ≤ 1 = ready.1 in omega arith

least_min : Option (Option Occupant) → ℕ
least_min None = 2
least_min (Some None) = 2
least_min (Some (Some t)) = t.min

-- Nobody is above the minimum: two frames are charged to the first, and one to the second.
nobody_pays : (tax : Tax) (x y z free : List ℕ) → NobodyPays (pinned (shared tax x y z free) 0 over)
unfolding least_min
nobody_pays tax x y z free zero pays = let is : Some (Some (tenant 0 (Some over))) ≡ Some (Some pays.0.0) = pays.0.1 in let least : 2 ≡ pays.0.0.min = ap least_min is in let more : pays.0.0.min < 2 = pays.0.2 in omega arith
nobody_pays tax x y z free (suc zero) pays = let is : Some (Some (tenant 1 None)) ≡ Some (Some pays.0.0) = pays.0.1 in let least : 2 ≡ pays.0.0.min = ap least_min is in let more : pays.0.0.min < 1 = pays.0.2 in omega arith
nobody_pays tax x y z free (suc (suc j)) pays = let is : None ≡ Some (Some pays.0.0) = pays.0.1 in cc

-- beside the step, the second instance's first page alone shares the frame of the step's first
only_beside : (tax : Tax) (x y z free : List ℕ) (k q : ℕ) → IsBeside (pinned (shared tax x y z free) 0 over) 0 over 0 k q → (k ≡ 1) × (q ≤ 0)
only_beside tax x y z free zero zero beside = absurd (let z : 1 ≡ 0 = beside.apart refl in omega arith)
only_beside tax x y z free zero (suc zero) beside = absurd (let z : 0 ≡ 1 = beside.shares in omega arith)
only_beside tax x y z free zero (suc (suc zero)) beside = absurd (let z : 0 ≡ 1 = beside.shares in omega arith)
only_beside tax x y z free zero (suc (suc (suc q))) beside = absurd (let z : 0 ≡ 1 = beside.shares in omega arith)
only_beside tax x y z free (suc zero) zero beside = (refl, omega arith)
only_beside tax x y z free (suc zero) (suc zero) beside = absurd (let z : 0 ≡ 1 = beside.shares in omega arith)
only_beside tax x y z free (suc zero) (suc (suc zero)) beside = absurd (let z : 0 ≡ 1 = beside.shares in omega arith)
only_beside tax x y z free (suc zero) (suc (suc (suc q))) beside = absurd (let z : 0 ≡ 1 = beside.shares in omega arith)
only_beside tax x y z free (suc (suc k)) q beside = absurd (let z : 0 ≡ 1 = beside.shares in omega arith)

sheds_first : (tax : Tax) (x y z free : List ℕ) → IsShed (pinned (shared tax x y z free) 0 over) 0 over 1 0
sheds_first tax x y z free =
    let s1 : Space = pinned (shared tax x y z free) 0 over in
    let can : CanLeave s1 1 0 = (refl, refl, (tenant 1 None, refl, refl)) in
    let beside : IsBeside s1 0 over 0 1 0 = record { shares = refl; apart = λ e. absurd (omega arith); can = can } in
    let page : 1 ≤ 1 = omega arith in
    let more : 1 < 2 = omega arith in
    record {
      page = 0;
      frame = 0;
      sheds = record { writes = refl; page = page; on = refl; charged = refl; more = more; beside = (1, 0, beside) };
      lower = λ q f sheds. omega arith;
      beside = beside;
      greatest = λ k q other. inr (only_beside tax x y z free k q other);
    }

-- One page leaves, the second's first. Its frame keeps one sharer, so none is free that wasn't, and one is wanted. Then all four
-- frames are free for nobody else, and one slot is in use.
-- what is left then
abbrev pub provided : Tax → List ℕ → List ℕ → List ℕ → List ℕ → Space
provided tax x y z free =
    let s2 : Space = evicted (pinned (shared tax x y z free) 0 over) 1 0 0 1 (0 ∷ []) in
    record s2 { pool = record s2.pool { free = [] }; pins = Some (record { place = 0; pages = 0 ∷ 1 ∷ []; frames = 3 ∷ [] }) }

provided_by_one : (tax : Tax) (x y z free : List ℕ)
    → (s2 : Space) × (s2 ≡ provided tax x y z free) × Provides (shared tax x y z free) 0 over 1 s2 × (s2.pool.free ≡ []) × (kept_by s2.pins 0 ≡ 3 ∷ []) × (length s2.slots.vacant ≡ 1) × (page_at s2.tables 1 0 ≡ Some (Swapped 1))
provided_by_one tax x y z free =
    let s : Space = shared tax x y z free in
    let s1 : Space = pinned s 0 over in
    let s2 : Space = evicted s1 1 0 0 1 (0 ∷ []) in
    let s3 : Space = record s2 { pool = record s2.pool { free = [] }; pins = Some (record { place = 0; pages = 0 ∷ 1 ∷ []; frames = 3 ∷ [] }) } in
    let few : 1 < 2 = omega arith in
    let enough : 1 ≤ 1 = omega arith in
    let lacks : LacksFree s1 0 over = inr (refl, few) in
    let leaves : Evicts s1 1 0 s2 = record { frame = 0; slot = 1; others = 0 ∷ []; vacant = refl; page = inr refl; leaves = refl } in
    let earmarks : Earmarks s2 0 1 s3 = record { frames = 3 ∷ []; others = []; many = refl; free = refl; leaves = refl } in
    (s3, refl, (goes ∷ [], s2, (s1, refl, (lacks, (1, 0, inr (inl (nobody_pays tax x y z free, sheds_first tax x y z free)), leaves))), refl, (refl, enough), earmarks), refl, refl, refl, refl)

-- Five frames are in use. The first instance has two pages of its own, the second three, and the first is to store to its third:
-- the second's first page is taken, and begins to leave by a slot.
abbrev third : Need
third = record { at = 8192; length = 1; writes = true }

abbrev full : Tax → Space
full tax = both tax (Some third) (Private 0 ∷ Private 1 ∷ Untouched ∷ []) (Private 2 ∷ Private 3 ∷ Private 4 ∷ []) (true ∷ true ∷ false ∷ []) [] (Plain ∷ Plain ∷ Plain ∷ Plain ∷ Plain ∷ [])

abbrev full_pinned : Tax → Space
full_pinned tax = record (full tax) { pins = Some (record { place = 0; pages = []; frames = [] }) }

abbrev full_begun : Tax → Space
full_begun tax = departing (full_pinned tax) 1 0 1 (0 ∷ []) (Leaving 2)

full_touched : (tax : Tax) (q : ℕ) → CanBeTaken (full_pinned tax) 1 q → IsOnTouched (full_pinned tax) 1 q × (0 ≤ q)
full_touched tax zero can = ((2, refl, omega arith), omega arith)
full_touched tax (suc zero) can = ((3, refl, omega arith), omega arith)
full_touched tax (suc (suc zero)) can = ((4, refl, omega arith), omega arith)
full_touched tax (suc (suc (suc q))) can = absurd (let z : 0 ≡ 1 = can.0.0 in omega arith)

begins : (tax : Tax) → BeginsEvict (full tax) 0 (Some 1) [] (full_begun tax)
begins tax =
    let s1 : Space = full_pinned tax in
    let can : CanBeTaken s1 1 0 = ((refl, refl, (tenant 1 None, refl, refl)), (2, charged_at s1 1 0 2 refl refl (λ q on. omega arith))) in
    let more : 2 < 3 = omega arith in
    let few : 0 < 1 = omega arith in
    let payer : IsPayer s1 1 = only_payer s1 1 ((tenant 1 None, refl, more), (0, can)) (second_pays s1 (Some third) None refl refl) in
    let reserves : Reserves (full tax) 0 third s1 = record { frames = []; others = []; many = refl; free = refl; leaves = refl } in
    (third, (tenant 0 (Some third), refl, refl, refl), s1, reserves, few, 1, 0, 2, inl (payer, (can, inr (full_touched tax))), Private 2, Leaving 2, refl, refl, refl, refl, 0 ∷ [], refl, refl)

-- It is written before the ticket is back: the ticket is void whatever the device says, no frame is free and no slot in use.
void_uses : (s : Space) (j : ℕ) (wrote : Bool) (bytes : List ℕ) (end : _) (s2 : Space) → slice_get s.slots.uses 1 ≡ Some (EvictVoid j) → CommitsEvict s 1 wrote bytes end s2
    → (end ≡ Void) × (s2.pool ≡ s.pool) × (s2.slots.vacant ≡ s.slots.vacant ++ 1 ∷ [])
void_uses s j wrote bytes end s2 void (inl (i, at_it, ends, is)) = (ends, ap (λ a. a.pool) is, ap (λ a. a.slots.vacant) is)
void_uses s j wrote bytes end s2 void (inr (i, p, f, at_it, page, there, on, rest)) = absurd (let bad : Some (EvictVoid j) ≡ Some (Evicting i p) = sym void ∙ at_it in cc)

written_meanwhile : (tax : Tax) (s2 : Space) (wrote : Bool) (bytes : List ℕ) (end : _) (s3 : Space) → Overwrites (full_begun tax) 1 0 (9 ∷ []) s2 → CommitsEvict s2 1 wrote bytes end s3
    → (end ≡ Void) × (s3.pool.free ≡ []) × (length s3.slots.vacant ≡ 2)
written_meanwhile tax s2 wrote bytes end s3 writes commits = search rules

-- An eviction that begins again then takes the same page again, with the bytes that stand in its frame now.
abbrev full_written : Tax → List (List ℕ) → Space
full_written tax frames = record (full_pinned tax) { pool = record { frames = frames; free = [] } }

still_touched : (tax : Tax) (frames : List (List ℕ)) (q : ℕ) → CanBeTaken (full_written tax frames) 1 q → IsOnTouched (full_written tax frames) 1 q × (0 ≤ q)
still_touched tax frames zero can = ((2, refl, omega arith), omega arith)
still_touched tax frames (suc zero) can = ((3, refl, omega arith), omega arith)
still_touched tax frames (suc (suc zero)) can = ((4, refl, omega arith), omega arith)
still_touched tax frames (suc (suc (suc q))) can = absurd (let z : 0 ≡ 1 = can.0.0 in omega arith)

begins_again : (tax : Tax) (frames : List (List ℕ)) → length frames ≡ 5 → BeginsEvict (full_written tax frames) 0 (Some 1) (get_or frames 2 []) (departing (full_written tax frames) 1 0 1 (0 ∷ []) (Leaving 2))
begins_again tax frames many =
    let s1 : Space = full_written tax frames in
    let can : CanBeTaken s1 1 0 = ((refl, refl, (tenant 1 None, refl, refl)), (2, charged_at s1 1 0 2 refl refl (λ q on. omega arith))) in
    let mine : charged_of s1 1 ≡ 3 = rw many refl in
    let others : charged_of s1 0 ≡ 2 = rw many refl in
    let more : 2 < charged_of s1 1 = rw mine (omega arith) in
    let few : 0 < 0 + (1 + below (length frames) (λ f. 0)) = omega arith in
    let payer : IsPayer s1 1 = only_payer s1 1 ((tenant 1 None, refl, more), (0, can)) (second_pays s1 (Some third) None refl others) in
    let reserves : Reserves s1 0 third s1 = record { frames = []; others = []; many = omega arith; free = refl; leaves = refl } in
    (third, (tenant 0 (Some third), refl, refl, refl), s1, reserves, few, 1, 0, 2, inl (payer, (can, inr (still_touched tax frames))), Private 2, Leaving 2, refl, refl, refl, refl, 0 ∷ [], refl, refl)

-- what a store and the void ticket leave
void_leaves : (s2 s3 : Space) (wrote : Bool) (bytes : List ℕ) (end : _) → slice_get s2.slots.uses 1 ≡ Some (EvictVoid 1) → CommitsEvict s2 1 wrote bytes end s3
    → s3 ≡ settled (with_leaving (without_slot s2 1) 1 None) 1
void_leaves s2 s3 wrote bytes end void (inl (j, at_it, ends, is)) = search rules
void_leaves s2 s3 wrote bytes end void (inr (i, p, f, at_it, page, there, on, rest)) = absurd (let bad : Some (EvictVoid 1) ≡ Some (Evicting i p) = sym void ∙ at_it in cc)

taken_again : (tax : Tax) (s2 : Space) (wrote : Bool) (bytes : List ℕ) (end : _) (s3 : Space) → Overwrites (full_begun tax) 1 0 (9 ∷ []) s2 → CommitsEvict s2 1 wrote bytes end s3
    → (s4 : Space) × BeginsEvict s3 0 (Some 1) (frame_bytes s3 2) s4 × (page_at s3.tables 1 0 ≡ Some (Private 2)) × (page_at s4.tables 1 0 ≡ Some (Leaving 2))
taken_again tax s2 wrote bytes end s3 writes commits = search rules

-- The device fails: the page is as before, and no slot in use.
device_fails : (tax : Tax) → (s2 : Space) × CommitsEvict (full_begun tax) 1 false [] Failed s2 × (page_at s2.tables 1 0 ≡ Some (Private 2)) × (length s2.slots.vacant ≡ 2)
device_fails tax = (not_sent (full_begun tax) 1 0 1 (Private 2), inr (1, 0, 2, refl, Leaving 2, refl, refl, inr (inr (refl, refl), Private 2, refl, refl)), refl, refl)

-- The second instance is released: two frames are in use, and one slot, that of the ticket. When this comes back it is void, and
-- the place is free.
abbrev full_released : Tax → Space
full_released tax = record (full_begun tax) {
  occupants = Some (tenant 0 (Some third)) ∷ Some (record (tenant 1 None) { live = false; leaves = Some 1 }) ∷ [];
  tables = (Private 0 ∷ Private 1 ∷ Untouched ∷ []) ∷ [] ∷ [];
  touched = (true ∷ true ∷ false ∷ []) ∷ [] ∷ [];
  pool = record { frames = [] ∷ [] ∷ [] ∷ [] ∷ [] ∷ []; free = 2 ∷ 3 ∷ 4 ∷ [] };
  slots = record { uses = Vacant ∷ EvictVoid 1 ∷ []; vacant = 0 ∷ []; held = [] ∷ [] ∷ [] };
}

plain_still : (tax : Tax) (f : ℕ) (m : Mark) → slice_get (full tax).marks f ≡ Some m → slice_get (full tax).marks f ≡ Some (released_mark 1 (count_of (shares f) (full_begun tax).tables 1) m)
plain_still tax zero m e = (let k : Plain ≡ m = cc in rw (← k) refl)
plain_still tax (suc zero) m e = (let k : Plain ≡ m = cc in rw (← k) refl)
plain_still tax (suc (suc zero)) m e = (let k : Plain ≡ m = cc in rw (← k) refl)
plain_still tax (suc (suc (suc zero))) m e = (let k : Plain ≡ m = cc in rw (← k) refl)
plain_still tax (suc (suc (suc (suc zero)))) m e = (let k : Plain ≡ m = cc in rw (← k) refl)
plain_still tax (suc (suc (suc (suc (suc f))))) m e = cc

use_after : (tax : Tax) (k : ℕ) (x : Slot) → slice_get (full_begun tax).slots.uses k ≡ Some x → slice_get (full_released tax).slots.uses k ≡ Some (released_use 1 (count_of (lies_in k) (full_begun tax).tables 1) x)
use_after tax zero x e = (let k : Vacant ≡ x = cc in rw (← k) refl)
use_after tax (suc zero) x e = (let k : Evicting 1 0 ≡ x = cc in rw (← k) refl)
use_after tax (suc (suc k)) x e = cc

free_after : (tax : Tax) (f : ℕ) → tally (one_if f) (full_released tax).pool.free ≡ tally (one_if f) (unpinned_of (full_begun tax) 1).pool.free + (count_of (owns f) (full_begun tax).tables 1 + freed_by (count_of (shares f) (full_begun tax).tables 1) (sharers (full_begun tax) f))
free_after tax f = omega arith

vacant_after : (tax : Tax) (k : ℕ) → tally (one_if k) (full_released tax).slots.vacant ≡ tally (one_if k) (full_begun tax).slots.vacant + count_of (lies_in k) (full_begun tax).tables 1
vacant_after tax k = omega arith

released_meanwhile : (tax : Tax)
    → Exits (full_begun tax) 1 (full_released tax)
    × ((wrote : Bool) (bytes : List ℕ) (end : _) (s3 : Space) → CommitsEvict (full_released tax) 1 wrote bytes end s3 → (end ≡ Void) × (length s3.pool.free ≡ 3) × (length s3.slots.vacant ≡ 2))
released_meanwhile tax = (
  record {
    occupant = record (tenant 1 None) { leaves = Some 1 };
    was = (refl, refl);
    tables = refl;
    touched = refl;
    bytes = refl;
    free = free_after tax;
    entries = refl;
    marks = plain_still tax;
    held = refl;
    slots = refl;
    vacant = vacant_after tax;
    uses = use_after tax;
    occupants = refl;
    pins = refl;
    tax = refl;
  },
  λ wrote bytes end s3 commits. (let ends = void_uses (full_released tax) 1 wrote bytes end s3 refl commits in (ends.0, ap (λ a. length a.free) ends.1, ap length ends.2)),
)

-- A page that is leaving had a frame with another sharer, which has its own frame since it was written. When the page is in its
-- slot the old frame is free, and its entry forgotten.
abbrev pub last_sharer : Tax → List ℕ → ℕ → Space
last_sharer tax x h = record (both tax None (Private 1 ∷ []) (LeavingShared 0 ∷ []) (true ∷ []) [] (Sharers h 1 ∷ Plain ∷ [])) {
  pool = record { frames = x ∷ x ∷ []; free = [] };
  slots = record { uses = Evicting 1 0 ∷ []; vacant = []; held = x ∷ [] };
}

last_sharer_leaves : (tax : Tax) (x : List ℕ) (h : ℕ) → (s2 : Space) × CommitsEvict (last_sharer tax x h) 0 true x Evicted s2 × (s2.pool.free ≡ 0 ∷ []) × (s2.marks ≡ Plain ∷ Plain ∷ [])
last_sharer_leaves tax x h = (sent_off (last_sharer tax x h) 1 0 0 0, inr (1, 0, 0, refl, LeavingShared 0, refl, refl, inl (refl, refl, refl, refl)), refl, refl)

-- A fetch began, and the instance was released: when the ticket is back, frame, slot and place are free.
abbrev fetch_left : Tax → Space
fetch_left tax = record {
  occupants = Some (record (tenant 0 None) { live = false }) ∷ [];
  tables = [] ∷ [];
  touched = [] ∷ [];
  pool = record { frames = [] ∷ []; free = [] };
  marks = Plain ∷ [];
  slots = record { uses = FetchVoid 0 0 ∷ []; vacant = []; held = [] ∷ [] };
  pins = None;
  tax = tax;
}

fetch_is_void : (tax : Tax) (bytes : List ℕ) → (s2 : Space) × CommitsFetch (fetch_left tax) 0 true bytes FetchIsVoid s2 × (s2.pool.free ≡ 0 ∷ []) × (s2.slots.vacant ≡ 0 ∷ []) × (s2.occupants ≡ None ∷ [])
fetch_is_void tax bytes = (settled (with_free (without_slot (fetch_left tax) 0) 0) 0, inl (0, 0, refl, refl, refl), refl, refl, refl)
