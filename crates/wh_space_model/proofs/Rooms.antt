-- How many frames and slots there are: what soundness says of all together.
use Rattle.std.proofs.Common.{◌≡◌, ℕ, ◌+◌, ◌-◌, ◌<◌, ◌≤◌, List, [], ◌∷◌, Some, length, slice_get, zero, suc, refl, subst, arith}
use Rattle.wh_space_model.specs.{tally, one_if, fetches_into, is_ticket, tickets, Space, sharers, kept, below, FramesAreSound, SlotsAreSound, IsUsed, owns, shares, lies_in, resident, swapped, count}
use Rattle.wh_space_model.specs.declared.states.Page.{Page}
use Rattle.wh_space_model.specs.declared.states.Page.TheVariants.{Untouched, Private, Shared, Leaving, LeavingShared, Coming, Swapped}
use Rattle.wh_space_model.specs.declared.states.Slot.{Slot}
use Rattle.wh_space_model.specs.declared.states.Slot.TheVariants.{Vacant, Taken, Evicting, EvictVoid, Fetching, FetchVoid}
use Rattle.wh_space_model.proofs.Sums.{below_le, below_plus, below_count, below_one, below_list, below_tally, tally_le, tally_plus, get_tally}

-- a page stands on one frame at most, and then is resident
pub page_frames : (n : ℕ) (x : Page) → below n (λ f. owns f x + shares f x) ≤ resident x
page_frames n Untouched = let e = below_plus n (λ f. 0) (λ f. 0) in let z = Rattle.wh_space_model.proofs.Sums.below_zero n in omega arith
page_frames n (Private g) = let e = below_plus n (λ f. one_if f g) (λ f. 0) in let z = Rattle.wh_space_model.proofs.Sums.below_zero n in let o = below_one n g in omega arith
page_frames n (Shared g) = let e = below_plus n (λ f. 0) (λ f. one_if f g) in let z = Rattle.wh_space_model.proofs.Sums.below_zero n in let o = below_one n g in omega arith
page_frames n (Leaving g) = let e = below_plus n (λ f. one_if f g) (λ f. 0) in let z = Rattle.wh_space_model.proofs.Sums.below_zero n in let o = below_one n g in omega arith
page_frames n (LeavingShared g) = let e = below_plus n (λ f. 0) (λ f. one_if f g) in let z = Rattle.wh_space_model.proofs.Sums.below_zero n in let o = below_one n g in omega arith
page_frames n (Coming k) = let e = below_plus n (λ f. 0) (λ f. 0) in let z = Rattle.wh_space_model.proofs.Sums.below_zero n in omega arith
page_frames n (Swapped k) = let e = below_plus n (λ f. 0) (λ f. 0) in let z = Rattle.wh_space_model.proofs.Sums.below_zero n in omega arith

table_frames : (n : ℕ) (xs : List Page) → below n (λ f. tally (owns f) xs + tally (shares f) xs) ≤ tally resident xs
table_frames n xs =
    let parts = below_plus n (λ f. tally (owns f) xs) (λ f. tally (shares f) xs) in
    let own = below_tally n owns xs in
    let share = below_tally n shares xs in
    let both = tally_plus (λ x. below n (λ f. owns f x)) (λ x. below n (λ f. shares f x)) xs in
    let each = tally_le (λ x. below n (λ f. owns f x) + below n (λ f. shares f x)) resident xs (λ x. let e = below_plus n (λ f. owns f x) (λ f. shares f x) in let k = page_frames n x in omega arith) in
    omega arith

-- of all frames, those that pages stand on are no more than the resident pages, where a shared one counts for each sharer
pages_frames : (n : ℕ) (tables : List (List Page)) → below n (λ f. count (owns f) tables + count (shares f) tables) ≤ count resident tables
pages_frames n tables =
    let parts = below_plus n (λ f. count (owns f) tables) (λ f. count (shares f) tables) in
    let own = below_tally n (λ f. tally (owns f)) tables in
    let share = below_tally n (λ f. tally (shares f)) tables in
    let both = tally_plus (λ xs. below n (λ f. tally (owns f) xs)) (λ xs. below n (λ f. tally (shares f) xs)) tables in
    let each = tally_le (λ xs. below n (λ f. tally (owns f) xs) + below n (λ f. tally (shares f) xs)) (tally resident) tables (λ xs. let e = below_plus n (λ f. tally (owns f) xs) (λ f. tally (shares f) xs) in let k = table_frames n xs in omega arith) in
    omega arith

slot_frames : (n : ℕ) (x : Slot) → below n (λ f. fetches_into f x) ≤ is_ticket x
slot_frames n Vacant = let z = Rattle.wh_space_model.proofs.Sums.below_zero n in omega arith
slot_frames n Taken = let z = Rattle.wh_space_model.proofs.Sums.below_zero n in omega arith
slot_frames n (Evicting i p) = let z = Rattle.wh_space_model.proofs.Sums.below_zero n in omega arith
slot_frames n (EvictVoid i) = let z = Rattle.wh_space_model.proofs.Sums.below_zero n in omega arith
slot_frames n (Fetching i p f) = below_one n f
slot_frames n (FetchVoid i f) = below_one n f

pub slots_frames : (n : ℕ) (xs : List Slot) → below n (λ f. tally (fetches_into f) xs) ≤ tally is_ticket xs
slots_frames n xs =
    let swap = below_tally n fetches_into xs in
    let each = tally_le (λ x. below n (λ f. fetches_into f x)) is_ticket xs (slot_frames n) in
    omega arith

-- the frames: each is free, earmarked, held by a ticket, or pages stand on it; what pages save by sharing counts for them
pub frames_room : (s : Space) → FramesAreSound s
    → length s.pool.frames + below (length s.pool.frames) (λ f. sharers s f - 1) ≤ ((length s.pool.free + length (kept s.pins)) + tickets s) + count resident s.tables
frames_room s sound =
    let n = length s.pool.frames in
    let ones = below_count n in
    let sum = below_plus n (λ f. 1) (λ f. sharers s f - 1) in
    let each = below_le n (λ f. 1 + (sharers s f - 1)) (λ f. ((tally (one_if f) s.pool.free + tally (one_if f) (kept s.pins)) + tally (fetches_into f) s.slots.uses) + (count (owns f) s.tables + count (shares f) s.tables)) (λ f less. let one = sound.one f less in omega arith) in
    let a = below_plus n (λ f. (tally (one_if f) s.pool.free + tally (one_if f) (kept s.pins)) + tally (fetches_into f) s.slots.uses) (λ f. count (owns f) s.tables + count (shares f) s.tables) in
    let b = below_plus n (λ f. tally (one_if f) s.pool.free + tally (one_if f) (kept s.pins)) (λ f. tally (fetches_into f) s.slots.uses) in
    let c = below_plus n (λ f. tally (one_if f) s.pool.free) (λ f. tally (one_if f) (kept s.pins)) in
    let free = below_list n s.pool.free in
    let keep = below_list n (kept s.pins) in
    let fetch = slots_frames n s.slots.uses in
    let pages = pages_frames n s.tables in
    omega arith

-- the slots: each is vacant, a ticket's, or a swapped page lies in it
page_slots : (n : ℕ) (x : Page) → below n (λ k. lies_in k x) ≤ swapped x
page_slots n Untouched = let z = Rattle.wh_space_model.proofs.Sums.below_zero n in omega arith
page_slots n (Private g) = let z = Rattle.wh_space_model.proofs.Sums.below_zero n in omega arith
page_slots n (Shared g) = let z = Rattle.wh_space_model.proofs.Sums.below_zero n in omega arith
page_slots n (Leaving g) = let z = Rattle.wh_space_model.proofs.Sums.below_zero n in omega arith
page_slots n (LeavingShared g) = let z = Rattle.wh_space_model.proofs.Sums.below_zero n in omega arith
page_slots n (Coming k) = let z = Rattle.wh_space_model.proofs.Sums.below_zero n in omega arith
page_slots n (Swapped k) = below_one n k

pages_slots : (n : ℕ) (tables : List (List Page)) → below n (λ k. count (lies_in k) tables) ≤ count swapped tables
pages_slots n tables =
    let swap = below_tally n (λ k. tally (lies_in k)) tables in
    let each = tally_le (λ xs. below n (λ k. tally (lies_in k) xs)) (tally swapped) tables
    (λ xs. let e = below_tally n lies_in xs in let k = tally_le (λ x. below n (λ k. lies_in k x)) swapped xs (page_slots n) in omega arith) in
    omega arith

pub get_there : {X : Type 0} (xs : List X) (i : ℕ) → i < length xs → (x : X) × (slice_get xs i ≡ Some x)
get_there [] i less = absurd (omega arith)
get_there (x ∷ xs) zero less = (x, refl)
get_there (x ∷ xs) (suc i) less = get_there xs i (omega arith)

one_use : (s : Space) (k : ℕ) (x : Slot) → IsUsed s k (Some x) → 1 ≤ (tally (one_if k) s.slots.vacant + count (lies_in k) s.tables) + is_ticket x
one_use s k Vacant used = let v = used.2 in omega arith
one_use s k Taken used = let v = used.0 in omega arith
one_use s k (Evicting i p) used = omega arith
one_use s k (EvictVoid i) used = omega arith
one_use s k (Fetching i p f) used = omega arith
one_use s k (FetchVoid i f) used = omega arith

pub slots_room : (s : Space) → SlotsAreSound s → tickets s ≡ 0 → length s.slots.uses ≤ length s.slots.vacant + count swapped s.tables
slots_room s sound none =
    let n = length s.slots.uses in
    let ones = below_count n in
    let each = below_le n (λ k. 1) (λ k. tally (one_if k) s.slots.vacant + count (lies_in k) s.tables)
    (λ k less.
    let there = get_there s.slots.uses k less in
    let used : IsUsed s k (Some there.0) = subst (IsUsed s k) there.1 (sound.used k) in
    let one = one_use s k there.0 used in
    let no = get_tally is_ticket s.slots.uses k there.0 there.1 in
    omega arith) in
    let parts = below_plus n (λ k. tally (one_if k) s.slots.vacant) (λ k. count (lies_in k) s.tables) in
    let vacant = below_list n s.slots.vacant in
    let pages = pages_slots n s.tables in
    omega arith
