-- What a slot is used for, from a page or from the list of vacant ones.
use Rattle.std.proofs.Common.{◌≡◌, ℕ, ◌+◌, ◌≤◌, ◌++◌, List, [], ◌∷◌, Option, Some, None, slice_get, refl, arith, rules}
use Rattle.wh_space_model.specs.{tally, one_if, Space, SlotsAreSound, IsUsed, page_at, lies_in, count}
use Rattle.wh_space_model.proofs.Tally.{one_same, tally-append}
use Rattle.wh_space_model.specs.declared.states.Page.TheVariants.{Swapped}
use Rattle.wh_space_model.specs.declared.states.Slot.{Slot}
use Rattle.wh_space_model.specs.declared.states.Slot.TheVariants.{Vacant, Taken, Evicting, EvictVoid, Fetching, FetchVoid}
use Rattle.wh_space_model.proofs.Putting.{get_pages}

-- a swapped page's slot is taken
lies_taken : (s : Space) (k : ℕ) (state : Option Slot) → IsUsed s k state → 1 ≤ count (lies_in k) s.tables → state ≡ Some Taken
lies_taken s k None used some = let z = used.0 in absurd (omega arith)
lies_taken s k (Some Vacant) used some = let z = used.0 in absurd (omega arith)
lies_taken s k (Some Taken) used some = refl
lies_taken s k (Some (Evicting i p)) used some = let z = used.0 in absurd (omega arith)
lies_taken s k (Some (EvictVoid i)) used some = let z = used.0 in absurd (omega arith)
lies_taken s k (Some (Fetching i p f)) used some = let z = used.0 in absurd (omega arith)
lies_taken s k (Some (FetchVoid i f)) used some = let z = used.0 in absurd (omega arith)

pub slot_taken : (s : Space) (i p k : ℕ) → SlotsAreSound s → page_at s.tables i p ≡ Some (Swapped k) → slice_get s.slots.uses k ≡ Some Taken
slot_taken s i p k sound there =
    let one = get_pages (lies_in k) s.tables i p (Swapped k) there in
    let o = one_same k k refl in
    lies_taken s k (slice_get s.slots.uses k) (sound.used k) (omega arith)

one_vacant : (s : Space) (k : ℕ) (u : Option Slot) → IsUsed s k u → 1 ≤ tally (one_if k) s.slots.vacant → u ≡ Some Vacant
one_vacant s k None used some = absurd (let z = used.2 in omega arith)
one_vacant s k (Some Vacant) used some = refl
one_vacant s k (Some Taken) used some = absurd (let z = used.2 in omega arith)
one_vacant s k (Some (Evicting i p)) used some = absurd (let z = used.2 in omega arith)
one_vacant s k (Some (EvictVoid i)) used some = absurd (let z = used.2 in omega arith)
one_vacant s k (Some (Fetching i p f)) used some = absurd (let z = used.2 in omega arith)
one_vacant s k (Some (FetchVoid i f)) used some = absurd (let z = used.2 in omega arith)

-- the number of a vacant slot is a vacant slot's
pub vacant_there : (s : Space) (k : ℕ) (others : List ℕ) → SlotsAreSound s → s.slots.vacant ≡ others ++ k ∷ [] → slice_get s.slots.uses k ≡ Some Vacant
vacant_there s k others sound list = search (rules, tally-append, one_same, one_vacant)
