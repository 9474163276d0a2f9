-- Pins and earmarks that change leave everything sound.
use Rattle.std.proofs.Common.{◌≡◌, ℕ, ◌+◌, ◌≤◌, ◌++◌, inl, inr, cond, nat_eq, true, false, Bool, List, [], ◌∷◌, Option, Some, None, length, min, refl, sym, ap, subst, arith, length-append, rules}
use Rattle.std.proofs.lemmas.Bool.Decides.{nat_tests}
use Rattle.wh_model.specs.declared.memory.Need.{Need}
use Rattle.wh_space_model.specs.{tally, one_if, BeginsEvict, Reserves, Earmarks, pinned, residents, unpinned, IsSound, PinsAreSound, Occupant, Pins, Space, kept, occupant_at, pinned_by, sharers, among, below, copies, frames_for, frames_in_all, pages_of_need, at, page_at, resident, shares, swapped, untouched}
use Rattle.wh_space_model.proofs.Tally.{tally-append, one_other}
use Rattle.wh_space_model.specs.declared.states.Page.{Page}
use Rattle.wh_space_model.specs.declared.states.Page.TheVariants.{Untouched, Private, Shared, Leaving, LeavingShared, Coming, Swapped}
use Rattle.wh_space_model.proofs.Wanting.{few_pages, two_at_most}
use Rattle.wh_space_model.proofs.Sums.{below_le, below_one, below_tally, below_zero, tally_le, tally_ones, tally_plus}
use Rattle.wh_space_model.proofs.Putting.{here_or, pinned_here, pinned_other}
use Rattle.wh_space_model.proofs.Begun.{is_sound_begun}
use Rattle.wh_space_model.proofs.Serving.{can_leave}
use Rattle.wh_space_model.proofs.Evicted.{names_other, used_other}

-- other pins, and other free frames
unfoldable pub repinned : Space → Option Pins → List ℕ → Space
repinned s pins others = record s { pins = pins; pool = record s.pool { free = others } }

pub is_sound_repinned : (s : Space) (pins : Option Pins) (others : List ℕ) → IsSound s
    → ((f : ℕ) → tally (one_if f) others + tally (one_if f) (kept pins) ≡ tally (one_if f) s.pool.free + tally (one_if f) (kept s.pins))
    → PinsAreSound (repinned s pins others) → IsSound (repinned s pins others)
unfolding repinned
is_sound_repinned s pins others sound sums well = record {
  frames = search (rules, names_other);
  slots = search (rules, used_other);
  occupants = search rules;
  pins = well;
  admissible = sound.admissible;
}

pub is_sound_unpinned : (s : Space) → IsSound s → IsSound (unpinned s)
unfolding repinned
is_sound_unpinned s sound =
    is_sound_repinned s None (s.pool.free ++ kept s.pins) sound (λ f. (let a = tally-append (one_if f) s.pool.free (kept s.pins) in omega arith)) (record {
      few = omega arith;
      there = λ i p some. absurd (omega arith);
      of = λ pins is. absurd (let bad : None ≡ Some pins = is in cc);
    })

-- what is pinned for a step is resident
residents_are : (s : Space) (i p : ℕ) (ps : List ℕ) → 1 ≤ tally (one_if p) (residents s i ps) → at resident (page_at s.tables i p) ≡ 1
residents_are s i p [] some = absurd (omega arith)
residents_are s i p (q ∷ ps) some = go (residents_are s i p ps) (nat_eq (at resident (page_at s.tables i q)) 1) refl some where
  there : (q : ℕ) → nat_eq (at resident (page_at s.tables i q)) 1 ≡ true → at resident (page_at s.tables i q) ≡ 1
  there q e = grind (arith, nat_tests)

  go : (1 ≤ tally (one_if p) (residents s i ps) → at resident (page_at s.tables i p) ≡ 1) → (b : Bool) → nat_eq (at resident (page_at s.tables i q)) 1 ≡ b → 1 ≤ tally (one_if p) (cond b (q ∷ residents s i ps) (residents s i ps)) → at resident (page_at s.tables i p) ≡ 1
  go rest false e more = rest more
  go rest true e more =
      elim (here_or p q) [
        | inl same ↦ subst (λ z. at resident (page_at s.tables i z) ≡ 1) same (there q e)
        | inr other ↦ (let o = one_other p q (λ a. other (sym a)) in rest (omega arith))
      ]

place_of : Option Pins → ℕ
place_of None = 0
place_of (Some pins) = pins.place

pub mine_live : (s : Space) (i : ℕ) (pages frames : List ℕ) → (t : Occupant) × occupant_at s i t × (t.live ≡ true)
    → (pins : Pins) → Some (record { place = i; pages = pages; frames = frames }) ≡ Some pins → (t : Occupant) × occupant_at s pins.place t × (t.live ≡ true)
unfolding place_of
mine_live s i pages frames t pins is = (let e : i ≡ pins.place = ap place_of is in (t.0, subst (λ z. occupant_at s z t.0) e t.1, t.2))

pub is_sound_pinned : (s : Space) (i : ℕ) (need : Need) → IsSound s → (t : Occupant) × occupant_at s i t × (t.live ≡ true) → IsSound (pinned s i need)
unfolding repinned
is_sound_pinned s i need sound t =
    let pages : List ℕ = residents s i (pages_of_need need) in
    is_sound_repinned s (Some (record { place = i; pages = pages; frames = [] })) (s.pool.free ++ kept s.pins) sound (λ f. (let a = tally-append (one_if f) s.pool.free (kept s.pins) in omega arith)) (record {
      few = omega arith;
      there = search (rules, here_or, pinned_other, residents_are, pinned_here);
      of = λ pins is. mine_live s i pages [] t pins is;
    })

pub is_sound_earmarked : (s : Space) (i n : ℕ) (s2 : Space) → IsSound s → (t : Occupant) × occupant_at s i t × (t.live ≡ true) → length (kept s.pins) + n ≤ 2 → Earmarks s i n s2 → IsSound s2
unfolding repinned
is_sound_earmarked s i n s2 sound t few moves =
    let pages : List ℕ = pinned_by s.pins i in
    let frames : List ℕ = kept s.pins ++ moves.frames in
    subst IsSound (sym moves.leaves) (is_sound_repinned s (Some (record { place = i; pages = pages; frames = frames })) moves.others sound
    (λ f. (let a = tally-append (one_if f) (kept s.pins) moves.frames in let b = tally-append (one_if f) moves.others moves.frames in let c = ap (tally (one_if f)) moves.free in omega arith)) (record {
      few = (let a = length-append (kept s.pins) moves.frames in let b = moves.many in omega arith);
      there = search (rules, here_or, pinned_other, pinned_here);
      of = λ pins is. mine_live s i pages frames t pins is;
    }))

-- a step wants at most a frame for each of its pages
shared_sum : (n : ℕ) (x : Option Page) → (at swapped x + at untouched x) + below n (λ f. at (shares f) x) ≤ 1
shared_sum n None = let z = below_zero n in omega arith
shared_sum n (Some Untouched) = let z = below_zero n in omega arith
shared_sum n (Some (Private g)) = let z = below_zero n in omega arith
shared_sum n (Some (Shared g)) = let o = below_one n g in omega arith
shared_sum n (Some (Leaving g)) = let z = below_zero n in omega arith
shared_sum n (Some (LeavingShared g)) = let o = below_one n g in omega arith
shared_sum n (Some (Coming k)) = let z = below_zero n in omega arith
shared_sum n (Some (Swapped k)) = let z = below_zero n in omega arith

copies_le : (t s : ℕ) → copies t s ≤ t
copies_le t s = grind (arith, nat_tests)

cond_le : (b : Bool) (n : ℕ) → cond b n 0 ≤ n
cond_le true n = omega arith
cond_le false n = omega arith

pub frames_in_all_few : (s : Space) (i : ℕ) (need : Need) → frames_in_all s i need ≤ 2
frames_in_all_few s i need =
    let n = length s.pool.frames in
    let ps : List ℕ = pages_of_need need in
    let few = two_at_most ps (few_pages need) in
    let copy = below_le n (λ f. copies (among (shares f) s i ps) (sharers s f)) (λ f. among (shares f) s i ps) (λ f less. copies_le (among (shares f) s i ps) (sharers s f)) in
    let swap = below_tally n (λ f p. at (shares f) (page_at s.tables i p)) ps in
    let each = tally_le (λ p. (at swapped (page_at s.tables i p) + at untouched (page_at s.tables i p)) + below n (λ f. at (shares f) (page_at s.tables i p))) (λ p. 1) ps (λ p. shared_sum n (page_at s.tables i p)) in
    let one = tally_plus (λ p. at swapped (page_at s.tables i p) + at untouched (page_at s.tables i p)) (λ p. below n (λ f. at (shares f) (page_at s.tables i p))) ps in
    let two = tally_plus (λ p. at swapped (page_at s.tables i p)) (λ p. at untouched (page_at s.tables i p)) ps in
    let ones = tally_ones ps in
    let some = cond_le need.writes (frames_for s i ps) in
    omega arith

pub is_sound_reserved : (s : Space) (i : ℕ) (need : Need) (s2 : Space) → IsSound s → (t : Occupant) × occupant_at s i t × (t.live ≡ true) → Reserves s i need s2 → IsSound s2
is_sound_reserved s i need s2 sound t reserves =
    let few = frames_in_all_few s i need in
    is_sound_earmarked (pinned s i need) i (min (length (pinned s i need).pool.free) (frames_in_all s i need)) s2 (is_sound_pinned s i need sound t) t (omega arith) reserves

-- an eviction that begins leaves everything sound
pub begin_evict_sound : (s s2 : Space) (i : ℕ) (slot : Option ℕ) (bytes : List ℕ) → IsSound s → BeginsEvict s i slot bytes s2 → IsSound s2
begin_evict_sound s s2 i None bytes sound (inl (stands, is)) = subst IsSound (sym is) sound
begin_evict_sound s s2 i None bytes sound (inr (need, stands, reserves, why)) = is_sound_reserved s i need s2 sound (stands.0, stands.1, stands.2) reserves
begin_evict_sound s s2 i (Some k) bytes sound (need, stands, s1, reserves, lacks, j, p, f, taken, old, new, there, on, as_it, is, others, list, moves) =
    let sound1 = is_sound_reserved s i need s1 sound (stands.0, stands.1, stands.2) reserves in
    subst IsSound (sym moves) (is_sound_begun s1 j p k others old new sound1 (can_leave s1 i need j p taken) there as_it list)
