-- After a full pass as many frames are in use as there are distinct contents.
use Rattle.std.proofs.Common.{◌≡◌, ◌≢◌, ℕ, ◌+◌, ◌-◌, ◌<◌, ◌≤◌, ◌⊎◌, inl, inr, List, [], ◌∷◌, Some, None, length, slice_get, zero, suc, refl, sym, ap, ◌∙◌, subst, arith, cond, ◌==◌, map, true, false, Bool}
use Rattle.std.proofs.lemmas.Bool.Decides.{nat_tests}
use Rattle.std.proofs.lemmas.Bool.{cases_lt}
use Rattle.wh_space_model.specs.{zero_page, tally, one_if, ContentsAreListed, PassesFully, PassesListAll, fetches_into, is_ticket, tickets, frame_of, Space, frame_bytes, kept, sharers, IsContent, Scans, HasHash, Names, SlotsAreSound, at, count, leaving, owns, page_at, resident, shares}
use Rattle.wh_space_model.proofs.Tally.{one_same, one_other}
use Rattle.wh_space_model.specs.declared.states.Page.{Page}
use Rattle.wh_space_model.specs.declared.states.Page.TheVariants.{Untouched, Private, Shared, Leaving, LeavingShared, Coming, Swapped}
use Rattle.wh_space_model.specs.declared.states.Mark.{Mark}
use Rattle.wh_space_model.specs.declared.states.Mark.TheVariants.{Plain, Hint, Sharers, Unlisted}
use Rattle.wh_space_model.specs.declared.states.Slot.{Slot}
use Rattle.wh_space_model.specs.declared.states.Slot.TheVariants.{Vacant, Taken, Evicting, EvictVoid, Fetching, FetchVoid}
use Rattle.wh_space_model.proofs.Broken.{entry_there}
use Rattle.wh_space_model.proofs.Pairing.{as_many, list_sum, rest_sum}
use Rattle.wh_space_model.proofs.Passing.{IsScanning, IsSettled, IsStep, none_leaves, offer_step, owned_content, owner_is, page_has, shared_content}
use Rattle.wh_space_model.proofs.Putting.{get_pages, here_or, there_of}
use Rattle.wh_space_model.proofs.Rooms.{get_there}
use Rattle.wh_space_model.proofs.Sums.{tally_le}

-- ---- a whole pass

pub record IsPassed (hashes : List ℕ → ℕ) (s : Space) (pages : List (ℕ × ℕ)) (s2 : Space) : Type 0 where
  pub scanning : IsScanning hashes s2
  pub each : (k i p : ℕ) → slice_get pages k ≡ Some (i, p) → IsSettled hashes s2 i p
  pub stays : (j q : ℕ) → IsSettled hashes s j q → IsSettled hashes s2 j q
  pub less : (j q : ℕ) → at resident (page_at s2.tables j q) ≡ 1 → at resident (page_at s.tables j q) ≡ 1

pair_is : (a b : ℕ × ℕ) → Some a ≡ Some b → a ≡ b
pair_is a b e = cc e

pass : (hashes : List ℕ → ℕ) (s : Space) (pages : List (ℕ × ℕ)) (s2 : Space) → IsScanning hashes s → Scans hashes s pages s2 → IsPassed hashes s pages s2
pass hashes s [] s2 scan is = subst (IsPassed hashes s []) (sym is) (record { scanning = scan; each = λ k i p there. absurd (let bad : None ≡ Some (i, p) = there in cc); stays = λ j q old. old; less = λ j q r. r })
pass hashes s (page ∷ pages) s2 scan (hash, answer, mid, its, offer, rest) =
    let step = offer_step hashes s page.0 page.1 hash answer mid scan its offer in
    let more = pass hashes mid pages s2 step.scanning rest in
    record {
      scanning = more.scanning;
      each = go step more;
      stays = λ j q old. more.stays j q (step.stays j q old);
      less = λ j q r. step.less j q (more.less j q r);
    } where
      go : IsStep hashes s page.0 page.1 mid → IsPassed hashes mid pages s2 → (k i p : ℕ) → slice_get (page ∷ pages) k ≡ Some (i, p) → IsSettled hashes s2 i p
      go step more zero i p there =
          let e : page ≡ (i, p) = pair_is page (i, p) there in
          more.stays i p (subst (λ (z : ℕ × ℕ). IsSettled hashes mid z.0 z.1) e step.now)
      go step more (suc k) i p there = more.each k i p there

-- ---- frames in use

-- it isn't free
IsInUse : Space → ℕ → Type 0
IsInUse s f = (f < length s.pool.frames) × (tally (one_if f) s.pool.free ≡ 0)

in_use : (s : Space) (f : ℕ) → IsInUse s f ⊎ ((f < length s.pool.frames) × (1 ≤ tally (one_if f) s.pool.free) ⊎ (length s.pool.frames ≤ f))
unfolding IsInUse
in_use s f = elim (cases_lt f (length s.pool.frames)) [
  | inr past ↦ inr (inr past)
  | inl within ↦ elim (cases_lt 0 (tally (one_if f) s.pool.free)) [ inl some ↦ inr (inl (within, some)) | inr none ↦ inl (within, omega arith) ]
]

fetch_less : (f : ℕ) (x : Slot) → fetches_into f x ≤ is_ticket x
fetch_less f Vacant = omega arith
fetch_less f Taken = omega arith
fetch_less f (Evicting i p) = omega arith
fetch_less f (EvictVoid i) = omega arith
fetch_less f (Fetching i p g) = elim (here_or g f) [ inl same ↦ (let o = one_same f g same in omega arith) | inr other ↦ (let o = one_other f g other in omega arith) ]
fetch_less f (FetchVoid i g) = elim (here_or g f) [ inl same ↦ (let o = one_same f g same in omega arith) | inr other ↦ (let o = one_other f g other in omega arith) ]

-- while no ticket is out and nothing is earmarked, a frame is free, owned, or shared
three_uses : (hashes : List ℕ → ℕ) (s : Space) (f : ℕ) → IsScanning hashes s → f < length s.pool.frames → (tally (one_if f) s.pool.free + count (owns f) s.tables ≤ 1) × (tally (one_if f) s.pool.free ≡ 0 → (count (owns f) s.tables ≡ 1) ⊎ (1 ≤ sharers s f))
    × (1 ≤ count (owns f) s.tables + sharers s f → tally (one_if f) s.pool.free ≡ 0)
three_uses hashes s f scan within =
    let one = scan.sound.frames.one f within in
    let fetch = tally_le (fetches_into f) is_ticket s.slots.uses (fetch_less f) in
    let none = scan.none_out in
    let kept_none : tally (one_if f) (kept s.pins) ≡ 0 = ap (tally (one_if f)) scan.none_kept in
    (omega arith, λ used. elim (cases_lt 0 (sharers s f)) [ inl some ↦ inr some | inr zeros ↦ inl (omega arith) ], λ some. omega arith)

-- what a frame in use has: a content that isn't zero, and an entry under its hash
record HasContent (hashes : List ℕ → ℕ) (s : Space) (f : ℕ) : Type 0 where
  pub content : IsContent s (frame_bytes s f)
  pub some : frame_bytes s f ≢ zero_page
  pub entry : HasHash (slice_get s.marks f) (hashes (frame_bytes s f))

own_one : (f : ℕ) (x : Page) → 1 ≤ owns f x → owns f x ≡ 1
own_one f Untouched some = absurd (omega arith)
own_one f (Private g) some = elim (here_or g f) [ inl same ↦ one_same f g same | inr other ↦ absurd (let o = one_other f g other in omega arith) ]
own_one f (Shared g) some = absurd (omega arith)
own_one f (Leaving g) some = elim (here_or g f) [ inl same ↦ one_same f g same | inr other ↦ absurd (let o = one_other f g other in omega arith) ]
own_one f (LeavingShared g) some = absurd (omega arith)
own_one f (Coming k) some = absurd (omega arith)
own_one f (Swapped k) some = absurd (omega arith)

-- a page that shares a frame, while none leaves
sharer_of : (s : Space) (f : ℕ) → SlotsAreSound s → tickets s ≡ 0 → 1 ≤ sharers s f → (i : ℕ) × (p : ℕ) × (page_at s.tables i p ≡ Some (Shared f))
sharer_of s f sound none some = go found.2 found.3 found.4 where
  found : (i : ℕ) × (p : ℕ) × (x : Page) × (page_at s.tables i p ≡ Some x) × (1 ≤ shares f x)
  found = page_has (shares f) s.tables some

  go : (x : Page) → page_at s.tables found.0 found.1 ≡ Some x → 1 ≤ shares f x → (i : ℕ) × (p : ℕ) × (page_at s.tables i p ≡ Some (Shared f))
  go Untouched there one = absurd (omega arith)
  go (Private g) there one = absurd (omega arith)
  go (Shared g) there one = elim (here_or g f) [
    | inl same ↦ (found.0, found.1, there ∙ ap (λ z. Some (Shared z)) (sym same))
    | inr other ↦ absurd (let o = one_other f g other in omega arith)
  ]
  go (Leaving g) there one = absurd (omega arith)
  go (LeavingShared g) there one = absurd (none_leaves s found.0 found.1 sound none (ap (at leaving) there))
  go (Coming k) there one = absurd (omega arith)
  go (Swapped k) there one = absurd (omega arith)

none_unlisted : (hashes : List ℕ → ℕ) (s : Space) (f n : ℕ) → IsScanning hashes s → ((i p : ℕ) → at resident (page_at s.tables i p) ≡ 1 → IsSettled hashes s i p) → slice_get s.marks f ≡ Some (Unlisted n) → 1 ≤ sharers s f → ⊥
none_unlisted hashes s f n scan settled is some =
    let page = sharer_of s f scan.sound.slots scan.none_out some in
    (settled page.0 page.1 (ap (at resident) page.2)).listed f n page.2 is

content_of : (hashes : List ℕ → ℕ) (s : Space) (f : ℕ) → IsScanning hashes s → ((i p : ℕ) → at resident (page_at s.tables i p) ≡ 1 → IsSettled hashes s i p) → IsInUse s f → HasContent hashes s f
unfolding IsInUse
content_of hashes s f scan settled used =
    elim ((three_uses hashes s f scan used.0).1 used.1) [
      | inl own ↦
          (let found = page_has (owns f) s.tables (omega arith) in
          let i : ℕ = found.0 in
          let p : ℕ = found.1 in
          let there : page_at s.tables i p ≡ Some (Private f) = owner_is s i p f scan.sound.slots scan.none_out (ap (at (owns f)) found.3 ∙ own_one f found.2 found.4) in
          let done = settled i p (ap (at resident) there) in
          let e = done.entry f there in
          record { content = owned_content s i p f there; some = done.some f there; entry = subst (λ m. HasHash m (hashes (frame_bytes s f))) (sym e.2) refl })
      | inr some ↦
          (let m = entry_there s f scan.sound.frames some in
          counted m.0 m.1 m.2 some)
    ] where
      counted : (m : Mark) → slice_get s.marks f ≡ Some m → Names s f (Some m) → 1 ≤ sharers s f → HasContent hashes s f
      counted Plain is names some = absurd (omega arith)
      counted (Hint x i q) is names some = absurd (let z = names.1 in omega arith)
      counted (Sharers x n) is names some = record {
        content = shared_content s f some;
        some = names.2;
        entry = subst (λ m. HasHash m (hashes (frame_bytes s f))) (sym is) (sym (scan.made_under f x n is));
      }
      counted (Unlisted n) is names some = absurd (none_unlisted hashes s f n scan settled is some)

-- a content is in a frame that is in use
owns_or_shares : (f : ℕ) (x : Page) → frame_of x ≡ Some f → 1 ≤ owns f x + shares f x
owns_or_shares f Untouched e = absurd (cc e)
owns_or_shares f (Private g) e = (let k : f ≡ g = cc in let o = one_same f g k in omega arith)
owns_or_shares f (Shared g) e = (let k : f ≡ g = cc in let o = one_same f g k in omega arith)
owns_or_shares f (Leaving g) e = (let k : f ≡ g = cc in let o = one_same f g k in omega arith)
owns_or_shares f (LeavingShared g) e = (let k : f ≡ g = cc in let o = one_same f g k in omega arith)
owns_or_shares f (Coming k) e = absurd (cc e)
owns_or_shares f (Swapped k) e = absurd (cc e)

use_of : (hashes : List ℕ → ℕ) (s : Space) (bytes : List ℕ) → IsScanning hashes s → IsContent s bytes → (f : ℕ) × IsInUse s f × (frame_bytes s f ≡ bytes)
unfolding IsInUse
use_of hashes s bytes scan (i, p, f, page, there, on, is) =
    let a = get_pages (owns f) s.tables i p page there in
    let b = get_pages (shares f) s.tables i p page there in
    let one = owns_or_shares f page on in
    elim (cases_lt f (length s.pool.frames)) [
      | inl within ↦ (f, (within, (three_uses hashes s f scan within).2 (omega arith)), is)
      | inr past ↦ absurd (let z = scan.sound.frames.none f past in omega arith)
    ]

-- ---- as many

pub passes_list_all : PassesListAll
passes_list_all hashes s pages s2 sound full f (n, is) =
    let scan0 : IsScanning hashes s = record { sound = sound; none_out = full.none_out; none_kept = full.none_kept; none_pinned = full.none_pinned; made_under = full.made_under; apart = full.apart } in
    let done = pass hashes s pages s2 scan0 full.scans in
    let names : Names s2 f (Some (Unlisted n)) = subst (Names s2 f) is (done.scanning.sound.frames.names f) in
    none_unlisted hashes s2 f n done.scanning (λ i p r. (let k = full.all i p (done.less i p r) in done.each k.0 i p k.1)) is (let a = names.0 in let b = names.1 in omega arith)

pub passes_fully : PassesFully
unfolding IsInUse
passes_fully hashes s pages s2 all sound full distinct =
    let scan0 : IsScanning hashes s = record { sound = sound; none_out = full.none_out; none_kept = full.none_kept; none_pinned = full.none_pinned; made_under = full.made_under; apart = full.apart } in
    let done = pass hashes s pages s2 scan0 full.scans in
    let scan = done.scanning in
    let settled : (i p : ℕ) → at resident (page_at s2.tables i p) ≡ 1 → IsSettled hashes s2 i p = λ i p r. (let k = full.all i p (done.less i p r) in done.each k.0 i p k.1) in
    count_up scan settled where
      n : ℕ
      n = length s2.pool.frames

      u : ℕ → ℕ
      u f = 1 - tally (one_if f) s2.pool.free

      used_one : (f : ℕ) → f < length s2.pool.frames → 1 - tally (one_if f) s2.pool.free ≡ 1 → IsInUse s2 f
      used_one f less one = (less, omega arith)

      placed : IsScanning hashes s2 → ((i p : ℕ) → at resident (page_at s2.tables i p) ≡ 1 → IsSettled hashes s2 i p) → (f : ℕ) → (k : ℕ) × (IsInUse s2 f → slice_get all k ≡ Some (frame_bytes s2 f))
      placed scan settled f = elim (in_use s2 f) [
        | inl used ↦ (let c = content_of hashes s2 f scan settled used in let k = (distinct.each (frame_bytes s2 f)).1 (c.content, c.some) in (k.0, λ again. k.1))
        | inr (inl (within, some)) ↦ (0, λ used. absurd (let z = used.1 in omega arith))
        | inr (inr past) ↦ (0, λ used. absurd (let z = used.0 in omega arith))
      ]

      holder : IsScanning hashes s2 → (k : ℕ) → (f : ℕ) × (k < length all → IsInUse s2 f × (slice_get all k ≡ Some (frame_bytes s2 f)))
      holder scan k = elim (cases_lt k (length all)) [
        | inr past ↦ (0, λ less. absurd (omega arith))
        | inl less ↦
            (let x = get_there all k less in
            let c = (distinct.each x.0).0 (k, x.1) in
            let f = use_of hashes s2 x.0 scan c.0 in
            (f.0, λ again. (f.1, x.1 ∙ ap Some (sym f.2))))
      ]

      one_frame : IsScanning hashes s2 → ((i p : ℕ) → at resident (page_at s2.tables i p) ≡ 1 → IsSettled hashes s2 i p) → (f g : ℕ) → IsInUse s2 f → IsInUse s2 g → frame_bytes s2 f ≡ frame_bytes s2 g → f ≡ g
      one_frame scan settled f g a b same =
          let x = content_of hashes s2 f scan settled a in
          let y = content_of hashes s2 g scan settled b in
          scan.sound.frames.apart f g (hashes (frame_bytes s2 f)) x.entry (subst (λ z. HasHash (slice_get s2.marks g) (hashes z)) (sym same) y.entry)

      some_is : (a b : List ℕ) → Some a ≡ Some b → a ≡ b
      some_is a b e = cc e

      count_up : IsScanning hashes s2 → ((i p : ℕ) → at resident (page_at s2.tables i p) ≡ 1 → IsSettled hashes s2 i p) → length all + length s2.pool.free ≡ length s2.pool.frames
      count_up scan settled =
          let to : ℕ → ℕ = λ f. (placed scan settled f).0 in
          let from : ℕ → ℕ = λ k. (holder scan k).0 in
          let few : (f : ℕ) → f < length s2.pool.frames → tally (one_if f) s2.pool.free ≤ 1 = λ f less. (let t = (three_uses hashes s2 f scan less).0 in omega arith) in
          let there : (f : ℕ) → f < length s2.pool.frames → 1 - tally (one_if f) s2.pool.free ≡ 1 → (to f < length all) × (from (to f) ≡ f) = λ f less one.
          (let used = used_one f less one in
          let at_it = (placed scan settled f).1 used in
          let within : to f < length all = there_of all (to f) (frame_bytes s2 f) at_it in
          let back = (holder scan (to f)).1 within in
          (within, one_frame scan settled (from (to f)) f back.0 used (some_is (frame_bytes s2 (from (to f))) (frame_bytes s2 f) (sym back.1 ∙ at_it)))) in
          let back : (k : ℕ) → k < length all → (from k < length s2.pool.frames) × (1 - tally (one_if (from k)) s2.pool.free ≡ 1) × (to (from k) ≡ k) = λ k less.
          (let h = (holder scan k).1 less in
          let at_it = (placed scan settled (from k)).1 h.0 in
          let free = h.0.1 in
          (h.0.0, omega arith, distinct.once (to (from k)) k (frame_bytes s2 (from k)) at_it h.1)) in
          let many = as_many (length s2.pool.frames) (length all) (λ f. 1 - tally (one_if f) s2.pool.free) to from (λ f less. omega arith) there back in
          let frees = list_sum (length s2.pool.frames) s2.pool.free (λ f past. (let z = scan.sound.frames.none f past in omega arith)) in
          let rest = rest_sum (length s2.pool.frames) (λ f. tally (one_if f) s2.pool.free) few in
          omega arith

-- ---- the contents of the frames in use

used_below : Space → ℕ → List ℕ
used_below s zero = []
used_below s (suc n) = cond (tally (one_if n) s.pool.free == 0) (n ∷ used_below s n) (used_below s n)

test_none : (n : ℕ) → (n == 0) ≡ true → n ≡ 0
test_none n e = grind (arith, nat_tests)

test_some : (n : ℕ) → (n == 0) ≡ false → 1 ≤ n
test_some n e = grind (arith, nat_tests)

below_is : (s : Space) (n k f : ℕ) → slice_get (used_below s n) k ≡ Some f → (f < n) × (tally (one_if f) s.pool.free ≡ 0)
unfolding used_below
below_is s zero k f is = absurd (let bad : None ≡ Some f = is in cc bad)
below_is s (suc n) k f is = go (λ k is. below_is s n k f is) (tally (one_if n) s.pool.free == 0) refl k is where
  go : ((k : ℕ) → slice_get (used_below s n) k ≡ Some f → (f < n) × (tally (one_if f) s.pool.free ≡ 0)) → (b : Bool) → (tally (one_if n) s.pool.free == 0) ≡ b → (k : ℕ) → slice_get (cond b (n ∷ used_below s n) (used_below s n)) k ≡ Some f → (f < suc n) × (tally (one_if f) s.pool.free ≡ 0)
  go more true test zero is = (let e : n ≡ f = cc in (omega (arith, e), subst (λ z. tally (one_if z) s.pool.free ≡ 0) e (test_none (tally (one_if n) s.pool.free) test)))
  go more true test (suc k) is = (let r = more k is in (omega (arith, r.0), r.1))
  go more false test k is = (let r = more k is in (omega (arith, r.0), r.1))

below_has : (s : Space) (n f : ℕ) → f < n → tally (one_if f) s.pool.free ≡ 0 → (k : ℕ) × (slice_get (used_below s n) k ≡ Some f)
unfolding used_below
below_has s zero f less none = absurd (omega arith)
below_has s (suc n) f less none = go (λ less. below_has s n f less none) (tally (one_if n) s.pool.free == 0) refl where
  last : f ≢ n → f < n
  last other = omega (arith, less, other)

  go : (f < n → (k : ℕ) × (slice_get (used_below s n) k ≡ Some f)) → (b : Bool) → (tally (one_if n) s.pool.free == 0) ≡ b → (k : ℕ) × (slice_get (cond b (n ∷ used_below s n) (used_below s n)) k ≡ Some f)
  go more true test = elim (here_or n f) [ inl same ↦ (0, ap Some (sym same)) | inr other ↦ (let r = more (last (λ e. other e)) in (suc r.0, r.1)) ]
  go more false test = elim (here_or n f) [
    | inl same ↦ absurd (let some = test_some (tally (one_if n) s.pool.free) test in let z : tally (one_if n) s.pool.free ≡ 0 = subst (λ z. tally (one_if z) s.pool.free ≡ 0) same none in omega arith)
    | inr other ↦ more (last (λ e. other e))
  ]

below_once : (s : Space) (n j k f : ℕ) → slice_get (used_below s n) j ≡ Some f → slice_get (used_below s n) k ≡ Some f → j ≡ k
unfolding used_below
below_once s zero j k f a b = absurd (let bad : None ≡ Some f = a in cc bad)
below_once s (suc n) j k f a b = go (λ j k a b. below_once s n j k f a b) (tally (one_if n) s.pool.free == 0) j k a b where
  go : ((j k : ℕ) → slice_get (used_below s n) j ≡ Some f → slice_get (used_below s n) k ≡ Some f → j ≡ k) → (t : Bool) → (j k : ℕ) → slice_get (cond t (n ∷ used_below s n) (used_below s n)) j ≡ Some f → slice_get (cond t (n ∷ used_below s n) (used_below s n)) k ≡ Some f → j ≡ k
  go more true zero zero a b = refl
  go more true zero (suc k) a b = absurd (let e : n ≡ f = cc in let r = below_is s n k f b in let l = r.0 in omega arith)
  go more true (suc j) zero a b = absurd (let e : n ≡ f = cc in let r = below_is s n j f a in let l = r.0 in omega arith)
  go more true (suc j) (suc k) a b = ap suc (more j k a b)
  go more false j k a b = more j k a b

mapped_from : (s : Space) (fs : List ℕ) (k : ℕ) (bytes : List ℕ) → slice_get (map (frame_bytes s) fs) k ≡ Some bytes → (f : ℕ) × (slice_get fs k ≡ Some f) × (frame_bytes s f ≡ bytes)
mapped_from s [] k bytes is = absurd (let bad : None ≡ Some bytes = is in cc bad)
mapped_from s (f ∷ fs) zero bytes is = (f, refl, (let e : frame_bytes s f ≡ bytes = cc in e))
mapped_from s (f ∷ fs) (suc k) bytes is = mapped_from s fs k bytes is

mapped_to : (s : Space) (fs : List ℕ) (k f : ℕ) → slice_get fs k ≡ Some f → slice_get (map (frame_bytes s) fs) k ≡ Some (frame_bytes s f)
mapped_to s [] k f is = absurd (let bad : None ≡ Some f = is in cc bad)
mapped_to s (g ∷ fs) zero f is = (let e : g ≡ f = cc in ap (λ z. Some (frame_bytes s z)) e)
mapped_to s (g ∷ fs) (suc k) f is = mapped_to s fs k f is

frames_apart : (hashes : List ℕ → ℕ) (s : Space) (f g : ℕ) → IsScanning hashes s → ((i p : ℕ) → at resident (page_at s.tables i p) ≡ 1 → IsSettled hashes s i p) → IsInUse s f → IsInUse s g → frame_bytes s f ≡ frame_bytes s g → f ≡ g
frames_apart hashes s f g scan settled a b same =
    let x = content_of hashes s f scan settled a in
    let y = content_of hashes s g scan settled b in
    scan.sound.frames.apart f g (hashes (frame_bytes s f)) x.entry (subst (λ z. HasHash (slice_get s.marks g) (hashes z)) (sym same) y.entry)

pub contents_are_listed : ContentsAreListed
unfolding IsInUse
contents_are_listed hashes s pages s2 sound full =
    let scan0 : IsScanning hashes s = record { sound = sound; none_out = full.none_out; none_kept = full.none_kept; none_pinned = full.none_pinned; made_under = full.made_under; apart = full.apart } in
    let done = pass hashes s pages s2 scan0 full.scans in
    let scan = done.scanning in
    let settled : (i p : ℕ) → at resident (page_at s2.tables i p) ≡ 1 → IsSettled hashes s2 i p = λ i p r. (let k = full.all i p (done.less i p r) in done.each k.0 i p k.1) in
    let n : ℕ = length s2.pool.frames in
    let fs : List ℕ = used_below s2 n in (
      map (frame_bytes s2) fs,
      record {
        each = λ bytes. (
          λ there.
              (let m = mapped_from s2 fs there.0 bytes there.1 in
              let c = content_of hashes s2 m.0 scan settled (below_is s2 n there.0 m.0 m.1) in
              (subst (IsContent s2) m.2 c.content, λ z. c.some (m.2 ∙ z))),
          λ content.
              (let u = use_of hashes s2 bytes scan content.0 in
              let k = below_has s2 n u.0 u.1.0 u.1.1 in
              (k.0, mapped_to s2 fs k.0 u.0 k.1 ∙ ap Some u.2)),
        );
        once = λ j k bytes a b.
            (let x = mapped_from s2 fs j bytes a in
            let y = mapped_from s2 fs k bytes b in
            let same = frames_apart hashes s2 x.0 y.0 scan settled (below_is s2 n j x.0 x.1) (below_is s2 n k y.0 y.1) (x.2 ∙ sym y.2) in
            below_once s2 n j k y.0 (x.1 ∙ ap Some same) y.1);
      },
    )
