-- Where a step lacks a frame, there is a page to take, and a slot for it.
use Rattle.std.proofs.Common.{◌≡◌, ◌≢◌, ℕ, ◌+◌, ◌-◌, ◌<◌, ◌≤◌, ◌==◌, ◌⊎◌, inl, inr, cond, true, false, Bool, List, [], ◌∷◌, Option, Some, None, length, slice_get, get_or, zero, suc, refl, ap, arith, rules}
use Rattle.std.proofs.lemmas.Bool.Decides.{nat_tests}
use Rattle.std.proofs.lemmas.Bool.{cases_lt}
use Rattle.wh_model.specs.declared.memory.Need.{Need}
use Rattle.wh_space_model.specs.{tally, one_if, stands_on, standing, frame_charge, charged_of, stays, CanLeave, IsBeside, NoneMustLeave, is_ticket, tickets, Space, Occupant, occupant_at, kept, pinned_by, sharers, of_occupant, IsServing, below, among, copies, frames_for, pages_of_need, frames_to_write, frames_in_all, may_take, IsSound, SlotsAreSound, OccupantsAreSound, HasTable, LeavesBy, at, page_at, resident, swapped, untouched, leaving, shares, count, count_of}
use Rattle.wh_space_model.proofs.Tally.{one_same, one_other}
use Rattle.wh_space_model.specs.declared.states.Page.{Page}
use Rattle.wh_space_model.specs.declared.states.Page.TheVariants.{Untouched, Private, Shared, Leaving, LeavingShared, Coming, Swapped}
use Rattle.wh_space_model.specs.declared.states.Slot.{Slot}
use Rattle.wh_space_model.specs.declared.states.Slot.TheVariants.{Vacant, Taken, Evicting, EvictVoid, Fetching, FetchVoid}
use Rattle.wh_space_model.proofs.Charging.{below_but, charge_few, charged_page, first_of, frames_charged, occupied, on_once}
use Rattle.wh_space_model.proofs.Putting.{get_or_is, there_of}
use Rattle.wh_space_model.proofs.Rooms.{frames_room, page_frames, slots_room}
use Rattle.wh_space_model.proofs.Sums.{below_le, below_plus, below_tally, below_zero, tally_le, tally_plus, get_tally, beside}
use Rattle.wh_space_model.proofs.Wanting.{few_pages, among_all, frames_to_write_room, kinds_of}

below_shift : (n : ℕ) (v : ℕ → ℕ) → below (suc n) v ≡ v 0 + below n (λ k. v (suc k))
below_shift zero v = omega arith
below_shift (suc n) v = let rest = below_shift n v in omega arith

tally_below : (w : Page → ℕ) (xs : List Page) → tally w xs ≡ below (length xs) (λ n. at w (slice_get xs n))
tally_below w [] = refl
tally_below w (x ∷ xs) = let rest = tally_below w xs in let shift = below_shift (length xs) (λ n. at w (slice_get (x ∷ xs) n)) in omega arith

here_out : (n p c : ℕ) → n ≤ p → below n (λ k. cond (k == p) c 0) ≡ 0
here_out zero p c out = refl
here_out (suc n) p c out = let rest = here_out n p c (omega arith) in grind (arith, nat_tests, rest)

here_once : (n p c : ℕ) → below n (λ k. cond (k == p) c 0) ≤ c
here_once zero p c = omega arith
here_once (suc n) p c =
    elim (cases_lt p n) [
      | inl less ↦ let rest = here_once n p c in grind (arith, nat_tests, rest)
      | inr most ↦ let rest = here_out n p c most in grind (arith, nat_tests, rest)
    ]

among_here : (v : ℕ → ℕ) (n : ℕ) (ps : List ℕ) → 1 ≤ tally (one_if n) ps → v n ≤ tally (λ p. cond (n == p) (v p) 0) ps
among_here v n [] some = absurd (omega arith)
among_here v n (p ∷ ps) some =
    elim (here_or n p) [
      | inl same ↦ let one : cond (n == p) (v p) 0 ≡ v n = rw same (is_there (v n) n) in rw one (omega arith)
      | inr other ↦ let no = one_other n p other in let rest = among_here v n ps (omega arith) in omega arith
    ] where
      here_or : (n p : ℕ) → (p ≡ n) ⊎ (n ≢ p)
      here_or n p = grind (arith, nat_tests)

      is_there : (c n : ℕ) → cond (n == n) c 0 ≡ c
      is_there c n = grind (arith, nat_tests)

none_or_one : (v : ℕ → ℕ) (ps : List ℕ) (n : ℕ)
    → ((k : ℕ) → k < n → v k ≤ tally (λ p. cond (k == p) (v p) 0) ps) ⊎ ((k : ℕ) × (k < n) × (1 ≤ v k) × (tally (one_if k) ps ≡ 0))
none_or_one v ps zero = inl (λ k less. absurd (omega arith))
none_or_one v ps (suc n) =
    elim (none_or_one v ps n) [
      | inr found ↦ inr (found.0, omega (arith, found.1), found.2, found.3)
      | inl all ↦
          elim (cases_lt 0 (v n)) [
            | inr zeros ↦ inl (λ k less. elim (cases_lt k n) [ inl before ↦ all k before | inr most ↦ let e : k ≡ n = omega arith in rw e (omega arith) ])
            | inl some ↦
                elim (cases_lt 0 (tally (one_if n) ps)) [
                  | inr zeros ↦ inr (n, omega arith, some, omega arith)
                  | inl there ↦ inl (λ k less. elim (cases_lt k n) [ inl before ↦ all k before | inr most ↦ let e : k ≡ n = omega arith in rw e (among_here v n ps there) ])
                ]
          ]
    ]

-- the pages of a table that count are among these, or there is another one
pub beyond : (w : Page → ℕ) (xs : List Page) (ps : List ℕ)
    → (tally w xs ≤ tally (λ p. at w (slice_get xs p)) ps) ⊎ ((n : ℕ) × (1 ≤ at w (slice_get xs n)) × (tally (one_if n) ps ≡ 0))
beyond w xs ps =
    let v : ℕ → ℕ = λ n. at w (slice_get xs n) in
    elim (none_or_one v ps (length xs)) [
      | inr found ↦ inr (found.0, found.2, found.3)
      | inl all ↦
          let sum = tally_below w xs in
          let most = below_le (length xs) v (λ k. tally (λ p. cond (k == p) (v p) 0) ps) all in
          let swap = below_tally (length xs) (λ k p. cond (k == p) (v p) 0) ps in
          let each = tally_le (λ p. below (length xs) (λ k. cond (k == p) (v p) 0)) v ps (λ p. here_once (length xs) p (v p)) in
          inl (omega arith)
    ]

by_ticket : (i : ℕ) (x : Slot) → LeavesBy i (Some x) → is_ticket x ≡ 1
by_ticket i Vacant h = absurd h
by_ticket i Taken h = absurd h
by_ticket i (Evicting j p) h = refl
by_ticket i (EvictVoid j) h = refl
by_ticket i (Fetching j p f) h = absurd h
by_ticket i (FetchVoid j f) h = absurd h

-- where no ticket is out, no instance has a page that leaves
by_some : (s : Space) (i : ℕ) (x : Option Slot) (k : ℕ) → slice_get s.slots.uses k ≡ x → LeavesBy i x → tickets s ≡ 0 → ⊥
by_some s i None k at by none = absurd by
by_some s i (Some x) k at by none = let one = by_ticket i x by in let most = get_tally is_ticket s.slots.uses k x at in absurd (omega arith)

leaves_none : (s : Space) (i : ℕ) (t : Occupant) (m : Option ℕ) → SlotsAreSound s → tickets s ≡ 0 → occupant_at s i t → t.leaves ≡ m → m ≡ None
leaves_none s i t None sound none is at = refl
leaves_none s i t (Some k) sound none is at = absurd (by_some s i (slice_get s.slots.uses k) k refl (sound.by_this i k t is at) none)

stays_or : (x : Option Page) → at resident x ≡ at stays x + at leaving x
stays_or None = refl
stays_or (Some Untouched) = refl
stays_or (Some (Private f)) = refl
stays_or (Some (Shared f)) = refl
stays_or (Some (Leaving f)) = refl
stays_or (Some (LeavingShared f)) = refl
stays_or (Some (Coming f)) = refl
stays_or (Some (Swapped f)) = refl

most_one : (x : Option Page) → (at resident x ≤ 1) × (at leaving x ≤ 1)
most_one None = (omega arith, omega arith)
most_one (Some Untouched) = (omega arith, omega arith)
most_one (Some (Private f)) = (omega arith, omega arith)
most_one (Some (Shared f)) = (omega arith, omega arith)
most_one (Some (Leaving f)) = (omega arith, omega arith)
most_one (Some (LeavingShared f)) = (omega arith, omega arith)
most_one (Some (Coming f)) = (omega arith, omega arith)
most_one (Some (Swapped f)) = (omega arith, omega arith)

stays_there : (s : Space) (i p : ℕ) → SlotsAreSound s → tickets s ≡ 0 → 1 ≤ at resident (page_at s.tables i p) → at stays (page_at s.tables i p) ≡ 1
stays_there s i p sound none there =
    let parts = stays_or (page_at s.tables i p) in
    let most = most_one (page_at s.tables i p) in
    elim (cases_lt 0 (at leaving (page_at s.tables i p))) [
      | inl some ↦ search (rules, get_tally)
      | inr zeros ↦ omega (arith, most.0)
    ]

-- a resident page that isn't pinned can leave
pub leaver : (s : Space) (i p : ℕ) (t : Occupant) → SlotsAreSound s → tickets s ≡ 0 → occupant_at s i t → 1 ≤ at resident (page_at s.tables i p) → tally (one_if p) (pinned_by s.pins i) ≡ 0 → CanLeave s i p
leaver s i p t sound none is there free =
    (stays_there s i p sound none there, free, (t, is, leaves_none s i t t.leaves sound none is refl))

-- where there is no page to take, to no instance more frames are charged than its minimum ...
charged_some : (n : ℕ) (v : ℕ → ℕ) → 1 ≤ below n v → (k : ℕ) × (1 ≤ v k)
charged_some zero v some = absurd (omega arith)
charged_some (suc n) v some =
    elim (cases_lt 0 (v n)) [
      | inl here ↦ (n, here)
      | inr zeros ↦ charged_some n v (omega arith)
    ]

others_low : (s : Space) (i : ℕ) (need : Need) → IsSound s → tickets s ≡ 0 → IsServing s i need → NoneMustLeave s i need
    → (j : ℕ) (t : Occupant) → j ≢ i → occupant_at s j t → charged_of s j ≤ t.min
others_low s i need sound none serving lacks j t other is =
    elim (cases_lt t.min (charged_of s j)) [
      | inr most ↦ most
      | inl less ↦
          (let found = charged_some (length s.pool.frames) (λ f. frame_charge s j f) (omega arith) in
          let page = charged_page s j found.0 found.1 in
          let on = page.1.on in
          let k = on_once found.0 (page_at s.tables j page.0) in let here = k.1 in
          let leaves = leaver s j page.0 t sound.slots none is (omega arith) (serving.others j page.0 other) in
          absurd (lacks.0.0 j ((t, is, less), (page.0, (leaves, (found.0, page.1))))))
    ]

up_to : (a b c : ℕ) → a ≤ b → c ≡ b → a ≤ c
up_to a b c le same = omega arith

others_min : (s : Space) (i : ℕ) (need : Need) → IsSound s → tickets s ≡ 0 → IsServing s i need → NoneMustLeave s i need
    → (j : ℕ) → j < length s.tables → j ≢ i → charged_of s j ≤ of_occupant (λ t. t.min) (get_or s.occupants j None)
others_min s i need sound none serving lacks j within other =
    elim (cases_lt 0 (charged_of s j)) [
      | inr zeros ↦ omega arith
      | inl some ↦
          (let found = charged_some (length s.pool.frames) (λ f. frame_charge s j f) some in
          let few = charge_few s j found.0 in let a = few.1 in let b = found.1 in
          let who = occupied (stands_on found.0) s j sound.occupants (omega arith) in
          let low = others_low s i need sound none serving lacks j who.0 other who.1 in
          up_to (charged_of s j) who.0.min (of_occupant (λ t. t.min) (get_or s.occupants j None)) low (ap (of_occupant (λ t. t.min)) (get_or_is s.occupants j (Some who.0) None who.1)))
    ]

not_pinned : (s : Space) (i : ℕ) (need : Need) (p : ℕ) → IsServing s i need → tally (one_if p) (pages_of_need need) ≡ 0 → tally (one_if p) (pinned_by s.pins i) ≡ 0
not_pinned s i need p serving out =
    elim (cases_lt 0 (tally (one_if p) (pinned_by s.pins i))) [
      | inl some ↦ let k = serving.only p some in absurd (omega arith)
      | inr zeros ↦ omega arith
    ]

-- ... and that which asks has no other resident pages than its step's. Of a frame of its own it writes no copy, or
-- all sharers are the step's.
own_on : (s : Space) (i f : ℕ) (need : Need) (t : Occupant) → IsSound s → tickets s ≡ 0 → IsServing s i need → NoneMustLeave s i need → occupant_at s i t
    → standing s i f ≤ among (stands_on f) s i (pages_of_need need)
own_on s i f need t sound none serving lacks is =
    elim (beyond (stands_on f) (get_or s.tables i []) (pages_of_need need)) [
      | inl few ↦ few
      | inr found ↦ search (rules, on_once, leaver, not_pinned)
    ]

-- all pages of a kind are in one table, or one is in another
elsewhere : (w : Page → ℕ) (tables : List (List Page)) (i : ℕ) → (count w tables ≤ count_of w tables i) ⊎ ((j : ℕ) × (j ≢ i) × (1 ≤ count_of w tables j))
elsewhere w [] i = inl (omega arith)
elsewhere w (xs ∷ tables) zero =
    elim (cases_lt 0 (count w tables)) [
      | inr zeros ↦ inl (omega arith)
      | inl some ↦ (let found = some_row tables some in inr (suc found.0, λ e. omega arith, found.1))
    ] where
      some_row : (tables : List (List Page)) → 1 ≤ count w tables → (j : ℕ) × (1 ≤ count_of w tables j)
      some_row [] some = absurd (omega arith)
      some_row (ys ∷ tables) some =
          elim (cases_lt 0 (tally w ys)) [
            | inl here ↦ (0, here)
            | inr zeros ↦ (let rest = some_row tables (omega arith) in (suc rest.0, rest.1))
          ]
elsewhere w (xs ∷ tables) (suc i) =
    elim (cases_lt 0 (tally w xs)) [
      | inl here ↦ inr (0, λ e. omega arith, here)
      | inr zeros ↦
          elim (elsewhere w tables i) [
            | inl all ↦ inl (omega arith)
            | inr found ↦ inr (suc found.0, λ e. found.1 (omega arith), found.2)
          ]
    ]

shares_one : (f : ℕ) (x : Option Page) → 1 ≤ at (shares f) x → (at (shares f) x ≡ 1) × (1 ≤ at resident x)
shares_one f x some = (shares_few f x some, let k = on_once f x in let a = k.1 in let b = shares_on f x in omega arith) where
  shares_on : (f : ℕ) (x : Option Page) → at (shares f) x ≤ at (stands_on f) x
  shares_on f None = omega arith
  shares_on f (Some x) = omega arith

  shares_few : (f : ℕ) (x : Option Page) → 1 ≤ at (shares f) x → at (shares f) x ≡ 1
  shares_few f x some = let k = on_once f x in let a = k.0 in let b = shares_on f x in omega arith

-- more share a frame than the step writes of it: one of them is beside the step, and can leave
some_beside : (s : Space) (i : ℕ) (need : Need) (f : ℕ) (t : Occupant) → IsSound s → tickets s ≡ 0 → IsServing s i need → occupant_at s i t
    → among (shares f) s i (pages_of_need need) < sharers s f → (j p : ℕ) × IsBeside s i need f j p
some_beside s i need f t sound none serving is more =
    elim (elsewhere (shares f) s.tables i) [
      | inl all ↦
          elim (beyond (shares f) (get_or s.tables i []) (pages_of_need need)) [
            | inl few ↦ absurd (omega arith)
            | inr found ↦
                (let one = shares_one f (page_at s.tables i found.0) found.1 in (
                  i,
                  found.0,
                  record {
                    shares = one.0;
                    apart = λ e. found.2;
                    can = leaver s i found.0 t sound.slots none is one.1 (not_pinned s i need found.0 serving found.2);
                  },
                ))
          ]
      | inr found ↦
          (let page = first_of (shares f) (get_or s.tables found.0 []) found.2 in
          let one = shares_one f (page_at s.tables found.0 page.0) page.1 in
          let who = occupied (shares f) s found.0 sound.occupants found.2 in (
            found.0,
            page.0,
            record {
              shares = one.0;
              apart = λ e. absurd (found.1 e);
              can = leaver s found.0 page.0 who.0 sound.slots none who.1 one.1 (serving.others found.0 page.0 found.1);
            },
          ))
    ]

some_of : (w : ℕ → ℕ) (ps : List ℕ) → 1 ≤ tally w ps → (q : ℕ) × (1 ≤ w q) × (1 ≤ tally (one_if q) ps)
some_of w [] some = absurd (omega arith)
some_of w (p ∷ ps) some =
    elim (cases_lt 0 (w p)) [
      | inl here ↦ (p, here, let o = one_same p p refl in omega arith)
      | inr zeros ↦ (let rest = some_of w ps (omega arith) in (rest.0, rest.1, let k = rest.2 in omega arith))
    ]

-- of a frame of which copies are wanted though others share it none is charged to the one that asks
not_charged : (s : Space) (i : ℕ) (need : Need) (f : ℕ) (t : Occupant) → IsSound s → tickets s ≡ 0 → IsServing s i need → NoneMustLeave s i need → occupant_at s i t
    → need.writes ≡ true → 1 ≤ among (shares f) s i (pages_of_need need) → among (shares f) s i (pages_of_need need) < sharers s f → frame_charge s i f ≡ 0
not_charged s i need f t sound none serving lacks is writes some more =
    elim (cases_lt 0 (frame_charge s i f)) [
      | inr zeros ↦ omega arith
      | inl charged ↦
          (let q = some_of (λ p. at (shares f) (page_at s.tables i p)) (pages_of_need need) some in
          let few = charge_few s i f in let one = few.0 in
          absurd (lacks.0.1 q.0 f (record {
            writes = writes;
            page = q.2;
            on = (shares_one f (page_at s.tables i q.0) q.1).0;
            charged = omega arith;
            more = more;
            beside = some_beside s i need f t sound none serving is more;
          })))
    ]

copies_all : (t sh : ℕ) → t < sh → copies t sh ≡ t
copies_all t sh less = grind (arith, nat_tests)

copies_less : (t sh : ℕ) → sh ≤ t → copies t sh ≡ t - 1
copies_less t sh most = grind (arith, nat_tests)

charge_room : (c a t sh : ℕ) → c ≤ 1 → c ≤ a → t ≤ a → (1 ≤ t → t < sh → c ≡ 0) → c + copies t sh ≤ a
charge_room c a t sh one own some shed =
    elim (cases_lt t sh) [
      | inr most ↦ (let e = copies_less t sh most in omega arith)
      | inl less ↦ search (rules, copies_all, cases_lt)
    ]

among_on : (s : Space) (i f : ℕ) (ps : List ℕ) → among (shares f) s i ps ≤ among (stands_on f) s i ps
among_on s i f [] = omega arith
among_on s i f (p ∷ ps) = (let rest = among_on s i f ps in let one = each (page_at s.tables i p) in omega arith) where
  each : (x : Option Page) → at (shares f) x ≤ at (stands_on f) x
  each None = omega arith
  each (Some x) = omega arith

-- the pages of a step stand on one frame each
among_frames : (n : ℕ) (s : Space) (i : ℕ) (ps : List ℕ) → below n (λ f. among (stands_on f) s i ps) ≤ among resident s i ps
among_frames n s i ps =
    let swap = below_tally n (λ f p. at (stands_on f) (page_at s.tables i p)) ps in
    let each = tally_le (λ p. below n (λ f. at (stands_on f) (page_at s.tables i p))) (λ p. at resident (page_at s.tables i p)) ps (λ p. one_frame (page_at s.tables i p)) in
    omega arith where
      one_frame : (x : Option Page) → below n (λ f. at (stands_on f) x) ≤ at resident x
      one_frame None = let z = below_zero n in omega arith
      one_frame (Some x) = page_frames n x

-- What is charged to the one that asks and what its step wants are no more than the step's pages.
own_room : (s : Space) (i : ℕ) (need : Need) (t : Occupant) → IsSound s → tickets s ≡ 0 → IsServing s i need → NoneMustLeave s i need → occupant_at s i t
    → charged_of s i + frames_in_all s i need ≤ 2
own_room s i need t sound none serving lacks is =
    go need.writes refl where
      own : (f : ℕ) → frame_charge s i f ≤ among (stands_on f) s i (pages_of_need need)
      own f = let few = charge_few s i f in let a = few.1 in let b = own_on s i f need t sound none serving lacks is in omega arith

      go : (b : Bool) → need.writes ≡ b → charged_of s i + (among swapped s i (pages_of_need need) + cond b (frames_for s i (pages_of_need need)) 0) ≤ 2
      go false e =
          let n = length s.pool.frames in
          let ps : List ℕ = pages_of_need need in
          let kinds = kinds_of s i ps (few_pages need) in
          let frames = among_frames n s i ps in
          let reads = below_le n (λ f. frame_charge s i f) (λ f. among (stands_on f) s i ps) (λ f less. own f) in
          omega arith
      go true e =
          let n = length s.pool.frames in
          let ps : List ℕ = pages_of_need need in
          let kinds = kinds_of s i ps (few_pages need) in
          let frames = among_frames n s i ps in
          let each = below_le n (λ f. frame_charge s i f + copies (among (shares f) s i ps) (sharers s f)) (λ f. among (stands_on f) s i ps)
          (λ f less. (let few = charge_few s i f in charge_room (frame_charge s i f) (among (stands_on f) s i ps) (among (shares f) s i ps) (sharers s f) few.0 (own f) (among_on s i f ps)
          (λ some more. not_charged s i need f t sound none serving lacks is e some more))) in
          let parts = below_plus n (λ f. frame_charge s i f) (λ f. copies (among (shares f) s i ps) (sharers s f)) in
          omega arith

mins_below : (w : Option Occupant → ℕ) (xs : List (Option Occupant)) → tally w xs ≡ below (length xs) (λ n. w (get_or xs n None))
mins_below w [] = refl
mins_below w (x ∷ xs) = let rest = mins_below w xs in let shift = below_shift (length xs) (λ n. w (get_or (x ∷ xs) n None)) in omega arith

-- Where a step lacks a frame, there is a page to take.
pub frame_there : (s : Space) (i : ℕ) (need : Need) (t : Occupant) → IsSound s → tickets s ≡ 0 → IsServing s i need → occupant_at s i t → NoneMustLeave s i need
    → frames_in_all s i need ≤ may_take s i
frame_there s i need t sound none serving is lacks =
    let room = frames_charged s sound.frames in
    let same = sound.occupants.tables in
    let there : i < length s.tables = (let k = there_of s.occupants i (Some t) is in omega arith) in
    let low = below_but (length s.tables) i (λ j. charged_of s j) (λ j. of_occupant (λ t. t.min) (get_or s.occupants j None)) there (others_min s i need sound none serving lacks) in
    let sum = mins_below (of_occupant (λ t. t.min)) s.occupants in
    let sum2 : tally (of_occupant (λ t. t.min)) s.occupants ≡ below (length s.tables) (λ j. of_occupant (λ t. t.min) (get_or s.occupants j None)) = rw same sum in
    let mine : of_occupant (λ t. t.min) (get_or s.occupants i None) ≡ t.min = rw (get_or_is s.occupants i (Some t) None is) refl in
    let own = own_room s i need t sound none serving lacks is in
    let least = (sound.occupants.have i (Some t) is).0 in
    let minima = sound.admissible.0 in
    let kept = serving.kept in
    omega arith

-- what is beyond the minima, and one more for each tenant
spare : (ts : List (Option Occupant)) → ((i : ℕ) (t : Occupant) → slice_get ts i ≡ Some (Some t) → t.min ≤ t.max)
    → tally (of_occupant (λ t. (t.max - t.min) + 1)) ts + tally (of_occupant (λ t. t.min)) ts ≡ tally (of_occupant (λ t. t.max)) ts + tally (of_occupant (λ t. 1)) ts
spare [] each = refl
spare (None ∷ ts) each = let rest = spare ts (λ i u at. each (suc i) u at) in omega arith
spare (Some t ∷ ts) each = let one : t.min ≤ t.max = each 0 t refl in let rest = spare ts (λ i u at. each (suc i) u at) in omega arith

table_room : (xs : List Page) → (tally resident xs + tally swapped xs) + tally untouched xs ≤ length xs
table_room [] = omega arith
table_room (Untouched ∷ xs) = let rest = table_room xs in omega arith
table_room (Private f ∷ xs) = let rest = table_room xs in omega arith
table_room (Shared f ∷ xs) = let rest = table_room xs in omega arith
table_room (Leaving f ∷ xs) = let rest = table_room xs in omega arith
table_room (LeavingShared f ∷ xs) = let rest = table_room xs in omega arith
table_room (Coming k ∷ xs) = let rest = table_room xs in omega arith
table_room (Swapped k ∷ xs) = let rest = table_room xs in omega arith

within : (t : Option Occupant) (xs : List Page) → HasTable t xs → (tally resident xs + tally swapped xs) + tally untouched xs ≤ of_occupant (λ t. t.max) t
within None xs has = rw has (omega arith)
within (Some t) xs has = let a = table_room xs in let b = has.2 in omega arith

-- all pages together are within the maxima
pages_room : (s : Space) → OccupantsAreSound s → (count resident s.tables + count swapped s.tables) + count untouched s.tables ≤ tally (of_occupant (λ t. t.max)) s.occupants
pages_room s sound =
    let all = beside [] (λ xs. (tally resident xs + tally swapped xs) + tally untouched xs) (of_occupant (λ t. t.max)) s.tables s.occupants sound.tables
    (λ i t is. within t (get_or s.tables i []) (sound.have i t is)) in
    let two = tally_plus (λ xs. tally resident xs + tally swapped xs) (tally untouched) s.tables in
    let one = tally_plus (tally resident) (tally swapped) s.tables in
    omega arith

-- Where no frame is free, or fewer than the step's writes want, there is a slot for a page.
pub slot_there : (s : Space) (i : ℕ) (need : Need) (t : Occupant) → IsSound s → tickets s ≡ 0 → length (kept s.pins) ≡ 0 → occupant_at s i t
    → (length s.pool.free ≡ 0) ⊎ (length s.pool.free < frames_to_write s i need) → 1 ≤ length s.slots.vacant
slot_there s i need t sound none kept is lacking =
    let frames = frames_room s sound.frames in
    let slots = slots_room s sound.slots none in
    let pages = pages_room s sound.occupants in
    let beyond_all = spare s.occupants (λ j u at. (sound.occupants.have j (Some u) at).1) in
    let some = get_tally (of_occupant (λ t. 1)) s.occupants i (Some t) is in
    let minima = sound.admissible.0 in
    let maxima = sound.admissible.1 in
    elim lacking [
      | inl zeros ↦ omega arith
      | inr less ↦ search (rules, frames_to_write_room, among_all, few_pages)
    ]

-- All tables together have no more pages than there are frames and slots: so much room is enough for whatever is kept of
-- each page that may ever be there.
pub pages_fit : (s : Space) → IsSound s → tally (of_occupant (λ t. t.max)) s.occupants ≤ length s.pool.frames + length s.slots.uses
pages_fit s sound =
    let all = spare s.occupants (λ j u at. (sound.occupants.have j (Some u) at).1) in
    let minima = sound.admissible.0 in
    let maxima = sound.admissible.1 in
    omega arith
