-- An instance that comes to a place.
use Rattle.std.proofs.Common.{◌≡◌, ◌≢◌, ◌⊎◌, inl, inr, ℕ, ◌*◌, ◌^◌, ◌<◌, ◌≤◌, ◌++◌, cond, nat_lt, Bool, true, false, List, [], ◌∷◌, Option, Some, None, length, get_or, map, replicate, slice_get, slice_set, zero, suc, refl, sym, ◌∙◌, ap, subst, arith, length-set, length-append, rules}
use Rattle.std.proofs.lemmas.Bool.{cases_lt}
use Rattle.std.proofs.lemmas.Bool.Decides.{nat_tests}
use Rattle.std.proofs.lemmas.List.{length-map}
use Rattle.wh_space_model.specs.{Pool, tally, ticket_of, IsSound, IsUsed, LeavesBy, page_at, Occupant, Slots, Space, occupant_at, Enters, HasRoomFor, IsFreePlace, newcomer, with_row}
use Rattle.wh_tables.specs.Tables.{TablesState}
use Rattle.wh_space_model.specs.declared.states.Page.{Page}
use Rattle.wh_space_model.specs.declared.states.Page.TheVariants.{Coming, Untouched}
use Rattle.wh_space_model.specs.declared.states.Slot.{Slot}
use Rattle.wh_space_model.specs.declared.states.Slot.TheVariants.{Vacant, Taken, Evicting, EvictVoid, Fetching, FetchVoid}
use Rattle.wh_space_model.proofs.Tally.{one_other}
use Rattle.wh_space_model.proofs.Entered.{enters_soundly, free_within}
use Rattle.wh_space_model.proofs.Putting.{get_or_is, here_or, there_of}
use Rattle.wh_space_model.proofs.Rows.{past_there, row_other, row_same}
use Rattle.wh_space.specs.Arrivals.{claimed}
use Rattle.wh_space.specs.declared.occupant_entry.OccupantEntry.{OccupantEntry}
use Rattle.wh_space.specs.declared.occupant_entry.Promise.{Promise}
use Rattle.wh_space.specs.declared.memory.Memory.TheInside.{Inside}
use Rattle.wh_space.specs.Parts.{IsWell, occupant_of, space_of}

map_append : {X Y : Type 0} (f : X → Y) (xs : List X) (x : X) → map f (xs ++ x ∷ []) ≡ map f xs ++ f x ∷ []
map_append f [] x = refl
map_append f (y ∷ xs) x = let e = map_append f xs x in cc

map_set : {X Y : Type 0} (f : X → Y) (xs : List X) (i : ℕ) (x : X) → map f (slice_set xs i x) ≡ slice_set (map f xs) i (f x)
map_set f [] i x = refl
map_set f (y ∷ xs) zero x = refl
map_set f (y ∷ xs) (suc i) x = let e = map_set f xs i x in cc

pub map_row : {X Y : Type 0} (f : X → Y) (xs : List X) (i : ℕ) (x : X) → map f (with_row xs i x) ≡ with_row (map f xs) i (f x)
map_row f xs i x = let long = length-map xs f in rw long (go (nat_lt i (length xs))) where
  go : (b : Bool) → map f (cond b (slice_set xs i x) (xs ++ x ∷ [])) ≡ cond b (slice_set (map f xs) i (f x)) (map f xs ++ f x ∷ [])
  go true = map_set f xs i x
  go false = map_append f xs x

-- what is asked of the caller
pub record MayEnter (s : Space) (i : ℕ) (p : Promise) (size : ℕ) : Type 0 where
  pub free : IsFreePlace s i
  pub room : HasRoomFor s (claimed p)
  pub shares : (1 ≤ p.shares) × (p.shares ≤ 1000000)
  pub bounds : (2 ≤ p.min) × (p.min ≤ p.max) × (p.max ≤ 65536)
  pub fits : 16 * size ≤ p.max
  pub fresh : (j : ℕ) (t : Occupant) → occupant_at s j t → t.number ≢ p.number

abbrev pub guest_of : Promise → OccupantEntry
guest_of p = record { number = p.number; live = true; shares = p.shares; min = p.min; max = p.max; stands = None; leaves = None; tickets = 0 }

abbrev pub with_table : TablesState → ℕ → Promise → ℕ → TablesState
with_table tables i p size = record {
  pages = with_row tables.pages i (replicate (16 * size) Untouched);
  marks = with_row tables.marks i (replicate (16 * size) false);
  limits = with_row tables.limits i p.max;
  numbers = with_row tables.numbers i p.number;
  frames = tables.frames;
}

-- whoever else has pages has another number than one that is there
pub other_guest : (a : Inside) (i j : ℕ) (g : OccupantEntry) → IsWell a → slice_get a.occupant_entries.items i ≡ Some (Some g) → j ≢ i → 1 ≤ length (get_or a.tables.pages j []) → get_or a.tables.numbers j 0 ≢ get_or a.tables.numbers i 0
other_guest a i j g was there other some same =
    let s : Space = space_of a in
    let within = row_there s.tables j some in
    let many = was.sound.occupants.tables in
    let l = length-map a.occupant_entries.items occupant_of in
    let occupant_entry = some_guest a.occupant_entries.items j (omega arith) in
    go occupant_entry.0 occupant_entry.1 where
      some_guest : (xs : List (Option OccupantEntry)) (k : ℕ) → k < length xs → (x : Option OccupantEntry) × (slice_get xs k ≡ Some x)
      some_guest [] k less = absurd (omega arith)
      some_guest (x ∷ xs) zero less = (x, refl)
      some_guest (x ∷ xs) (suc k) less = some_guest xs k (omega arith)

      row_there : (xss : List (List Page)) (k : ℕ) → 1 ≤ length (get_or xss k []) → k < length xss
      row_there [] k some = absurd (omega arith)
      row_there (xs ∷ xss) zero some = omega arith
      row_there (xs ∷ xss) (suc k) some = let r = row_there xss k some in omega arith

      seen : (xs : List (Option OccupantEntry)) (k : ℕ) (x : Option OccupantEntry) → slice_get xs k ≡ Some x → slice_get (map occupant_of xs) k ≡ Some (occupant_of x)
      seen [] k x is = absurd (cc is)
      seen (y ∷ xs) zero x is = let e : y ≡ x = cc in rw e refl
      seen (y ∷ xs) (suc k) x is = seen xs k x is

      go : (x : Option OccupantEntry) → slice_get a.occupant_entries.items j ≡ Some x → ⊥
      go None is = (
          let empty : get_or (space_of a).tables j [] ≡ [] = was.sound.occupants.have j None (seen a.occupant_entries.items j None is) in
          let none = ap length empty in
          omega arith)
      go (Some h) is = other (was.sound.occupants.numbers j i _ _ (seen a.occupant_entries.items j (Some h) is) (seen a.occupant_entries.items i (Some g) there) (sym (was.numbers j h is) ∙ same ∙ was.numbers i g there))

-- no pages are at a free place, and whoever has pages has another number
pub none_at_free : (s : Space) (i : ℕ) → IsSound s → IsFreePlace s i → get_or s.tables i [] ≡ []
none_at_free s i sound (inl none) = sound.occupants.have i None none
none_at_free s i sound (inr past) = past_there s.tables i (let l = sound.occupants.tables in omega arith)

pub other_number : (a : Inside) (j n : ℕ) → IsWell a → ((k : ℕ) (t : Occupant) → occupant_at (space_of a) k t → t.number ≢ n) → 1 ≤ length (get_or a.tables.pages j []) → get_or a.tables.numbers j 0 ≢ n
other_number a j n was fresh some same =
    let s : Space = space_of a in
    let within = row_there s.tables j some in
    let many = was.sound.occupants.tables in
    let l = length-map a.occupant_entries.items occupant_of in
    let occupant_entry = some_guest a.occupant_entries.items j (omega arith) in
    go occupant_entry.0 occupant_entry.1 where
      some_guest : (xs : List (Option OccupantEntry)) (k : ℕ) → k < length xs → (x : Option OccupantEntry) × (slice_get xs k ≡ Some x)
      some_guest [] k less = absurd (omega arith)
      some_guest (x ∷ xs) zero less = (x, refl)
      some_guest (x ∷ xs) (suc k) less = some_guest xs k (omega arith)

      row_there : (xss : List (List Page)) (k : ℕ) → 1 ≤ length (get_or xss k []) → k < length xss
      row_there [] k some = absurd (omega arith)
      row_there (xs ∷ xss) zero some = omega arith
      row_there (xs ∷ xss) (suc k) some = let r = row_there xss k some in omega arith

      seen : (xs : List (Option OccupantEntry)) (k : ℕ) (x : Option OccupantEntry) → slice_get xs k ≡ Some x → slice_get (map occupant_of xs) k ≡ Some (occupant_of x)
      seen [] k x is = absurd (cc is)
      seen (y ∷ xs) zero x is = let e : y ≡ x = cc in rw e refl
      seen (y ∷ xs) (suc k) x is = seen xs k x is

      go : (x : Option OccupantEntry) → slice_get a.occupant_entries.items j ≡ Some x → ⊥
      go None is = (
          let empty : get_or (space_of a).tables j [] ≡ [] = was.sound.occupants.have j None (seen a.occupant_entries.items j None is) in
          let none = ap length empty in
          omega arith)
      go (Some g) is = fresh j _ (seen a.occupant_entries.items j (Some g) is) (sym (was.numbers j g is) ∙ same)

-- ---- nobody's tickets

tally_zero : {X : Type 0} (w : X → ℕ) (xs : List X) → ((k : ℕ) (x : X) → slice_get xs k ≡ Some x → w x ≡ 0) → tally w xs ≡ 0
tally_zero w [] none = refl
tally_zero w (x ∷ xs) none = let e = none 0 x refl in let rest = tally_zero w xs (λ k y is. none (suc k) y is) in omega arith

not_there : (s : Space) (i : ℕ) (t : Occupant) → IsFreePlace s i → occupant_at s i t → ⊥
not_there s i t (inl none) is = let both : Some None ≡ Some (Some t) = sym none ∙ is in cc
not_there s i t (inr past) is = let l = there_of s.occupants i (Some t) is in omega arith

no_page : (s : Space) (i p : ℕ) (x : Page) → IsSound s → IsFreePlace s i → page_at s.tables i p ≡ Some x → ⊥
no_page s i p x sound (inl none) is =
    let empty : get_or s.tables i [] ≡ [] = sound.occupants.have i None none in
    let bad : None ≡ Some x = sym (ap (λ (z : List Page). slice_get z p) empty) ∙ is in
    cc
no_page s i p x sound (inr past) is =
    let empty : get_or s.tables i [] ≡ [] = past_there s.tables i (let l = sound.occupants.tables in omega arith) in
    let bad : None ≡ Some x = sym (ap (λ (z : List Page). slice_get z p) empty) ∙ is in
    cc

no_ticket : (s : Space) (i k : ℕ) (x : Slot) → IsSound s → IsFreePlace s i → slice_get s.slots.uses k ≡ Some x → ticket_of i x ≡ 0
no_ticket s i k Vacant sound free is = refl
no_ticket s i k Taken sound free is = refl
no_ticket s i k (Evicting j p) sound free is = one_other i j (λ same.
    (let t = sound.slots.by_one i k (subst (LeavesBy i) (sym is) (sym same)) in not_there s i t.0 free t.1))
no_ticket s i k (EvictVoid j) sound free is = one_other i j (λ same.
    (let t = sound.slots.by_one i k (subst (LeavesBy i) (sym is) (sym same)) in not_there s i t.0 free t.1))
no_ticket s i k (Fetching j p f) sound free is = one_other i j (λ same.
    (let used : IsUsed s k (Some (Fetching j p f)) = subst (IsUsed s k) is (sound.slots.used k) in
    no_page s i p (Coming k) sound free (rw same used.3)))
no_ticket s i k (FetchVoid j f) sound free is = one_other i j (λ same.
    (let t = sound.slots.voids j k f is in not_there s i t.0 free (rw same t.1)))

no_tickets : (s : Space) (i : ℕ) → IsSound s → IsFreePlace s i → tally (ticket_of i) s.slots.uses ≡ 0
no_tickets s i sound free = tally_zero (ticket_of i) s.slots.uses (λ k x is. no_ticket s i k x sound free is)

-- ---- who is there then

row_few : {X : Type 0} (xs : List X) (i : ℕ) (x : X) (n : ℕ) → length xs ≤ n → i < n → i ≤ length xs → length (with_row xs i x) ≤ n
row_few xs i x n few less within = elim (cases_lt i (length xs)) [
  | inl here ↦ (let e : with_row xs i x ≡ slice_set xs i x = grind (arith, nat_tests) in let l = length-set xs i x in rw e (omega arith))
  | inr behind ↦ (let e : with_row xs i x ≡ xs ++ x ∷ [] = grind (arith, nat_tests) in let l = length-append xs (x ∷ []) in rw e (omega arith))
]

-- the one who came, or one who was there
now_there : (xs : List (Option OccupantEntry)) (i j : ℕ) (p : Promise) (t : OccupantEntry) → i ≤ length xs → slice_get (with_row xs i (Some (guest_of p))) j ≡ Some (Some t)
    → ((j ≡ i) × (guest_of p ≡ t)) ⊎ ((j ≢ i) × (slice_get xs j ≡ Some (Some t)))
now_there xs i j p t there is = elim (here_or i j) [
  | inr other ↦ inr (λ e. other e, sym (row_other xs i j (Some (guest_of p)) there (λ e. other e)) ∙ is)
  | inl same ↦ inl (same, (let both : Some (Some (guest_of p)) ≡ Some (Some t) = sym (row_same xs i (Some (guest_of p)) there) ∙ subst (λ (z : ℕ). slice_get (with_row xs i (Some (guest_of p))) z ≡ Some (Some t)) same is in cc))
]

-- the same element is got
got_same : {X : Type 0} (xs ys : List X) (j : ℕ) (none : X) → slice_get xs j ≡ slice_get ys j → get_or xs j none ≡ get_or ys j none
got_same xs ys j none same = got xs j none ∙ ap (λ o. or_else o none) same ∙ sym (got ys j none) where
  or_else : {X : Type 0} → Option X → X → X
  or_else None none = none
  or_else (Some x) none = x

  got : {X : Type 0} (xs : List X) (j : ℕ) (none : X) → get_or xs j none ≡ or_else (slice_get xs j) none
  got [] j none = refl
  got (x ∷ xs) zero none = refl
  got (x ∷ xs) (suc j) none = got xs j none

pub entered : (a b : Inside) (i : ℕ) (p : Promise) (size : ℕ) → IsWell a → MayEnter (space_of a) i p size → b.occupant_entries.items ≡ with_row a.occupant_entries.items i (Some (guest_of p))
    → b.tables ≡ with_table a.tables i p size → length a.tables.limits ≡ length a.tables.pages → length a.tables.numbers ≡ length a.tables.pages → b.pool ≡ a.pool → b.content ≡ a.content → b.slots ≡ a.slots → b.pins ≡ a.pins → b.tax ≡ a.tax → i < 2 ^ 32
    → Enters (space_of a) i (claimed p) size (space_of b) × IsWell b
entered a b i p size was may occupant_entries tables limits_long numbers_long pool content slots pins tax place =
    let s : Space = space_of a in
    let occupants : (space_of b).occupants ≡ with_row s.occupants i (Some (newcomer (claimed p))) = ap (map occupant_of) occupant_entries ∙ map_row occupant_of a.occupant_entries.items i (Some (guest_of p)) in
    let pages : (space_of b).tables ≡ with_row s.tables i (replicate (16 * size) Untouched) = ap (λ (z : TablesState). z.pages) tables in
    let marks : (space_of b).touched ≡ with_row s.touched i (replicate (16 * size) false) = ap (λ (z : TablesState). z.marks) tables in
    let enters : Enters s i (claimed p) size (space_of b) = record {
      free = may.free;
      room = may.room;
      shares = may.shares;
      bounds = may.bounds;
      fits = may.fits;
      fresh = may.fresh;
      leaves = rw (occupants, pages, marks, pool, content, slots, pins, tax) refl;
    } in (
      enters,
      record {
        sound = enters_soundly s i (claimed p) size (space_of b) was.sound enters;
        limits = λ j t is.
            (let most = free_within s i may.free in
            let l = length-map a.occupant_entries.items occupant_of in
            let o = was.sound.occupants.tables in
            let there : i ≤ length a.occupant_entries.items = omega arith in
            let within : i ≤ length a.tables.limits = omega arith in
            let now = ap (λ (z : TablesState). z.limits) tables in
            let is2 : slice_get (with_row a.occupant_entries.items i (Some (guest_of p))) j ≡ Some (Some t) = ap (λ (z : List (Option OccupantEntry)). slice_get z j) (sym occupant_entries) ∙ is in
            elim (now_there a.occupant_entries.items i j p t there is2) [
              | inr (other, before) ↦ ap (λ (z : List ℕ). slice_get z j) now ∙ (row_other a.tables.limits i j p.max within (λ e. other e) ∙ was.limits j t before)
              | inl (same, one) ↦ search (rules, ℕ, row_same)
            ]);
        numbers = λ j t is.
            (let most = free_within s i may.free in
            let l = length-map a.occupant_entries.items occupant_of in
            let o = was.sound.occupants.tables in
            let there : i ≤ length a.occupant_entries.items = omega arith in
            let within : i ≤ length a.tables.numbers = omega arith in
            let now = ap (λ (z : TablesState). z.numbers) tables in
            let is2 : slice_get (with_row a.occupant_entries.items i (Some (guest_of p))) j ≡ Some (Some t) = ap (λ (z : List (Option OccupantEntry)). slice_get z j) (sym occupant_entries) ∙ is in
            elim (now_there a.occupant_entries.items i j p t there is2) [
              | inr (other, before) ↦ ap (λ (z : List ℕ). get_or z j 0) now ∙ (got_same _ a.tables.numbers j 0 (row_other a.tables.numbers i j p.number within (λ e. other e)) ∙ was.numbers j t before)
              | inl (same, one) ↦
                  ap (λ (z : List ℕ). get_or z j 0) now ∙ (ap (λ (z : ℕ). get_or (with_row a.tables.numbers i p.number) z 0) same ∙ (get_or_is (with_row a.tables.numbers i p.number) i p.number 0 (row_same a.tables.numbers i p.number within) ∙ ap (λ (g : OccupantEntry). g.number) one))
            ]);
        frames = ap (λ (z : TablesState). z.frames) tables ∙ was.frames ∙ sym (ap (λ (z : Pool). length z.frames) pool);
        counted = λ j t is.
            (let most = free_within s i may.free in
            let l = length-map a.occupant_entries.items occupant_of in
            let there : i ≤ length a.occupant_entries.items = omega arith in
            let is2 : slice_get (with_row a.occupant_entries.items i (Some (guest_of p))) j ≡ Some (Some t) = ap (λ (z : List (Option OccupantEntry)). slice_get z j) (sym occupant_entries) ∙ is in
            let same_slots : tally (ticket_of j) b.slots.uses ≡ tally (ticket_of j) a.slots.uses = ap (λ (z : Slots). tally (ticket_of j) z.uses) slots in
            elim (now_there a.occupant_entries.items i j p t there is2) [
              | inr (other, before) ↦ was.counted j t before ∙ sym same_slots
              | inl (same, one) ↦
                  (let none = no_tickets s i was.sound may.free in
                  let zero_now : t.tickets ≡ 0 = ap (λ (g : OccupantEntry). g.tickets) (sym one) in
                  zero_now ∙ sym (same_slots ∙ (rw same none)))
            ]);
        places =
            (let most = free_within s i may.free in
            let l = length-map a.occupant_entries.items occupant_of in
            rw occupant_entries (row_few a.occupant_entries.items i (Some (guest_of p)) (2 ^ 32) was.places place (omega arith)));
      },
    )
