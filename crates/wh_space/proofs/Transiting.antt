-- Who has a place when pages of it leave and come, and tickets that are counted.
use Rattle.std.proofs.Common.{◌≡◌, ◌≢◌, inl, inr, ℕ, ◌+◌, ◌-◌, ◌*◌, ◌<◌, ◌≤◌, ◌^◌, true, List, [], ◌∷◌, Option, Some, None, IfSome, length, length-set, get_or, map, slice_get, slice_set, zero, suc, refl, sym, ◌∙◌, ap, arith, rules}
use Rattle.std.proofs.lemmas.Bool.Decides.{nat_tests}
use Rattle.std.proofs.lemmas.List.{get_or-set_same, length-map, map-set}
use Rattle.wh_model.specs.declared.memory.Need.{Need}
use Rattle.wh_space_model.specs.{one_if, tally, ticket_of, Occupant, Space, occupant_at, IsSound, WaitsForBytes, leaving_by, stays_occupant}
use Rattle.wh_space_model.specs.declared.states.Slot.{Slot}
use Rattle.wh_space_model.specs.declared.states.Slot.TheVariants.{Vacant, Taken, Evicting, EvictVoid, Fetching, FetchVoid}
use Rattle.wh_space_model.proofs.Putting.{get_or_is, here_or, set_other, set_same, there_of}
use Rattle.wh_space_model.proofs.Rooms.{get_there}
use Rattle.wh_space_model.proofs.Sent.{set_set}
use Rattle.wh_space_model.proofs.Sums.{set_tally}
use Rattle.wh_space.specs.declared.occupant_entry.OccupantEntry.{OccupantEntry}
use Rattle.wh_space.specs.declared.memory.Memory.TheInside.{Inside}
use Rattle.wh_space.specs.OccupantEntries.{begins_coming, begins_leaving, ends_coming, ends_leaving, settles}
use Rattle.wh_space.specs.UnchangedTables.{Fixed, fixed_in}
use Rattle.wh_space.specs.Parts.{IsWell, named, occupant_of, space_of}

-- ---- how who is there changes: with n tickets

abbrev pub Changes : (Option OccupantEntry → Option OccupantEntry) → (ℕ → ℕ) → Type 0
Changes change count = (y : Option OccupantEntry) (t : OccupantEntry) → change y ≡ Some t → (g : OccupantEntry) × (y ≡ Some g) × (named g ≡ named t) × (t.tickets ≡ count g.tickets)

both_of : {g t : OccupantEntry} → Some g ≡ Some t → (named g ≡ named t) × (t.tickets ≡ g.tickets)
both_of {g} {t} e = let k : g ≡ t = cc in (ap named k, ap (λ (z : OccupantEntry). z.tickets) (sym k))

pub changes_leaving : (k : ℕ) → Changes (begins_leaving k) (λ n. n + 1)
changes_leaving k None t is = absurd (cc is)
changes_leaving k (Some g) t is = let e = both_of is in (g, refl, e.0, e.1)

pub changes_coming : Changes begins_coming (λ n. n + 1)
changes_coming None t is = absurd (cc is)
changes_coming (Some g) t is = let e = both_of is in (g, refl, e.0, e.1)

pub changes_left : Changes ends_leaving (λ n. n - 1)
changes_left None t is = absurd (cc is)
changes_left (Some g) t is = let e = both_of is in (g, refl, e.0, e.1)

pub changes_came : Changes ends_coming (λ n. n - 1)
changes_came None t is = absurd (cc is)
changes_came (Some g) t is = let e = both_of is in (g, refl, e.0, e.1)

pub changes_settled : (change : Option OccupantEntry → Option OccupantEntry) (count : ℕ → ℕ) → Changes change count → Changes (λ y. settles (change y)) count
changes_settled change count so y t is = search rules

-- ---- the memory is well then

pub well_by : (a b : Inside) (i : ℕ) (change : Option OccupantEntry → Option OccupantEntry) (count : ℕ → ℕ) → Changes change count → IsWell a → IsSound (space_of b) → i < length a.occupant_entries.items
    → b.occupant_entries.items ≡ slice_set a.occupant_entries.items i (change (get_or a.occupant_entries.items i None)) → fixed_in b.tables ≡ fixed_in a.tables → length b.pool.frames ≡ length a.pool.frames
    → ((g : OccupantEntry) → slice_get a.occupant_entries.items i ≡ Some (Some g) → count g.tickets ≡ tally (ticket_of i) b.slots.uses)
    → ((j : ℕ) → j ≢ i → tally (ticket_of j) b.slots.uses ≡ tally (ticket_of j) a.slots.uses) → IsWell b
well_by a b i change count so was sound less occupant_entries fixed frames mine others =
    let xs : List (Option OccupantEntry) = a.occupant_entries.items in
    let there = get_there xs i less in
    let row : get_or xs i None ≡ there.0 = get_or_is xs i there.0 None there.1 in
    let here : (t : OccupantEntry) → slice_get b.occupant_entries.items i ≡ Some (Some t) → (g : OccupantEntry) × (slice_get xs i ≡ Some (Some g)) × (named g ≡ named t) × (t.tickets ≡ count g.tickets) =
    search (rules, set_same) in
    let away : (j : ℕ) (t : OccupantEntry) → j ≢ i → slice_get b.occupant_entries.items j ≡ Some (Some t) → slice_get xs j ≡ Some (Some t) =
    λ j t other is. sym (ap (λ (z : List (Option OccupantEntry)). slice_get z j) occupant_entries ∙ set_other xs i j (change (get_or xs i None)) other) ∙ is in
    record {
      sound = sound;
      limits = search (rules, here_or);
      numbers = search (rules, here_or);
      frames = ap (λ (z : Fixed). z.frames) fixed ∙ was.frames ∙ sym frames;
      counted = λ j t is. elim (here_or i j) [
        | inr other ↦ was.counted j t (away j t (λ e. other e) is) ∙ sym (others j (λ e. other e))
        | inl same ↦ search rules
      ];
      places = (let long = ap length occupant_entries ∙ length-set xs i _ in rw long was.places);
    }

-- ---- who has the place, as the definitions have it

pub got_occupant : (xs : List (Option OccupantEntry)) (i : ℕ) → get_or (map occupant_of xs) i None ≡ occupant_of (get_or xs i None)
got_occupant [] i = refl
got_occupant (x ∷ xs) zero = refl
got_occupant (x ∷ xs) (suc i) = got_occupant xs i

-- this change is that one
abbrev pub IsSeenAs : (Option OccupantEntry → Option OccupantEntry) → (Option Occupant → Option Occupant) → Type 0
IsSeenAs change seen = (y : Option OccupantEntry) → occupant_of (change y) ≡ seen (occupant_of y)

pub seen_leaving : (k : ℕ) → IsSeenAs (begins_leaving k) (λ o. leaving_by o (Some k))
seen_leaving k None = refl
seen_leaving k (Some g) = refl

pub seen_left : IsSeenAs ends_leaving (λ o. leaving_by o None)
seen_left None = refl
seen_left (Some g) = refl

pub seen_coming : IsSeenAs begins_coming (λ o. o)
seen_coming None = refl
seen_coming (Some g) = refl

pub seen_came : IsSeenAs ends_coming (λ o. o)
seen_came None = refl
seen_came (Some g) = refl

pub changed : (change : Option OccupantEntry → Option OccupantEntry) (seen : Option Occupant → Option Occupant) → IsSeenAs change seen → (xs ys : List (Option OccupantEntry)) (i : ℕ)
    → ys ≡ slice_set xs i (change (get_or xs i None)) → map occupant_of ys ≡ slice_set (map occupant_of xs) i (seen (get_or (map occupant_of xs) i None))
changed change seen seeing xs ys i is = search (rules, map-set, got_occupant)

set_itself : {X : Type 0} (xs : List X) (i : ℕ) (none : X) → slice_set xs i (get_or xs i none) ≡ xs
set_itself [] i none = refl
set_itself (x ∷ xs) zero none = refl
set_itself (x ∷ xs) (suc i) none = ap (λ z. x ∷ z) (set_itself xs i none)

-- nothing is seen of it
pub unchanged : (change : Option OccupantEntry → Option OccupantEntry) → IsSeenAs change (λ o. o) → (xs ys : List (Option OccupantEntry)) (i : ℕ)
    → ys ≡ slice_set xs i (change (get_or xs i None)) → map occupant_of ys ≡ map occupant_of xs
unchanged change seeing xs ys i is = changed change (λ o. o) seeing xs ys i is ∙ set_itself (map occupant_of xs) i None

-- one change after the other
pub changed_twice : (change also : Option OccupantEntry → Option OccupantEntry) (xs ys zs : List (Option OccupantEntry)) (i : ℕ) → i < length xs → ys ≡ slice_set xs i (change (get_or xs i None))
    → zs ≡ slice_set ys i (also (get_or ys i None)) → zs ≡ slice_set xs i (also (change (get_or xs i None)))
changed_twice change also xs ys zs i less first second = search (rules, get_or-set_same, set_set)

settled_as : (y : Option OccupantEntry) (n : ℕ) → ((t : OccupantEntry) → y ≡ Some t → t.tickets ≡ n) → occupant_of (settles y) ≡ stays_occupant (occupant_of y) n
settled_as None n same = refl
settled_as (Some g) n same = search rules

-- and the place may be free then
pub settled_after : (change : Option OccupantEntry → Option OccupantEntry) (seen : Option Occupant → Option Occupant) (count : ℕ → ℕ) → IsSeenAs change seen → Changes change count → (xs ys zs : List (Option OccupantEntry)) (i n : ℕ)
    → i < length xs → ys ≡ slice_set xs i (change (get_or xs i None)) → zs ≡ slice_set ys i (settles (get_or ys i None))
    → ((g : OccupantEntry) → slice_get xs i ≡ Some (Some g) → count g.tickets ≡ n)
    → map occupant_of zs ≡ slice_set (map occupant_of ys) i (stays_occupant (get_or (map occupant_of ys) i None) n)
settled_after change seen count seeing so xs ys zs i n less first second mine =
    let there = get_there xs i less in
    let row : get_or xs i None ≡ there.0 = get_or_is xs i there.0 None there.1 in
    let v : Option OccupantEntry = change (get_or xs i None) in
    let at_it : get_or ys i None ≡ v = ap (λ (z : List (Option OccupantEntry)). get_or z i None) first ∙ get_or-set_same xs i v None less in
    let tickets : (t : OccupantEntry) → get_or ys i None ≡ Some t → t.tickets ≡ n = search rules in
    ap (map occupant_of) second ∙ (map-set occupant_of ys i (settles (get_or ys i None))
    ∙ ap (slice_set (map occupant_of ys) i) (settled_as (get_or ys i None) n tickets ∙ ap (λ (o : Option Occupant). stays_occupant o n) (sym (got_occupant ys i))))

-- ---- tickets that begin and end

pub more_tickets : (uses : List Slot) (i k : ℕ) (x y : Slot) → slice_get uses k ≡ Some x → ticket_of i x ≡ 0 → ticket_of i y ≡ 1 → tally (ticket_of i) uses + 1 ≡ tally (ticket_of i) (slice_set uses k y)
more_tickets uses i k x y is none one = let e = set_tally (ticket_of i) uses k x y is in omega arith

pub fewer_tickets : (uses : List Slot) (i k : ℕ) (x y : Slot) → slice_get uses k ≡ Some x → ticket_of i x ≡ 1 → ticket_of i y ≡ 0 → tally (ticket_of i) uses - 1 ≡ tally (ticket_of i) (slice_set uses k y)
fewer_tickets uses i k x y is one none = let e = set_tally (ticket_of i) uses k x y is in omega arith

pub other_tickets : (uses : List Slot) (j k : ℕ) (x y : Slot) → slice_get uses k ≡ Some x → ticket_of j x ≡ ticket_of j y → tally (ticket_of j) (slice_set uses k y) ≡ tally (ticket_of j) uses
other_tickets uses j k x y is same = let e = set_tally (ticket_of j) uses k x y is in omega arith

one_most : (f g : ℕ) → one_if f g ≤ 1
one_most f g = grind (arith, nat_tests)

-- they are no more than slots
one_ticket : (i : ℕ) (x : Slot) → ticket_of i x ≤ 1
one_ticket i Vacant = omega arith
one_ticket i Taken = omega arith
one_ticket i (Evicting j p) = one_most i j
one_ticket i (EvictVoid j) = one_most i j
one_ticket i (Fetching j p f) = one_most i j
one_ticket i (FetchVoid j f) = one_most i j

tickets_most : (i : ℕ) (uses : List Slot) → tally (ticket_of i) uses ≤ length uses
tickets_most i [] = omega arith
tickets_most i (x ∷ uses) = let a = one_ticket i x in let b = tickets_most i uses in omega arith

pub tickets_few : (a : Inside) (i : ℕ) → IsWell a → length a.slots.uses < 2 ^ 32 → i < length a.occupant_entries.items → IfSome (get_or a.occupant_entries.items i None) (λ occupant_entry. occupant_entry.tickets + 1 < 2 ^ 64)
tickets_few a i was few less =
    let there = get_there a.occupant_entries.items i less in
    let row : get_or a.occupant_entries.items i None ≡ there.0 = get_or_is a.occupant_entries.items i there.0 None there.1 in
    rw row (go there.0 there.1) where
      go : (y : Option OccupantEntry) → slice_get a.occupant_entries.items i ≡ Some y → IfSome y (λ occupant_entry. occupant_entry.tickets + 1 < 2 ^ 64)
      go None is = tt
      go (Some g) is = let n = was.counted i g is in let most = tickets_most i a.slots.uses in omega arith

-- ---- who stands is there, with the bytes in its table

pub stands_there : (s : Space) (i : ℕ) (need : Need) → WaitsForBytes s i need → (t : Occupant) × occupant_at s i t × (t.live ≡ true)
stands_there s i need stands = (stands.0, stands.1, stands.2)

pub stands_within : (s : Space) (i : ℕ) (need : Need) → IsSound s → WaitsForBytes s i need → (need.at + need.length ≤ 4096 * length (get_or s.tables i [])) × (need.length ≤ 4096)
stands_within s i need sound stands = let n = sound.occupants.needs i stands.0 need stands.1 stands.3 in (n.1, n.2)

-- a place of an occupant is one of the occupants'
pub guest_within : (a : Inside) (i : ℕ) (t : Occupant) → occupant_at (space_of a) i t → i < length a.occupant_entries.items
guest_within a i t there = let within = there_of (map occupant_of a.occupant_entries.items) i (Some t) there in let long = length-map a.occupant_entries.items occupant_of in omega arith

-- and so is one of a table's
pub table_within : (a : Inside) (i : ℕ) → IsSound (space_of a) → i < length (space_of a).tables → i < length a.occupant_entries.items
table_within a i sound less = let long = length-map a.occupant_entries.items occupant_of in let same = sound.occupants.tables in omega arith
