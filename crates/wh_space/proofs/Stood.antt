-- An instance that waits for a frame, or doesn't.
use Rattle.std.proofs.Common.{◌≡◌, ℕ, ◌+◌, ◌*◌, ◌≤◌, ◌++◌, cond, List, [], ◌∷◌, Option, Some, None, true, length, length-set, get_or, map, slice_get, slice_set, zero, suc, refl, sym, ◌∙◌, ap, subst, rules}
use Rattle.wh_model.specs.declared.memory.Need.{Need}
use Rattle.wh_space_model.specs.{has_pins, Pool, Occupant, Space, kept_by, occupant_at, IsSound, ended, awaiting, stood}
use Rattle.wh_space_model.proofs.Steady.{ends_soundly, waits_soundly}
use Rattle.wh_space.specs.declared.occupant_entry.OccupantEntry.{OccupantEntry}
use Rattle.wh_space.specs.declared.memory.Memory.TheInside.{Inside}
use Rattle.wh_space.specs.OccupantEntries.{entry_awaiting}
use Rattle.wh_space.specs.Parts.{IsWell, named, occupant_of, space_of}
use Rattle.wh_space.specs.Pinning.{pins_of}
use Rattle.wh_space.proofs.Earmarked.{ends_pins}

stands_of : (g : Option OccupantEntry) (need : Option Need) → occupant_of (entry_awaiting g need) ≡ awaiting (occupant_of g) need
stands_of None need = refl
stands_of (Some g) need = refl

-- the occupants are as the definition has them
pub stood_occupants : (xs : List (Option OccupantEntry)) (i : ℕ) (need : Option Need)
    → map occupant_of (slice_set xs i (entry_awaiting (get_or xs i None) need)) ≡ slice_set (map occupant_of xs) i (awaiting (get_or (map occupant_of xs) i None) need)
stood_occupants [] i need = refl
stood_occupants (x ∷ xs) zero need = let e = stands_of x need in cc
stood_occupants (x ∷ xs) (suc i) need = let e = stood_occupants xs i need in cc

-- who is there now was there, with the same maximum and as many tickets
same_max : (x : Option OccupantEntry) (need : Option Need) (t : OccupantEntry) → entry_awaiting x need ≡ Some t → (g : OccupantEntry) × (x ≡ Some g) × (named g ≡ named t) × (g.tickets ≡ t.tickets)
same_max None need t is = absurd (cc is)
same_max (Some g) need t is = let e : record g { stands = need } ≡ t = cc in (g, refl, ap named e, ap (λ (z : OccupantEntry). z.tickets) e)

pub was_there : (xs : List (Option OccupantEntry)) (i j : ℕ) (need : Option Need) (t : OccupantEntry) → slice_get (slice_set xs i (entry_awaiting (get_or xs i None) need)) j ≡ Some (Some t)
    → (g : OccupantEntry) × (slice_get xs j ≡ Some (Some g)) × (named g ≡ named t) × (g.tickets ≡ t.tickets)
was_there [] i j need t is = absurd (cc is)
was_there (x ∷ xs) zero zero need t is = search (rules, same_max)
was_there (x ∷ xs) zero (suc j) need t is = (t, is, refl, refl)
was_there (x ∷ xs) (suc i) zero need t is = (t, is, refl, refl)
was_there (x ∷ xs) (suc i) (suc j) need t is = was_there xs i j need t is

-- who stands now, or doesn't
stands_well : (a b : Inside) (i : ℕ) (need : Option Need) → IsWell a → b.occupant_entries.items ≡ slice_set a.occupant_entries.items i (entry_awaiting (get_or a.occupant_entries.items i None) need) → b.tables ≡ a.tables → length b.pool.frames ≡ length a.pool.frames → b.slots ≡ a.slots
    → IsSound (space_of b) → IsWell b
stands_well a b i need was occupant_entries tables frames slots sound = search (rules, ℕ, was_there, length-set)

pub stood_well : (a b : Inside) (i : ℕ) (need : Option Need) (t : Occupant) → IsWell a → occupant_at (space_of a) i t
    → ((want : Need) → need ≡ Some want → (t.live ≡ true) × (want.at + want.length ≤ 4096 * length (get_or (space_of a).tables i [])) × (want.length ≤ 4096))
    → b.occupant_entries.items ≡ slice_set a.occupant_entries.items i (entry_awaiting (get_or a.occupant_entries.items i None) need) → b.tables ≡ a.tables → b.pool ≡ a.pool → b.content ≡ a.content → b.slots ≡ a.slots → b.pins ≡ a.pins → b.tax ≡ a.tax
    → IsWell b × (space_of b ≡ stood (space_of a) i need)
stood_well a b i need t was there may occupant_entries tables pool content slots pins tax =
    let s : Space = space_of a in
    let occupants = ap (map occupant_of) occupant_entries ∙ stood_occupants a.occupant_entries.items i need in
    let is : space_of b ≡ stood s i need = rw (occupants, tables, pool, content, slots, pins, tax) refl in
    let sound = waits_soundly s i t need was.sound there may in
    (stands_well a b i need was occupant_entries tables (ap (λ (z : Pool). length z.frames) pool) slots (subst IsSound (sym is) sound), is)

-- it doesn't wait for a frame any more, and its pins and earmarks have ended
pub ended_well : (a b : Inside) (i : ℕ) (t : Occupant) → IsWell a → occupant_at (space_of a) i t
    → b.occupant_entries.items ≡ slice_set a.occupant_entries.items i (entry_awaiting (get_or a.occupant_entries.items i None) None) → b.tables ≡ a.tables → b.content ≡ a.content → b.slots ≡ a.slots → b.tax ≡ a.tax
    → pins_of b.pins ≡ cond (has_pins (pins_of a.pins) i) None (pins_of a.pins) → b.pool ≡ record a.pool { free = a.pool.free ++ kept_by (pins_of a.pins) i }
    → IsWell b × (space_of b ≡ ended (space_of a) i)
ended_well a b i t was there occupant_entries tables content slots tax pins pool =
    let s : Space = space_of a in
    let occupants = ap (map occupant_of) occupant_entries ∙ stood_occupants a.occupant_entries.items i None in
    let now : space_of b ≡ record (stood s i None) { pool = b.pool; pins = pins_of b.pins } = rw (occupants, tables, content, slots, tax) refl in
    let is : space_of b ≡ ended s i = now ∙ ends_pins (stood s i None) i b.pool (pins_of b.pins) pins pool in
    let sound = ends_soundly s i t was.sound there in
    (stands_well a b i None was occupant_entries tables (ap (λ (z : Pool). length z.frames) pool) slots (subst IsSound (sym is) sound), is)
