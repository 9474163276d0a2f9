-- How long tables are, and may be.
use Rattle.std.proofs.Common.{◌≡◌, ℕ, ◌+◌, ◌*◌, ◌/◌, ◌≤◌, ◌⊎◌, inl, inr, List, [], ◌∷◌, Option, Some, None, Bool, true, false, length, get_or, slice_get, map, zero, suc, refl, sym, ◌∙◌, ap, arith, rules}
use Rattle.std.proofs.lemmas.Bool.{cases_lt}
use Rattle.wh_space_model.specs.{Occupant, Space, claim_of, HasTable, IsSound, Grew}
use Rattle.wh_space_model.proofs.Enlarged.{grows_soundly}
use Rattle.wh_space_model.proofs.Putting.{get_or_is}
use Rattle.wh_space_model.proofs.Rooms.{get_there}
use Rattle.wh_space_model.proofs.Rows.{past_there}
use Rattle.wh_space.specs.declared.memory.Memory.TheInside.{Inside}
use Rattle.wh_space.specs.declared.occupant_entry.OccupantEntry.{OccupantEntry}
use Rattle.wh_space.specs.UnchangedTables.{fixed_in}
use Rattle.wh_space.specs.Parts.{IsWell, occupant_of, space_of}
use Rattle.wh_space.specs.Steps.{limit_by, page_limit}
use Rattle.wh_space.proofs.Wellness.{well}

-- the occupant who an occupant represents
abbrev pub occupant : OccupantEntry → Occupant
occupant t = record { number = t.number; live = t.live; shares = t.shares; min = t.min; max = t.max; stands = t.stands; leaves = t.leaves }

-- somebody is there, or nobody
pub record IsThere (occupant_entries : List (Option OccupantEntry)) (i : ℕ) : Type 0 where
  pub occupant_entry : OccupantEntry
  pub there : slice_get occupant_entries i ≡ Some (Some occupant_entry)
  pub occupies : slice_get (map occupant_of occupant_entries) i ≡ Some (Some (occupant occupant_entry))

pub somebody : (occupant_entries : List (Option OccupantEntry)) (i : ℕ) → IsThere occupant_entries i ⊎ (get_or (map occupant_of occupant_entries) i None ≡ None)
somebody [] i = inr refl
somebody (None ∷ occupant_entries) zero = inr refl
somebody (Some t ∷ occupant_entries) zero = inl (record { occupant_entry = t; there = refl; occupies = refl })
somebody (x ∷ occupant_entries) (suc i) =
    elim (somebody occupant_entries i) [
      | inl here ↦ inl (record { occupant_entry = here.occupant_entry; there = here.there; occupies = here.occupies })
      | inr none ↦ inr none
    ]

-- ---- a table has whole pages of WebAssembly, within its limit

pub sixteens : (s : Space) (i : ℕ) → IsSound s → (n : ℕ) × (length (get_or s.tables i []) ≡ 16 * n)
sixteens s i sound =
    elim (cases_lt i (length s.occupants)) [
      | inl within ↦ (let t = get_there s.occupants i within in by t.0 (sound.occupants.have i t.0 t.1))
      | inr past ↦ (let l = sound.occupants.tables in let none = past_there s.tables i (omega arith) in (0, rw none refl))
    ] where
      by : (t : Option Occupant) → HasTable t (get_or s.tables i []) → (n : ℕ) × (length (get_or s.tables i []) ≡ 16 * n)
      by None has = (0, rw has refl)
      by (Some t) has = has.7

none_there : (s : Space) (i : ℕ) → IsSound s → get_or s.occupants i None ≡ None → get_or s.tables i [] ≡ []
none_there s i sound none =
    elim (cases_lt i (length s.occupants)) [
      | inl within ↦ (let t = get_there s.occupants i within in
          let same : t.0 ≡ None = sym (get_or_is s.occupants i t.0 None t.1) ∙ none in
          sound.occupants.have i None (t.1 ∙ ap Some same))
      | inr past ↦ (let l = sound.occupants.tables in past_there s.tables i (omega arith))
    ]

claim_live : (t : Occupant) → t.live ≡ true → limit_by (claim_of (Some t)) ≡ t.max / 16
claim_live t live = rw live refl

claim_gone : (t : Occupant) → t.live ≡ false → limit_by (claim_of (Some t)) ≡ 0
claim_gone t gone = rw gone refl

pub limit_at : (a : Inside) (i : ℕ) (here : IsThere a.occupant_entries.items i) → here.occupant_entry.live ≡ true → page_limit (space_of a) i ≡ here.occupant_entry.max / 16
limit_at a i here live = search (rules, get_or_is, claim_live)

pub limit_gone : (a : Inside) (i : ℕ) (here : IsThere a.occupant_entries.items i) → here.occupant_entry.live ≡ false → page_limit (space_of a) i ≡ 0
limit_gone a i here gone = search (rules, get_or_is, claim_gone)

-- it lives there, or it was released
lives_or : (b : Bool) → (b ≡ true) ⊎ (b ≡ false)
lives_or true = inl refl
lives_or false = inr refl

pub limit_nowhere : (a : Inside) (i : ℕ) → get_or (map occupant_of a.occupant_entries.items) i None ≡ None → page_limit (space_of a) i ≡ 0
limit_nowhere a i none = ap (λ (o : Option Occupant). limit_by (claim_of o)) none

pub size_within : (a : Inside) (i n : ℕ) → IsSound (space_of a) → length (get_or a.tables.pages i []) ≡ 16 * n → n ≤ page_limit (space_of a) i
size_within a i n sound long =
    elim (somebody a.occupant_entries.items i) [
      | inl here ↦
          (let has = sound.occupants.have i (Some (occupant here.occupant_entry)) here.occupies in
          let most = has.2 in
          elim (lives_or here.occupant_entry.live) [
            | inl live ↦ (let limit = limit_at a i here live in omega arith)
            | inr gone ↦ (let empty = ap length (has.3 gone) in omega arith)
          ])
      | inr none ↦ (let empty = ap length (none_there (space_of a) i sound none) in omega arith)
    ]

-- who may grow is there, and lives
pub grower : (a : Inside) (i : ℕ) → 1 ≤ page_limit (space_of a) i → (here : IsThere a.occupant_entries.items i) × (here.occupant_entry.live ≡ true)
grower a i some = elim (somebody a.occupant_entries.items i) [
  | inl here ↦ elim (lives_or here.occupant_entry.live) [
    | inl live ↦ (here, live)
    | inr gone ↦ absurd (let z = limit_gone a i here gone in omega arith)
  ]
  | inr none ↦ absurd (let z = limit_nowhere a i none in omega arith)
]

-- ---- what it grew to

pub grew_well : (a b : Inside) (i n : ℕ) (here : IsThere a.occupant_entries.items i) → here.occupant_entry.live ≡ true → IsWell a → b.occupant_entries ≡ a.occupant_entries → fixed_in b.tables ≡ fixed_in a.tables → length b.pool.frames ≡ length a.pool.frames → b.slots ≡ a.slots → Grew (space_of a) i n (space_of b)
    → length (get_or a.tables.pages i []) + 16 * n ≤ here.occupant_entry.max → IsWell b
grew_well a b i n here live was occupant_entries limits frames slots grew fits = well a b was occupant_entries limits frames slots (grows_soundly (space_of a) i n (occupant here.occupant_entry) (space_of b) was.sound here.occupies live fits grew)

-- there is somebody, and room for n pages more
pub record CanGrow (a : Inside) (i n : ℕ) : Type 0 where
  pub here : IsThere a.occupant_entries.items i
  pub live : here.occupant_entry.live ≡ true
  pub room : length (get_or a.tables.pages i []) + 16 * n ≤ here.occupant_entry.max
  pub few : 16 * n ≤ 65536

pub can_grow : (a : Inside) (i before n : ℕ) → IsWell a → length (get_or a.tables.pages i []) ≡ 16 * before → 1 ≤ n → before + n ≤ page_limit (space_of a) i → CanGrow a i n
can_grow a i before n was long some fits =
    let found = grower a i (omega arith) in
    let here = found.0 in
    let limit = limit_at a i here found.1 in
    let most = (was.sound.occupants.have i (Some (occupant here.occupant_entry)) here.occupies).4 in
    record { here = here; live = found.1; room = omega arith; few = omega arith }
