-- To whom frames are charged, by the numbers that the page tables know.
use Rattle.std.proofs.Common.{◌≡◌, ◌≢◌, ℕ, ◌<◌, ◌≤◌, ◌==◌, ◌⊎◌, inl, inr, cond, min, nat_lt, true, false, List, [], ◌∷◌, Option, Some, None, length, map, slice_get, get_or, zero, suc, refl, sym, ap, ◌∙◌, subst, arith, rules}
use Rattle.std.specs.Prelude.{MatchBool}
use Rattle.std.proofs.lemmas.Bool.Decides.{nat_tests}
use Rattle.std.proofs.lemmas.Bool.{cases_lt}
use Rattle.std.proofs.lemmas.List.{length-map}
use Rattle.wh_space_model.specs.declared.states.Page.{Page}
use Rattle.wh_space_model.specs.{IsChargedPage, IsChargedFor, frame_charge, IsFirstOn, IsOnFrame, active_in, active_of, charge_in, charged_in, charged_of, occupant_number, standing_at, stands_on, touchers_in, frame_of, Occupant, Space, occupant_at, page_at}
use Rattle.wh_space_model.proofs.Changing.{below_each}
use Rattle.wh_space_model.proofs.Charging.{charged_alone, charged_page, charged_to, in_row, occupied, on_once, first_of}
use Rattle.wh_space_model.proofs.Putting.{here_or, is_page}
use Rattle.wh_tables.specs.declared.page_id.PageId.{PageId}
use Rattle.wh_tables.specs.Index.{number_in}
use Rattle.wh_tables.proofs.Keeping.{frame_stands}
use Rattle.wh_tables.proofs.Standing.{one_frame, page_of_standing}
use Rattle.wh_space.specs.declared.occupant_entry.OccupantEntry.{OccupantEntry}
use Rattle.wh_space.specs.declared.memory.Memory.TheInside.{Inside}
use Rattle.wh_space.specs.Parts.{IsWell, occupant_of, space_of}

-- ---- the numbers of those who have pages

seen_number : (xs : List (Option OccupantEntry)) (j : ℕ) (x : Option OccupantEntry) → slice_get xs j ≡ Some x → get_or (map occupant_of xs) j None ≡ occupant_of x
seen_number [] j x is = absurd (cc is)
seen_number (y ∷ xs) zero x is = let e : y ≡ x = cc in rw e refl
seen_number (y ∷ xs) (suc j) x is = seen_number xs j x is

seen : (xs : List (Option OccupantEntry)) (k : ℕ) (x : Option OccupantEntry) → slice_get xs k ≡ Some x → slice_get (map occupant_of xs) k ≡ Some (occupant_of x)
seen [] k x is = absurd (cc is)
seen (y ∷ xs) zero x is = let e : y ≡ x = cc in rw e refl
seen (y ∷ xs) (suc k) x is = seen xs k x is

some_guest : (xs : List (Option OccupantEntry)) (k : ℕ) → k < length xs → (x : Option OccupantEntry) × (slice_get xs k ≡ Some x)
some_guest [] k less = absurd (omega arith)
some_guest (x ∷ xs) zero less = (x, refl)
some_guest (x ∷ xs) (suc k) less = some_guest xs k (omega arith)

row_there : (xss : List (List Page)) (k : ℕ) → 1 ≤ length (get_or xss k []) → k < length xss
row_there [] k some = absurd (omega arith)
row_there (xs ∷ xss) zero some = omega arith
row_there (xs ∷ xss) (suc k) some = let r = row_there xss k some in omega arith

pub number_same : (a : Inside) (j : ℕ) → IsWell a → 1 ≤ length (get_or a.tables.pages j []) → number_in a.tables.numbers j ≡ occupant_number (space_of a) j
number_same a j was some =
    let within = row_there a.tables.pages j some in
    let many = was.sound.occupants.tables in
    let l = length-map a.occupant_entries.items occupant_of in
    let occupant_entry = some_guest a.occupant_entries.items j (omega arith) in
    go occupant_entry.0 occupant_entry.1 where
      go : (x : Option OccupantEntry) → slice_get a.occupant_entries.items j ≡ Some x → number_in a.tables.numbers j ≡ occupant_number (space_of a) j
      go None is = absurd (
          let empty : get_or (space_of a).tables j [] ≡ [] = was.sound.occupants.have j None (seen a.occupant_entries.items j None is) in
          let none = ap length empty in
          omega arith)
      go (Some g) is = was.numbers j g is ∙ rw (seen_number a.occupant_entries.items j (Some g) is) refl

-- a page that stands somewhere is a page
pub has_row : (pages : List (List Page)) (j q f : ℕ) → IsOnFrame pages j q f → 1 ≤ length (get_or pages j [])
has_row pages j q f on =
    let page = page_of_standing pages f (record { place = j; page = q }) on in
    let within = (is_page pages j q page.0 page.1).1 in
    omega arith

row_standing : (pages : List (List Page)) (j f : ℕ) → 1 ≤ standing_at pages j f → 1 ≤ length (get_or pages j [])
row_standing pages j f some =
    let found = first_of (stands_on f) (get_or pages j []) some in
    let once = (on_once f (page_at pages j found.0)).0 in
    let least = found.1 in
    has_row pages j found.0 f (omega arith)

-- ---- the same charges

charge_empty : (before : ℕ) → cond (before == 0) (min 1 0) 0 ≡ 0
charge_empty before = grind (arith, nat_tests)

term_empty : (a b c : ℕ) → c ≡ 0 → cond (nat_lt a b) c 0 ≡ 0
term_empty a b c none = grind (arith, nat_tests)

charge_numbers : (n m : ℕ → ℕ) (pages : List (List Page)) (k f : ℕ) → ((j : ℕ) → 1 ≤ standing_at pages j f → n j ≡ m j) → charge_in n pages k f ≡ charge_in m pages k f
charge_numbers n m pages k f same =
    elim (cases_lt 0 (standing_at pages k f)) [
      | inr most ↦ search (rules, charge_empty)
      | inl some ↦ search (rules, below_each, min)
    ] where
      term : (j : ℕ) → n k ≡ m k → cond (nat_lt (n j) (n k)) (standing_at pages j f) 0 ≡ cond (nat_lt (m j) (m k)) (standing_at pages j f) 0
      term j mine =
          elim (cases_lt 0 (standing_at pages j f)) [
            | inr most ↦ (let a = term_empty (n j) (n k) (standing_at pages j f) (omega arith) in let b = term_empty (m j) (m k) (standing_at pages j f) (omega arith) in omega arith)
            | inl some ↦ rw (same j some, mine) refl
          ]

pub charged_now : (a : Inside) (i : ℕ) → IsWell a → charged_in (number_in a.tables.numbers) a.tables.pages a.tables.frames i ≡ charged_of (space_of a) i
charged_now a i was =
    below_each a.tables.frames (λ f. charge_in (λ j. occupant_number (space_of a) j) a.tables.pages i f) (λ f. charge_in (number_in a.tables.numbers) a.tables.pages i f)
    (λ f. charge_numbers (number_in a.tables.numbers) (λ j. occupant_number (space_of a) j) a.tables.pages i f (λ j some. number_same a j was (row_standing a.tables.pages j f some)))
    ∙ ap (λ n. charged_in (λ j. occupant_number (space_of a) j) a.tables.pages n i) was.frames

pub active_now : (a : Inside) (i : ℕ) → IsWell a → active_in (number_in a.tables.numbers) a.tables.pages a.tables.marks a.tables.frames i ≡ active_of (space_of a) i
active_now a i was =
    below_each a.tables.frames (λ f. cond (touchers_in a.tables.pages a.tables.marks f == 0) 0 (charge_in (λ j. occupant_number (space_of a) j) a.tables.pages i f)) (λ f. cond (touchers_in a.tables.pages a.tables.marks f == 0) 0 (charge_in (number_in a.tables.numbers) a.tables.pages i f))
    (λ f. ap (λ n. cond (touchers_in a.tables.pages a.tables.marks f == 0) 0 n) (charge_numbers (number_in a.tables.numbers) (λ j. occupant_number (space_of a) j) a.tables.pages i f (λ j some. number_same a j was (row_standing a.tables.pages j f some))))
    ∙ ap (λ n. active_in (λ j. occupant_number (space_of a) j) a.tables.pages a.tables.marks n i) was.frames

-- ---- whether a page is charged

pub charged_for : (a : Inside) (i p f : ℕ) → IsWell a → IsFirstOn (number_in a.tables.numbers) a.tables.pages i p f → IsChargedFor (space_of a) i p f
charged_for a i p f was first = record {
  on = first.on;
  first = search (rules, number_same, has_row);
  lowest = first.lowest;
}

-- another page is the first on its frame
pub not_charged : (a : Inside) (i p f j q : ℕ) (page : Page) → IsWell a → page_at a.tables.pages i p ≡ Some page → frame_of page ≡ Some f → IsFirstOn (number_in a.tables.numbers) a.tables.pages j q f
    → ((j ≢ i) ⊎ (q ≢ p)) → ¬ IsChargedPage (space_of a) i p
not_charged a i p f j q page was there on first other charged =
    let s : Space = space_of a in
    let mine : IsOnFrame a.tables.pages i p f = rw there (frame_stands f page on) in
    let its = page_of_standing a.tables.pages charged.0 (record { place = i; page = p }) charged.1.on in
    let both : Some page ≡ Some its.0 = sym there ∙ its.1 in
    let one : page ≡ its.0 = cc in
    let same : charged.0 ≡ f = one_frame charged.0 f page (subst (λ (x : Page). stands_on charged.0 x ≡ 1) (sym one) its.2) (frame_stands f page on) in
    let here : IsChargedFor s i p f = subst (λ g. IsChargedFor s i p g) same charged.1 in
    let there2 : IsChargedFor s j q f = charged_for a j q f was first in
    let t = owner_of j q there2 in
    let u = owner_of i p here in
    let alone = charged_alone s j i q p f t.0 u.0 was.sound.occupants t.1 u.1 there2 here in
    elim other [ inl away ↦ away alone.0 | inr apart ↦ apart alone.1 ] where
      owner_of : (k r : ℕ) → IsChargedFor (space_of a) k r f → (t : Occupant) × occupant_at (space_of a) k t
      owner_of k r charged = (let row = in_row (stands_on f) (get_or a.tables.pages k []) r in let on = charged.on in occupied (stands_on f) (space_of a) k was.sound.occupants (omega arith))

-- an instance has few pages
pub row_few : (a : Inside) (i : ℕ) → IsWell a → length (get_or a.tables.pages i []) ≤ 65536
row_few a i was =
    elim (cases_lt 0 (length (get_or a.tables.pages i []))) [
      | inr most ↦ omega arith
      | inl some ↦
          (let within = row_there a.tables.pages i some in
          let many = was.sound.occupants.tables in
          let l = length-map a.occupant_entries.items occupant_of in
          let occupant_entry = some_guest a.occupant_entries.items i (omega arith) in
          go occupant_entry.0 occupant_entry.1)
    ] where
      go : (x : Option OccupantEntry) → slice_get a.occupant_entries.items i ≡ Some x → length (get_or a.tables.pages i []) ≤ 65536
      go None is = (let empty : get_or (space_of a).tables i [] ≡ [] = was.sound.occupants.have i None (seen a.occupant_entries.items i None is) in let none = ap length empty in omega arith)
      go (Some g) is = (let table = was.sound.occupants.have i (occupant_of (Some g)) (seen a.occupant_entries.items i (Some g) is) in let most = table.2 in let max = table.4 in omega arith)

-- the shares of one that is there
pub shares_few : (a : Inside) (i : ℕ) (g : OccupantEntry) → IsWell a → slice_get a.occupant_entries.items i ≡ Some (Some g) → (1 ≤ g.shares) × (g.shares ≤ 1000000)
shares_few a i g was is = let table = was.sound.occupants.have i (occupant_of (Some g)) (seen a.occupant_entries.items i (Some g) is) in (table.5, table.6)

pub guest_at : (xs : List (Option OccupantEntry)) (i : ℕ) (x : Option OccupantEntry) (g : OccupantEntry) → i < length xs → x ≡ get_or xs i x → x ≡ Some g → slice_get xs i ≡ Some (Some g)
guest_at [] i x g less is some = absurd (omega arith)
guest_at (y ∷ xs) zero x g less is some = ap Some (sym is ∙ some)
guest_at (y ∷ xs) (suc i) x g less is some = guest_at xs i x g (omega arith) is some

abbrev pub occupant_by : OccupantEntry → Occupant
occupant_by g = record { number = g.number; live = g.live; shares = g.shares; min = g.min; max = g.max; stands = g.stands; leaves = g.leaves }

pub occupant_of_guest : (a : Inside) (i : ℕ) (g : OccupantEntry) → slice_get a.occupant_entries.items i ≡ Some (Some g) → slice_get (space_of a).occupants i ≡ Some (Some (occupant_by g))
occupant_of_guest a i g is = seen a.occupant_entries.items i (Some g) is

-- ---- what the tests tell

test_same : (m n : ℕ) → (((m == n) ≡ true) × (m ≡ n)) ⊎ (((m == n) ≡ false) × (m ≢ n))
test_same m n = elim (here_or n m) [
  | inl same ↦ inl (grind (arith, nat_tests), same)
  | inr other ↦ inr (grind (arith, nat_tests), other)
]

pub tells_charged : (a : Inside) (i p f : ℕ) (first : PageId) (page : Page) → IsWell a → page_at a.tables.pages i p ≡ Some page → frame_of page ≡ Some f
    → IsFirstOn (number_in a.tables.numbers) a.tables.pages first.place first.page f → first.place ≡ i
    → MatchBool (first.page == p) (IsChargedPage (space_of a) i p) (¬ IsChargedPage (space_of a) i p)
tells_charged a i p f first page was there on is same =
    elim (test_same first.page p) [
      | inl here ↦ rw here.0 (f, subst (λ j. IsChargedFor (space_of a) j p f) same (subst (λ q. IsChargedFor (space_of a) first.place q f) here.1 (charged_for a first.place first.page f was is)))
      | inr other ↦ rw other.0 (not_charged a i p f first.place first.page page was there on is (inr other.1))
    ]

pub tells_other : (a : Inside) (i p f : ℕ) (first : PageId) (page : Page) → IsWell a → page_at a.tables.pages i p ≡ Some page → frame_of page ≡ Some f
    → IsFirstOn (number_in a.tables.numbers) a.tables.pages first.place first.page f → first.place ≢ i
    → MatchBool (first.place == i) (IsChargedPage (space_of a) i p) (¬ IsChargedPage (space_of a) i p)
tells_other a i p f first page was there on is other =
    elim (test_same first.place i) [
      | inl here ↦ absurd (other here.1)
      | inr away ↦ rw away.0 (not_charged a i p f first.place first.page page was there on is (inl other))
    ]

-- ---- to whom a frame is charged

pub charge_tells : (a : Inside) (i f : ℕ) (first : PageId) → IsWell a → IsFirstOn (number_in a.tables.numbers) a.tables.pages first.place first.page f
    → MatchBool (first.place == i) (frame_charge (space_of a) i f ≡ 1) (frame_charge (space_of a) i f ≡ 0)
charge_tells a i f first was is =
    let its = charged_for a first.place first.page f was is in
    elim (test_same first.place i) [
      | inl here ↦ rw here.0 (charged_to (space_of a) i first.page f (subst (λ j. IsChargedFor (space_of a) j first.page f) here.1 its))
      | inr other ↦ rw other.0 (nobody_else its other.1)
    ] where
      owner_of : (k r : ℕ) → IsChargedFor (space_of a) k r f → (t : Occupant) × occupant_at (space_of a) k t
      owner_of k r charged = (let row = in_row (stands_on f) (get_or a.tables.pages k []) r in let on = charged.on in occupied (stands_on f) (space_of a) k was.sound.occupants (omega arith))

      nobody_else : IsChargedFor (space_of a) first.place first.page f → first.place ≢ i → frame_charge (space_of a) i f ≡ 0
      nobody_else its other =
          elim (cases_lt 0 (frame_charge (space_of a) i f)) [
            | inr most ↦ omega arith
            | inl some ↦ absurd (
                let page = charged_page (space_of a) i f some in
                let t = owner_of first.place first.page its in
                let u = owner_of i page.0 page.1 in
                other (charged_alone (space_of a) first.place i first.page page.0 f t.0 u.0 was.sound.occupants t.1 u.1 its page.1).0)
          ]

pub charge_nobody : (s : Space) (i f : ℕ) → ((j q : ℕ) → ¬ IsOnFrame s.tables j q f) → frame_charge s i f ≡ 0
charge_nobody s i f none =
    elim (cases_lt 0 (frame_charge s i f)) [
      | inr most ↦ omega arith
      | inl some ↦ absurd (let page = charged_page s i f some in none i page.0 page.1.on)
    ]
