-- The tables and their index when rows of pages come, grow and go, none of which stands on a frame; and when marks go.
use Rattle.std.proofs.Common.{◌≡◌, ◌≢◌, ℕ, ◌+◌, ◌<◌, ◌≤◌, ◌==◌, ◌++◌, ◌⊎◌, inl, inr, cond, Bool, true, false, List, [], ◌∷◌, Option, Some, None, length, map, replicate, slice_get, slice_set, get_or, zero, suc, refl, sym, ap, ◌∙◌, arith, length-set, length-append, rules}
use Rattle.std.proofs.lemmas.Bool.Decides.{nat_tests}
use Rattle.std.proofs.lemmas.Bool.{cases_lt}
use Rattle.wh_space_model.specs.{tally, frame_of, at, page_at, put, charge_in, charged_in, standing_at, stands_on, touched_on, touchers_in}
use Rattle.wh_space_model.specs.declared.states.Page.{Page}
use Rattle.wh_space_model.specs.declared.states.Page.TheVariants.{Untouched}
use Rattle.wh_space_model.proofs.Putting.{here_or, put_other, put_this}
use Rattle.wh_pages.specs.Table.{PageTableState}
use Rattle.wh_tables.specs.declared.page_id.PageId.{PageId}
use Rattle.wh_tables.specs.declared.index.Counts.{Counts}
use Rattle.wh_tables.specs.PageLinks.{IsEarlierStop, IsStop, LeadsToNearest, stop_of}
use Rattle.wh_tables.specs.Order.{StandsOn, next_in, prior_in}
use Rattle.wh_tables.specs.Index.{HaveOwnNumbers, Counted, IsIndexOf, IsMeasured, Marked, activity_in, counts_at, empty_index, number_in, without_active}
use Rattle.wh_tables.specs.Tables.{AreIndexed, limits_by_place, marked_of, marks_by_place, pages_by_place, tables_with, without_marks, without_touched}
use Rattle.wh_tables.proofs.Alike.{below_support, index_alike}
use Rattle.wh_space_model.proofs.Changing.{below_each}
use Rattle.wh_tables.proofs.Charging.{all_none}
use Rattle.wh_tables.proofs.Keeping.{column_at, column_stays, frame_nowhere, long_map}
use Rattle.wh_tables.proofs.Rows.{map_set}

-- ---- rows in which the same pages stand on frames

pub record HaveSameRows (m m2 : Marked) : Type 0 where
  pub stands : (f j p : ℕ) → at (stands_on f) (page_at m2.pages j p) ≡ at (stands_on f) (page_at m.pages j p)
  pub standing : (j f : ℕ) → standing_at m2.pages j f ≡ standing_at m.pages j f
  pub touched : (f j : ℕ) → touched_on f (get_or m2.pages j []) (get_or m2.marks j []) ≡ touched_on f (get_or m.pages j []) (get_or m.marks j [])

past_end : {X : Type 0} (xss : List (List X)) (j : ℕ) → length xss ≤ j → get_or xss j [] ≡ []
past_end [] j past = refl
past_end (xs ∷ xss) zero past = absurd (omega arith)
past_end (xs ∷ xss) (suc j) past = past_end xss j (omega arith)

pub touchers_same : (m m2 : Marked) → HaveSameRows m m2 → (f : ℕ) → touchers_in m2.pages m2.marks f ≡ touchers_in m.pages m.marks f
touchers_same m m2 same f =
    let each = below_each (length m2.pages) (λ j. touched_on f (get_or m.pages j []) (get_or m.marks j [])) (λ j. touched_on f (get_or m2.pages j []) (get_or m2.marks j [])) (λ j. same.touched f j) in
    let many = below_support (length m2.pages) (length m.pages) (λ j. touched_on f (get_or m.pages j []) (get_or m.marks j []))
    (λ j past. sym (same.touched f j) ∙ ap (λ row. touched_on f row (get_or m2.marks j [])) (past_end m2.pages j past))
    (λ j past. ap (λ row. touched_on f row (get_or m.marks j [])) (past_end m.pages j past)) in
    each ∙ many

-- the same index is that of both
pub rows_index : (x : Counted) (m m2 : Marked) → IsIndexOf x m → HaveSameRows m m2 → IsMeasured x m2 → HaveOwnNumbers x.chains.numbers m2.pages → IsIndexOf x m2
rows_index x m m2 index same measured apart = index_alike x x m m2 index (record {
  measured = measured;
  apart = apart;
  ends = refl;
  touchers = refl;
  within = λ f id on. index.order.room f id on;
  to = λ f id on. same.stands f id.place id.page ∙ on;
  back = λ f id on. sym (same.stands f id.place id.page) ∙ on;
  links = λ f id on. refl;
  numbers = λ f id on. refl;
  standing = λ k f. same.standing k f;
  touched = λ f. touchers_same m m2 same f;
  counts = λ i. refl;
})

-- ---- one row more, longer, or none

untouched_stand : (f n p : ℕ) → at (stands_on f) (slice_get (replicate n Untouched) p) ≡ 0
untouched_stand f zero p = refl
untouched_stand f (suc n) zero = refl
untouched_stand f (suc n) (suc p) = untouched_stand f n p

longer_stand : (f : ℕ) (xs : List Page) (n p : ℕ) → at (stands_on f) (slice_get (xs ++ replicate n Untouched) p) ≡ at (stands_on f) (slice_get xs p)
longer_stand f [] n p = untouched_stand f n p
longer_stand f (x ∷ xs) n zero = refl
longer_stand f (x ∷ xs) n (suc p) = longer_stand f xs n p

untouched_tally : (f n : ℕ) → tally (stands_on f) (replicate n Untouched) ≡ 0
untouched_tally f zero = refl
untouched_tally f (suc n) = let rest = untouched_tally f n in omega arith

longer_tally : (f : ℕ) (xs : List Page) (n : ℕ) → tally (stands_on f) (xs ++ replicate n Untouched) ≡ tally (stands_on f) xs
longer_tally f [] n = untouched_tally f n
longer_tally f (x ∷ xs) n = let rest = longer_tally f xs n in omega arith

untouched_marks : (f n : ℕ) → touched_on f (replicate n Untouched) (replicate n false) ≡ 0
untouched_marks f zero = refl
untouched_marks f (suc n) = let rest = untouched_marks f n in omega arith

longer_touched : (f : ℕ) (xs : List Page) (marks : List Bool) (n : ℕ) → length marks ≡ length xs → touched_on f (xs ++ replicate n Untouched) (marks ++ replicate n false) ≡ touched_on f xs marks
longer_touched f [] [] n long = untouched_marks f n
longer_touched f [] (mark ∷ marks) n long = absurd (omega arith)
longer_touched f (x ∷ xs) [] n long = absurd (omega arith)
longer_touched f (x ∷ xs) (mark ∷ marks) n long = let rest = longer_touched f xs marks n (omega arith) in omega arith

none_tally : (f : ℕ) (xs : List Page) → ((p : ℕ) → at (stands_on f) (slice_get xs p) ≡ 0) → tally (stands_on f) xs ≡ 0
none_tally f [] each = refl
none_tally f (x ∷ xs) each = let one : stands_on f x ≡ 0 = each 0 in let rest = none_tally f xs (λ p. each (suc p)) in omega arith

cond_zero : (b : Bool) (n : ℕ) → n ≡ 0 → cond b n 0 ≡ 0
cond_zero true n zeros = zeros
cond_zero false n zeros = refl

none_touched : (f : ℕ) (xs : List Page) (marks : List Bool) → ((p : ℕ) → at (stands_on f) (slice_get xs p) ≡ 0) → touched_on f xs marks ≡ 0
none_touched f [] marks each = refl
none_touched f (x ∷ xs) [] each = refl
none_touched f (x ∷ xs) (mark ∷ marks) each =
    let one = cond_zero mark (stands_on f x) (each 0) in
    let rest = none_touched f xs marks (λ p. each (suc p)) in
    omega arith

row_here : {X : Type 0} (xss : List (List X)) (i : ℕ) (xs : List X) → i < length xss → get_or (slice_set xss i xs) i [] ≡ xs
row_here [] i xs within = absurd (omega arith)
row_here (ys ∷ xss) zero xs within = refl
row_here (ys ∷ xss) (suc i) xs within = row_here xss i xs (omega arith)

-- what holds of a row that is another one now
pub record HasSameRow (xs ys : List Page) (marks marks2 : List Bool) : Type 0 where
  pub stands : (f p : ℕ) → at (stands_on f) (slice_get ys p) ≡ at (stands_on f) (slice_get xs p)
  pub standing : (f : ℕ) → tally (stands_on f) ys ≡ tally (stands_on f) xs
  pub touched : (f : ℕ) → touched_on f ys marks2 ≡ touched_on f xs marks

pub row_longer : (xs : List Page) (marks : List Bool) (n : ℕ) → length marks ≡ length xs → HasSameRow xs (xs ++ replicate n Untouched) marks (marks ++ replicate n false)
row_longer xs marks n long = record {
  stands = λ f p. longer_stand f xs n p;
  standing = λ f. longer_tally f xs n;
  touched = λ f. longer_touched f xs marks n long;
}

pub row_gone : (xs : List Page) (marks : List Bool) → ((f p : ℕ) → at (stands_on f) (slice_get xs p) ≡ 0) → HasSameRow xs [] marks []
row_gone xs marks none = record {
  stands = λ f p. sym (none f p);
  standing = λ f. sym (none_tally f xs (none f));
  touched = λ f. sym (none_touched f xs marks (none f));
}

pub rows_where : (m m2 : Marked) (i : ℕ) → ((j : ℕ) → j ≢ i → (get_or m2.pages j [] ≡ get_or m.pages j []) × (get_or m2.marks j [] ≡ get_or m.marks j []))
    → HasSameRow (get_or m.pages i []) (get_or m2.pages i []) (get_or m.marks i []) (get_or m2.marks i []) → HaveSameRows m m2
rows_where m m2 i others here = record {
  stands = search (rules, here_or);
  standing = search (rules, here_or);
  touched = search (rules, here_or);
}

-- ---- a table in place of one

tables_set_same : (tables : List PageTableState) (i : ℕ) (row new : PageTableState) → i < length tables → row ≡ get_or tables i row
    → HasSameRow row.pages new.pages row.touched new.touched → HaveSameRows (marked_of tables) (marked_of (slice_set tables i new))
tables_set_same tables i row new within found same =
    rows_where (marked_of tables) (marked_of (slice_set tables i new)) i (λ j other. (get_else (λ (t : PageTableState). t.pages) tables i j new other, get_else (λ (t : PageTableState). t.touched) tables i j new other))
    (let a = column_at (λ (t : PageTableState). t.pages) tables i row [] within found in
    let b = column_at (λ (t : PageTableState). t.touched) tables i row [] within found in
    let c = get_new (λ (t : PageTableState). t.pages) tables i new within in
    let d = get_new (λ (t : PageTableState). t.touched) tables i new within in
    rw (a, b, c, d) same) where
      get_else : {Y : Type 0} (column : PageTableState → List Y) (tables : List PageTableState) (i j : ℕ) (new : PageTableState) → j ≢ i → get_or (map column (slice_set tables i new)) j [] ≡ get_or (map column tables) j []
      get_else column [] i j new other = refl
      get_else column (t ∷ tables) zero zero new other = absurd (other refl)
      get_else column (t ∷ tables) zero (suc j) new other = refl
      get_else column (t ∷ tables) (suc i) zero new other = refl
      get_else column (t ∷ tables) (suc i) (suc j) new other = get_else column tables i j new (λ e. other (ap suc e))

      get_new : {Y : Type 0} (column : PageTableState → List Y) (tables : List PageTableState) (i : ℕ) (new : PageTableState) → i < length tables → get_or (map column (slice_set tables i new)) i [] ≡ column new
      get_new column [] i new within = absurd (omega arith)
      get_new column (t ∷ tables) zero new within = refl
      get_new column (t ∷ tables) (suc i) new within = get_new column tables i new (omega arith)

-- lengths of a column of which one row is another one
lengths_set : {Y : Type 0} (column : PageTableState → List Y) (tables : List PageTableState) (i : ℕ) (new : PageTableState) (j : ℕ)
    → ((j ≡ i) × (i < length tables) × (get_or (map column (slice_set tables i new)) j [] ≡ column new)) ⊎ (get_or (map column (slice_set tables i new)) j [] ≡ get_or (map column tables) j [])
lengths_set column [] i new j = inr refl
lengths_set column (t ∷ tables) zero new zero = inl (refl, omega arith, refl)
lengths_set column (t ∷ tables) zero new (suc j) = inr refl
lengths_set column (t ∷ tables) (suc i) new zero = inr refl
lengths_set column (t ∷ tables) (suc i) new (suc j) =
    elim (lengths_set column tables i new j) [
      | inl here ↦ inl (ap suc here.0, omega (arith, here.1), here.2)
      | inr away ↦ inr away
    ]

pub kept_where : (tables : List PageTableState) (x : Counted) (i : ℕ) (row new : PageTableState) → AreIndexed tables x → i < length tables → row ≡ get_or tables i row → new.max ≡ row.max
    → length new.pages ≤ row.max → length new.touched ≡ length new.pages → HasSameRow row.pages new.pages row.touched new.touched
    → ((1 ≤ length new.pages → 1 ≤ length row.pages) ⊎ HaveOwnNumbers x.chains.numbers (pages_by_place (slice_set tables i new)))
    → AreIndexed (slice_set tables i new) x
kept_where tables x i row new kept within found max fits marks same apart =
    let limits = column_stays (λ (t : PageTableState). t.max) tables i row new found max in
    let m2 : Marked = marked_of (slice_set tables i new) in
    let limit : get_or (limits_by_place tables) i 0 ≡ row.max = column_at (λ (t : PageTableState). t.max) tables i row 0 within found in
    let many : length m2.pages ≡ length (pages_by_place tables) = long_map (λ (t : PageTableState). t.pages) (slice_set tables i new) ∙ length-set tables i new ∙ sym (long_map (λ (t : PageTableState). t.pages) tables) in
    let rows : (j : ℕ) → length (get_or m2.pages j []) ≤ get_or (limits_by_place tables) j 0 = search (rules, lengths_set) in
    let old = kept.index.measured in
    let measured : IsMeasured x m2 = search rules in
    record {
      index = rows_index x (marked_of tables) m2 kept.index (tables_set_same tables i row new within found same) measured (apart_of apart);
      places = kept.places ∙ sym (length-set tables i new);
      links = λ j. (let a = kept.links j in let c = ap (λ z. get_or z j 0) limits in omega arith);
      small = λ j. (let a = kept.small j in let c = ap (λ z. get_or z j 0) limits in omega arith);
      rows = λ j. (let a = rows j in let c = ap (λ z. get_or z j 0) limits in omega arith);
      marks = λ j. (elim (lengths_set (λ (t : PageTableState). t.pages) tables i new j) [
        | inl here ↦ (
            elim (lengths_set (λ (t : PageTableState). t.touched) tables i new j) [
              | inl too ↦ (let a = ap length here.2 in let b = ap length too.2 in omega arith)
              | inr away ↦ (let a = ap length here.2 in let b = ap length away in let d = ap length (get_new (λ (t : PageTableState). t.touched) tables i new here.1) in let e = here.0 in let f : length (get_or (marks_by_place (slice_set tables i new)) j []) ≡ length (get_or (marks_by_place (slice_set tables i new)) i []) = rw e refl in omega arith)
            ])
        | inr away ↦ (
            elim (lengths_set (λ (t : PageTableState). t.touched) tables i new j) [
              | inl too ↦ (let a = ap length away in let b = ap length too.2 in let d = ap length (get_new (λ (t : PageTableState). t.pages) tables i new too.1) in let e = too.0 in let f : length (get_or (pages_by_place (slice_set tables i new)) j []) ≡ length (get_or (pages_by_place (slice_set tables i new)) i []) = rw e refl in omega arith)
              | inr also ↦ (let a = ap length away in let b = ap length also in let d = kept.marks j in omega arith)
            ])
      ]);
    } where
      get_new : {Y : Type 0} (column : PageTableState → List Y) (tables : List PageTableState) (i : ℕ) (new : PageTableState) → i < length tables → get_or (map column (slice_set tables i new)) i [] ≡ column new
      get_new column [] i new within = absurd (omega arith)
      get_new column (t ∷ tables) zero new within = refl
      get_new column (t ∷ tables) (suc i) new within = get_new column tables i new (omega arith)

      had : ((1 ≤ length new.pages → 1 ≤ length row.pages)) → (j : ℕ) → 1 ≤ length (get_or (pages_by_place (slice_set tables i new)) j []) → 1 ≤ length (get_or (pages_by_place tables) j [])
      had more j some =
          elim (lengths_set (λ (t : PageTableState). t.pages) tables i new j) [
            | inl here ↦
                (let a = ap length here.2 in
                let b = more (omega arith) in
                let d = ap length (column_at (λ (t : PageTableState). t.pages) tables i row [] within found) in
                rw here.0 (omega arith))
            | inr away ↦ (let a = ap length away in omega arith)
          ]

      apart_of : ((1 ≤ length new.pages → 1 ≤ length row.pages) ⊎ HaveOwnNumbers x.chains.numbers (pages_by_place (slice_set tables i new))) → HaveOwnNumbers x.chains.numbers (pages_by_place (slice_set tables i new))
      apart_of (inl more) = λ j k some also same. kept.index.apart j k (had more j some) (had more k also) same
      apart_of (inr apart) = apart

-- ---- what each way leaves

pub grown_apart : (tables : List PageTableState) (x : Counted) (i : ℕ) (row new : PageTableState) → AreIndexed tables x → i < length tables → row ≡ get_or tables i row
    → ((j : ℕ) → j ≢ i → 1 ≤ length (get_or (pages_by_place tables) j []) → number_in x.chains.numbers j ≢ number_in x.chains.numbers i)
    → HaveOwnNumbers x.chains.numbers (pages_by_place (slice_set tables i new))
grown_apart tables x i row new kept within found fresh j k some also same =
    elim (here_or i j) [
      | inl first ↦
          elim (here_or i k) [
            | inl second ↦ first ∙ sym second
            | inr away ↦ absurd (fresh k away (old k away also) (sym same ∙ ap (number_in x.chains.numbers) first))
          ]
      | inr other ↦
          elim (here_or i k) [
            | inl second ↦ absurd (fresh j other (old j other some) (same ∙ ap (number_in x.chains.numbers) second))
            | inr away ↦ kept.index.apart j k (old j other some) (old k away also) same
          ]
    ] where
      old : (j : ℕ) → j ≢ i → 1 ≤ length (get_or (pages_by_place (slice_set tables i new)) j []) → 1 ≤ length (get_or (pages_by_place tables) j [])
      old j other some =
          elim (lengths_set (λ (t : PageTableState). t.pages) tables i new j) [
            | inl here ↦ absurd (other here.0)
            | inr away ↦ (let a = ap length away in omega arith)
          ]

pub kept_grown : (tables : List PageTableState) (x : Counted) (i n : ℕ) (row new : PageTableState) → AreIndexed tables x → i < length tables → row ≡ get_or tables i row
    → new ≡ record row { pages = row.pages ++ replicate n Untouched; touched = row.touched ++ replicate n false } → length row.pages + n ≤ row.max
    → ((j : ℕ) → j ≢ i → 1 ≤ length (get_or (pages_by_place tables) j []) → number_in x.chains.numbers j ≢ number_in x.chains.numbers i)
    → AreIndexed (slice_set tables i new) x
kept_grown tables x i n row new kept within found is room fresh =
    let pages = ap length (column_at (λ (t : PageTableState). t.pages) tables i row [] within found) in
    let marks = ap length (column_at (λ (t : PageTableState). t.touched) tables i row [] within found) in
    let same = kept.marks i in
    let long : length row.touched ≡ length row.pages = omega arith in
    let a = length-append row.pages (replicate n Untouched) in
    let b = length-append row.touched (replicate n false) in
    let d = long_replicate Untouched n in
    let e = long_replicate false n in
    let np : length new.pages ≡ length (row.pages ++ replicate n Untouched) = ap (λ (t : PageTableState). length t.pages) is in
    let nt : length new.touched ≡ length (row.touched ++ replicate n false) = ap (λ (t : PageTableState). length t.touched) is in
    kept_where tables x i row new kept within found (ap (λ (t : PageTableState). t.max) is) (omega arith) (omega arith)
    (rw is (row_longer row.pages row.touched n long)) (inr (grown_apart tables x i row new kept within found fresh)) where
      long_replicate : {X : Type 0} (x : X) (n : ℕ) → length (replicate n x) ≡ n
      long_replicate x zero = refl
      long_replicate x (suc n) = let rest = long_replicate x n in omega arith

pub kept_gone : (tables : List PageTableState) (x : Counted) (i : ℕ) (row new : PageTableState) → AreIndexed tables x → i < length tables → row ≡ get_or tables i row
    → new ≡ record row { pages = []; touched = [] } → ((f p : ℕ) → at (stands_on f) (page_at (pages_by_place tables) i p) ≡ 0) → AreIndexed (slice_set tables i new) x
kept_gone tables x i row new kept within found is none =
    let pages = column_at (λ (t : PageTableState). t.pages) tables i row [] within found in
    let np : new.pages ≡ [] = ap (λ (t : PageTableState). t.pages) is in
    let nt : new.touched ≡ [] = ap (λ (t : PageTableState). t.touched) is in
    let lp = ap length np in
    let lt = ap length nt in
    kept_where tables x i row new kept within found (ap (λ (t : PageTableState). t.max) is) (omega arith) (omega arith)
    (rw (np, nt) (row_gone row.pages row.touched (λ f p. sym (ap (λ xs. at (stands_on f) (slice_get xs p)) pages) ∙ none f p))) (inl (λ some. absurd (omega arith)))

pub tables_row : (tables : List PageTableState) (x : Counted) (i : ℕ) (row new : PageTableState) → row ≡ get_or tables i row → new.max ≡ row.max
    → tables_with (slice_set tables i new) x ≡ record (tables_with tables x) { pages = slice_set (pages_by_place tables) i new.pages; marks = slice_set (marks_by_place tables) i new.touched }
tables_row tables x i row new found max =
    let limits = column_stays (λ (t : PageTableState). t.max) tables i row new found max in
    rw (limits, map_set (λ (t : PageTableState). t.pages) tables i new, map_set (λ (t : PageTableState). t.touched) tables i new) refl

-- none stands where none has a frame
pub none_stands : (pages : List (List Page)) (i : ℕ) → ((p : ℕ) (page : Page) → page_at pages i p ≡ Some page → frame_of page ≡ None) → (f p : ℕ) → at (stands_on f) (page_at pages i p) ≡ 0
none_stands pages i off f p = go (page_at pages i p) refl where
  go : (x : Option Page) → page_at pages i p ≡ x → at (stands_on f) (page_at pages i p) ≡ 0
  go None is = rw is refl
  go (Some page) is = rw is (frame_nowhere page (off p page is) f)

-- ---- marks go

marks_zero : (f : ℕ) (xs : List Page) (n : ℕ) → touched_on f xs (replicate n false) ≡ 0
marks_zero f [] n = refl
marks_zero f (x ∷ xs) zero = refl
marks_zero f (x ∷ xs) (suc n) = let rest = marks_zero f xs n in omega arith

marks_row : (tables : List PageTableState) (j : ℕ) (f : ℕ) → touched_on f (get_or (pages_by_place (map without_touched tables)) j []) (get_or (marks_by_place (map without_touched tables)) j []) ≡ 0
marks_row [] j f = refl
marks_row (t ∷ tables) zero f = marks_zero f t.pages (length t.pages)
marks_row (t ∷ tables) (suc j) f = marks_row tables j f

pub same_pages : (tables : List PageTableState) → pages_by_place (map without_touched tables) ≡ pages_by_place tables
same_pages [] = refl
same_pages (t ∷ tables) = let e = same_pages tables in cc

pub same_limits : (tables : List PageTableState) → limits_by_place (map without_touched tables) ≡ limits_by_place tables
same_limits [] = refl
same_limits (t ∷ tables) = let e = same_limits tables in cc

no_marks : (marks : List Bool) (n : ℕ) → length marks ≡ n → replicate n false ≡ map (λ mark. false) marks
no_marks [] n long = rw (← long) refl
no_marks (m ∷ marks) zero long = absurd (omega arith)
no_marks (m ∷ marks) (suc n) long = let e = no_marks marks n (omega arith) in cc

pub marks_gone : (tables : List PageTableState) → ((i : ℕ) → length (get_or (marks_by_place tables) i []) ≡ length (get_or (pages_by_place tables) i [])) → marks_by_place (map without_touched tables) ≡ without_marks (marks_by_place tables)
marks_gone [] same = refl
marks_gone (t ∷ tables) same =
    let first = no_marks t.touched (length t.pages) (same 0) in
    let rest = marks_gone tables (λ i. same (suc i)) in
    cc

none_active : (counts : List Counts) (i : ℕ) → ((counts_at (map without_active counts) i).charged ≡ (counts_at counts i).charged) × ((counts_at (map without_active counts) i).active ≡ 0)
none_active [] i = (refl, refl)
none_active (c ∷ counts) zero = (refl, refl)
none_active (c ∷ counts) (suc i) = none_active counts i

none_here : (n f : ℕ) → get_or {A = ℕ} (replicate n 0) f 0 ≡ 0
none_here zero f = refl
none_here (suc n) zero = refl
none_here (suc n) (suc f) = none_here n f

none_charge : (t charge : ℕ) → t ≡ 0 → cond (t == 0) 0 charge ≡ 0
none_charge t charge none = grind (arith, nat_tests)

marks_long : (tables : List PageTableState) (i : ℕ) → length (get_or (marks_by_place (map without_touched tables)) i []) ≡ length (get_or (pages_by_place (map without_touched tables)) i [])
marks_long [] i = refl
marks_long (t ∷ tables) zero = long_replicate (length t.pages) where
  long_replicate : (n : ℕ) → length (replicate n false) ≡ n
  long_replicate zero = refl
  long_replicate (suc n) = let rest = long_replicate n in omega arith
marks_long (t ∷ tables) (suc i) = marks_long tables i

pub kept_unmarked : (tables : List PageTableState) (x : Counted) → AreIndexed tables x → AreIndexed (map without_touched tables) (record x { counts = map without_active x.counts; touchers = replicate (length x.touchers) 0 })
kept_unmarked tables x kept =
    let pages = same_pages tables in
    let limits = same_limits tables in
    let old = kept.index.measured in
    let many = ap length pages in
    record {
      index = record {
        order = rw pages kept.index.order;
        apart = rw pages kept.index.apart;
        measured = record {
          places = old.places ∙ sym many;
          counts = long_map without_active x.counts ∙ old.counts ∙ sym many;
          touchers = long_replicate (length x.touchers) ∙ old.touchers;
          frames = old.frames;
          few = (let a = old.few in omega arith);
          small = λ i. (let a = old.small i in let b = ap (λ z. length (get_or z i [])) pages in omega arith);
        };
        counted = record {
          charged = λ i. ((none_active x.counts i).0 ∙ kept.index.counted.charged i ∙ ap (λ z. charged_in (number_in x.chains.numbers) z (length x.chains.ends) i) (sym pages));
          active = λ i. ((none_active x.counts i).1 ∙ sym (all_none (length x.chains.ends) (λ f. activity_in (number_in x.chains.numbers) (marked_of (map without_touched tables)) i f)
              (λ f less. none_charge (touchers_in (pages_by_place (map without_touched tables)) (marks_by_place (map without_touched tables)) f) (charge_in (number_in x.chains.numbers) (pages_by_place (map without_touched tables)) i f) (zero_touchers f))));
          touchers = λ f less. (none_here (length x.touchers) f ∙ sym (zero_touchers f));
        };
      };
      places = kept.places ∙ sym (long_map without_touched tables);
      links = λ i. (let a = kept.links i in let b = ap (λ z. get_or z i 0) limits in omega arith);
      small = λ i. (let a = kept.small i in let b = ap (λ z. get_or z i 0) limits in omega arith);
      rows = λ i. (let a = kept.rows i in let b = ap (λ z. get_or z i 0) limits in let d = ap (λ z. length (get_or z i [])) pages in omega arith);
      marks = marks_long tables;
    } where
      long_replicate : (n : ℕ) → length {A = ℕ} (replicate n 0) ≡ n
      long_replicate zero = refl
      long_replicate (suc n) = let rest = long_replicate n in omega arith

      zero_touchers : (f : ℕ) → touchers_in (pages_by_place (map without_touched tables)) (marks_by_place (map without_touched tables)) f ≡ 0
      zero_touchers f = all_none (length (pages_by_place (map without_touched tables))) (λ j. touched_on f (get_or (pages_by_place (map without_touched tables)) j []) (get_or (marks_by_place (map without_touched tables)) j [])) (λ j less. marks_row tables j f)

-- ---- nobody yet

nobody_stands : (f : ℕ) (id : PageId) → ¬ StandsOn [] f id
nobody_stands f id on = let e = none_at id.page in absurd (omega arith) where
  none_at : (p : ℕ) → at (stands_on f) (slice_get [] p) ≡ 0
  none_at zero = refl
  none_at (suc p) = refl

no_first : (frames f : ℕ) → (next_in (empty_index frames).chains f None ≡ None) × (prior_in (empty_index frames).chains f None ≡ None)
no_first zero f = (refl, refl)
no_first (suc n) zero = (refl, refl)
no_first (suc n) (suc f) = no_first n f

no_way : (Before : PageId → PageId → Type 0) (f : ℕ) (link : Option PageId → Option PageId) → link None ≡ None → (at : Option PageId) → IsStop (StandsOn [] f) at → LeadsToNearest (IsStop (StandsOn [] f)) (IsEarlierStop Before) at (stop_of (link at))
no_way Before f link none (Some id) stop = absurd (nobody_stands f id stop)
no_way Before f link none None stop = record {
  there = λ y e. absurd (let k : stop_of None ≡ Some y = sym (ap stop_of none) ∙ e in cc);
  nearest = nearest;
} where
  nearest : (z : Option PageId) → IsStop (StandsOn [] f) z → IsEarlierStop Before None z → (y : Option PageId) × (stop_of (link None) ≡ Some y) × ¬ IsEarlierStop Before z y
  nearest None on less = absurd less
  nearest (Some id) on less = absurd (nobody_stands f id on)

pub kept_empty : (frames : ℕ) → frames < 4294967296 → AreIndexed [] (empty_index frames)
kept_empty frames few = record {
  index = record {
    order = record {
      room = λ f id on. absurd (nobody_stands f id on);
      next = λ f at stop. no_way _ f (next_in (empty_index frames).chains f) (no_first frames f).0 at stop;
      prior = λ f at stop. no_way _ f (prior_in (empty_index frames).chains f) (no_first frames f).1 at stop;
    };
    apart = λ i j some also same. absurd (omega arith);
    measured = record {
      places = refl;
      counts = refl;
      touchers = long_replicate frames ∙ sym (long_ends frames);
      frames = (let e = long_ends frames in omega arith);
      few = omega arith;
      small = λ i. omega arith;
    };
    counted = search (rules, all_none, none_here);
  };
  places = refl;
  links = λ i. omega arith;
  small = λ i. omega arith;
  rows = λ i. omega arith;
  marks = λ i. refl;
} where
  long_replicate : (n : ℕ) → length {A = ℕ} (replicate n 0) ≡ n
  long_replicate zero = refl
  long_replicate (suc n) = let rest = long_replicate n in omega arith

  long_ends : (n : ℕ) → length (empty_index n).chains.ends ≡ n
  long_ends zero = refl
  long_ends (suc n) = let rest = long_ends n in omega arith

-- ---- all pages of a row become untouched, one after the other

pub set_over : {X : Type 0} (xs : List X) (i : ℕ) (x y : X) → slice_set (slice_set xs i x) i y ≡ slice_set xs i y
set_over [] i x y = refl
set_over (z ∷ xs) zero x y = refl
set_over (z ∷ xs) (suc i) x y = let e = set_over xs i x y in cc

some_at : {X : Type 0} (xs : List X) (p : ℕ) → p < length xs → (x : X) × (slice_get xs p ≡ Some x)
some_at [] p within = absurd (omega arith)
some_at (x ∷ xs) zero within = (x, refl)
some_at (x ∷ xs) (suc p) within = some_at xs p (omega arith)

pub one_done : (pages : List (List Page)) (i n : ℕ) → n < length (get_or pages i []) → ((p : ℕ) → p < n → page_at pages i p ≡ Some Untouched) → (p : ℕ) → p < n + 1 → page_at (put pages i n Untouched) i p ≡ Some Untouched
one_done pages i n within done p less =
    elim (here_or n p) [
      | inl same ↦ (let x = some_at (get_or pages i []) n within in rw same (put_this pages i n x.0 Untouched x.1))
      | inr other ↦ put_other pages i n p Untouched other ∙ done p (fewer p other less)
    ] where
      fewer : (p : ℕ) → p ≢ n → p < n + 1 → p < n
      fewer p other less = elim (cases_lt p n) [ inl before ↦ before | inr most ↦ absurd (other (omega arith)) ]

pub is_untouched : (page : Page) (x : Option Page) → x ≡ Some Untouched → x ≡ Some page → frame_of page ≡ None
is_untouched page x one two = let both : Some Untouched ≡ Some page = sym one ∙ two in let e : Untouched ≡ page = cc in rw (← e) refl
