-- An instance comes to a place, with a row of untouched pages.
use Rattle.std.proofs.Common.{◌≡◌, ◌≢◌, ℕ, ◌+◌, ◌<◌, ◌≤◌, ◌==◌, ◌++◌, ◌⊎◌, inl, inr, cond, nat_lt, Bool, true, false, List, [], ◌∷◌, None, length, replicate, slice_get, slice_set, get_or, zero, suc, refl, sym, ap, ◌∙◌, subst, arith, length-set, length-append, rules}
use Rattle.std.proofs.lemmas.Bool.Decides.{nat_tests}
use Rattle.wh_space_model.specs.{with_row, charge_in}
use Rattle.wh_space_model.specs.declared.states.Page.{Page}
use Rattle.wh_space_model.specs.declared.states.Page.TheVariants.{Untouched}
use Rattle.wh_space_model.proofs.Putting.{here_or}
use Rattle.wh_pages.specs.Table.{PageTableState}
use Rattle.wh_tables.specs.declared.page_id.PageId.{PageId}
use Rattle.wh_tables.specs.declared.order.Link.{Link}
use Rattle.wh_tables.specs.declared.index.Counts.{Counts}
use Rattle.wh_tables.specs.Order.{StandsOn}
use Rattle.wh_tables.specs.Index.{HaveOwnNumbers, Counted, IsIndexOf, Marked, counts_at, number_in, with_newcomer}
use Rattle.wh_tables.specs.Tables.{AreIndexed, limits_by_place, marked_of, marks_by_place, new_table, pages_by_place, tables_with}
use Rattle.wh_tables.proofs.Alike.{index_alike}
use Rattle.wh_tables.proofs.Charging.{all_none}
use Rattle.wh_tables.proofs.Keeping.{long_map}
use Rattle.wh_tables.proofs.Newcomers.{row_longer, rows_where, touchers_same}
use Rattle.wh_tables.proofs.Rows.{map_row}

-- ---- rows of a list with one more

abbrev pick : {X : Type 0} → Bool → List X → ℕ → X → List X
pick b xs i x = cond b (slice_set xs i x) (xs ++ x ∷ [])

set_here : {X : Type 0} (xs : List X) (i : ℕ) (x none : X) → i < length xs → get_or (slice_set xs i x) i none ≡ x
set_here [] i x none within = absurd (omega arith)
set_here (y ∷ xs) zero x none within = refl
set_here (y ∷ xs) (suc i) x none within = set_here xs i x none (omega arith)

set_else : {X : Type 0} (xs : List X) (i j : ℕ) (x none : X) → j ≢ i → get_or (slice_set xs i x) j none ≡ get_or xs j none
set_else [] i j x none other = refl
set_else (y ∷ xs) zero zero x none other = absurd (other refl)
set_else (y ∷ xs) zero (suc j) x none other = refl
set_else (y ∷ xs) (suc i) zero x none other = refl
set_else (y ∷ xs) (suc i) (suc j) x none other = set_else xs i j x none (λ e. other (ap suc e))

add_here : {X : Type 0} (xs : List X) (i : ℕ) (x none : X) → i ≡ length xs → get_or (xs ++ x ∷ []) i none ≡ x
add_here [] zero x none long = refl
add_here [] (suc i) x none long = absurd (omega arith)
add_here (y ∷ xs) zero x none long = absurd (omega arith)
add_here (y ∷ xs) (suc i) x none long = add_here xs i x none (omega arith)

add_else : {X : Type 0} (xs : List X) (j : ℕ) (x none : X) → j ≢ length xs → get_or (xs ++ x ∷ []) j none ≡ get_or xs j none
add_else [] zero x none other = absurd (other refl)
add_else [] (suc j) x none other = refl
add_else (y ∷ xs) zero x none other = refl
add_else (y ∷ xs) (suc j) x none other = add_else xs j x none (λ e. other (ap suc e))

test_less : (i n : ℕ) → ((nat_lt i n ≡ true) × (i < n)) ⊎ ((nat_lt i n ≡ false) × (n ≤ i))
test_less i n = search rules

pub with_here : {X : Type 0} (xs : List X) (i : ℕ) (x none : X) → i ≤ length xs → get_or (with_row xs i x) i none ≡ x
with_here xs i x none within = search (rules, test_less, set_here, add_here)

pub with_else : {X : Type 0} (xs : List X) (i j : ℕ) (x none : X) → i ≤ length xs → j ≢ i → get_or (with_row xs i x) j none ≡ get_or xs j none
with_else xs i j x none within other = search (rules, test_less, set_else, add_else)

with_long : {X : Type 0} (xs : List X) (i : ℕ) (x : X) → ((i < length xs) × (length (with_row xs i x) ≡ length xs)) ⊎ ((length xs ≤ i) × (length (with_row xs i x) ≡ length xs + 1))
with_long xs i x = search (rules, test_less, length-set, length-append)

pub with_same : {X Y : Type 0} (xs : List X) (ys : List Y) (i : ℕ) (x : X) (y : Y) → length xs ≡ length ys → length (with_row xs i x) ≡ length (with_row ys i y)
with_same xs ys i x y same = search (rules, with_long)

with_more : {X : Type 0} (xs : List X) (i : ℕ) (x : X) → length xs ≤ length (with_row xs i x)
with_more xs i x = elim (with_long xs i x) [ inl here ↦ (let a = here.1 in omega arith) | inr here ↦ (let a = here.1 in omega arith) ]

with_few : {X : Type 0} (xs : List X) (i : ℕ) (x : X) → i < 4294967296 → i ≤ length xs → length xs ≤ 4294967296 → length (with_row xs i x) ≤ 4294967296
with_few xs i x few within most = elim (with_long xs i x) [ inl here ↦ (let a = here.1 in omega arith) | inr here ↦ (let a = here.1 in let b = here.0 in omega arith) ]

long_replicate : {X : Type 0} (x : X) (n : ℕ) → length (replicate n x) ≡ n
long_replicate x zero = refl
long_replicate x (suc n) = let rest = long_replicate x n in omega arith

-- ---- who comes

-- nothing is counted for a place at which no page is
nothing_charged : (x : Counted) (m : Marked) (i f : ℕ) → get_or m.pages i [] ≡ [] → charge_in (number_in x.chains.numbers) m.pages i f ≡ 0
nothing_charged x m i f empty = search rules

zero_term : (t charge : ℕ) → charge ≡ 0 → cond (t == 0) 0 charge ≡ 0
zero_term t charge none = grind (arith, nat_tests)

same_counts : (a b : Counts) → a.charged ≡ b.charged → a.active ≡ b.active → a ≡ b
same_counts a b one two = ap (λ n. record { charged = n; active = a.active }) one ∙ ap (λ n. record { charged = b.charged; active = n }) two

nothing_counted : (x : Counted) (m : Marked) (i : ℕ) → IsIndexOf x m → get_or m.pages i [] ≡ [] → counts_at x.counts i ≡ record { charged = 0; active = 0 }
nothing_counted x m i index empty = search (rules, same_counts, all_none, nothing_charged, zero_term)

-- what is asked
pub record MayArrive (tables : List PageTableState) (x : Counted) (i number n max : ℕ) : Type 0 where
  pub few : i < 4294967296
  pub place : i ≤ length tables
  pub empty : get_or (pages_by_place tables) i [] ≡ []
  pub fresh : (j : ℕ) → 1 ≤ length (get_or (pages_by_place tables) j []) → number_in x.chains.numbers j ≢ number
  pub fits : n ≤ max
  pub most : max ≤ 65536

no_page_there : (pages : List (List Page)) (i f : ℕ) (id : PageId) → get_or pages i [] ≡ [] → StandsOn pages f id → id.place ≢ i
no_page_there pages i f id empty on same = search rules

pub marked_row : (tables : List PageTableState) (i : ℕ) (new : PageTableState) → marked_of (with_row tables i new) ≡ record { pages = with_row (pages_by_place tables) i new.pages; marks = with_row (marks_by_place tables) i new.touched }
marked_row tables i new = rw (map_row (λ (t : PageTableState). t.pages) tables i new, map_row (λ (t : PageTableState). t.touched) tables i new) refl

arrived_index : (tables : List PageTableState) (x : Counted) (i number n max : ℕ) → AreIndexed tables x → MayArrive tables x i number n max
    → IsIndexOf (with_newcomer x i number max) (record { pages = with_row (pages_by_place tables) i (replicate n Untouched); marks = with_row (marks_by_place tables) i (replicate n false) })
arrived_index tables x i number n max kept may =
    let m : Marked = marked_of tables in
    let m2 : Marked = record { pages = with_row m.pages i (replicate n Untouched); marks = with_row m.marks i (replicate n false) } in
    let old = kept.index.measured in
    let pages_long = long_map (λ (t : PageTableState). t.pages) tables in
    let marks_long = long_map (λ (t : PageTableState). t.touched) tables in
    let place = may.place in
    let at_pages : i ≤ length m.pages = omega arith in
    let at_marks : i ≤ length m.marks = omega arith in
    let at_numbers : i ≤ length x.chains.numbers = (let a = old.places in omega arith) in
    let at_links : i ≤ length x.chains.links = (let a = kept.places in omega arith) in
    let at_counts : i ≤ length x.counts = (let a = old.counts in omega arith) in
    let no_marks = kept.marks i in
    let no_pages = ap length may.empty in
    let rows = rows_where m m2 i (λ j other. (with_else m.pages i j _ [] at_pages other, with_else m.marks i j _ [] at_marks other))
    (rw (with_here m.pages i (replicate n Untouched) [] at_pages, with_here m.marks i (replicate n false) [] at_marks, may.empty, no_row (get_or m.marks i []) (omega arith)) (row_longer [] [] n refl)) in
    index_alike x (with_newcomer x i number max) m m2 kept.index (record {
      measured = record {
        places = with_same x.chains.numbers m.pages i number (replicate n Untouched) old.places;
        counts = with_same x.counts m.pages i _ (replicate n Untouched) old.counts;
        touchers = old.touchers;
        frames = old.frames;
        few = with_few m.pages i (replicate n Untouched) may.few at_pages old.few;
        small = λ j. small j at_pages;
      };
      apart = apart at_pages at_numbers;
      ends = refl;
      touchers = refl;
      within = search (rules, no_page_there, with_more, with_else, replicate);
      to = λ f id on. rows.stands f id.place id.page ∙ on;
      back = λ f id on. sym (rows.stands f id.place id.page) ∙ on;
      links = λ f id on. ap (λ row. slice_get row id.page) (with_else x.chains.links i id.place _ [] at_links (no_page_there m.pages i f id may.empty on));
      numbers = λ f id on. with_else x.chains.numbers i id.place number 0 at_numbers (no_page_there m.pages i f id may.empty on);
      standing = λ k f. rows.standing k f;
      touched = λ f. touchers_same m m2 rows f;
      counts = λ j. counts j at_counts;
    }) where
      no_row : {X : Type 0} (xs : List X) → length xs ≡ 0 → xs ≡ []
      no_row [] none = refl
      no_row (z ∷ xs) none = absurd (omega arith)

      small : (j : ℕ) → i ≤ length (pages_by_place tables) → length (get_or (with_row (pages_by_place tables) i (replicate n Untouched)) j []) ≤ 65536
      small j place =
          elim (here_or i j) [
            | inl same ↦ (let e = ap length (with_here (pages_by_place tables) i (replicate n Untouched) [] place) in let l = long_replicate Untouched n in let a = may.fits in let b = may.most in rw same (omega arith))
            | inr other ↦ (let e = ap length (with_else (pages_by_place tables) i j (replicate n Untouched) [] place other) in let a = kept.index.measured.small j in omega arith)
          ]

      was : (j : ℕ) → i ≤ length (pages_by_place tables) → j ≢ i → 1 ≤ length (get_or (with_row (pages_by_place tables) i (replicate n Untouched)) j []) → 1 ≤ length (get_or (pages_by_place tables) j [])
      was j place other some = let e = ap length (with_else (pages_by_place tables) i j (replicate n Untouched) [] place other) in omega arith

      apart : i ≤ length (pages_by_place tables) → i ≤ length x.chains.numbers → HaveOwnNumbers (with_row x.chains.numbers i number) (with_row (pages_by_place tables) i (replicate n Untouched))
      apart place at_numbers j k some also same =
          elim (here_or i j) [
            | inl first ↦
                elim (here_or i k) [
                  | inl second ↦ first ∙ sym second
                  | inr away ↦ absurd (may.fresh k (was k place away also) (sym (with_else x.chains.numbers i k number 0 at_numbers away) ∙ sym same ∙ ap (number_in (with_row x.chains.numbers i number)) first ∙ with_here x.chains.numbers i number 0 at_numbers))
                ]
            | inr other ↦
                elim (here_or i k) [
                  | inl second ↦ absurd (may.fresh j (was j place other some) (sym (with_else x.chains.numbers i j number 0 at_numbers other) ∙ same ∙ ap (number_in (with_row x.chains.numbers i number)) second ∙ with_here x.chains.numbers i number 0 at_numbers))
                  | inr away ↦ kept.index.apart j k (was j place other some) (was k place away also) (sym (with_else x.chains.numbers i j number 0 at_numbers other) ∙ same ∙ with_else x.chains.numbers i k number 0 at_numbers away)
                ]
          ]

      counts : (j : ℕ) → i ≤ length x.counts → counts_at (with_row x.counts i (record { charged = 0; active = 0 })) j ≡ counts_at x.counts j
      counts j place =
          elim (here_or i j) [
            | inl same ↦ rw same (with_here x.counts i (record { charged = 0; active = 0 }) (record { charged = 0; active = 0 }) place ∙ sym (nothing_counted x (marked_of tables) i kept.index may.empty))
            | inr other ↦ with_else x.counts i j _ _ place other
          ]

pub kept_arrived : (tables : List PageTableState) (x : Counted) (i number n max : ℕ) → AreIndexed tables x → MayArrive tables x i number n max → AreIndexed (with_row tables i (new_table n max)) (with_newcomer x i number max)
kept_arrived tables x i number n max kept may =
    let new : PageTableState = new_table n max in
    let limits = map_row (λ (t : PageTableState). t.max) tables i new in
    let pages = map_row (λ (t : PageTableState). t.pages) tables i new in
    let marks = map_row (λ (t : PageTableState). t.touched) tables i new in
    let place = may.place in
    let limits_long = long_map (λ (t : PageTableState). t.max) tables in
    let pages_long = long_map (λ (t : PageTableState). t.pages) tables in
    let marks_long = long_map (λ (t : PageTableState). t.touched) tables in
    let at_limits : i ≤ length (limits_by_place tables) = omega arith in
    let at_pages : i ≤ length (pages_by_place tables) = omega arith in
    let at_marks : i ≤ length (marks_by_place tables) = omega arith in
    let at_links : i ≤ length x.chains.links = (let a = kept.places in omega arith) in
    let page_row = long_replicate Untouched n in
    let mark_row = long_replicate false n in
    let no_link : Link = record { next = None; prior = None } in
    let link_row = long_replicate no_link max in
    record {
      index = subst (λ (m : Marked). IsIndexOf (with_newcomer x i number max) m) (sym (marked_row tables i new)) (arrived_index tables x i number n max kept may);
      places = with_same x.chains.links tables i _ new kept.places;
      links = search (rules, here_or, with_here, replicate, with_else);
      small = search (rules, here_or, with_here, with_else);
      rows = search (rules, here_or, with_here, replicate, with_else);
      marks = search (rules, here_or, with_here, replicate, with_else);
    }

pub tables_arrived : (tables : List PageTableState) (x : Counted) (i number n max : ℕ) → tables_with (with_row tables i (new_table n max)) (with_newcomer x i number max)
    ≡ record {
      pages = with_row (pages_by_place tables) i (replicate n Untouched);
      marks = with_row (marks_by_place tables) i (replicate n false);
      limits = with_row (limits_by_place tables) i max;
      numbers = with_row x.chains.numbers i number;
      frames = length x.chains.ends;
    }
tables_arrived tables x i number n max = search (rules, map_row)
