-- The tables and their index, when one page is another one now.
use Rattle.std.proofs.Common.{◌≡◌, ℕ, ◌<◌, inl, inr, cond, Bool, true, false, List, [], ◌∷◌, Option, Some, None, length, map, slice_get, slice_set, get_or, zero, suc, refl, sym, ap, ◌∙◌, subst, arith, length-set, rules}
use Rattle.wh_space_model.specs.{one_if, frame_of, page_at, put, stands_on}
use Rattle.wh_space_model.specs.declared.states.Page.{Page}
use Rattle.wh_space_model.specs.declared.states.Page.TheVariants.{Untouched, Private, Shared, Leaving, LeavingShared, Coming, Swapped}
use Rattle.wh_space_model.proofs.Tally.{one_same}
use Rattle.wh_space_model.proofs.Putting.{is_page}
use Rattle.wh_pages.specs.Table.{PageTableState}
use Rattle.wh_tables.specs.declared.page_id.PageId.{PageId}
use Rattle.wh_tables.specs.Order.{Chains, IsAsLarge, IsInRange, StandsNowhere, StandsOn}
use Rattle.wh_tables.specs.Index.{Counted, IsIndexOf, Marked, with_mark, with_page}
use Rattle.wh_tables.specs.Tables.{AreIndexed, marked_of, marks_by_place, pages_by_place, tables_with}
use Rattle.wh_tables.proofs.Alike.{index_alike}
use Rattle.wh_space_model.proofs.Changing.{standing_same}
use Rattle.wh_tables.proofs.InOrder.{same_id}
use Rattle.wh_tables.proofs.Rows.{column_put}
use Rattle.wh_tables.proofs.Settling.{apart_page, measured_page}
use Rattle.wh_tables.proofs.Standing.{others_stand, page_of_standing, put_stands}
use Rattle.wh_tables.proofs.Touching.{touchers_with_mark, touchers_with_page}

-- ---- frames of pages

abbrev on_frame : Option ℕ → ℕ → ℕ
on_frame None g = 0
on_frame (Some f) g = one_if g f

stands_is : (g : ℕ) (page : Page) → stands_on g page ≡ on_frame (frame_of page) g
stands_is g Untouched = refl
stands_is g (Private f) = omega arith
stands_is g (Shared f) = omega arith
stands_is g (Leaving f) = omega arith
stands_is g (LeavingShared f) = omega arith
stands_is g (Coming k) = refl
stands_is g (Swapped k) = refl

pub frame_stands : (f : ℕ) (page : Page) → frame_of page ≡ Some f → stands_on f page ≡ 1
frame_stands f page is = stands_is f page ∙ ap (λ o. on_frame o f) is ∙ one_same f f refl

pub frame_nowhere : (page : Page) → frame_of page ≡ None → StandsNowhere page
frame_nowhere page is f = stands_is f page ∙ ap (λ o. on_frame o f) is

pub frames_same : (x y : Page) → frame_of x ≡ frame_of y → (g : ℕ) → stands_on g y ≡ stands_on g x
frames_same x y same g = stands_is g y ∙ sym (ap (λ o. on_frame o g) same) ∙ sym (stands_is g x)

-- ---- columns of tables

pub column_stays : {X Y : Type 0} (column : X → Y) (rows : List X) (i : ℕ) (row new : X)
    → row ≡ get_or rows i row → column new ≡ column row → map column (slice_set rows i new) ≡ map column rows
column_stays column [] i row new found is = refl
column_stays column (x ∷ rows) zero row new found is = let e : row ≡ x = found in let k = ap column e in cc
column_stays column (x ∷ rows) (suc i) row new found is = let e = column_stays column rows i row new found is in cc

pub column_at : {X Y : Type 0} (column : X → Y) (rows : List X) (i : ℕ) (row : X) (none : Y) → i < length rows → row ≡ get_or rows i row → get_or (map column rows) i none ≡ column row
column_at column [] i row none within found = absurd (omega arith)
column_at column (x ∷ rows) zero row none within found = ap column (sym found)
column_at column (x ∷ rows) (suc i) row none within found = column_at column rows i row none (omega arith) found

column_lengths : {X Y : Type 0} (column : X → List Y) (rows : List X) (i : ℕ) (row new : X) → row ≡ get_or rows i row → length (column new) ≡ length (column row)
    → (j : ℕ) → length (get_or (map column (slice_set rows i new)) j []) ≡ length (get_or (map column rows) j [])
column_lengths column [] i row new found same j = refl
column_lengths column (x ∷ rows) zero row new found same zero = let e : row ≡ x = found in same ∙ ap (λ z. length (column z)) e
column_lengths column (x ∷ rows) zero row new found same (suc j) = refl
column_lengths column (x ∷ rows) (suc i) row new found same zero = refl
column_lengths column (x ∷ rows) (suc i) row new found same (suc j) = column_lengths column rows i row new found same j

pub long_map : {X Y : Type 0} (f : X → Y) (xs : List X) → length (map f xs) ≡ length xs
long_map f [] = refl
long_map f (x ∷ xs) = let rest = long_map f xs in omega arith

-- a page that is there is of a table
pub place_within : (tables : List PageTableState) (i p : ℕ) → p < length (get_or (pages_by_place tables) i []) → i < length tables
place_within [] i p within = absurd (omega arith)
place_within (t ∷ tables) zero p within = omega arith
place_within (t ∷ tables) (suc i) p within = let rest = place_within tables i p within in omega arith

pub row_within : (tables : List PageTableState) (i p : ℕ) (row : PageTableState) → row ≡ get_or tables i row → p < length (get_or (pages_by_place tables) i []) → p < length row.pages
row_within tables i p row found within = search (rules, column_at, place_within)

pub page_there : (tables : List PageTableState) (i p : ℕ) (x : Page) → page_at (pages_by_place tables) i p ≡ Some x → p < length (get_or (pages_by_place tables) i [])
page_there tables i p x there = (is_page (pages_by_place tables) i p x there).1

pub mark_there : (tables : List PageTableState) (i p : ℕ) (row : PageTableState) (mark : Bool) → row ≡ get_or tables i row → i < length tables → slice_get row.touched p ≡ Some mark → page_at (marks_by_place tables) i p ≡ Some mark
mark_there tables i p row mark found within is = ap (λ xs. slice_get xs p) (column_at (λ (t : PageTableState). t.touched) tables i row [] within found) ∙ is

some_mark : (marks : List Bool) (p : ℕ) → p < length marks → (mark : Bool) × (slice_get marks p ≡ Some mark)
some_mark [] p within = absurd (omega arith)
some_mark (m ∷ marks) zero within = (m, refl)
some_mark (m ∷ marks) (suc p) within = some_mark marks p (omega arith)

pub place_small : (tables : List PageTableState) (x : Counted) (i p : ℕ) → AreIndexed tables x → p < length (get_or (pages_by_place tables) i []) → i < 4294967296
place_small tables x i p kept within = search (rules, place_within, long_map)

-- ---- one page

pub marked_page : (tables : List PageTableState) (i p : ℕ) (row new : PageTableState) (page : Page) → row ≡ get_or tables i row → new ≡ record row { pages = slice_set row.pages p page }
    → marked_of (slice_set tables i new) ≡ with_page (marked_of tables) (record { place = i; page = p }) page
marked_page tables i p row new page found is = search (rules, column_put, column_stays)

pub tables_page : (tables : List PageTableState) (x x2 : Counted) (i p : ℕ) (row new : PageTableState) (page : Page) → row ≡ get_or tables i row → new ≡ record row { pages = slice_set row.pages p page } → IsAsLarge x.chains x2.chains
    → tables_with (slice_set tables i new) x2 ≡ record (tables_with tables x) { pages = put (pages_by_place tables) i p page }
tables_page tables x x2 i p row new page found is large = search (rules, column_put, column_stays)

-- what is kept beside the index
kept_row : (tables : List PageTableState) (x x2 : Counted) (i : ℕ) (row new : PageTableState) → AreIndexed tables x → row ≡ get_or tables i row → new.max ≡ row.max → length new.pages ≡ length row.pages → length new.touched ≡ length row.touched
    → IsAsLarge x.chains x2.chains → IsIndexOf x2 (marked_of (slice_set tables i new)) → AreIndexed (slice_set tables i new) x2
kept_row tables x x2 i row new kept found max pages marks large index = search (rules, column_stays, length-set, column_lengths)

pub kept_page : (tables : List PageTableState) (x x2 : Counted) (i p : ℕ) (row new : PageTableState) (page : Page) → AreIndexed tables x → row ≡ get_or tables i row → new ≡ record row { pages = slice_set row.pages p page }
    → IsAsLarge x.chains x2.chains → IsIndexOf x2 (with_page (marked_of tables) (record { place = i; page = p }) page) → AreIndexed (slice_set tables i new) x2
kept_page tables x x2 i p row new page kept found is large index =
    kept_row tables x x2 i row new kept found (ap (λ (t : PageTableState). t.max) is) (ap (λ (t : PageTableState). length t.pages) is ∙ length-set row.pages p page) (ap (λ (t : PageTableState). length t.touched) is) large
    (subst (λ (m : Marked). IsIndexOf x2 m) (sym (marked_page tables i p row new page found is)) index)

pub same_size : (c : Chains) → IsAsLarge c c
same_size c = record { numbers = refl; ends = refl; places = refl; pages = λ i. refl }

-- a page that stands where the one before it stood
pub page_alike : (tables : List PageTableState) (x : Counted) (i p : ℕ) (was page : Page) → AreIndexed tables x → page_at (pages_by_place tables) i p ≡ Some was → frame_of was ≡ frame_of page
    → IsIndexOf x (with_page (marked_of tables) (record { place = i; page = p }) page)
page_alike tables x i p was page kept there same =
    let m : Marked = marked_of tables in
    let id : PageId = record { place = i; page = p } in
    let stands = frames_same was page same in
    let long = page_there tables i p was there in
    let marks = kept.marks i in
    let mark = some_mark (get_or (marks_by_place tables) i []) p (omega arith) in
    index_alike x x m (with_page m id page) kept.index (record {
      measured = measured_page x x m id page kept.index.measured (same_size x.chains) refl refl;
      apart = apart_page x.chains.numbers m.pages id page kept.index.apart;
      ends = refl;
      touchers = refl;
      within = λ f z on. kept.index.order.room f z on;
      to = λ f z on. to f z (stands f) on;
      back = λ f z on. back f z (stands f) on;
      links = λ f z on. refl;
      numbers = λ f z on. refl;
      standing = λ k f. standing_same m.pages i p was page f there (stands f) k;
      touched = λ f. (
          let change = touchers_with_page m.pages m.marks i p f was page mark.0 there mark.1 in
          let e = ap (λ n. cond mark.0 n 0) (stands f) in
          omega arith);
      counts = λ k. refl;
    }) where
      to : (f : ℕ) (z : PageId) → stands_on f page ≡ stands_on f was → StandsOn (pages_by_place tables) f z → StandsOn (put (pages_by_place tables) i p page) f z
      to f z same on =
          elim (same_id z (record { place = i; page = p })) [
            | inr other ↦ (let e = others_stand (pages_by_place tables) (record { place = i; page = p }) page f z other in omega arith)
            | inl is ↦ search (rules, put_stands, page_of_standing)
          ]

      back : (f : ℕ) (z : PageId) → stands_on f page ≡ stands_on f was → StandsOn (put (pages_by_place tables) i p page) f z → StandsOn (pages_by_place tables) f z
      back f z same on =
          elim (same_id z (record { place = i; page = p })) [
            | inr other ↦ (let e = others_stand (pages_by_place tables) (record { place = i; page = p }) page f z other in omega arith)
            | inl is ↦
                (let e = put_stands (pages_by_place tables) (record { place = i; page = p }) was page f there in
                let here : StandsOn (put (pages_by_place tables) i p page) f (record { place = i; page = p }) = subst (λ w. StandsOn (put (pages_by_place tables) i p page) f w) is on in
                let stood : stands_on f was ≡ 1 = omega arith in
                let now : StandsOn (pages_by_place tables) f (record { place = i; page = p }) = rw there stood in
                subst (λ w. StandsOn (pages_by_place tables) f w) (sym is) now)
          ]

pub put_put : (pages : List (List Page)) (i p : ℕ) (x y : Page) → put (put pages i p x) i p y ≡ put pages i p y
put_put [] i p x y = refl
put_put (xs ∷ pages) zero p x y = let e = twice xs p x y in cc where
  twice : (xs : List Page) (p : ℕ) (x y : Page) → slice_set (slice_set xs p x) p y ≡ slice_set xs p y
  twice [] p x y = refl
  twice (z ∷ xs) zero x y = refl
  twice (z ∷ xs) (suc p) x y = let e = twice xs p x y in cc
put_put (xs ∷ pages) (suc i) p x y = let e = put_put pages i p x y in cc

-- a page that is there has links
pub links_there : (tables : List PageTableState) (x : Counted) (i p f : ℕ) → AreIndexed tables x → p < length (get_or (pages_by_place tables) i []) → f < length x.chains.ends → IsInRange x.chains f (record { place = i; page = p })
links_there tables x i p f kept within frame = search (rules, place_within, long_map)

-- ---- one mark

pub marked_mark : (tables : List PageTableState) (i p : ℕ) (row new : PageTableState) (mark : Bool) → row ≡ get_or tables i row → new ≡ record row { touched = slice_set row.touched p mark }
    → marked_of (slice_set tables i new) ≡ with_mark (marked_of tables) (record { place = i; page = p }) mark
marked_mark tables i p row new mark found is = search (rules, column_put, column_stays)

pub tables_mark : (tables : List PageTableState) (x x2 : Counted) (i p : ℕ) (row new : PageTableState) (mark : Bool) → row ≡ get_or tables i row → new ≡ record row { touched = slice_set row.touched p mark } → IsAsLarge x.chains x2.chains
    → tables_with (slice_set tables i new) x2 ≡ record (tables_with tables x) { marks = put (marks_by_place tables) i p mark }
tables_mark tables x x2 i p row new mark found is large = search (rules, column_put, column_stays)

pub kept_mark : (tables : List PageTableState) (x x2 : Counted) (i p : ℕ) (row new : PageTableState) (mark : Bool) → AreIndexed tables x → row ≡ get_or tables i row → new ≡ record row { touched = slice_set row.touched p mark }
    → IsAsLarge x.chains x2.chains → IsIndexOf x2 (with_mark (marked_of tables) (record { place = i; page = p }) mark) → AreIndexed (slice_set tables i new) x2
kept_mark tables x x2 i p row new mark kept found is large index =
    kept_row tables x x2 i row new kept found (ap (λ (t : PageTableState). t.max) is) (ap (λ (t : PageTableState). length t.pages) is) (ap (λ (t : PageTableState). length t.touched) is ∙ length-set row.touched p mark) large
    (subst (λ (m : Marked). IsIndexOf x2 m) (sym (marked_mark tables i p row new mark found is)) index)

-- the mark of a page that stands on no frame
pub mark_alike : (tables : List PageTableState) (x : Counted) (i p : ℕ) (page : Page) (mark2 : Bool) → AreIndexed tables x → page_at (pages_by_place tables) i p ≡ Some page → frame_of page ≡ None
    → IsIndexOf x (with_mark (marked_of tables) (record { place = i; page = p }) mark2)
mark_alike tables x i p page mark2 kept there none =
    let m : Marked = marked_of tables in
    let id : PageId = record { place = i; page = p } in
    let long = page_there tables i p page there in
    let marks = kept.marks i in
    let mark = some_mark (get_or (marks_by_place tables) i []) p (omega arith) in
    index_alike x x m (with_mark m id mark2) kept.index (record {
      measured = search rules;
      apart = kept.index.apart;
      ends = refl;
      touchers = refl;
      within = λ f z on. kept.index.order.room f z on;
      to = λ f z on. on;
      back = λ f z on. on;
      links = λ f z on. refl;
      numbers = λ f z on. refl;
      standing = λ k f. refl;
      touched = λ f. (
          let change = touchers_with_mark m.pages m.marks i p f page mark.0 mark2 there mark.1 in
          let e = frame_nowhere page none f in
          let a = cond_zero mark.0 (stands_on f page) e in
          let b = cond_zero mark2 (stands_on f page) e in
          omega arith);
      counts = λ k. refl;
    }) where
      cond_zero : (b : Bool) (n : ℕ) → n ≡ 0 → cond b n 0 ≡ 0
      cond_zero true n zeros = zeros
      cond_zero false n zeros = refl

-- the same mark again
pub put_again : (marks : List (List Bool)) (i p : ℕ) (mark : Bool) → page_at marks i p ≡ Some mark → put marks i p mark ≡ marks
put_again [] i p mark there = refl
put_again (xs ∷ marks) zero p mark there = let e = once xs p mark there in cc where
  once : (xs : List Bool) (p : ℕ) (mark : Bool) → slice_get xs p ≡ Some mark → slice_set xs p mark ≡ xs
  once [] p mark there = refl
  once (z ∷ xs) zero mark there = let e : z ≡ mark = cc in cc
  once (z ∷ xs) (suc p) mark there = let e = once xs p mark there in cc
put_again (xs ∷ marks) (suc i) p mark there = let e = put_again marks i p mark there in cc
