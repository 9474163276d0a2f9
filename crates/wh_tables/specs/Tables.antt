-- The page tables of all instances, by place.
use Rattle.std.specs.Prelude.{ℕ, ◌≡◌, ◌≢◌, ◌≤◌, Bool, true, false, List, [], Some, length, map, replicate, get_or}
use Rattle.wh_space_model.specs.States.{page_at, resident}
use Rattle.wh_space_model.specs.declared.states.Page.{Page}
use Rattle.wh_space_model.specs.declared.states.Page.TheVariants.{Untouched}
use Rattle.wh_pages.specs.Table.{PageTableState}
use Rattle.wh_tables.specs.declared.tables.Tables.TheInside.{Inside}
use Rattle.wh_tables.specs.Index.{Counted, IsIndexOf, Marked}

-- the pages of each instance, which of them were touched in this epoch, and how many it may have; its number; and how many
-- frames there are
pub record TablesState : Type 0 where
  pub pages : List (List Page)
  pub marks : List (List Bool)
  pub limits : List ℕ
  pub numbers : List ℕ
  pub frames : ℕ

abbrev pub pages_by_place : List PageTableState → List (List Page)
pages_by_place tables = map (λ table. table.pages) tables

abbrev pub marks_by_place : List PageTableState → List (List Bool)
marks_by_place tables = map (λ table. table.touched) tables

abbrev pub limits_by_place : List PageTableState → List ℕ
limits_by_place tables = map (λ table. table.max) tables

abbrev pub marked_of : List PageTableState → Marked
marked_of tables = record { pages = pages_by_place tables; marks = marks_by_place tables }

abbrev pub tables_with : List PageTableState → Counted → TablesState
tables_with tables x = record {
  pages = pages_by_place tables;
  marks = marks_by_place tables;
  limits = limits_by_place tables;
  numbers = x.chains.numbers;
  frames = length x.chains.ends;
}

abbrev pub tables_of : Inside → TablesState
tables_of a = tables_with a.tables.items a.index

-- no page is marked
abbrev pub without_marks : List (List Bool) → List (List Bool)
without_marks marks = map (map (λ mark. false)) marks

abbrev pub without_touched : PageTableState → PageTableState
without_touched table = record table { touched = replicate (length table.pages) false }

-- a table of `pages` untouched pages, of as many as there may be
abbrev pub new_table : ℕ → ℕ → PageTableState
new_table pages max = record { pages = replicate pages Untouched; touched = replicate pages false; max = max }

-- The index is that of the tables, and has links for all pages that there may be.
pub record AreIndexed (tables : List PageTableState) (x : Counted) : Type 0 where
  pub index : IsIndexOf x (marked_of tables)
  pub places : length x.chains.links ≡ length tables
  pub links : (i : ℕ) → get_or (limits_by_place tables) i 0 ≤ length (get_or x.chains.links i [])
  pub small : (i : ℕ) → get_or (limits_by_place tables) i 0 ≤ 65536
  pub rows : (i : ℕ) → length (get_or (pages_by_place tables) i []) ≤ get_or (limits_by_place tables) i 0
  pub marks : (i : ℕ) → length (get_or (marks_by_place tables) i []) ≡ length (get_or (pages_by_place tables) i [])

abbrev pub IsTables : Inside → Type 0
IsTables a = AreIndexed a.tables.items a.index

-- Page p of the instance at place i is resident; if idle ones alone are looked for, it wasn't touched in this epoch.
pub record IsSoughtAt (pages : List (List Page)) (marks : List (List Bool)) (i : ℕ) (idle : Bool) (p : ℕ) : Type 0 where
  pub page : Page
  pub there : page_at pages i p ≡ Some page
  pub stands : resident page ≡ 1
  pub untouched : idle ≡ true → page_at marks i p ≢ Some true
