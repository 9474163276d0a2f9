-- What the parts of a page table represent.
use Rattle.std.specs.Prelude.{ℕ, ◌≡◌, ◌≤◌, length, map, take}
use Rattle.wh_space_model.specs.Frames.{tally}
use Rattle.wh_space_model.specs.States.{swapped}
use Rattle.wh_space_model.specs.declared.states.Page.{Page}
use Rattle.wh_space_model.specs.declared.states.Page.TheVariants.{Untouched, Private, Shared, Leaving, LeavingShared, Coming, Swapped}
use Rattle.wh_pages.specs.declared.entry.EntryKind.{EntryKind}
use Rattle.wh_pages.specs.declared.entry.EntryKind.TheVariants as kind
use Rattle.wh_pages.specs.declared.entry.PageEntry.{PageEntry}
use Rattle.wh_pages.specs.declared.table.PageTable.TheInside.{Inside}
use Rattle.wh_pages.specs.Table.{PageTableState}

-- the page of this kind, on this frame or in this slot
abbrev pub page_in : EntryKind → ℕ → Page
page_in kind.Untouched n = Untouched
page_in kind.Private n = Private n
page_in kind.Shared n = Shared n
page_in kind.Leaving n = Leaving n
page_in kind.LeavingShared n = LeavingShared n
page_in kind.Coming n = Coming n
page_in kind.Swapped n = Swapped n

-- the page of an entry
abbrev pub page_of : PageEntry → Page
page_of entry = page_in entry.kind entry.number

-- the first entries are those of the pages
abbrev pub page_table_of : Inside → PageTableState
page_table_of a = record {
  pages = map page_of (take a.len a.rows);
  touched = map (λ entry. entry.touched) (take a.len a.rows);
  max = a.max;
}

-- there is an entry for each page that there may be, and the swapped ones are counted
pub record HasRows (a : Inside) : Type 0 where
  pub within : a.len ≤ a.max
  pub room : a.max ≤ length a.rows
  pub most : a.max ≤ 65536
  pub swapped : a.swapped ≡ tally swapped (map page_of (take a.len a.rows))
