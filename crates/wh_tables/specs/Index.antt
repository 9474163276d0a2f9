-- The index of all frames: which pages map to each, in order; how many frames are charged to each instance; and how many touched
-- pages map to each frame.
use Rattle.std.specs.Prelude.{ℕ, ◌≡◌, ◌+◌, ◌<◌, ◌≤◌, ◌^◌, ◌==◌, cond, Bool, List, [], Option, Some, None, length, replicate, get_or}
use Rattle.wh_space_model.specs.Frames.{one_if}
use Rattle.wh_space_model.specs.declared.states.Page.{Page}
use Rattle.wh_space_model.specs.Places.{with_row}
use Rattle.wh_space_model.specs.States.{page_at, put}
use Rattle.wh_tables.specs.declared.page_id.PageId.{PageId}
use Rattle.wh_tables.specs.declared.index.Counts.{Counts}
use Rattle.wh_tables.specs.declared.index.Index.TheInside.{Inside}
use Rattle.wh_space_model.specs.Charges.{active_in, charge_in, charged_in, touchers_in}
use Rattle.wh_tables.specs.Order.{Chains, IsInOrder, StandsNowhere, StandsOn}

pub record Counted : Type 0 where
  pub chains : Chains
  pub counts : List Counts
  pub touchers : List ℕ

abbrev pub counted_of : Inside → Counted
counted_of a = record { chains = a.order; counts = a.counts.items; touchers = a.touchers.items }

-- the pages of all instances, and their marks
pub record Marked : Type 0 where
  pub pages : List (List Page)
  pub marks : List (List Bool)

-- the number of the instance at a place, and what is counted for it
abbrev pub number_in : List ℕ → ℕ → ℕ
number_in numbers i = get_or numbers i 0

abbrev pub counts_at : List Counts → ℕ → Counts
counts_at counts i = get_or counts i (record { charged = 0; active = 0 })

-- no two instances that have pages have one number
abbrev pub HaveOwnNumbers : List ℕ → List (List Page) → Type 0
HaveOwnNumbers numbers pages =
    (i j : ℕ) → 1 ≤ length (get_or pages i []) → 1 ≤ length (get_or pages j [])
    → number_in numbers i ≡ number_in numbers j → i ≡ j

-- 1 where the frame is charged to the instance and a touched page maps to it
abbrev pub activity_in : (ℕ → ℕ) → Marked → ℕ → ℕ → ℕ
activity_in number m i f = cond (touchers_in m.pages m.marks f == 0) 0 (charge_in number m.pages i f)

pub record HasCounts (x : Counted) (m : Marked) : Type 0 where
  pub charged : (i : ℕ)
      → (counts_at x.counts i).charged ≡ charged_in (number_in x.chains.numbers) m.pages (length x.chains.ends) i
  pub active : (i : ℕ)
      → (counts_at x.counts i).active ≡ active_in (number_in x.chains.numbers) m.pages m.marks (length x.chains.ends) i
  pub touchers : (f : ℕ) → f < length x.chains.ends → get_or x.touchers f 0 ≡ touchers_in m.pages m.marks f

pub record IsMeasured (x : Counted) (m : Marked) : Type 0 where
  pub places : length x.chains.numbers ≡ length m.pages
  pub counts : length x.counts ≡ length m.pages
  pub touchers : length x.touchers ≡ length x.chains.ends
  pub frames : length x.chains.ends < 2 ^ 32
  pub few : length m.pages ≤ 2 ^ 32
  pub small : (i : ℕ) → length (get_or m.pages i []) ≤ 65536

pub record IsIndexOf (x : Counted) (m : Marked) : Type 0 where
  pub order : IsInOrder x.chains m.pages
  pub apart : HaveOwnNumbers x.chains.numbers m.pages
  pub measured : IsMeasured x m
  pub counted : HasCounts x m

-- The same, but that frame f is counted for nobody.
pub record HasCountsBut (f : ℕ) (x : Counted) (m : Marked) : Type 0 where
  pub charged : (i : ℕ)
      → (counts_at x.counts i).charged + charge_in (number_in x.chains.numbers) m.pages i f
      ≡ charged_in (number_in x.chains.numbers) m.pages (length x.chains.ends) i
  pub active : (i : ℕ)
      → (counts_at x.counts i).active + activity_in (number_in x.chains.numbers) m i f
      ≡ active_in (number_in x.chains.numbers) m.pages m.marks (length x.chains.ends) i
  pub touchers : (g : ℕ) → g < length x.chains.ends → get_or x.touchers g 0 ≡ touchers_in m.pages m.marks g

pub record IsIndexBut (f : ℕ) (x : Counted) (m : Marked) : Type 0 where
  pub order : IsInOrder x.chains m.pages
  pub apart : HaveOwnNumbers x.chains.numbers m.pages
  pub measured : IsMeasured x m
  pub counted : HasCountsBut f x m

-- 1 for the place of the first page on a frame; what its frame counts there
abbrev pub one_first : Option PageId → ℕ → ℕ
one_first None i = 0
one_first (Some id) i = one_if i id.place

-- 1 where the page was touched
abbrev pub one_if_touched : Bool → ℕ
one_if_touched touched = cond touched 1 0

-- one frame more is counted, whose first page is this one, and of which a page was touched or none
pub record CountsOneMore (first : Option PageId) (touched : Bool) (counts counts2 : List Counts) : Type 0 where
  pub length : length counts2 ≡ length counts
  pub charged : (i : ℕ) → (counts_at counts2 i).charged ≡ (counts_at counts i).charged + one_first first i
  pub active : (i : ℕ) → (counts_at counts2 i).active ≡ (counts_at counts i).active + cond touched (one_first first i) 0

-- Page id maps to frame f, with this mark; or this page is there, on no frame.
pub record HoldsOn (x : Counted) (m : Marked) (f : ℕ) (id : PageId) (touched : Bool) : Type 0 where
  pub index : IsIndexOf x m
  pub on : StandsOn m.pages f id
  pub mark : page_at m.marks id.place id.page ≡ Some touched

pub record HoldsOff (x : Counted) (m : Marked) (id : PageId) (was : Page) (touched : Bool) : Type 0 where
  pub index : IsIndexOf x m
  pub there : page_at m.pages id.place id.page ≡ Some was
  pub nowhere : StandsNowhere was
  pub mark : page_at m.marks id.place id.page ≡ Some touched

-- the same with another page there, and with another mark
abbrev pub with_page : Marked → PageId → Page → Marked
with_page m id page = record m { pages = put m.pages id.place id.page page }

abbrev pub with_mark : Marked → PageId → Bool → Marked
with_mark m id touched = record m { marks = put m.marks id.place id.page touched }

-- an index of `frames` frames, with nobody there
abbrev pub empty_index : ℕ → Counted
empty_index frames = record {
  chains = record { numbers = []; links = []; ends = replicate frames (record { first = None; last = None }) };
  counts = [];
  touchers = replicate frames 0;
}

-- with an instance more, at a place, with links for `pages` pages
abbrev pub with_newcomer : Counted → ℕ → ℕ → ℕ → Counted
with_newcomer x place number pages = record x {
  chains = record x.chains {
    numbers = with_row x.chains.numbers place number;
    links = with_row x.chains.links place (replicate pages (record { next = None; prior = None }));
  };
  counts = with_row x.counts place (record { charged = 0; active = 0 });
}

abbrev pub without_active : Counts → Counts
without_active counts = record counts { active = 0 }
