-- The pages on each frame in order, and what leads from one to the next.
use Rattle.std.specs.Prelude.{ℕ, ◌≡◌, ◌<◌, ◌≢◌, ◌⊎◌, List, [], Option, Some, None, length, map, get_or, slice_get}
use Rattle.std.specs.Global.{Vec as Items}
use Rattle.wh_space_model.specs.declared.states.Page.{Page}
use Rattle.wh_space_model.specs.States.{page_at}
use Rattle.wh_tables.specs.declared.page_id.PageId.{PageId}
use Rattle.wh_tables.specs.declared.order.Link.{Link}
use Rattle.wh_tables.specs.declared.order.Ends.{Ends}
use Rattle.wh_tables.specs.declared.order.PageOrder.TheInside.{Inside}
use Rattle.wh_space_model.specs.Charges.{IsOnFrame, stands_on}
use Rattle.wh_tables.specs.Line.{IsLineOf}
use Rattle.wh_tables.specs.PageLinks.{IsEarlierStop, IsStop, LeadsToNearest, Turned, stop_of}

-- the numbers of the instances by place, the links of each page of each, and of each frame the first and the last page
pub record Chains : Type 0 where
  pub numbers : List ℕ
  pub links : List (List Link)
  pub ends : List Ends

abbrev pub chains_of : Inside → Chains
chains_of a = record {
  numbers = a.numbers.items;
  links = map (λ (row : Items Link). row.items) a.links.items;
  ends = a.ends.items;
}

-- the line is that of the numbers
abbrev pub IsOrdered : Inside → Type 0
IsOrdered a = IsLineOf a.numbers.items a.line.items

-- One page comes before another: its instance has the lower number, or it is the lower page of the same instance. The
-- place stands between, so that any two are in order.
abbrev pub IsLower : ℕ → ℕ → Type 0 → Type 0
IsLower m n tie = (m < n) ⊎ ((m ≡ n) × tie)

abbrev pub ComesBefore : List ℕ → PageId → PageId → Type 0
ComesBefore numbers a b =
    IsLower (get_or numbers a.place 0) (get_or numbers b.place 0) (IsLower a.place b.place (a.page < b.page))

-- the page maps to frame f
abbrev pub StandsOn : List (List Page) → ℕ → PageId → Type 0
StandsOn pages f id = IsOnFrame pages id.place id.page f

-- it isn't resident
abbrev pub StandsNowhere : Page → Type 0
StandsNowhere page = (f : ℕ) → stands_on f page ≡ 0

-- where the links lead from a stop on frame f: from its start to the first or the last page
abbrev pub first_of_ends : Option Ends → Option PageId
first_of_ends None = None
first_of_ends (Some ends) = ends.first

abbrev pub last_of_ends : Option Ends → Option PageId
last_of_ends None = None
last_of_ends (Some ends) = ends.last

abbrev pub next_of_link : Option Link → Option PageId
next_of_link None = None
next_of_link (Some link) = link.next

abbrev pub prior_of_link : Option Link → Option PageId
prior_of_link None = None
prior_of_link (Some link) = link.prior

abbrev pub next_in : Chains → ℕ → Option PageId → Option PageId
next_in c f None = first_of_ends (slice_get c.ends f)
next_in c f (Some id) = next_of_link (page_at c.links id.place id.page)

abbrev pub prior_in : Chains → ℕ → Option PageId → Option PageId
prior_in c f None = last_of_ends (slice_get c.ends f)
prior_in c f (Some id) = prior_of_link (page_at c.links id.place id.page)

-- there are links at a stop on frame f
abbrev pub HasLinks : Chains → ℕ → Option PageId → Type 0
HasLinks c f None = f < length c.ends
HasLinks c f (Some id) = id.page < length (get_or c.links id.place [])

-- the links lead from each stop on each frame to the nearest page there that comes after it
abbrev pub AreLinked : (PageId → PageId → Type 0) → List (List Page) → (ℕ → Option PageId → Option PageId) → Type 0
AreLinked Before pages link =
    (f : ℕ) (at : Option PageId) → IsStop (StandsOn pages f) at
    → LeadsToNearest (IsStop (StandsOn pages f)) (IsEarlierStop Before) at (stop_of (link f at))

-- there are a number and links for the page, and ends of the frame
pub record IsInRange (c : Chains) (f : ℕ) (id : PageId) : Type 0 where
  pub place : id.place < length c.numbers
  pub frame : HasLinks c f None
  pub page : HasLinks c f (Some id)

pub record IsInOrder (c : Chains) (pages : List (List Page)) : Type 0 where
  pub room : (f : ℕ) (id : PageId) → StandsOn pages f id → IsInRange c f id
  pub next : AreLinked (ComesBefore c.numbers) pages (next_in c)
  pub prior : AreLinked (Turned (ComesBefore c.numbers)) pages (prior_in c)

-- Of the links one is another now: that from this stop on this frame.
abbrev pub IsElsewhere : ℕ → Option PageId → ℕ → Option PageId → Type 0
IsElsewhere f at g other = (other ≢ at) ⊎ ((other ≡ None) × (g ≢ f))

pub record IsRelinked (link link2 : ℕ → Option PageId → Option PageId) (f : ℕ) (at to : Option PageId) : Type 0 where
  pub here : link2 f at ≡ to
  pub others : (g : ℕ) (other : Option PageId) → IsElsewhere f at g other → link2 g other ≡ link g other

-- as many as before
pub record IsAsLarge (c c2 : Chains) : Type 0 where
  pub numbers : c2.numbers ≡ c.numbers
  pub ends : length c2.ends ≡ length c.ends
  pub places : length c2.links ≡ length c.links
  pub pages : (i : ℕ) → length (get_or c2.links i []) ≡ length (get_or c.links i [])

pub record HasNext (c : Chains) (f : ℕ) (at to : Option PageId) (c2 : Chains) : Type 0 where
  pub large : IsAsLarge c c2
  pub next : IsRelinked (next_in c) (next_in c2) f at to
  pub prior : (g : ℕ) (other : Option PageId) → prior_in c2 g other ≡ prior_in c g other

pub record HasPrior (c : Chains) (f : ℕ) (at to : Option PageId) (c2 : Chains) : Type 0 where
  pub large : IsAsLarge c c2
  pub prior : IsRelinked (prior_in c) (prior_in c2) f at to
  pub next : (g : ℕ) (other : Option PageId) → next_in c2 g other ≡ next_in c g other

-- on frame f, after this stop, there is place for a page that isn't there: the stop comes before it, and the next page doesn't
pub record ComesBehind (c : Chains) (pages : List (List Page)) (f : ℕ) (at : Option PageId) (id : PageId) : Type 0 where
  pub on : IsStop (StandsOn pages f) at
  pub before : IsEarlierStop (ComesBefore c.numbers) at (Some id)
  pub last : (z : PageId) → StandsOn pages f z → ComesBefore c.numbers z id → ¬ IsEarlierStop (ComesBefore c.numbers) at (Some z)
