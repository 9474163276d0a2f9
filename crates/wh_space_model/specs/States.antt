-- The states of pages, and the bytes that stand in them.
use Rattle.std.specs.Prelude.{ℕ, ◌++◌, List, [], ◌∷◌, Option, Some, None, map, get_or, slice_get, slice_set}
use Rattle.wh_space_model.specs.Pages.{zero_page}
use Rattle.wh_space_model.specs.Frames.{tally, one_if}
use Rattle.wh_space_model.specs.declared.states.Page.{Page}
use Rattle.wh_space_model.specs.declared.states.Page.TheVariants.{Untouched, Private, Shared, Leaving, LeavingShared, Coming, Swapped}

-- where bytes lie: in frames, and in the slots of the swap device, which hold what was last written to them
pub record Backing : Type 0 where
  pub frames : List (List ℕ)
  pub held : List (List ℕ)

-- the bytes of a page
abbrev pub page_bytes : Backing → Page → List ℕ
page_bytes backing Untouched = zero_page
page_bytes backing (Private f) = get_or backing.frames f []
page_bytes backing (Shared f) = get_or backing.frames f []
page_bytes backing (Leaving f) = get_or backing.frames f []
page_bytes backing (LeavingShared f) = get_or backing.frames f []
page_bytes backing (Coming k) = get_or backing.held k []
page_bytes backing (Swapped k) = get_or backing.held k []

-- the bytes of each page of each instance
abbrev pub contents : Backing → List (List Page) → List (List (List ℕ))
contents backing tables = map (map (page_bytes backing)) tables

abbrev pub joined : List (List ℕ) → List ℕ
joined [] = []
joined (x ∷ xs) = x ++ joined xs

-- page p of the instance at a place, and the tables with another page there
abbrev pub page_at : {X : Type 0} → List (List X) → ℕ → ℕ → Option X
page_at tables i p = slice_get (get_or tables i []) p

abbrev pub put : {X : Type 0} → List (List X) → ℕ → ℕ → X → List (List X)
put tables i p x = slice_set tables i (slice_set (get_or tables i []) p x)

-- 1 where the page is of this kind, else 0; a sum over the tables (tally) then counts the pages of the kind
-- ... it owns frame f
abbrev pub owns : ℕ → Page → ℕ
owns f Untouched = 0
owns f (Private g) = one_if f g
owns f (Shared g) = 0
owns f (Leaving g) = one_if f g
owns f (LeavingShared g) = 0
owns f (Coming k) = 0
owns f (Swapped k) = 0

-- ... it shares frame f
abbrev pub shares : ℕ → Page → ℕ
shares f Untouched = 0
shares f (Private g) = 0
shares f (Shared g) = one_if f g
shares f (Leaving g) = 0
shares f (LeavingShared g) = one_if f g
shares f (Coming k) = 0
shares f (Swapped k) = 0

-- ... it is in slot k
abbrev pub lies_in : ℕ → Page → ℕ
lies_in k Untouched = 0
lies_in k (Private g) = 0
lies_in k (Shared g) = 0
lies_in k (Leaving g) = 0
lies_in k (LeavingShared g) = 0
lies_in k (Coming j) = 0
lies_in k (Swapped j) = one_if k j

-- ... it comes from slot k
abbrev pub comes_from : ℕ → Page → ℕ
comes_from k Untouched = 0
comes_from k (Private g) = 0
comes_from k (Shared g) = 0
comes_from k (Leaving g) = 0
comes_from k (LeavingShared g) = 0
comes_from k (Coming j) = one_if k j
comes_from k (Swapped j) = 0

-- ... it is resident: it maps to a frame
abbrev pub resident : Page → ℕ
resident Untouched = 0
resident (Private f) = 1
resident (Shared f) = 1
resident (Leaving f) = 1
resident (LeavingShared f) = 1
resident (Coming k) = 0
resident (Swapped k) = 0

-- ... it is swapped
abbrev pub swapped : Page → ℕ
swapped Untouched = 0
swapped (Private f) = 0
swapped (Shared f) = 0
swapped (Leaving f) = 0
swapped (LeavingShared f) = 0
swapped (Coming k) = 0
swapped (Swapped k) = 1

-- ... it is untouched
abbrev pub untouched : Page → ℕ
untouched Untouched = 1
untouched (Private f) = 0
untouched (Shared f) = 0
untouched (Leaving f) = 0
untouched (LeavingShared f) = 0
untouched (Coming k) = 0
untouched (Swapped k) = 0

-- ... it is leaving
abbrev pub leaving : Page → ℕ
leaving Untouched = 0
leaving (Private f) = 0
leaving (Shared f) = 0
leaving (Leaving f) = 1
leaving (LeavingShared f) = 1
leaving (Coming k) = 0
leaving (Swapped k) = 0

-- how many pages of all instances are of the kind; how many of the instance at a place
abbrev pub count : (Page → ℕ) → List (List Page) → ℕ
count kind tables = tally (tally kind) tables

abbrev pub count_of : (Page → ℕ) → List (List Page) → ℕ → ℕ
count_of kind tables i = tally kind (get_or tables i [])

-- 1 where there is such a page there
abbrev pub at : (Page → ℕ) → Option Page → ℕ
at kind None = 0
at kind (Some x) = kind x
