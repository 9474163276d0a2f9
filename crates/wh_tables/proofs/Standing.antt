-- On which frame a page stands: on one at most, and what one page that is another one now changes of that.
use Rattle.std.proofs.Common.{◌≡◌, ◌≢◌, ℕ, inl, inr, List, Some, ap, arith, rules}
use Rattle.wh_space_model.specs.{one_if, at, page_at, put, stands_on}
use Rattle.wh_space_model.proofs.Tally.{one_other}
use Rattle.wh_space_model.specs.declared.states.Page.{Page}
use Rattle.wh_space_model.specs.declared.states.Page.TheVariants.{Untouched, Private, Shared, Leaving, LeavingShared, Coming, Swapped}
use Rattle.wh_space_model.proofs.Putting.{here_or, put_this}
use Rattle.wh_tables.specs.declared.page_id.PageId.{PageId}
use Rattle.wh_tables.specs.Order.{StandsOn}
use Rattle.wh_tables.proofs.Relinking.{put_elsewhere}

one_is : (f g : ℕ) → one_if f g ≡ 1 → f ≡ g
one_is f g is = elim (here_or g f) [ inl same ↦ same | inr other ↦ absurd (let o = one_other f g other in omega arith) ]

-- a page stands on one frame alone
pub one_frame : (f g : ℕ) (page : Page) → stands_on f page ≡ 1 → stands_on g page ≡ 1 → f ≡ g
one_frame f g Untouched here there = absurd (omega arith)
one_frame f g (Private h) here there = let a = one_is f h (omega arith) in let b = one_is g h (omega arith) in omega arith
one_frame f g (Shared h) here there = let a = one_is f h (omega arith) in let b = one_is g h (omega arith) in omega arith
one_frame f g (Leaving h) here there = let a = one_is f h (omega arith) in let b = one_is g h (omega arith) in omega arith
one_frame f g (LeavingShared h) here there = let a = one_is f h (omega arith) in let b = one_is g h (omega arith) in omega arith
one_frame f g (Coming k) here there = absurd (omega arith)
one_frame f g (Swapped k) here there = absurd (omega arith)

-- the page that stands there
pub page_of_standing : (pages : List (List Page)) (f : ℕ) (id : PageId) → StandsOn pages f id → (page : Page) × (page_at pages id.place id.page ≡ Some page) × (stands_on f page ≡ 1)
page_of_standing pages f id on = search rules

pub one_frame_of : (pages : List (List Page)) (f g : ℕ) (id : PageId) → StandsOn pages f id → StandsOn pages g id → f ≡ g
one_frame_of pages f g id here there = search rules

-- where one page was put, each other stands where it stood
pub others_stand : (pages : List (List Page)) (k : PageId) (y : Page) (g : ℕ) (z : PageId) → z ≢ k → at (stands_on g) (page_at (put pages k.place k.page y) z.place z.page) ≡ at (stands_on g) (page_at pages z.place z.page)
others_stand pages k y g z other = ap (at (stands_on g)) (put_elsewhere pages k z y other)

-- and the one that was put stands where its new page does
pub put_stands : (pages : List (List Page)) (k : PageId) (x y : Page) (g : ℕ) → page_at pages k.place k.page ≡ Some x → at (stands_on g) (page_at (put pages k.place k.page y) k.place k.page) ≡ stands_on g y
put_stands pages k x y g there = ap (at (stands_on g)) (put_this pages k.place k.page x y there)
