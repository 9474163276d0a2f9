-- A host between two runs of its calls, with its owner.
use Rattle.std.specs.Prelude.{◌≡◌, ◌⊎◌, ℕ, ◌+◌, ◌-◌, List, Option, Some, None, slice_get, false, true}
use Rattle.wh_space_model.specs.declared.plain.InstId.{InstId}
use Rattle.wh_host_model.specs.Host.Worlds.{World}
use Rattle.wh_reclaim.specs.Together.{AreTogether}
use Rattle.wh_host.specs.Hosting.{HostState, IsHost}
use Rattle.wh_host.specs.Paging.{IsAwaiting, IsGoing, Tells}
use Rattle.wh_host.specs.Sharing.{CanOffer}
use Rattle.wh_host.specs.Showing.{RepresentsReached}
use Rattle.wh_threads.specs.Counting.{SharesState, all_charges, all_evictions, all_offers, all_turns}
use Rattle.wh_threads.specs.declared.own_count.OwnCount.{OwnCount}
use Rattle.wh_cell.specs.Knowing.{BackingState, known_of}
use Rattle.wh_cell.specs.LeftByOwner.{FitsHost, LeftState, left_as}
use Rattle.wh_cell.specs.Locking.{BooksState, LockedState}

-- what contracts see of it: the host, its device, how much was counted of each kind, and how much of that by the owner
pub record OwnedState (D : Type 0) : Type 0 where
  pub host : HostState
  pub device : Option D
  pub books : BooksState
  pub own : OwnCount

-- as its owner left it
abbrev pub left_of : {D : Type 0} → OwnedState D → LeftState D
left_of o = record { host = o.host; device = o.device }

abbrev pub books_in : {D : Type 0} → Option (LockedState D) → BooksState
books_in (Some l) = l.books
books_in None = record { turns = 0; charges = 0; offers = 0; evictions = 0 }

abbrev pub owned_of : {D : Type 0} → Option (LockedState D) → LeftState D → SharesState → OwnedState D
owned_of locked owner shares = record {
  host = owner.host;
  device = owner.device;
  books = books_in locked;
  own = shares.owner;
}

-- the books are the sums of the counts of all threads and of the owner, by kind
pub record AreSums (books : BooksState) (s : SharesState) : Type 0 where
  pub turns : books.turns ≡ all_turns s
  pub charges : books.charges ≡ all_charges s
  pub offers : books.offers ≡ all_offers s
  pub evictions : books.evictions ≡ all_evictions s

-- how many pages scanners have offered: those that the owner didn't
abbrev pub by_scanners : BooksState → OwnCount → ℕ
by_scanners books own = books.offers - own.offers

-- its owner has both in hand, and knows them as they are; they agree with each other, and the books with the counts
pub record IsInHand {D : Type 0} (locked : Option (LockedState D)) (backing : Option (BackingState D))
    (owner : LeftState D) (shares : SharesState) : Type 0 where
  pub inside : LockedState D
  pub has : locked ≡ Some inside
  pub behind : BackingState D
  pub has_behind : backing ≡ Some behind
  pub agree : inside.known ≡ known_of behind
  pub knows : owner ≡ left_as inside.host behind.device
  pub sums : AreSums inside.books shares

-- Events lead to the host, and reads of a swap device that gave other bytes, if there were any; where the device has
-- read right, events alone do. No ticket is out, and the device agrees with the slots. The charges in the books fit the
-- journals.
pub record IsSoundInHand {D : Type 0} (held : D → List (List ℕ)) (honest : D → Type 0) (o : OwnedState D) : Type 0 where
  pub some : (w : World) × IsHost o.host w
  pub device : D
  pub has : o.device ≡ Some device
  pub led : honest device → RepresentsReached o.host
  pub together : AreTogether o.host.space (held device)
  pub fits : FitsHost o.host o.books.charges

-- ---- turns that the owner runs itself

-- The owner ran `turns` more turns, and they took some charges: its own count has them, and so do the books, and nothing else was
-- counted. So no worker's count has changed.
pub record RunsHere (books : BooksState) (own : OwnCount) (turns : ℕ) (books2 : BooksState) (own2 : OwnCount) : Type 0 where
  pub taken : ℕ
  pub books_are : books2 ≡ record books { turns = books.turns + turns; charges = books.charges + taken }
  pub own_is : own2 ≡ record own { turns = own.turns + turns; charges = own.charges + taken }

-- with that many turns, charges, offers and evictions more
abbrev pub books_with : BooksState → (turns taken offers gone : ℕ) → BooksState
books_with b turns taken offers gone = record {
  turns = b.turns + turns;
  charges = b.charges + taken;
  offers = b.offers + offers;
  evictions = b.evictions + gone;
}

abbrev pub own_with : OwnCount → (turns taken offers gone : ℕ) → OwnCount
own_with o turns taken offers gone = record {
  turns = o.turns + turns;
  charges = o.charges + taken;
  offers = o.offers + offers;
  evictions = o.evictions + gone;
}

-- The owner did this itself: it ran `turns` more turns, which took some charges, it offered `offers` pages, and evicted some. Its
-- own count has all of that, and so do the books, and nothing else was counted. So no thread's count has changed.
pub record WorksHere (books : BooksState) (own : OwnCount) (turns offers : ℕ) (books2 : BooksState) (own2 : OwnCount) : Type 0 where
  pub taken : ℕ
  pub gone : ℕ
  pub books_are : books2 ≡ books_with books turns taken offers gone
  pub own_is : own2 ≡ own_with own turns taken offers gone

-- pages of each of these instances can be offered
abbrev pub EachCanOffer : HostState → List InstId → Type 0
EachCanOffer h ids = (i : ℕ) (id : InstId) → slice_get ids i ≡ Some id → CanOffer h.space id.place

-- no call of this instance can go on, or it waits for a frame
abbrev pub RestsOrWaits : HostState → InstId → Type 0
RestsOrWaits h id = Tells h false (λ w. IsGoing w id) ⊎ Tells h true (λ w. IsAwaiting w id)

-- each of these instances is so in the host
abbrev pub EachIs : (HostState → InstId → Type 0) → HostState → List InstId → Type 0
EachIs P h ids = (i : ℕ) (id : InstId) → slice_get ids i ≡ Some id → P h id

-- no call of it can go on
abbrev pub Rests : HostState → InstId → Type 0
Rests h id = Tells h false (λ w. IsGoing w id)
