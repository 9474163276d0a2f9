-- A pass of the scanner over all pages of a host.
use Rattle.std.specs.Prelude.{◌≡◌, ℕ, ◌+◌, Option, List, length, IfNone, IfSome, IsSome}
use Rattle.wh_space_model.specs.Scanning.{IsDistinct}
use Rattle.wh_scan.specs.Pass.{HasSoManyPages, MayPass, PassesOverAll, ScansAll}
use Rattle.wh_host.specs.Backing.{KeepsBacking}
use Rattle.wh_host.specs.Hosting.{HostState}
use Rattle.wh_host.specs.Paging.{MovesOnly}
use Rattle.wh_host.specs.Sharing.{CanScan}
use Rattle.wh_cell.specs.Counted.{CountsOn}
use Rattle.wh_cell.specs.Locking.{LockedState}

-- How many pages were offered, if it was done: it is where it can be, and else nothing has changed. Each page was offered
-- under the hash of its bytes, those of instances with lower numbers first. Where the pass may begin, it is a full one:
-- afterwards as many frames are in use as there are distinct contents that aren't all zero.
pub record IsScanned (hashes : List ℕ → ℕ) (h : HostState) (offered : Option ℕ) (h2 : HostState) : Type 0 where
  pub done : CanScan h.space → IsSome offered
  pub none : IfNone offered (h2 ≡ h)
  pub offers : IfSome offered (λ n. HasSoManyPages h.space n)
  pub scans : IfSome offered (λ _. ScansAll hashes h.space h2.space)
  pub full : IfSome offered (λ _. MayPass hashes h.space → PassesOverAll hashes h.space h2.space)
  pub counts : IfSome offered (λ _. MayPass hashes h.space → (all : List (List ℕ)) → IsDistinct h2.space all
      → length all + length h2.space.pool.free ≡ length h2.space.pool.frames)

-- Of the host under the lock all pages were offered. A scanner that had counted `count` offers counts these, and so does the
-- book; nothing else has changed.
pub record ScansLocked {D : Type 0} (hashes : List ℕ → ℕ) (l : LockedState D) (count : ℕ) (offered : Option ℕ)
    (l2 : LockedState D) (count2 : ℕ) : Type 0 where
  pub moves : MovesOnly l.host l2.host
  pub scans : IsScanned hashes l.host offered l2.host
  pub backing : KeepsBacking l.host.space l2.host.space
  pub counted : CountsOn offered count l.books.offers count2 l2.books.offers
  pub books : l2.books ≡ record l.books { offers = l2.books.offers }
  pub known : l2.known ≡ l.known
  pub left : l2.left ≡ l.left
