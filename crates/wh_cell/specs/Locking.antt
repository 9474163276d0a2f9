-- What contracts see of what the lock lends, and what whoever gets the lock finds.
use Rattle.std.specs.Prelude.{◌≡◌, ℕ, List, Option, Some}
use Rattle.wh_space_model.specs.declared.plain.SwapError.{SwapError}
use Rattle.wh_host_model.specs.Host.Worlds.{World}
use Rattle.wh_host.specs.Hosting.{HostState, IsHost}
use Rattle.wh_host.specs.Showing.{RepresentsReached}
use Rattle.wh_cell.specs.Knowing.{AgreesWith, KnownState, NoneOut, known_of}
use Rattle.wh_cell.specs.LeftByOwner.{ComesFrom, FitsHost, LeftState}

-- how much was counted of each kind
pub record BooksState : Type 0 where
  pub turns : ℕ
  pub charges : ℕ
  pub offers : ℕ
  pub evictions : ℕ

-- the host, what it knows of its device, the books, and how the host's owner left it
pub record LockedState (D : Type 0) : Type 0 where
  pub host : HostState
  pub known : KnownState D
  pub books : BooksState
  pub left : LeftState D

-- host and device as an owner leaves them
abbrev pub now_of : {D : Type 0} → LockedState D → LeftState D
now_of l = record { host = l.host; device = l.known.device }

-- Events lead to the host, and reads of a swap device that gave other bytes, if there were any; where the device has
-- read right, events alone do. The charges in the books fit its journals. It agrees with its device as that was when its
-- last call was settled. And it came by work from the host that its owner left.
pub record IsInStep {D : Type 0} (held : D → List (List ℕ)) (keeps honest : D → Type 0) (faults : D → List SwapError)
    (l : LockedState D) : Type 0 where
  pub some : (w : World) × IsHost l.host w
  pub fits : FitsHost l.host l.books.charges
  pub device : D
  pub agrees : AgreesWith held l.host.space l.known device
  pub led : honest device → RepresentsReached l.host
  pub came : ComesFrom keeps honest faults l.left device l.host

-- what whoever has the lock of the device finds, who keeps it: it is as the host knows it, and no ticket is out
pub record IsKept {D B : Type 0} (device : D) (buf : Option B) (keeper : KnownState D) : Type 0 where
  pub knows : keeper ≡ known_of (record { device = device; out = keeper.out })
  pub none : NoneOut keeper.out
  pub page : B
  pub has : buf ≡ Some page
