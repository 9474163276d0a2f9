-- A host as its owner left it, and what has become of it since.
use Rattle.std.specs.Prelude.{◌≡◌, ℕ, List, [], Option, Some, None, refl}
use native.Mathlib.Nat.{le_refl}
use Rattle.std.proofs.lemmas.Bool.{leb-true}
use Rattle.wh_space_model.specs.declared.plain.SwapError.{SwapError}
use Rattle.wh_space_model.specs.Parts.{empty_space}
use Rattle.wh_host_model.specs.Host.Worlds.{World}
use Rattle.wh_swap.specs.DeviceCalls.{ServesOn}
use Rattle.wh_reclaim.specs.Whole.{IsAsWhole}
use Rattle.wh_host.specs.HostCounting.{no_counts}
use Rattle.wh_host.specs.Hosting.{HostState, IsHost}
use Rattle.wh_cell.specs.Charging.{charged, FitsBook, HasTaken}
use Rattle.wh_cell.specs.Going.{WorksTo, WorksAnyhowTo}

-- ---- the book

-- whatever host it represents, the charges in the book fit
abbrev pub FitsHost : HostState → ℕ → Type 0
FitsHost h total = (w : World) → IsHost h w → FitsBook w total

-- no call of it took a charge yet
abbrev pub HasNoCharge : HostState → Type 0
HasNoCharge h = (w : World) × IsHost h w × (charged w ≡ 0)

-- between whatever hosts they represent, `taken` charges were taken
abbrev pub HasTakenOn : HostState → ℕ → HostState → Type 0
HasTakenOn h taken h2 = (w w2 : World) → IsHost h w → IsHost h2 w2 → HasTaken w taken w2

-- ---- the owner

-- for whatever host the one stands, work leads to one for which the other does
abbrev pub WorksOn : HostState → List SwapError → HostState → Type 0
WorksOn h faults h2 = (w : World) → IsHost h w → (w2 : World) × WorksTo w faults w2 × IsHost h2 w2

abbrev pub WorksAnyhowOn : HostState → HostState → Type 0
WorksAnyhowOn h h2 = (w : World) → IsHost h w → (w2 : World) × WorksAnyhowTo w w2 × IsHost h2 w2

-- how an owner left a host, and its device then
pub record LeftState (D : Type 0) : Type 0 where
  pub host : HostState
  pub device : Option D

abbrev pub left_as : {D : Type 0} → HostState → D → LeftState D
left_as h device = record { host = h; device = Some device }

-- The host came from the one that its owner left, by work alone. Where the device has read right, that was events,
-- in which its calls failed as it says. There are as many frames and slots as before.
pub record ComesFrom {D : Type 0} (keeps honest : D → Type 0) (faults : D → List SwapError) (left : LeftState D)
    (device : D) (h : HostState) : Type 0 where
  pub before : D
  pub left_it : left.device ≡ Some before
  pub more : List SwapError
  pub serves : ServesOn keeps honest faults before more device
  pub right : honest device → WorksOn left.host more h
  pub anyhow : WorksAnyhowOn left.host h
  pub whole : IsAsWhole left.host.space h.space

-- a host that nobody left
abbrev pub no_host : {D : Type 0} → LeftState D
no_host = record {
  host = record {
    modules = [];
    module_refs = [];
    entries = [];
    live = 0;
    space = empty_space 0 0 (record { num = 0; den = 1; below_one = le_refl 1; den_within = leb-true 1 1000 refl });
    next = 0;
    next_module = 0;
    counts = no_counts;
  };
  device = None;
}
