-- The charges that the calls of a host took, and the book in which they are counted.
use Rattle.std.specs.Prelude.{◌≡◌, ◌+◌, ◌≤◌, ℕ, List, length, sum_by, Option, Some, None}
use Rattle.wh_host_model.specs.Host.Worlds.{Tenant, World, own_calls}
use Rattle.wh_host_model.specs.Owners.{Entry}
use Rattle.wh_host_model.specs.Host.Admission.{live_count}

-- of the calls of a journal
abbrev pub charges_in : List Entry → ℕ
charges_in es = sum_by (λ e. e.call.charges) es

-- of an instance, if it is live: no worker took those of the calls that were copied with it
abbrev pub charges_by : Option Tenant → ℕ
charges_by None = 0
charges_by (Some t) = charges_in (own_calls t)

-- of all live ones
abbrev pub charged : World → ℕ
charged w = sum_by charges_by w.tenants

-- the charges in the book are at least those of the live instances, and just those where none was released
pub record FitsBook (w : World) (total : ℕ) : Type 0 where
  pub least : charged w ≤ total
  pub whole : live_count w.tenants ≡ length w.tenants → charged w ≡ total

-- as many instances are there, of as many admitted, and their calls took `taken` charges more
pub record HasTaken (w : World) (taken : ℕ) (w2 : World) : Type 0 where
  pub charges : charged w2 ≡ charged w + taken
  pub live : live_count w2.tenants ≡ live_count w.tenants
  pub admitted : length w2.tenants ≡ length w.tenants
