-- The charges that the calls of a host took.
use Rattle.std.specs.Prelude.{ℕ, List, sum_by, Option, Some, None}
use Rattle.wh_host_model.specs.Host.Worlds.{Tenant, World, journal}
use Rattle.wh_host_model.specs.Owners.{Entry}

-- of the calls of a journal
abbrev pub charges_of_calls : List Entry → ℕ
charges_of_calls es = sum_by (λ e. e.call.charges) es

-- of an instance, if it is live
abbrev pub charges_of_one : Option Tenant → ℕ
charges_of_one None = 0
charges_of_one (Some t) = charges_of_calls (journal t)

-- of all live ones
abbrev pub charges_of_all : World → ℕ
charges_of_all w = sum_by charges_of_one w.tenants
