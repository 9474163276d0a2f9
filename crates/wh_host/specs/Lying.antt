-- An instance as it is in the memory of all.
use Rattle.std.specs.Prelude.{◌≡◌, ℕ, ◌≤◌, Some}
use Rattle.wh_space_model.specs.Parts.{Claimed, Space, claim, view}
use Rattle.wh_host_model.specs.Host.Worlds.{Tenant}
use Rattle.wh_imports.specs.LinkedState.{LinkedState}
use Rattle.wh_instance.specs.Tenancy.{HostInstanceState, IsTenant}
use Rattle.wh_space.specs.Steps.{page_limit}

-- It has this place, and its memory is what is seen there, which may grow to `limit` pages: no more than it was promised.
pub record LiesAt (l : LinkedState) (limit : ℕ) (x : HostInstanceState) (s : Space) (place : ℕ) (t : Tenant) : Type 0 where
  pub place_is : t.place ≡ place
  pub is : IsTenant l limit x (view s place) t
  pub within : limit ≤ page_limit s place
  pub claimed : Claimed
  pub claim_is : claim s place ≡ Some claimed
