-- What contracts see of a hand, and what always holds of it.
use Rattle.std.specs.Prelude.{◌≡◌, ◌≤◌, ℕ, List}
use Rattle.wh_space_model.specs.declared.plain.InstId.{InstId}
use Rattle.wh_host_model.specs.Owners.{most_instances}
use Rattle.wh_space_model.specs.Errands.{tickets}
use Rattle.wh_reclaim.specs.Together.{AreTogether}
use Rattle.wh_host.specs.Hosting.{HostState}
use Rattle.wh_host.specs.Showing.{RepresentsReached}
use Rattle.wh_hand.specs.Lining.{Lists}

-- the host, and what the instance had put out that was released last
pub record HandState : Type 0 where
  pub host : HostState
  pub output : List ℕ

-- Events alone lead to the host; no page of it is on its way to swap or back; and no more instances are there than a host
-- takes.
pub record IsSoundByEvents (h : HostState) : Type 0 where
  pub led : RepresentsReached h
  pub none_out : tickets h.space ≡ 0
  pub few : h.live ≤ most_instances

-- ---- within the crate

-- It is so, the slots hold what the device has in each, and in the line stand just those that can go on, each once. There
-- is room for all in it.
pub record IsInOneHand (h : HostState) (held : List (List ℕ)) (line : List InstId) (room : ℕ) : Type 0 where
  pub led : RepresentsReached h
  pub together : AreTogether h.space held
  pub lists : Lists h line
  pub few : h.live ≤ most_instances
  pub enough : most_instances ≤ room
