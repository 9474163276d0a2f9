-- Pages that move in a run, and nothing else.
use Rattle.std.specs.Prelude.{◌≡◌}
use Rattle.wh_host.specs.Backing.{KeepsBacking}
use Rattle.wh_host.specs.Hosting.{HostState}
use Rattle.wh_hand.specs.Lining.{KeepsGoing}
use Rattle.wh_hand.specs.RunParts.{RunsPart}

-- a run without charges, after which the same can go on; no ticket comes or goes, and slots hold what they held
pub record IsMoved (h h2 : HostState) : Type 0 where
  pub runs : RunsPart h 0 0 h2
  pub goes : KeepsGoing h h2
  pub live : h2.live ≡ h.live
  pub backing : KeepsBacking h.space h2.space
