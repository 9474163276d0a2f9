use Rattle.std.proofs.Common.{subst}
use Rattle.wh_host_model.specs.Host.{World}
use Rattle.wh_host.specs.Hosting.{HostState, IsHost}
use Rattle.wh_host.proofs.host.Host.invariant.Goals as goal

pub returns : goal.returns
returns c = subst (λ (h : HostState). (w : World) × IsHost h w) c.self.view_is c.self.invariant
