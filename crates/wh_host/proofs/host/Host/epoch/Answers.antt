use Rattle.std.proofs.Common.{sym, subst}
use Rattle.wh_host.specs.Hosting.{IsHost}
use Rattle.wh_host.proofs.Requests.{epoch_here}
use Rattle.wh_host.proofs.Fields.{host_of}
use Rattle.wh_host.proofs.host.Host.epoch.Goals as goal

pub invariant_of-self : goal.invariant_of-self
invariant_of-self c =
    let inv = c.self.invariant in
    let made = epoch_here (host_of c.self.inside) inv.0 c.new_epoch.new.self inv.1 c.new_epoch.ensures in
    (made.0, made.2)

pub returns-clause-moves : goal.returns-clause-moves
returns-clause-moves c w st =
    epoch_here (host_of c.self.inside) w c.new_epoch.new.self (subst (λ z. IsHost z w) (sym c.self.view_is) st) c.new_epoch.ensures
