use Rattle.std.proofs.Common.{sym, subst}
use Rattle.wh_model.specs.declared.memory.Need.{Need}
use Rattle.wh_host.specs.TicketsOut.{IsPresentCall}
use Rattle.wh_host.specs.Paging.{WaitsFor}
use Rattle.wh_host.proofs.Carrying.{present_there}
use Rattle.wh_host.proofs.Paged.{waits_there}
use Rattle.wh_host.proofs.Fields.{host_of}
use Rattle.wh_host.proofs.host.Host.waiting_call.Goals as goal

pub returns : goal.returns
returns c =
    let h = host_of c.self.inside in
    let x = c.in-Some.entry.now in
    let at = sym c.in-Some.ensures in
    let number = c.if-not-has_number.ensures in
    let inv = c.self.invariant in
    let some = waits_there h inv.0 c.args.id x inv.1 at number c.if-not-awaits_frame.ensures in
    let is = present_there h c.args.id x c.present_call.result at number c.present_call.ensures in
    subst (λ z. ((need : Need) × WaitsFor z c.args.id need) × IsPresentCall z c.args.id c.present_call.result) c.self.view_is (some, is)
