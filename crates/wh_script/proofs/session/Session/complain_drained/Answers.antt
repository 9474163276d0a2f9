use Rattle.std.proofs.Common.{subst, sym, string_bytes}
use Rattle.wh_script.specs.Causes.{cause_number}
use Rattle.wh_script_model.specs.{error}
use Rattle.wh_engine.proofs.Printings.{on_ok_then}
use Rattle.wh_engine.specs.Draining.{DeviceHoldsAmid}
use Rattle.wh_script.specs.Answering.{Complains, HasDrained}
use Rattle.wh_script.proofs.Devices.{holds_map}
use Rattle.wh_script.proofs.Drained.{complains}
use Rattle.wh_script.proofs.session.Session.complain_drained.Goals as goal

pub returns-clause-complains : goal.returns-clause-complains
returns-clause-complains g c =
    let e = c.args.self.now.script_host in
    let drained = c.drain.new.self in
    let text = string_bytes c.args.self.now.text in
    let text2 = string_bytes c.complain.new.self.text in
    let reply = error (cause_number c.args.cause) c.args.number in
    on_ok_then c.complain.result c.complain.ensures.printed (λ printed.
    let complained = Complains reply e text c.complain.new.self.script_host text2 in
    subst (λ o. DeviceHoldsAmid g.D.SwapDev.honest g.D.SwapDev.faults e.host.device o complained) (sym c.complain.ensures.device)
    (holds_map g.D.SwapDev.keeps g.D.SwapDev.honest g.D.SwapDev.faults e.host.device drained.script_host.host.device (HasDrained e text drained.script_host (string_bytes drained.text)) complained
    (λ met has_drained.
    subst (λ e2. Complains reply e text e2 text2 met) (sym c.complain.ensures.script_host)
    (complains e drained.script_host text (string_bytes drained.text) text2 reply met has_drained printed)) c.in_ok-drain.ensures.drains))

pub returns-clause-says : goal.returns-clause-says
returns-clause-says g c = on_ok_then c.complain.result c.complain.ensures.printed (λ printed. (string_bytes c.drain.new.self.text, printed))
