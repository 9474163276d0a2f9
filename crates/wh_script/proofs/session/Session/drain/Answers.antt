use Rattle.std.proofs.Common.{◌∙◌, Err, IfErr, subst, sym, ap, string_bytes}
use Rattle.std.proofs.lemmas.Result.{err_from_is_err_and}
use Rattle.wh_engine.proofs.Opened.{printing_open}
use Rattle.wh_engine.proofs.Printings.{on_ok_both, on_ok_then}
use Rattle.wh_engine.specs.Draining.{DeviceHoldsAmid, RunsEach, StopsOnlyOpen}
use Rattle.wh_engine.specs.Printing.{PrintsAll}
use Rattle.wh_scheduler.specs.InHand.{OwnedState}
use Rattle.wh_script.specs.Answering.{HasDrained}
use Rattle.wh_script.proofs.Devices.{holds_map}
use Rattle.wh_script.proofs.Drained.{has_drained}
use Rattle.wh_script.proofs.session.Session.drain.Goals as goal

pub returns-in_err-run-clause-open : goal.returns-in_err-run-clause-open
returns-in_err-run-clause-open g c =
    let e = c.args.self.now.script_host in
    let p = err_from_is_err_and c.from_residual.result c.from_residual.ensures.1 in
    subst (λ r. IfErr r (StopsOnlyOpen e)) (sym (p.1 ∙ ap Err p.2)) (subst (StopsOnlyOpen e) (sym c.in_err-run.ensures.err) tt)

pub returns-clause-open : goal.returns-clause-open
returns-clause-open g c =
    printing_open c.args.self.now.script_host c.run.new.self.script_host c.print.result c.run.ensures.begins c.print.ensures.err

pub returns-clause-drains : goal.returns-clause-drains
returns-clause-drains g c =
    let before = c.args.self.now in
    let ran = c.run.new.self in
    let text2 = string_bytes c.print.new.text in
    on_ok_then c.print.result (on_ok_both _ _ c.print.result c.print.ensures.says c.print.ensures.rests) (λ (says, rests).
    let drains = HasDrained before.script_host (string_bytes before.text) c.print.new.self text2 in
    let printed = subst (λ t. PrintsAll ran.script_host (string_bytes t) c.print.new.self text2) c.run.ensures.text says in
    subst (λ (o : OwnedState g.row.D.Denot). DeviceHoldsAmid g.D.SwapDev.honest g.D.SwapDev.faults before.script_host.host.device o.device drains) (sym c.print.ensures.host)
    (holds_map g.D.SwapDev.keeps g.D.SwapDev.honest g.D.SwapDev.faults before.script_host.host.device ran.script_host.host.device (RunsEach before.script_host ran.script_host) drains
    (λ met runs. has_drained before.script_host ran.script_host c.print.new.self (string_bytes before.text) text2 met runs printed) (c.in_ok-run.ensures.runs rests)))
