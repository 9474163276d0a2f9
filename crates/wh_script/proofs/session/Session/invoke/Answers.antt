use Rattle.std.proofs.Common.{ℕ, List, subst, sym, string_bytes}
use Rattle.wh_script_model.specs.{Files}
use Rattle.wh_script_model.specs.Settings.{Settings}
use Rattle.wh_script_model.specs.ScriptState.{ScriptState}
use Rattle.wh_commands.specs.ParsedCommands.{invoke_of}
use Rattle.wh_engine.proofs.Printings.{on_ok_then}
use Rattle.wh_engine.specs.Obeying.{TakesInvoke}
use Rattle.wh_engine.specs.RepresentedScript.{RepresentsScript}
use Rattle.wh_engine.specs.Draining.{DeviceHoldsAmid, DeviceMayFail, DeviceStaysTrue}
use Rattle.wh_engine.proofs.Opened.{err_before}
use Rattle.wh_engine.proofs.Runs.{holds_same, stays_same}
use Rattle.wh_script.specs.Answering.{AnswersCommand}
use Rattle.wh_script.proofs.Answered.{is_received, has_no_guest, invoke_wants, where_ok, where_err}
use Rattle.wh_script.proofs.Devices.{true_same, fails_same, holds_map}
use Rattle.wh_script.proofs.session.Session.invoke.Goals as goal

pub returns-in_default-clause-answers : goal.returns-in_default-clause-answers
returns-in_default-clause-answers g c =
    let before = c.args.self.now in
    let after = c.complain_drained.new.self in
    on_ok_then c.complain_drained.result c.complain_drained.ensures.complains
    (holds_map g.D.SwapDev.keeps g.D.SwapDev.honest g.D.SwapDev.faults before.script_host.host.device after.script_host.host.device _ _ (λ met complains files.
    has_no_guest files c.args.number c.args.call.now.inst.now c.args.call.now.export.now c.args.call.now.fuel c.args.call.now.args.items before.script_host after.script_host
    (string_bytes before.text) (string_bytes after.text) met c.in_default.ensures.named complains))

pub returns-then-is_err-clause-answers : goal.returns-then-is_err-clause-answers
returns-then-is_err-clause-answers g c =
    let before = c.args.self.now in
    let mid = c.invoke-asked.new in
    let after = c.complain_drained-then-is_err.new.self in
    let answers : List ℕ → Type 0 = λ met. (files : Files) → AnswersCommand files c.args.number (invoke_of c.args.call.now) before.script_host (string_bytes before.text)
    after.script_host (string_bytes after.text) met in
    on_ok_then c.complain_drained-then-is_err.result c.complain_drained-then-is_err.ensures.complains (λ complained.
    subst (λ o. DeviceHoldsAmid g.D.SwapDev.honest g.D.SwapDev.faults o after.script_host.host.device answers) c.invoke-asked.ensures.device
    (holds_map g.D.SwapDev.keeps g.D.SwapDev.honest g.D.SwapDev.faults mid.self.host.device after.script_host.host.device _ answers (λ met complains files.
    invoke_wants files c.args.number (invoke_of c.args.call.now) before.script_host mid.self
    after.script_host (string_bytes before.text) (string_bytes after.text) met
    (stays_same before.script_host mid.self (where_err c.invoke-asked.result c.if-is_err.ensures.value c.invoke-asked.ensures.err)) complains) complained))

pub returns-then-is_err-clause-open : goal.returns-then-is_err-clause-open
returns-then-is_err-clause-open g c =
    err_before c.args.self.now.script_host c.invoke-asked.new.self c.complain_drained-then-is_err.result
    (where_err c.invoke-asked.result c.if-is_err.ensures.value c.invoke-asked.ensures.err) c.complain_drained-then-is_err.ensures.open

pub returns-clause-answers : goal.returns-clause-answers
returns-clause-answers g c =
    let before = c.args.self.now in
    let mid = c.invoke-asked.new in
    let device = before.script_host.host.device in
    let export = c.args.call.now.export.now in
    let fuel = c.args.call.now.fuel in
    let answers : List ℕ → Type 0 = λ met. (files : Files) → AnswersCommand files c.args.number (invoke_of c.args.call.now) before.script_host (string_bytes before.text)
    mid.self (string_bytes before.text) met in
    let takes = subst (λ given. (settings : Settings) (m : ScriptState) → RepresentsScript settings before.script_host m → TakesInvoke settings m c.in-Some.instance export fuel given mid.self)
    c.deref.ensures.value (where_ok c.invoke-asked.result c.if-is_err.ensures.value c.invoke-asked.ensures.ok) in
    subst (λ o. DeviceHoldsAmid g.D.SwapDev.honest g.D.SwapDev.faults device o answers) (sym c.invoke-asked.ensures.device)
    (holds_same g.D.SwapDev.honest g.D.SwapDev.faults device answers (λ files.
    is_received files c.args.number c.in-Some.instance c.args.call.now.inst.now export fuel c.args.call.now.args.items before.script_host mid.self
    (string_bytes before.text) c.in-Some.ensures.named takes))

pub returns-clause-device : goal.returns-clause-device
returns-clause-device g c =
    let device = c.args.self.now.script_host.host.device in
    subst (λ o. DeviceStaysTrue g.D.SwapDev.keeps g.D.SwapDev.honest device o) (sym c.invoke-asked.ensures.device) (true_same g.D.SwapDev.keeps g.D.SwapDev.honest g.D.SwapDev.faults device)

pub returns-clause-faults : goal.returns-clause-faults
returns-clause-faults g c =
    let device = c.args.self.now.script_host.host.device in
    subst (λ o. DeviceMayFail g.D.SwapDev.faults device o) (sym c.invoke-asked.ensures.device) (fails_same g.D.SwapDev.keeps g.D.SwapDev.honest g.D.SwapDev.faults device)
