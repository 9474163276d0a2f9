use Rattle.std.proofs.Common.{◌∙◌, Err, IfErr, ap, subst, sym, string_bytes}
use Rattle.std.proofs.lemmas.Result.{err_from_is_err_and}
use Rattle.wh_commands.specs.ParsedCommands.{command_of}
use Rattle.wh_engine.proofs.Printings.{on_ok_then}
use Rattle.wh_engine.proofs.Opened.{memory_open}
use Rattle.wh_engine.specs.Draining.{DeviceHoldsAmid, StopsOnlyOpen}
use Rattle.wh_settings.specs.Hashing.{hashes_by}
use Rattle.wh_settings.specs.View.{hashing_of}
use Rattle.wh_script.specs.declared.session.SessionConfig.{SessionConfig}
use Rattle.wh_script.specs.Answering.{AnswersCommand, HasOffered}
use Rattle.wh_script.proofs.Devices.{holds_map}
use Rattle.wh_script.proofs.Answered.{drained_obeyed}
use Rattle.wh_script.proofs.session.Session.command.Goals as goal

pub returns-clause-answers : goal.returns-clause-answers
returns-clause-answers g c =
    let drained = c.drain.new.self in
    let obeyed = c.obey.new.self in
    let first = c.args.self.now in
    let before = first.script_host.host.device in
    let files = g.S.Source.files c.args.source.now in
    let asked = command_of c.args.command in
    let answers = AnswersCommand files c.args.number asked first.script_host (string_bytes first.text) obeyed.script_host (string_bytes obeyed.text) in
    on_ok_then c.obey.result c.obey.ensures.obeys (λ obeys.
    subst (λ o. DeviceHoldsAmid g.D.SwapDev.honest g.D.SwapDev.faults before o answers) (sym c.obey.ensures.device)
    (holds_map g.D.SwapDev.keeps g.D.SwapDev.honest g.D.SwapDev.faults before drained.script_host.host.device _ answers (λ met has_drained.
    drained_obeyed files c.args.number asked first.script_host drained.script_host
    obeyed.script_host (string_bytes first.text) (string_bytes drained.text) (string_bytes obeyed.text) met has_drained obeys) c.in_ok-drain.ensures.drains))

pub returns-clause-scans : goal.returns-clause-scans
returns-clause-scans g c =
    let drained = c.drain.new.self in
    on_ok_then c.obey.result c.obey.ensures.scans (λ scans same.
    (drained.script_host, subst (λ (k : SessionConfig). HasOffered (hashes_by (hashing_of k.hash)) drained.script_host c.obey.new.self.script_host) c.drain.ensures.config (scans same)))

pub returns-clause-shows : goal.returns-clause-shows
returns-clause-shows g c = on_ok_then c.obey.result c.obey.ensures.shows (λ shows same. (string_bytes c.drain.new.self.text, shows same))

pub returns-in_err-drain-clause-open : goal.returns-in_err-drain-clause-open
returns-in_err-drain-clause-open g c =
    let p = err_from_is_err_and c.from_residual.result c.from_residual.ensures.1 in
    subst (λ r. IfErr r (StopsOnlyOpen c.args.self.now.script_host)) (sym (p.1 ∙ ap Err p.2)) c.in_err-drain.ensures.open

pub returns-clause-open : goal.returns-clause-open
returns-clause-open g c = memory_open c.args.self.now.script_host c.obey.result c.obey.ensures.err
