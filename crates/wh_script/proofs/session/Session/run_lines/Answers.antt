use Rattle.std.proofs.Common.{rules, [], ◌++◌, Err, refl, sym, ap, subst, ◌∙◌, string_bytes}
use Rattle.std.proofs.lemmas.Result.{err_from_is_err_and}
use Rattle.std.specs.Io.KnownBytes.{Appends}
use Rattle.wh_engine.specs.declared.fault.RunFault.TheVariants.{Memory}
use Rattle.wh_script.specs.Coming.{unread, coming, ReadsLine}
use Rattle.wh_script.specs.Answering.{HasDrained}
use Rattle.wh_script.specs.Runs.{Sent}
use Rattle.wh_script.specs.Blame.{BlamesFailed}
use Rattle.wh_script.specs.FailingRuns.{ScriptRunsAmid}
use Rattle.wh_engine.specs.Draining.{DeviceHoldsAmid}
use Rattle.wh_engine.proofs.Runs.{holds_same}
use Rattle.wh_script.proofs.Devices.{true_same, true_then, fails_same, fails_then, holds_any, holds_map, holds_then}
use Rattle.wh_script.proofs.Blamed.{read_blames, run_fault_blames, sent_blames}
use Rattle.wh_script.proofs.Runs.{begins_nothing, starts, stops, read_fails, ends, goes_on, write_fails}
use Rattle.wh_script.proofs.session.Session.run_lines.Goals as goal

pub returns-in_err-lines-clause-amid : goal.returns-in_err-lines-clause-amid
returns-in_err-lines-clause-amid g c settings stands =
    let left = g.R.Read.remaining in
    let contents = g.W.Write.contents in
    let files = g.S.Source.files c.args.source.now in
    let p = err_from_is_err_and c.from_residual.result c.from_residual.ensures.1 in
    holds_same g.D.SwapDev.honest g.D.SwapDev.faults c.args.self.now.script_host.host.device _
    (subst (ScriptRunsAmid settings files [] (left c.args.reader.now.inner) (left c.args.reader.now.inner) (contents c.args.writer.now.inner) (contents c.args.writer.now.inner)) (sym (p.1 ∙ ap Err (p.2 ∙ c.in_err-lines.ensures.err)))
    (begins_nothing settings files (left c.args.reader.now.inner) (left c.args.reader.now.inner) (contents c.args.writer.now.inner)))

pub returns-in_err-lines-clause-faults : goal.returns-in_err-lines-clause-faults
returns-in_err-lines-clause-faults g c = fails_same g.D.SwapDev.keeps g.D.SwapDev.honest g.D.SwapDev.faults c.args.self.now.script_host.host.device

pub returns-in_err-lines-clause-device : goal.returns-in_err-lines-clause-device
returns-in_err-lines-clause-device g c = true_same g.D.SwapDev.keeps g.D.SwapDev.honest g.D.SwapDev.faults c.args.self.now.script_host.host.device

pub loop-number-init : goal.loop-number-init
loop-number-init g c =
    let keeps = g.D.SwapDev.keeps in
    let honest = g.D.SwapDev.honest in
    let faults = g.D.SwapDev.faults in
    let self = c.args.self.now in
    record {
      within = search rules;
      device = true_same keeps honest faults self.script_host.host.device;
      faults = fails_same keeps honest faults self.script_host.host.device;
      config = refl;
      so_far = λ settings stands.
          holds_same honest faults self.script_host.host.device _
          (starts settings (g.S.Source.files c.args.source.now) (g.R.Read.remaining c.args.reader.now.inner) (g.W.Write.contents c.args.writer.now.inner) (unread c.in_ok-lines.lines)
          self.script_host c.in_ok-lines.ensures.empty stands);
    }

pub returns-in_err-lines-clause-blames : goal.returns-in_err-lines-clause-blames
returns-in_err-lines-clause-blames g c =
    let p = err_from_is_err_and c.from_residual.result c.from_residual.ensures.1 in
    subst (BlamesFailed c.args.reader.now.has_failed c.args.writer.now.has_failed) (sym (p.1 ∙ ap Err (p.2 ∙ c.in_err-lines.ensures.err))) tt

pub returns-in_err-kind-clause-blames : goal.returns-in_err-kind-clause-blames
returns-in_err-kind-clause-blames g c =
    let p = err_from_is_err_and c.from_residual-in_err-kind.result c.from_residual-in_err-kind.ensures.1 in
    subst (BlamesFailed c.read.new.reader.has_failed c.loop-number.writer.has_failed) (sym (p.1 ∙ ap Err p.2))
    (read_blames c.read.new.reader.has_failed c.loop-number.writer.has_failed c.in_err-kind.field-0.0 c.in_err-kind.ensures.err c.in_err-kind.ensures.blames)

pub returns-in_err-kind-clause-amid : goal.returns-in_err-kind-clause-amid
returns-in_err-kind-clause-amid g c settings stands =
    let left = g.R.Read.remaining in
    let contents = g.W.Write.contents in
    let files = g.S.Source.files c.args.source.now in
    let l = c.loop-number in
    let script = left c.args.reader.now.inner in
    let old = coming l.lines (left l.reader.inner) in
    let e = c.in_err-kind.field-0.0 in
    let p = err_from_is_err_and c.from_residual-in_err-kind.result c.from_residual-in_err-kind.ensures.1 in
    holds_map g.D.SwapDev.keeps g.D.SwapDev.honest g.D.SwapDev.faults c.args.self.now.script_host.host.device l.self.script_host.host.device _ _
    (λ met so_far.
    subst (ScriptRunsAmid settings files met script (left c.read.new.reader.inner) (contents c.args.writer.now.inner) (contents l.writer.inner)) (sym (p.1 ∙ ap Err p.2))
    (read_fails settings files script old (contents c.args.writer.now.inner) (contents l.writer.inner) l.number l.self.script_host met [] so_far (left c.read.new.reader.inner) e c.in_err-kind.ensures.err c.in_err-kind.ensures.failed))
    (l.invariant.so_far settings stands)

pub returns-in_err-drain-in-End : goal.returns-in_err-drain-in-End
returns-in_err-drain-in-End g c =
    let left = g.R.Read.remaining in
    let contents = g.W.Write.contents in
    let faults = g.D.SwapDev.faults in
    let keeps = g.D.SwapDev.keeps in
    let honest = g.D.SwapDev.honest in
    let files = g.S.Source.files c.args.source.now in
    let l = c.loop-number in
    let first = c.args.self.now.script_host.host.device in
    let before = l.self.script_host.host.device in
    let after = c.drain.new.self.script_host.host.device in
    let script = left c.args.reader.now.inner in
    let old = coming l.lines (left l.reader.inner) in
    let p = err_from_is_err_and c.from_residual-in_err-drain-in-End.result c.from_residual-in_err-drain-in-End.ensures.1 in
    let fault = c.in_err-drain-in-End.field-0.0 in
    record {
      amid = λ settings stands.
          holds_then keeps honest faults first before after _ _ _ l.invariant.faults c.drain.ensures.device
          (λ met since so_far any.
          subst (ScriptRunsAmid settings files (since ++ met) script (left c.read.new.reader.inner) (contents c.args.writer.now.inner) (contents l.writer.inner)) (sym (p.1 ∙ ap Err p.2))
          (stops settings files script old (contents c.args.writer.now.inner) (contents l.writer.inner) l.number l.self.script_host met since so_far (left c.read.new.reader.inner) fault c.in_err-drain-in-End.ensures.open))
          (l.invariant.so_far settings stands) (holds_any keeps honest faults before after c.drain.ensures.faults);
      faults = fails_then keeps honest faults first before after l.invariant.faults c.drain.ensures.faults;
      device = true_then keeps honest faults first before after l.invariant.device c.drain.ensures.device;
      config = c.drain.ensures.config ∙ l.invariant.config;
      blames = subst (BlamesFailed c.read.new.reader.has_failed l.writer.has_failed) (sym (p.1 ∙ ap Err p.2)) (run_fault_blames _ _ fault);
    }

pub returns-in-End : goal.returns-in-End
returns-in-End g c =
    let left = g.R.Read.remaining in
    let contents = g.W.Write.contents in
    let faults = g.D.SwapDev.faults in
    let keeps = g.D.SwapDev.keeps in
    let honest = g.D.SwapDev.honest in
    let files = g.S.Source.files c.args.source.now in
    let l = c.loop-number in
    let first = c.args.self.now.script_host.host.device in
    let before = l.self.script_host.host.device in
    let drained = c.drain.new.self in
    let after = drained.script_host.host.device in
    let script = left c.args.reader.now.inner in
    let old = coming l.lines (left l.reader.inner) in
    let new = coming c.read.new.self (left c.read.new.reader.inner) in
    let e = l.self.script_host in
    let e2 = drained.script_host in
    let text = string_bytes drained.text in
    record {
      amid = λ settings stands.
          let drains = subst (λ t. DeviceHoldsAmid honest faults before after (HasDrained e t e2 text)) c.clear.ensures.bytes c.in_ok-drain-in-End.ensures.drains in
          let end = subst (λ k. ReadsLine old new k c.read.new.self.line.items) c.in-End.is c.in_ok-kind.ensures.line in
          let sent = subst (Sent (contents l.writer.inner) (contents c.send.new.writer.inner) c.send.result) c.as_bytes.ensures.value c.send.ensures.sent in
          holds_then keeps honest faults first before after _ _ _ l.invariant.faults c.drain.ensures.device
          (λ met since so_far drained.
          ends settings files script old (contents c.args.writer.now.inner) (contents l.writer.inner) l.number e met since so_far e2 text (contents c.send.new.writer.inner) (left c.read.new.reader.inner)
          drained end c.send.result sent)
          (l.invariant.so_far settings stands) drains;
      faults = fails_then keeps honest faults first before after l.invariant.faults c.drain.ensures.faults;
      device = true_then keeps honest faults first before after l.invariant.device c.drain.ensures.device;
      config = c.drain.ensures.config ∙ l.invariant.config;
      blames = sent_blames c.read.new.reader.has_failed c.send.new.writer.has_failed (contents l.writer.inner) (contents c.send.new.writer.inner) c.send.result c.as_bytes.result.now c.send.ensures.sent c.send.ensures.blames;
    }

pub returns-in_err-answer-in_default : goal.returns-in_err-answer-in_default
returns-in_err-answer-in_default g c =
    let left = g.R.Read.remaining in
    let contents = g.W.Write.contents in
    let faults = g.D.SwapDev.faults in
    let keeps = g.D.SwapDev.keeps in
    let honest = g.D.SwapDev.honest in
    let files = g.S.Source.files c.args.source.now in
    let l = c.loop-number in
    let first = c.args.self.now.script_host.host.device in
    let before = l.self.script_host.host.device in
    let after = c.answer.new.self.script_host.host.device in
    let script = left c.args.reader.now.inner in
    let old = coming l.lines (left l.reader.inner) in
    let p = err_from_is_err_and c.from_residual-in_err-answer-in_default.result c.from_residual-in_err-answer-in_default.ensures.1 in
    let fault = c.in_err-answer-in_default.field-0.0 in
    record {
      amid = λ settings stands.
          holds_then keeps honest faults first before after _ _ _ l.invariant.faults c.answer.ensures.device
          (λ met since so_far any.
          subst (ScriptRunsAmid settings files (since ++ met) script (left c.read.new.reader.inner) (contents c.args.writer.now.inner) (contents l.writer.inner)) (sym (p.1 ∙ ap Err p.2))
          (stops settings files script old (contents c.args.writer.now.inner) (contents l.writer.inner) l.number l.self.script_host met since so_far
          (left c.read.new.reader.inner) fault c.in_err-answer-in_default.ensures.open))
          (l.invariant.so_far settings stands) (holds_any keeps honest faults before after c.answer.ensures.faults);
      faults = fails_then keeps honest faults first before after l.invariant.faults c.answer.ensures.faults;
      device = true_then keeps honest faults first before after l.invariant.device c.answer.ensures.device;
      config = c.answer.ensures.config ∙ l.invariant.config;
      blames = subst (BlamesFailed c.read.new.reader.has_failed l.writer.has_failed) (sym (p.1 ∙ ap Err p.2)) (run_fault_blames _ _ fault);
    }

pub returns-in_err-send-in_default : goal.returns-in_err-send-in_default
returns-in_err-send-in_default g c =
    let left = g.R.Read.remaining in
    let contents = g.W.Write.contents in
    let faults = g.D.SwapDev.faults in
    let keeps = g.D.SwapDev.keeps in
    let honest = g.D.SwapDev.honest in
    let files = g.S.Source.files c.args.source.now in
    let l = c.loop-number in
    let first = c.args.self.now.script_host.host.device in
    let before = l.self.script_host.host.device in
    let answered = c.answer.new.self in
    let after = answered.script_host.host.device in
    let script = left c.args.reader.now.inner in
    let old = coming l.lines (left l.reader.inner) in
    let new = coming c.read.new.self (left c.read.new.reader.inner) in
    let text = string_bytes answered.text in
    let reads = subst (λ held. ReadsLine old new c.in_ok-kind.kind held) (sym c.line.ensures) c.in_ok-kind.ensures.line in
    let fault = c.in_err-send-in_default.field-0.0 in
    let p = err_from_is_err_and c.from_residual-in_err-send-in_default.result c.from_residual-in_err-send-in_default.ensures.1 in
    record {
      amid = λ settings stands.
          let sent = subst (Sent (contents l.writer.inner) (contents c.send-in_default.new.writer.inner) (Err fault)) c.as_bytes-in_default.ensures.value c.in_err-send-in_default.ensures.sent in
          holds_then keeps honest faults first before after _ _ _ l.invariant.faults c.answer.ensures.device
          (λ met since so_far answers.
          subst (ScriptRunsAmid settings files (since ++ met) script (left c.read.new.reader.inner) (contents c.args.writer.now.inner) (contents c.send-in_default.new.writer.inner)) (sym (p.1 ∙ ap Err p.2))
          (write_fails settings files script old (contents c.args.writer.now.inner) (contents l.writer.inner) l.number l.self.script_host met since so_far answered.script_host text (contents c.send-in_default.new.writer.inner) (left c.read.new.reader.inner)
          new c.in_ok-kind.kind c.line.result.now c.in_default.not-End reads answers fault sent))
          (l.invariant.so_far settings stands) c.in_ok-answer-in_default.ensures.answers;
      faults = fails_then keeps honest faults first before after l.invariant.faults c.answer.ensures.faults;
      device = true_then keeps honest faults first before after l.invariant.device c.answer.ensures.device;
      config = c.answer.ensures.config ∙ l.invariant.config;
      blames = subst (BlamesFailed c.read.new.reader.has_failed c.send-in_default.new.writer.has_failed) (sym (p.1 ∙ ap Err p.2))
          (sent_blames c.read.new.reader.has_failed c.send-in_default.new.writer.has_failed (contents l.writer.inner) (contents c.send-in_default.new.writer.inner) (Err fault) c.as_bytes-in_default.result.now c.in_err-send-in_default.ensures.sent c.in_err-send-in_default.ensures.blames);
    }

pub loop-number-preserved : goal.loop-number-preserved
loop-number-preserved g c =
    let left = g.R.Read.remaining in
    let contents = g.W.Write.contents in
    let faults = g.D.SwapDev.faults in
    let keeps = g.D.SwapDev.keeps in
    let honest = g.D.SwapDev.honest in
    let files = g.S.Source.files c.args.source.now in
    let l = c.loop-number in
    let first = c.args.self.now.script_host.host.device in
    let before = l.self.script_host.host.device in
    let answered = c.answer.new.self in
    let after = answered.script_host.host.device in
    let script = left c.args.reader.now.inner in
    let old = coming l.lines (left l.reader.inner) in
    let new = coming c.read.new.self (left c.read.new.reader.inner) in
    let e = l.self.script_host in
    let e2 = answered.script_host in
    let text = string_bytes answered.text in
    let reads = subst (λ held. ReadsLine old new c.in_ok-kind.kind held) (sym c.line.ensures) c.in_ok-kind.ensures.line in
    record {
      within = search rules;
      device = true_then keeps honest faults first before after l.invariant.device c.answer.ensures.device;
      config = c.answer.ensures.config ∙ l.invariant.config;
      faults = fails_then keeps honest faults first before after l.invariant.faults c.answer.ensures.faults;
      so_far = λ settings stands.
          let sent = subst (λ t. Appends (contents l.writer.inner) (contents c.send-in_default.new.writer.inner) t) c.as_bytes-in_default.ensures.value c.in_ok-send-in_default.ensures.sent in
          holds_then keeps honest faults first before after _ _ _ l.invariant.faults c.answer.ensures.device
          (λ met since so_far answers.
          goes_on settings files script old (contents c.args.writer.now.inner) (contents l.writer.inner) l.number e met since so_far e2 text (contents c.send-in_default.new.writer.inner) (left c.read.new.reader.inner)
          new c.in_ok-kind.kind c.line.result.now c.in_default.not-End reads answers sent)
          (l.invariant.so_far settings stands) c.in_ok-answer-in_default.ensures.answers;
    }

pub returns-clause-amid : goal.returns-clause-amid
returns-clause-amid g c settings stands =
    let left = g.R.Read.remaining in
    let contents = g.W.Write.contents in
    let files = g.S.Source.files c.args.source.now in
    let l = c.loop-number in
    let script = left c.args.reader.now.inner in
    let old = coming l.lines (left l.reader.inner) in
    holds_map g.D.SwapDev.keeps g.D.SwapDev.honest g.D.SwapDev.faults c.args.self.now.script_host.host.device l.self.script_host.host.device _ _
    (λ met so_far. stops settings files script old (contents c.args.writer.now.inner) (contents l.writer.inner) l.number l.self.script_host met [] so_far (left l.reader.inner) Memory tt)
    (l.invariant.so_far settings stands)
