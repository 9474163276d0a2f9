use Rattle.std.proofs.Common.{◌∙◌, ◌<◌, ◌≤◌, inr, [], length, true≢false, arith, subst, sym, string_bytes}
use Rattle.wh_script.specs.Causes.{cause_number, line_error}
use Rattle.wh_commands.specs.ParsedCommands.{FindsAsked, asked_in, command_of, invoke_of}
use Rattle.wh_script_model.specs.{longest_line, Command, AsksCommand, scan, report, error}
use Rattle.wh_engine.proofs.Printings.{on_ok_then}
use Rattle.wh_script.specs.Coming.{IsKind}
use Rattle.wh_script.specs.Speaking.{AsksReport, AsksScan}
use Rattle.wh_script.specs.Answering.{Answers, Complains, EndsSaying}
use Rattle.wh_script.proofs.Answered.{is_skipped_line, is_too_long, isnt_found, skips}
use Rattle.wh_engine.proofs.Runs.{holds_same}
use Rattle.wh_script.proofs.Devices.{holds_map}
use Rattle.wh_script.proofs.OfHost.{is_report, is_scan, no_report, no_scan, none_found}
use Rattle.wh_script.proofs.session.Session.answer.Goals as goal

pub returns-in-End-clause-answers : goal.returns-in-End-clause-answers
returns-in-End-clause-answers g c =
    let files = g.S.Source.files c.args.source.now in
    let e = c.args.self.now.script_host in
    holds_same g.D.SwapDev.honest g.D.SwapDev.faults e.host.device _ (λ line is.
    subst (λ t. Answers files c.args.number line e [] e t []) (sym c.clear.ensures.bytes)
    (is_skipped_line files c.args.number line e [] (skips c.args.kind c.args.held.now line c.in-End.is is)))

pub returns-in-TooLong-clause-answers : goal.returns-in-TooLong-clause-answers
returns-in-TooLong-clause-answers g c =
    let files = g.S.Source.files c.args.source.now in
    let e = c.args.self.now.script_host in
    let e2 = c.complain_drained.new.self.script_host in
    let text2 = string_bytes c.complain_drained.new.self.text in
    on_ok_then c.complain_drained.result c.complain_drained.ensures.complains
    (holds_map g.D.SwapDev.keeps g.D.SwapDev.honest g.D.SwapDev.faults e.host.device e2.host.device _ _ (λ met complains line is.
    let k = subst (λ k. IsKind k c.args.held.now line) c.in-TooLong.is is in
    is_too_long files c.args.number line [] text2 e e2 met k.0 k.1
    (subst (λ t. Complains (error 1 c.args.number) e t e2 text2 met) c.clear.ensures.bytes complains)))

pub returns-in-Ok-Invoke-clause-answers : goal.returns-in-Ok-Invoke-clause-answers
returns-in-Ok-Invoke-clause-answers g c =
    let files = g.S.Source.files c.args.source.now in
    let e = c.args.self.now.script_host in
    let e2 = c.invoke.new.self.script_host in
    let text2 = string_bytes c.invoke.new.self.text in
    on_ok_then c.invoke.result c.invoke.ensures.answers
    (holds_map g.D.SwapDev.keeps g.D.SwapDev.honest g.D.SwapDev.faults e.host.device e2.host.device _ _ (λ met answers line is.
    let k = subst (λ k. IsKind k c.args.held.now line) c.in-Kept.is is in
    subst (λ t. Answers files c.args.number line e t e2 text2 met) c.clear.ensures.bytes
    (answers files line (k.1, k.2) (subst (λ xs. AsksCommand xs (invoke_of c.in-Ok-Invoke.call)) k.0 (subst (λ parsed. AsksCommand c.args.held.now (asked_in parsed)) c.in-Ok-Invoke.field-0-is c.in-Ok-Invoke.ensures.found)))))

pub returns-in-Ok-Command-clause-answers : goal.returns-in-Ok-Command-clause-answers
returns-in-Ok-Command-clause-answers g c =
    let files = g.S.Source.files c.args.source.now in
    let e = c.args.self.now.script_host in
    let e2 = c.command.new.self.script_host in
    let text2 = string_bytes c.command.new.self.text in
    on_ok_then c.command.result c.command.ensures.answers
    (holds_map g.D.SwapDev.keeps g.D.SwapDev.honest g.D.SwapDev.faults e.host.device e2.host.device _ _ (λ met answers line is.
    let k = subst (λ k. IsKind k c.args.held.now line) c.in-Kept.is is in
    subst (λ t. Answers files c.args.number line e t e2 text2 met) c.clear.ensures.bytes
    (answers line (k.1, k.2) (subst (λ xs. AsksCommand xs (command_of c.in-Ok-Command.command)) k.0 (subst (λ parsed. AsksCommand c.args.held.now (asked_in parsed)) c.in-Ok-Command.field-0-is c.in-Ok-Command.ensures.found)))))

pub returns-in-Err-clause-answers : goal.returns-in-Err-clause-answers
returns-in-Err-clause-answers g c =
    let files = g.S.Source.files c.args.source.now in
    let e = c.args.self.now.script_host in
    let e2 = c.complain_drained-in-Err.new.self.script_host in
    let text2 = string_bytes c.complain_drained-in-Err.new.self.text in
    on_ok_then c.complain_drained-in-Err.result c.complain_drained-in-Err.ensures.complains
    (holds_map g.D.SwapDev.keeps g.D.SwapDev.honest g.D.SwapDev.faults e.host.device e2.host.device _ _ (λ met complains line is.
    let k = subst (λ k. IsKind k c.args.held.now line) c.in-Kept.is is in
    isnt_found files c.args.number line [] text2 e e2 met c.parse.result c.in-Err.error c.in-Err.is
    (subst (λ xs. (asked : Command) → AsksCommand xs asked → FindsAsked c.parse.result asked) k.0 c.parse.ensures.only) (k.1, k.2)
    (subst (λ t. Complains (error (cause_number (line_error c.in-Err.error)) c.args.number) e t e2 text2 met) c.clear.ensures.bytes
    (subst (λ cause. Complains (error (cause_number cause) c.args.number) e (string_bytes c.clear.new.self) e2 text2 met) c.from.ensures complains))))

pub returns-in-End-clause-scans : goal.returns-in-End-clause-scans
returns-in-End-clause-scans g c line is asks =
    absurd (true≢false (sym (skips c.args.kind c.args.held.now line c.in-End.is is) ∙ asks.is_read.0))

pub returns-in-TooLong-clause-scans : goal.returns-in-TooLong-clause-scans
returns-in-TooLong-clause-scans g c =
    on_ok_then c.complain_drained.result c.complain_drained.ensures.says (λ says line is (asks : AsksScan line).
    let k = subst (λ k. IsKind k c.args.held.now line) c.in-TooLong.is is in
    let long : longest_line < length line = k.1 in
    let read : length line ≤ longest_line = asks.is_read.1 in
    absurd (omega (arith, long, read)))

pub returns-in-Ok-Invoke-clause-scans : goal.returns-in-Ok-Invoke-clause-scans
returns-in-Ok-Invoke-clause-scans g c =
    on_ok_then c.invoke.result c.invoke.ensures.answers (λ answers line is (asks : AsksScan line).
    let k = subst (λ k. IsKind k c.args.held.now line) c.in-Kept.is is in
    absurd (no_scan c.args.held.now c.in-Ok-Invoke.call (subst (λ parsed. AsksCommand c.args.held.now (asked_in parsed)) c.in-Ok-Invoke.field-0-is c.in-Ok-Invoke.ensures.found) (subst (λ xs. AsksCommand xs scan) (sym k.0) asks.asks)))

pub returns-in-Ok-Command-clause-scans : goal.returns-in-Ok-Command-clause-scans
returns-in-Ok-Command-clause-scans g c =
    on_ok_then c.command.result c.command.ensures.scans (λ does line is (asks : AsksScan line).
    let k = subst (λ k. IsKind k c.args.held.now line) c.in-Kept.is is in
    inr (does (is_scan c.args.held.now c.in-Ok-Command.command (subst (λ parsed. AsksCommand c.args.held.now (asked_in parsed)) c.in-Ok-Command.field-0-is c.in-Ok-Command.ensures.found) (subst (λ xs. AsksCommand xs scan) (sym k.0) asks.asks))))

pub returns-in-Err-clause-scans : goal.returns-in-Err-clause-scans
returns-in-Err-clause-scans g c =
    on_ok_then c.complain_drained-in-Err.result c.complain_drained-in-Err.ensures.says (λ says line is (asks : AsksScan line).
    let k = subst (λ k. IsKind k c.args.held.now line) c.in-Kept.is is in
    let text2 = string_bytes c.complain_drained-in-Err.new.self.text in
    none_found _ c.parse.result c.in-Err.error scan c.args.number text2 c.in-Err.is
    (c.parse.ensures.only scan (subst (λ xs. AsksCommand xs scan) (sym k.0) asks.asks))
    (subst (λ cause. EndsSaying (error (cause_number cause) c.args.number) text2) c.from.ensures says))

pub returns-in-End-clause-shows : goal.returns-in-End-clause-shows
returns-in-End-clause-shows g c line is asks =
    absurd (true≢false (sym (skips c.args.kind c.args.held.now line c.in-End.is is) ∙ asks.is_read.0))

pub returns-in-TooLong-clause-shows : goal.returns-in-TooLong-clause-shows
returns-in-TooLong-clause-shows g c =
    on_ok_then c.complain_drained.result c.complain_drained.ensures.says (λ says line is (asks : AsksReport line).
    let k = subst (λ k. IsKind k c.args.held.now line) c.in-TooLong.is is in
    let long : longest_line < length line = k.1 in
    let read : length line ≤ longest_line = asks.is_read.1 in
    absurd (omega (arith, long, read)))

pub returns-in-Ok-Invoke-clause-shows : goal.returns-in-Ok-Invoke-clause-shows
returns-in-Ok-Invoke-clause-shows g c =
    on_ok_then c.invoke.result c.invoke.ensures.answers (λ answers line is (asks : AsksReport line).
    let k = subst (λ k. IsKind k c.args.held.now line) c.in-Kept.is is in
    absurd (no_report c.args.held.now c.in-Ok-Invoke.call (subst (λ parsed. AsksCommand c.args.held.now (asked_in parsed)) c.in-Ok-Invoke.field-0-is c.in-Ok-Invoke.ensures.found) (subst (λ xs. AsksCommand xs report) (sym k.0) asks.asks)))

pub returns-in-Ok-Command-clause-shows : goal.returns-in-Ok-Command-clause-shows
returns-in-Ok-Command-clause-shows g c =
    on_ok_then c.command.result c.command.ensures.shows (λ does line is (asks : AsksReport line).
    let k = subst (λ k. IsKind k c.args.held.now line) c.in-Kept.is is in
    inr (does (is_report c.args.held.now c.in-Ok-Command.command (subst (λ parsed. AsksCommand c.args.held.now (asked_in parsed)) c.in-Ok-Command.field-0-is c.in-Ok-Command.ensures.found) (subst (λ xs. AsksCommand xs report) (sym k.0) asks.asks))))

pub returns-in-Err-clause-shows : goal.returns-in-Err-clause-shows
returns-in-Err-clause-shows g c =
    on_ok_then c.complain_drained-in-Err.result c.complain_drained-in-Err.ensures.says (λ says line is (asks : AsksReport line).
    let k = subst (λ k. IsKind k c.args.held.now line) c.in-Kept.is is in
    let text2 = string_bytes c.complain_drained-in-Err.new.self.text in
    none_found _ c.parse.result c.in-Err.error report c.args.number text2 c.in-Err.is
    (c.parse.ensures.only report (subst (λ xs. AsksCommand xs report) (sym k.0) asks.asks))
    (subst (λ cause. EndsSaying (error (cause_number cause) c.args.number) text2) c.from.ensures says))
