use Rattle.std.proofs.Common.{Ok, subst, sym, string_bytes}
use Rattle.wh_engine.proofs.Printings.{on_ok_then}
use Rattle.wh_script.specs.Answering.{Obeys}
use Rattle.wh_commands.specs.declared.command.Command.TheVariants.{Module, Load, Admit, Drain, Act, Scan, Report, Release}
use Rattle.wh_commands.specs.ParsedCommands.{command_of}
use Rattle.wh_script_model.specs.Commands as asked_of
use Rattle.wh_script.proofs.Obeyed.{only_drained}
use Rattle.wh_script.proofs.OfHost.{not_the}
use Rattle.wh_script.proofs.session.Session.obey.Goals as goal

pub returns-in-Module-clause-obeys : goal.returns-in-Module-clause-obeys
returns-in-Module-clause-obeys g c =
    let files = g.S.Source.files c.args.source.now in
    let e = c.args.self.now.script_host in
    let text = string_bytes c.args.self.now.text in
    let e2 = c.module.new.self.script_host in
    let text2 = string_bytes c.module.new.self.text in
    on_ok_then c.module.result c.module.ensures.obeys (λ obeys.
    let given = subst (λ bytes. Obeys files c.args.number (asked_of.keep c.in-Module.name.now bytes) e text e2 text2) c.deref.ensures.value (obeys files) in
    subst (λ k. Obeys files c.args.number (command_of k) e text e2 text2) (sym c.in-Module.is) given)

pub returns-in-Load-clause-obeys : goal.returns-in-Load-clause-obeys
returns-in-Load-clause-obeys g c =
    let files = g.S.Source.files c.args.source.now in
    let text = string_bytes c.args.self.now.text in
    let text2 = string_bytes c.load.new.self.text in
    on_ok_then c.load.result c.load.ensures.obeys (λ obeys.
    subst (λ k. Obeys files c.args.number (command_of k) c.args.self.now.script_host text c.load.new.self.script_host text2) (sym c.in-Load.is) obeys)

pub returns-in-Admit-clause-obeys : goal.returns-in-Admit-clause-obeys
returns-in-Admit-clause-obeys g c =
    let files = g.S.Source.files c.args.source.now in
    let text = string_bytes c.args.self.now.text in
    let text2 = string_bytes c.admit.new.self.text in
    on_ok_then c.admit.result c.admit.ensures.obeys (λ obeys.
    subst (λ k. Obeys files c.args.number (command_of k) c.args.self.now.script_host text c.admit.new.self.script_host text2) (sym c.in-Admit.is) (obeys files))

pub returns-in-Act-clause-obeys : goal.returns-in-Act-clause-obeys
returns-in-Act-clause-obeys g c =
    let files = g.S.Source.files c.args.source.now in
    let text = string_bytes c.args.self.now.text in
    let text2 = string_bytes c.act.new.self.text in
    on_ok_then c.act.result c.act.ensures.obeys (λ obeys.
    subst (λ k. Obeys files c.args.number (command_of k) c.args.self.now.script_host text c.act.new.self.script_host text2) (sym c.in-Act.is) (obeys files))

pub returns-in-Scan-clause-obeys : goal.returns-in-Scan-clause-obeys
returns-in-Scan-clause-obeys g c =
    let files = g.S.Source.files c.args.source.now in
    let text = string_bytes c.args.self.now.text in
    let text2 = string_bytes c.scan.new.self.text in
    on_ok_then c.scan.result c.scan.ensures.obeys (λ obeys.
    subst (λ k. Obeys files c.args.number (command_of k) c.args.self.now.script_host text c.scan.new.self.script_host text2) (sym c.in-Scan.is) (obeys files c.args.number))

pub returns-in-Report-clause-obeys : goal.returns-in-Report-clause-obeys
returns-in-Report-clause-obeys g c =
    let files = g.S.Source.files c.args.source.now in
    let text = string_bytes c.args.self.now.text in
    let text2 = string_bytes c.report.new.self.text in
    on_ok_then c.report.result c.report.ensures.obeys (λ obeys.
    subst (λ k. Obeys files c.args.number (command_of k) c.args.self.now.script_host text c.report.new.self.script_host text2) (sym c.in-Report.is) (obeys files c.args.number))

pub returns-in-Release-clause-obeys : goal.returns-in-Release-clause-obeys
returns-in-Release-clause-obeys g c =
    let files = g.S.Source.files c.args.source.now in
    let text = string_bytes c.args.self.now.text in
    let text2 = string_bytes c.release.new.self.text in
    on_ok_then c.release.result c.release.ensures.obeys (λ obeys.
    subst (λ k. Obeys files c.args.number (command_of k) c.args.self.now.script_host text c.release.new.self.script_host text2) (sym c.in-Release.is) (obeys files))

pub returns-in-Drain-clause-obeys : goal.returns-in-Drain-clause-obeys
returns-in-Drain-clause-obeys g c =
    let e = c.args.self.now.script_host in
    let text = string_bytes c.args.self.now.text in
    let files = g.S.Source.files c.args.source.now in
    subst (λ k. Obeys files c.args.number (command_of k) e text e text) (sym c.in-Drain.is) (only_drained files c.args.number e text)

-- ---- what the host does

pub returns-in-Module-clause-scans : goal.returns-in-Module-clause-scans
returns-in-Module-clause-scans g c = not_the _ c.module.result c.args.command (Module c.in-Module.name c.in-Module.bytes) Scan c.in-Module.is (λ same. absurd (cc same))

pub returns-in-Load-clause-scans : goal.returns-in-Load-clause-scans
returns-in-Load-clause-scans g c = not_the _ c.load.result c.args.command (Load c.in-Load.name c.in-Load.path) Scan c.in-Load.is (λ same. absurd (cc same))

pub returns-in-Admit-clause-scans : goal.returns-in-Admit-clause-scans
returns-in-Admit-clause-scans g c = not_the _ c.admit.result c.args.command (Admit c.in-Admit.inst c.in-Admit.module c.in-Admit.given) Scan c.in-Admit.is (λ same. absurd (cc same))

pub returns-in-Act-clause-scans : goal.returns-in-Act-clause-scans
returns-in-Act-clause-scans g c = not_the _ c.act.result c.args.command (Act c.in-Act.inst c.in-Act.action) Scan c.in-Act.is (λ same. absurd (cc same))

pub returns-in-Release-clause-scans : goal.returns-in-Release-clause-scans
returns-in-Release-clause-scans g c = not_the _ c.release.result c.args.command (Release c.in-Release.inst) Scan c.in-Release.is (λ same. absurd (cc same))

pub returns-in-Scan-clause-scans : goal.returns-in-Scan-clause-scans
returns-in-Scan-clause-scans g c = on_ok_then c.scan.result c.scan.ensures.scans (λ does same. does)

pub returns-in-Report-clause-scans : goal.returns-in-Report-clause-scans
returns-in-Report-clause-scans g c = not_the _ c.report.result c.args.command Report Scan c.in-Report.is (λ same. absurd (cc same))

pub returns-in-Drain-clause-scans : goal.returns-in-Drain-clause-scans
returns-in-Drain-clause-scans g c = not_the _ (Ok tt) c.args.command Drain Scan c.in-Drain.is (λ same. absurd (cc same))

pub returns-in-Module-clause-shows : goal.returns-in-Module-clause-shows
returns-in-Module-clause-shows g c = not_the _ c.module.result c.args.command (Module c.in-Module.name c.in-Module.bytes) Report c.in-Module.is (λ same. absurd (cc same))

pub returns-in-Load-clause-shows : goal.returns-in-Load-clause-shows
returns-in-Load-clause-shows g c = not_the _ c.load.result c.args.command (Load c.in-Load.name c.in-Load.path) Report c.in-Load.is (λ same. absurd (cc same))

pub returns-in-Admit-clause-shows : goal.returns-in-Admit-clause-shows
returns-in-Admit-clause-shows g c = not_the _ c.admit.result c.args.command (Admit c.in-Admit.inst c.in-Admit.module c.in-Admit.given) Report c.in-Admit.is (λ same. absurd (cc same))

pub returns-in-Act-clause-shows : goal.returns-in-Act-clause-shows
returns-in-Act-clause-shows g c = not_the _ c.act.result c.args.command (Act c.in-Act.inst c.in-Act.action) Report c.in-Act.is (λ same. absurd (cc same))

pub returns-in-Release-clause-shows : goal.returns-in-Release-clause-shows
returns-in-Release-clause-shows g c = not_the _ c.release.result c.args.command (Release c.in-Release.inst) Report c.in-Release.is (λ same. absurd (cc same))

pub returns-in-Scan-clause-shows : goal.returns-in-Scan-clause-shows
returns-in-Scan-clause-shows g c = not_the _ c.scan.result c.args.command Scan Report c.in-Scan.is (λ same. absurd (cc same))

pub returns-in-Report-clause-shows : goal.returns-in-Report-clause-shows
returns-in-Report-clause-shows g c = on_ok_then c.report.result c.report.ensures.shows (λ does same. does)

pub returns-in-Drain-clause-shows : goal.returns-in-Drain-clause-shows
returns-in-Drain-clause-shows g c = not_the _ (Ok tt) c.args.command Drain Report c.in-Drain.is (λ same. absurd (cc same))
