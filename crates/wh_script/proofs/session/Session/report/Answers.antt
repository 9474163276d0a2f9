use Rattle.std.proofs.Common.{◌∙◌, ap, subst, string_bytes}
use Rattle.wh_host.specs.Reporting.{ReportsHost, view_report}
use Rattle.wh_scheduler.specs.InHand.{OwnedState}
use Rattle.wh_script.proofs.Obeyed.{reported}
use Rattle.wh_script.proofs.session.Session.report.Goals as goal

pub returns-clause-obeys : goal.returns-clause-obeys
returns-clause-obeys g c files number =
    let report = view_report c.in-Ok.report in
    let reports = subst (λ h. ReportsHost h report) (c.host-2.ensures ∙ ap (λ (o : OwnedState g.row.D.Denot). o.host) c.host.ensures) c.in-Ok.ensures.ok in
    reported files number c.args.self.now.script_host (string_bytes c.args.self.now.text) (string_bytes c.write_report.new.text) report reports c.in-Ok-write_report.ensures

pub returns-clause-shows : goal.returns-clause-shows
returns-clause-shows g c =
    let report = view_report c.in-Ok.report in
    let reports = subst (λ h. ReportsHost h report) (c.host-2.ensures ∙ ap (λ (o : OwnedState g.row.D.Denot). o.host) c.host.ensures) c.in-Ok.ensures.ok in
    (report, reports, c.in-Ok-write_report.ensures)
