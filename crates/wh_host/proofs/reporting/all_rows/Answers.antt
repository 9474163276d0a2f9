use Rattle.std.proofs.Common.{◌≡◌, ◌++◌, ◌∙◌, List, ap, map, sym}
use Rattle.std.proofs.lemmas.List.{append-nil}
use Rattle.std.specs.Global.{Vec}
use Rattle.wh_host.specs.declared.report.InstanceReport.{InstanceReport}
use Rattle.wh_host.specs.Hosting.{entry_at}
use Rattle.wh_host.specs.InstanceRefs.{row_at, row_by}
use Rattle.wh_host.specs.Reporting.{view_row}
use Rattle.wh_host.proofs.Reports.{row_pushed, row_step}
use Rattle.wh_host.proofs.reporting.all_rows.Goals as goal
use Rattle.wh_host.proofs.reporting.all_rows.Goals.{in-Some+in_ok-push, in_default}

pub loop-at-preserved : goal.loop-at-preserved
loop-at-preserved c =
    let s = c.args.memory.now in
    let rs = c.args.entries.now.slots in
    let instance_ref = c.ref_at-instance_ref.result in
    let before = map view_row c.loop-at.rows.items in
    let items : Vec InstanceReport → List InstanceReport = λ v. v.items in
    let more : map view_row c.match-get.rows.items ≡ before ++ row_at s instance_ref (entry_at rs instance_ref.place) =
    elim c.match-get.branch [
      | in-Some+in_ok-push w ↦ ap (λ v. map view_row (items v)) w.rows-is
          ∙ row_pushed c.loop-at.rows.items w.push.new.self.items w.row_of.result (row_by s instance_ref w.in-Some.entry.now) w.in_ok-push.ensures.items w.row_of.ensures
          ∙ ap (λ o. before ++ row_at s instance_ref o) w.in-Some.ensures
      | in_default w ↦ ap (λ v. map view_row (items v)) w.rows-is ∙ sym (append-nil before) ∙ ap (λ o. before ++ row_at s instance_ref o) w.in_default.ensures
    ] in
    row_step s rs c.args.instance_refs.now c.loop-at.at instance_ref before (map view_row c.match-get.rows.items) c.ref_at-instance_ref.ensures c.loop-at.invariant more
