use Rattle.std.proofs.Common.{◌≡◌, ◌++◌, ◌∙◌, List, ap, map, sym}
use Rattle.std.proofs.lemmas.List.{append-nil}
use Rattle.std.specs.Global.{Vec}
use Rattle.wh_host.specs.declared.rolling.RollInstance.{RollInstance}
use Rattle.wh_host.specs.Hosting.{entry_at}
use Rattle.wh_host.specs.Rolls.{listed_by, listed_in, view_listed}
use Rattle.wh_host.proofs.Enrolling.{listed_step, pushed_listed}
use Rattle.wh_host.proofs.rolling.all_enrolled.Goals as goal
use Rattle.wh_host.proofs.rolling.all_enrolled.Goals.{in-Some+in_ok-enrolled_by+in_ok-push, in_default}

pub loop-at-preserved : goal.loop-at-preserved
loop-at-preserved c =
    let rs = c.args.entries.now.slots in
    let instance_ref = c.ref_at-instance_ref.result in
    let before = map view_listed c.loop-at.list.items in
    let items : Vec RollInstance → List RollInstance = λ v. v.items in
    let more : map view_listed c.match-get.list.items ≡ before ++ listed_in instance_ref (entry_at rs instance_ref.place) =
    elim c.match-get.branch [
      | in-Some+in_ok-enrolled_by+in_ok-push w ↦ ap (λ v. map view_listed (items v)) w.list-is
          ∙ pushed_listed c.loop-at.list.items w.push.new.self.items w.in_ok-enrolled_by.field-0 (listed_by instance_ref w.in-Some.entry.now) w.in_ok-push.ensures.items w.in_ok-enrolled_by.ensures
          ∙ ap (λ o. before ++ listed_in instance_ref o) w.in-Some.ensures
      | in_default w ↦ ap (λ v. map view_listed (items v)) w.list-is ∙ sym (append-nil before) ∙ ap (λ o. before ++ listed_in instance_ref o) w.in_default.ensures
    ] in
    listed_step rs c.args.instance_refs.now c.loop-at.at instance_ref before (map view_listed c.match-get.list.items) c.ref_at-instance_ref.ensures c.loop-at.invariant more
