use Rattle.std.proofs.Common.{◌≡◌, ◌++◌, ◌∙◌, List, ap, map, sym}
use Rattle.std.proofs.lemmas.List.{append-nil}
use Rattle.std.specs.Global.{Vec}
use Rattle.wh_host.specs.declared.rolling.RollModule.{RollModule}
use Rattle.wh_host.specs.Hosting.{module_in}
use Rattle.wh_host.specs.Rolls.{listed_module, module_by, view_listed_module}
use Rattle.wh_host.proofs.Enrolling.{module_step, pushed_module}
use Rattle.wh_host.proofs.rolling.all_loaded.Goals as goal
use Rattle.wh_host.proofs.rolling.all_loaded.Goals.{in-Some+in_ok-loaded_by+in_ok-push, in_default}

pub loop-at-preserved : goal.loop-at-preserved
loop-at-preserved c =
    let ms = c.args.modules.now.slots in
    let module_ref = c.module_ref_at-module_ref.result in
    let before = map view_listed_module c.loop-at.list.items in
    let items : Vec RollModule → List RollModule = λ v. v.items in
    let more : map view_listed_module c.match-get.list.items ≡ before ++ listed_module module_ref (module_in ms module_ref.place) =
    elim c.match-get.branch [
      | in-Some+in_ok-loaded_by+in_ok-push w ↦ ap (λ v. map view_listed_module (items v)) w.list-is
          ∙ pushed_module c.loop-at.list.items w.push.new.self.items w.in_ok-loaded_by.field-0 (module_by module_ref w.in-Some.module.now) w.in_ok-push.ensures.items w.in_ok-loaded_by.ensures
          ∙ ap (λ o. before ++ listed_module module_ref o) w.in-Some.ensures
      | in_default w ↦ ap (λ v. map view_listed_module (items v)) w.list-is ∙ sym (append-nil before) ∙ ap (λ o. before ++ listed_module module_ref o) w.in_default.ensures
    ] in
    module_step ms c.args.module_refs.now c.loop-at.at module_ref before (map view_listed_module c.match-get.list.items) c.module_ref_at-module_ref.ensures c.loop-at.invariant more
