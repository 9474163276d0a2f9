use Rattle.std.proofs.Common.{[], ◌≢◌, sym, subst}
use Rattle.std.specs.Global.{Vec}
use Rattle.wh_space_model.specs.declared.plain.InstId.{InstId}
use Rattle.wh_engine.specs.Draining.{SomeGoes}
use Rattle.wh_engine.proofs.asked_instances.going.Goals as goal
use Rattle.wh_engine.proofs.asked_instances.going.Goals.{then-can_go_on+in_ok-push, else-can_go_on}

pub loop-id-init : goal.loop-id-init
loop-id-init c e = absurd (e c.new-going.ensures.items)

pub loop-id-preserved : goal.loop-id-preserved
loop-id-preserved c =
    elim c.if-can_go_on.branch [
      | then-can_go_on+in_ok-push w ↦ (λ e. (_, w.if-can_go_on.ensures))
      | else-can_go_on w ↦ subst (λ (ids : Vec InstId). ids.items ≢ [] → SomeGoes c.args.host.now) (sym w.going-is) c.loop-id.invariant
    ]
