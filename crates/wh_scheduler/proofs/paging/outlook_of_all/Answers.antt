use Rattle.std.proofs.Common.{◌≡◌, Some, get_or, slice_get, arith}
use Rattle.std.proofs.lemmas.Option.{slice_get-get_or}
use Rattle.wh_space_model.specs.declared.plain.InstId.{InstId}
use Rattle.wh_scheduler.specs.InHand.{Rests}
use Rattle.wh_scheduler.proofs.OwnTurns.{all_below, one_more}
use Rattle.wh_scheduler.proofs.paging.outlook_of_all.Goals.{in-Waits, in-Rests}
use Rattle.wh_scheduler.proofs.paging.outlook_of_all.Goals as goal

pub loop-at-preserved : goal.loop-at-preserved
loop-at-preserved c =
    let id : InstId = get_or c.args.ids.now c.loop-at.at (record { place = 0; number = 0 }) in
    let there : slice_get c.args.ids.now c.loop-at.at ≡ Some id =
    slice_get-get_or c.args.ids.now c.loop-at.at (record { place = 0; number = 0 }) (omega (arith, c.loop-at-test.true, c.loop-at.auto.at-end)) in
    elim c.match-outlook_of.branch [
      | in-Waits w ↦ rw w.all-is (λ none. absurd (cc none))
      | in-Rests w ↦
          rw w.all-is (λ none. one_more Rests c.args.host.now c.args.ids.now c.loop-at.at id (c.loop-at.invariant none) there (c.outlook_of.ensures.rests w.in-Rests.is))
    ]

pub returns : goal.returns
returns c = λ none.
    all_below Rests c.args.host.now c.args.ids.now c.loop-at.at (omega (arith, c.loop-at-test.false, c.loop-at.auto.at-end)) (c.loop-at.invariant none)
