use Rattle.std.proofs.Common.{◌≡◌, ◌∙◌, Some, inl, inr, get_or, slice_get, subst, true, false, arith}
use Rattle.std.proofs.lemmas.Option.{slice_get-get_or}
use Rattle.wh_space_model.specs.declared.plain.InstId.{InstId}
use Rattle.wh_host.specs.Hosting.{HostState}
use Rattle.wh_host.specs.Paging.{IsAwaiting, IsGoing, Tells}
use Rattle.wh_scheduler.specs.declared.here.Outlook.TheVariants.{Rests as OutlookRests}
use Rattle.wh_scheduler.specs.InHand.{Rests, RestsOrWaits}
use Rattle.wh_scheduler.proofs.OwnTurns.{all_below, one_more, owner_alone, owner_only, ran_one}
use Rattle.wh_scheduler.proofs.here.turn_once_each.Goals.{in-Goes, in-Waits, in-Rests}
use Rattle.wh_scheduler.proofs.here.turn_once_each.Goals as goal

pub loop-at-preserved : goal.loop-at-preserved
loop-at-preserved g c =
    let was = c.loop-at.invariant in
    let id : InstId = get_or c.args.ids.now c.loop-at.at (record { place = 0; number = 0 }) in
    let there : slice_get c.args.ids.now c.loop-at.at ≡ Some id =
    slice_get-get_or c.args.ids.now c.loop-at.at (record { place = 0; number = 0 }) (omega (arith, c.loop-at-test.true, c.loop-at.auto.at-end)) in
    let rests : c.outlook_of.result ≡ OutlookRests → Tells c.loop-at.locked.host false (λ v. IsGoing v id) =
    λ is. subst (λ (h : HostState). Tells h false (λ v. IsGoing v id)) c.host.ensures (c.outlook_of.ensures.rests is) in
    elim c.match-outlook_of.branch [
      | in-Goes w ↦
          (let counted = w.own_turn.ensures.counted in
          rw (w.locked-is, w.shares-is, w.turns-is, w.waits-is) (
            omega (arith, c.if-turns-most.false),
            ran_one _ _ _ _ _ counted.0 _ _ was.1 counted.2 counted.3,
            owner_only c.args.shares.now c.loop-at.shares w.own_turn.new.shares was.2 (owner_alone c.loop-at.shares w.own_turn.new.shares _ counted.2),
            w.own_turn.ensures.known ∙ was.3,
            λ none. absurd (omega (arith, none)),
            λ none no. absurd (omega (arith, none)),
          ))
      | in-Waits w ↦
          rw (w.locked-is, w.shares-is, w.turns-is, w.waits-is) (
            was.0,
            was.1,
            was.2,
            was.3,
            λ none. one_more RestsOrWaits _ _ _ _ (was.4 none) there (inr (subst (λ (h : HostState). Tells h true (λ v. IsAwaiting v id)) c.host.ensures (c.outlook_of.ensures.waits w.in-Waits.is))),
            λ none no. absurd (cc no),
          )
      | in-Rests w ↦
          rw (w.locked-is, w.shares-is, w.turns-is, w.waits-is) (
            was.0,
            was.1,
            was.2,
            was.3,
            λ none. one_more RestsOrWaits _ _ _ _ (was.4 none) there (inl (rests w.in-Rests.is)),
            λ none no. one_more Rests _ _ _ _ (was.5 none no) there (rests w.in-Rests.is),
          )
    ]

pub returns-after-loop-at-clause-waits : goal.returns-after-loop-at-clause-waits
returns-after-loop-at-clause-waits g c = λ none.
    all_below RestsOrWaits _ _ _ (omega (arith, c.loop-at-test.false, c.loop-at.auto.at-end)) (c.loop-at.invariant.4 none)

pub returns-after-loop-at-clause-rests : goal.returns-after-loop-at-clause-rests
returns-after-loop-at-clause-rests g c = λ none no.
    all_below Rests _ _ _ (omega (arith, c.loop-at-test.false, c.loop-at.auto.at-end)) (c.loop-at.invariant.5 none no)
