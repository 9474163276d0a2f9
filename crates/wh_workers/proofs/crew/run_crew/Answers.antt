use Rattle.std.proofs.Common.{◌∙◌, slice_get}
use Rattle.crossbeam_channel.specs.Claims.{view}
use Rattle.wh_workers.proofs.Turns.{turns_handed, turns_still}
use Rattle.wh_workers.proofs.crew.run_crew.Goals.{in-Ok-started, in-Err}
use Rattle.wh_workers.proofs.crew.run_crew.Goals as goal

pub returns-clause-dispatched : goal.returns-clause-dispatched
returns-clause-dispatched g c =
    let sent = c.join_all.ensures.sent in
    elim c.match-started.branch [
      | in-Ok-started w ↦
          rw w.turns-is (
          turns_handed _ _ _ _ _ w.dispatch_all.ensures.out (sent ∙ (λ i. (view (w.slip-is i)).sent))
          )
      | in-Err w ↦
          rw w.turns-is (
          turns_still _ _ (sent ∙ (λ i. (view (w.slip-is i)).sent)) _ _
          (c.start_all-running.ensures.dispatched _ _ c.requires.begun)
          )
    ]

pub dispatch_all-requires-clause-begun : goal.dispatch_all-requires-clause-begun
dispatch_all-requires-clause-begun g c = λ lifetimes lives. c.start_all-running.ensures.dispatched _ _ c.requires.begun

pub join_all-requires-clause-running : goal.join_all-requires-clause-running
join_all-requires-clause-running g c =
    let running = c.start_all-running.ensures.running in
    elim c.match-started.branch [
      | in-Ok-started w ↦ λ i h at. (
        (λ j. slice_get ((w.lender-is ∙ w.dispatch_all.ensures.only) j).tallies i) ∙ (running i h at).0,
        (running i h at).1,
      )
      | in-Err w ↦ λ i h at. ((λ j. slice_get (w.lender-is j).tallies i) ∙ (running i h at).0, (running i h at).1)
    ]
