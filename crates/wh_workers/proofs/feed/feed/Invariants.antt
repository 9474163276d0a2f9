use Rattle.std.proofs.Common.{◌≡◌}
use Rattle.crossbeam_channel.specs.Claims.{view, IsSeatAt}
use Rattle.crossbeam_channel.specs.Ends.{sends_on}
use Rattle.wh_threads.specs.Handover.{Dispatches}
use Rattle.wh_workers.specs.LentHelpers.{AreLent}
use Rattle.wh_workers.proofs.feed.feed.Given as goal

abbrev pub invariant-loop : goal.invariant-loop
invariant-loop g l =
    (goal.iterator-loop g).can_next l.iterator' × (goal.iterator-loop g).is_finite l.iterator'
    × IsSeatAt (sends_on l.sender) l.slip
    × Dispatches (view l.fn.slip) l.count l.quantum (view l.slip)
    × AreLent l.helpers.scanner l.helpers.reclaimer l.lender
    × (l.lender ≡ record l.fn.lender {
      scanners_out = l.lender.scanners_out;
      reclaimers_out = l.lender.reclaimers_out;
    })
