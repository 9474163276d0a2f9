use Rattle.std.proofs.Common.{◌≡◌, ◌+◌, ◌<◌, Some, slice_get, vec_len}
use Rattle.crossbeam_channel.specs.Claims.{view, IsSeatAt}
use Rattle.crossbeam_channel.specs.Ends.{sends_on, receives_on}
use Rattle.wh_threads.specs.Counting.{turns_of}
use Rattle.wh_workers.specs.EachAt.{EachAt}
use Rattle.wh_threads.specs.Handover.{turns_in}
use Rattle.wh_workers.proofs.crew.join_all.Given as goal

abbrev pub decreases-loop-handle : goal.decreases-loop-handle
decreases-loop-handle g l = vec_len l.running

abbrev pub invariant-loop-handle : goal.invariant-loop-handle
invariant-loop-handle g l =
    IsSeatAt (sends_on l.sender) l.slip
    × (0 < (view l.slip).parts)
    × ((view l.slip).sent ≡ (view l.fn.slip).sent)
    × ((view l.slip).parts + vec_len l.running ≡ (view l.fn.slip).parts + vec_len l.fn.running)
    × EachAt l.running.items (λ i h.
    (slice_get l.lender.tallies i ≡ Some h.promise.from)
    × (receives_on h.promise.receiver.value ≡ sends_on l.sender))
    × (turns_of l.lender.tallies + turns_in (view l.fn.slip).received
    ≡ turns_of l.fn.lender.tallies + turns_in (view l.slip).received)
    × (l.lender.workers_out + vec_len l.fn.running ≡ l.fn.lender.workers_out + vec_len l.running)
    × (l.lender ≡ record l.fn.lender { tallies = l.lender.tallies; workers_out = l.lender.workers_out })
