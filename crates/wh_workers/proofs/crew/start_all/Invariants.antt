use Rattle.std.proofs.Common.{◌≡◌, ◌+◌, ◌≤◌, Some, slice_get, vec_len, vec_capacity}
use Rattle.crossbeam_channel.specs.Claims.{view, IsSeatAt}
use Rattle.crossbeam_channel.specs.Ends.{sends_on, receives_on}
use Rattle.wh_workers.specs.EachAt.{EachAt}
use Rattle.wh_workers.proofs.crew.start_all.Given as goal

abbrev pub invariant-loop-seat : goal.invariant-loop-seat
invariant-loop-seat g l =
    IsSeatAt (sends_on l.team.sender) l.slip
    × ((view l.slip).sent ≡ (view l.fn.slip).sent)
    × ((view l.slip).received ≡ (view l.fn.slip).received)
    × ((view l.slip).parts + l.seat ≡ 128)
    × (vec_len l.running ≡ l.seat)
    × (l.workers ≤ vec_capacity l.running)
    × (vec_len l.rooms + l.seat ≡ l.workers)
    × EachAt l.running.items (λ i h.
    (slice_get l.lender.tallies i ≡ Some h.promise.from)
    × (receives_on h.promise.receiver.value ≡ sends_on l.team.sender))
    × (l.lender ≡ record l.fn.lender { workers_out = l.seat })
