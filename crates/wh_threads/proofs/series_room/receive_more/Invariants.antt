use Rattle.std.proofs.Common.{◌≡◌, ◌+◌, ◌-◌, ◌*◌, ◌^◌, ◌≤◌, vec_len, vec_capacity}
use Rattle.crossbeam_channel.specs.Claims.{view, IsSeatAt}
use Rattle.crossbeam_channel.specs.Ends.{receives_on}
use Rattle.wh_threads.specs.Handover.{turns_in}
use Rattle.wh_threads.specs.Working.{turns_due}
use Rattle.wh_threads.proofs.series_room.receive_more.Given as goal

abbrev pub decreases-loop-orders : goal.decreases-loop-orders
decreases-loop-orders g l = 64 - vec_len l.orders

abbrev pub invariant-loop-orders : goal.invariant-loop-orders
invariant-loop-orders g l =
    IsSeatAt (receives_on l.receiver) l.slip
    × (view l.slip ≡ record (view l.fn.slip) { received = (view l.slip).received })
    × (turns_in (view l.slip).received + turns_due l.fn.orders.items
    ≡ turns_in (view l.fn.slip).received + turns_due l.orders.items)
    × (turns_due l.orders.items ≤ vec_len l.orders * (2 ^ 32 - 1))
    × (vec_len l.orders ≤ 64)
    × (vec_capacity l.orders ≡ vec_capacity l.fn.orders)
