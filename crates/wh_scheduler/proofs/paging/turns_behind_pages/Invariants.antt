use Rattle.std.proofs.Common.{◌+◌, ◌*◌, ◌^◌, ◌<◌, ◌≤◌}
use Rattle.wh_cell.specs.Owning.{ComesOn}
use Rattle.wh_scheduler.specs.InHand.{WorksHere, left_of}
use Rattle.wh_scheduler.proofs.paging.turns_behind_pages.Given as goal

abbrev pub invariant-loop : goal.invariant-loop
invariant-loop g l =
    (l.turns + l.spare + 4096 * l.fn.host.own.evictions ≤ l.given + 4096 * l.host.own.evictions)
    × ComesOn g.D.SwapDev.keeps g.D.SwapDev.honest g.D.SwapDev.faults (left_of l.fn.host) (left_of l.host)
    × WorksHere l.fn.host.books l.fn.host.own l.turns 0 l.host.books l.host.own
    × (0 < l.turns → l.host.own.turns < 2 ^ 64)
