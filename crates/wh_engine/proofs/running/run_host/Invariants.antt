use Rattle.wh_cell.specs.Owning.{ComesOn}
use Rattle.wh_scheduler.specs.InHand.{left_of}
use Rattle.wh_engine.specs.Draining.{HasRunFew, RanInParts}
use Rattle.wh_engine.proofs.running.run_host.Given as goal

abbrev pub invariant-loop : goal.invariant-loop
invariant-loop g l =
    (goal.iterator-loop g).can_next l.iterator' × (goal.iterator-loop g).is_finite l.iterator'
    × ComesOn g.D.SwapDev.keeps g.D.SwapDev.honest g.D.SwapDev.faults (left_of l.fn.host) (left_of l.host)
    × RanInParts l.run_config.quantum l.fn.host.books l.fn.host.own l.host.books l.host.own
    × HasRunFew l.fn.host.own l.host.own
