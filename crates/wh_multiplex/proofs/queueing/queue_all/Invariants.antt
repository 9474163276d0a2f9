-- Frames that carry what stands before the rest were appended.
use Rattle.std.proofs.Common.{◌≡◌, ℕ, List, ◌++◌, length}
use Rattle.wh_multiplex.specs.declared.frame.StreamFrame.{StreamFrame}
use Rattle.wh_multiplex.specs.StreamFrames.{stream_bytes}
use Rattle.wh_multiplex.specs.Multiplexing.{Carries}
use Rattle.wh_multiplex.proofs.queueing.queue_all.Given as goal

abbrev pub invariant-loop-rest : goal.invariant-loop-rest
invariant-loop-rest l =
    (went : List ℕ) × (parts : List StreamFrame) × (l.fn.bytes ≡ went ++ l.rest) × Carries l.fn.connection went parts
    × (l.queue.items ≡ l.fn.queue.items ++ stream_bytes parts)

abbrev pub decreases-loop-rest : goal.decreases-loop-rest
decreases-loop-rest l = length l.rest
