use Rattle.std.proofs.Common.{take}
use Rattle.std.specs.List.{AllZip}
use Rattle.wh_transcript.specs.RequestedCalls.{IsCallAsked}
use Rattle.wh_transcript.proofs.checking.first_other.Given as goal

-- so far each is the one that was asked for
abbrev pub invariant-loop-at : goal.invariant-loop-at
invariant-loop-at l = AllZip IsCallAsked (take l.at l.requested) (take l.at l.calls)
