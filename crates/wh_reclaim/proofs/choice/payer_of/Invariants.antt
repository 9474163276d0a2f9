use Rattle.wh_reclaim.specs.Choosing.{IsPayerBelow}
use Rattle.wh_reclaim.proofs.choice.payer_of.Given as goal

-- the one that pays so far
abbrev pub invariant-loop-place : goal.invariant-loop-place
invariant-loop-place l = IsPayerBelow l.memory l.place l.payer
