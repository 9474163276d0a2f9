use Rattle.std.proofs.Common.{◌≡◌}
use Rattle.test_desk.proofs.seen.lived.Given as goal

abbrev pub invariant-loop-at : goal.invariant-loop-at
invariant-loop-at g l = l.begun.share.parts ≡ l.fn.begun.share.parts
