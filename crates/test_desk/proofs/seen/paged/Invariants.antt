use Rattle.std.proofs.Common.{◌≡◌}
use Rattle.test_desk.proofs.seen.paged.Given as goal

abbrev pub invariant-loop-page : goal.invariant-loop-page
invariant-loop-page g l = l.begun.share.parts ≡ l.fn.begun.share.parts

abbrev pub invariant-loop-page-2 : goal.invariant-loop-page-2
invariant-loop-page-2 g l = l.begun.share.parts ≡ l.fn.begun.share.parts
