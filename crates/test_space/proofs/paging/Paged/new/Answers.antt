use Rattle.std.proofs.Common.{subst, sym}
use Rattle.wh_reclaim.specs.Together.{AreTogether}
use Rattle.wh_reclaim.proofs.Together.{new_together}
use Rattle.test_space.proofs.paging.Paged.new.Goals as goal

pub invariant_of-result : goal.invariant_of-result
invariant_of-result g c = record {
  together = subst (AreTogether c.in_ok-new.field-0) (sym c.requires) (new_together c.in_ok-new.field-0 c.args.frames c.args.slots c.args.tax c.in_ok-new.ensures.is);
}
