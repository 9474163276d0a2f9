use Rattle.wh_tables.proofs.Newcomers.{kept_empty}
use Rattle.wh_tables.proofs.tables.Tables.new.Goals as goal

pub invariant_of-result : goal.invariant_of-result
invariant_of-result c = rw (c.new-2.ensures.items, c.in_ok-index.ensures) (kept_empty c.args.frames c.ranges.frames.fits)
