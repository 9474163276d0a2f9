use Rattle.std.proofs.Common.{arith}
use Rattle.wh_model.specs.Validity.{WithinBound, most_pages}
use Rattle.wh_syntax.specs.View.{view_limits}
use Rattle.wh_validate.proofs.Lists.{one_all}
use Rattle.wh_validate.proofs.sizes.check_memories.Goals as goal

pub returns-in-len1-clause-decides : goal.returns-in-len1-clause-decides
returns-in-len1-clause-decides c = (omega (arith, c.in-len1.len_below), one_all (λ l. WithinBound most_pages (view_limits l)) c.args.memories.now _ c.in-len1.len_below c.if-is_memory.ensures)
