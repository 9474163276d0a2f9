use Rattle.std.proofs.Common.{arith}
use Rattle.wh_space.proofs.memory.Memory.has_few_pages.Goals as goal

pub overflow_add-result : goal.overflow_add-result
overflow_add-result c = omega arith
