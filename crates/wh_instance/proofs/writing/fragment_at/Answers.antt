use Rattle.std.proofs.Common.{rules}
use Rattle.wh_instance.proofs.Cutting.{next_fragment, byte_low}
use Rattle.wh_instance.proofs.writing.fragment_at.Goals as goal

pub returns-clause-next : goal.returns-clause-next
returns-clause-next c = search (rules, next_fragment, byte_low)
