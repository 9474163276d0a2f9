use Rattle.wh_space.proofs.Copying.{IsLending}
use Rattle.wh_space.proofs.memory.Memory.lend_all.Given as goal

-- the first pages are lent, and the others can be
abbrev pub invariant-loop-number : goal.invariant-loop-number
invariant-loop-number l = IsLending l.initial.self l.from l.place l.number l.pages l.self
