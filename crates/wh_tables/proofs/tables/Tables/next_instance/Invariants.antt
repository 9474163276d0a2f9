use Rattle.wh_tables.proofs.Lines.{IsSoughtFrom}
use Rattle.wh_tables.proofs.tables.Tables.next_instance.Given as goal

-- nobody so far comes later than the number
abbrev pub invariant-loop-rank : goal.invariant-loop-rank
invariant-loop-rank l = IsSoughtFrom l.fn.self.pages l.fn.self.numbers l.fn.after l.line l.rank
