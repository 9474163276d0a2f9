use Rattle.std.proofs.Common.{IfSome}
use Rattle.wh_tables.specs.Order.{StandsOn}
use Rattle.test_parts.proofs.kept.Kept.list_on.Given as goal

-- the page that comes next stands on the frame
abbrev pub invariant-loop : goal.invariant-loop
invariant-loop l = IfSome l.at (StandsOn l.fn.self.pages l.fn.frame)
