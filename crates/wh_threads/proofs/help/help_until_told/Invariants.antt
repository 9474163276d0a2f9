use Rattle.std.proofs.Common.{◌≡◌}
use Rattle.wh_threads.proofs.help.help_until_told.Given as goal

abbrev pub invariant-loop : goal.invariant-loop
invariant-loop g l =
    (goal.iterator-loop g).can_next l.iterator' × (goal.iterator-loop g).is_finite l.iterator'
    × (l.helper.from ≡ l.fn.helper.from)
