use Rattle.std.proofs.Common.{◌≡◌}
use Rattle.test_space.proofs.beside.run_two.Given as goal

abbrev pub invariant-loop : goal.invariant-loop
invariant-loop l =
    (l.places ≡ l.fn.places)
    × (l.here.lower ≡ l.fn.memory)
    × (l.here.place ≡ l.fn.places.0)
    × (l.there.lower ≡ l.fn.memory)
    × (l.there.place ≡ l.fn.places.1)
    × (l.here.upper.lent ≡ l.fn.uppers.0.lent)
    × (l.there.upper.lent ≡ l.fn.uppers.1.lent)
