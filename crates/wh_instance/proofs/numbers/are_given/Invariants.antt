use Rattle.std.proofs.Common.{drop}
use Rattle.wh_instance.proofs.Given.{AreGiven}
use Rattle.wh_instance.proofs.numbers.are_given.Given as goal

abbrev pub invariant-loop-at : goal.invariant-loop-at
invariant-loop-at l = record {
  forward : AreGiven (drop l.at l.params) (drop l.at l.given) → AreGiven l.params l.given;
  back : AreGiven l.params l.given → AreGiven (drop l.at l.params) (drop l.at l.given);
}
