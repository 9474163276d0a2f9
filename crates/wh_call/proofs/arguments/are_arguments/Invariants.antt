use Rattle.std.proofs.Common.{drop}
use Rattle.wh_call.specs.Arguments.{Arguments}
use Rattle.wh_call.proofs.arguments.are_arguments.Given as goal

abbrev pub invariant-loop-at : goal.invariant-loop-at
invariant-loop-at l = record {
  forward : Arguments (drop l.at l.params) (drop l.at l.args) → Arguments l.params l.args;
  back : Arguments l.params l.args → Arguments (drop l.at l.params) (drop l.at l.args);
}
