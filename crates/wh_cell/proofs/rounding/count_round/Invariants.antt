use Rattle.std.proofs.Common.{◌≡◌, ◌+◌, take}
use Rattle.wh_threads.specs.Counting.{RanTurns}
use Rattle.wh_cell.specs.RoundCounts.{charges_of_round, turns_of_round}
use Rattle.wh_cell.proofs.RoundTurns.{CountedSoFar}
use Rattle.wh_cell.proofs.rounding.count_round.Given as goal

abbrev pub invariant-loop-at : goal.invariant-loop-at
invariant-loop-at g l = record {
  orders : CountedSoFar l.runners l.fn.orders l.orders l.at;
  worker : RanTurns l.fn.worker (turns_of_round (take l.at l.runners)) (charges_of_round (take l.at l.runners)) l.worker;
  books : l.books ≡ record l.fn.books {
    turns = l.fn.books.turns + turns_of_round (take l.at l.runners);
    charges = l.fn.books.charges + charges_of_round (take l.at l.runners);
  };
}
