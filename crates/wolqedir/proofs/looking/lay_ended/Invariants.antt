use Rattle.wolqedir.specs.LiveContracts.{HasStatuses}
use Rattle.wolqedir.proofs.looking.lay_ended.Given as goal

abbrev pub invariant-loop-at : goal.invariant-loop-at
invariant-loop-at l = HasStatuses l.hand.host l.id l.from l.at l.initial.room l.room
