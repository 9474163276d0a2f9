use Rattle.std.proofs.Common.{◌≡◌, length}
use Rattle.wh_journal.proofs.Parts.{all_ended}
use Rattle.wh_journal.proofs.journal.Journal.end_all.Given as goal

-- the calls would end as from the beginning
abbrev pub invariant-loop-self : goal.invariant-loop-self
invariant-loop-self l = all_ended l.self ≡ all_ended l.initial.self

abbrev pub decreases-loop-self : goal.decreases-loop-self
decreases-loop-self l = length l.self.open_calls
