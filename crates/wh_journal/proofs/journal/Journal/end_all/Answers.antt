use Rattle.std.proofs.Common.{◌∙◌}
use Rattle.wh_journal.proofs.Parts.{one_ended, none_left}
use Rattle.wh_journal.proofs.journal.Journal.end_all.Goals as goal

pub loop-self-preserved : goal.loop-self-preserved
loop-self-preserved c =
    one_ended c.loop-self.self c.end_present-in-loop-self.new.self c.loop-self-test.ensures
    c.end_present-in-loop-self.ensures
    ∙ c.loop-self.invariant

pub returns : goal.returns
returns c = λ call others is.
    none_left c.end_present.new.self c.loop-self.self _ _ _ (c.end_present.ensures call others is) c.loop-self.invariant
    c.loop-self-test.ensures
