use Rattle.std.proofs.Common.{rules}
use Rattle.wh_explain.proofs.settings.answer_of.Goals as goal
use Rattle.wh_explain.proofs.settings.answer_of.Goals.{in-Ok, in-Err-Invalid, in-Err-Memory}

pub returns : goal.returns
returns c =
    elim c.match-read_settings.branch [
      | in-Ok w ↦ search rules
      | in-Err-Invalid w ↦
          rw w.result-is (w.in-Err-Invalid.ensures.err w.in-Err-Invalid.field-0-is)
      | in-Err-Memory w ↦ search rules
    ]
