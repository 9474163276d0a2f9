-- What the text of a line says: its replies, and a report where the line asks for one.
use Rattle.std.specs.Prelude.{◌≡◌, ℕ, List, [], ◌∷◌, ◌++◌}
use Rattle.wh_script_model.specs.Settings.{Settings}
use Rattle.wh_script_model.specs.Commands as asked_of
use Rattle.wh_script_model.specs.Commands.{AsksCommand}
use Rattle.wh_script_model.specs.Answers.{IsRead, replies_text}
use Rattle.wh_script_model.specs.Texts.{Reply, error}
use Rattle.wh_script_model.specs.ScriptState.{ScriptState}
use Rattle.wh_script.specs.Reports.{IsReportOf}

-- the line asks for a report
pub record AsksReport (line : List ℕ) : Type 0 where
  pub is_read : IsRead line
  pub asks : AsksCommand line asked_of.report

-- the line asks for a scan
pub record AsksScan (line : List ℕ) : Type 0 where
  pub is_read : IsRead line
  pub asks : AsksCommand line asked_of.scan

-- memory ran out for the line of this number, as the last of its replies says
abbrev pub EndsOutOfMemory : (number : ℕ) → List Reply → Type 0
EndsOutOfMemory number replies = (before : List Reply) × (replies ≡ before ++ error 5 number ∷ [])

-- The text of a line is that of its replies, in order; and after them stands a report of what the lines have made, where this one
-- asks for it and no memory ran out.
pub data IsLineText (settings : Settings) (number : ℕ) (line : List ℕ) (m : ScriptState) (replies : List Reply)
    : List ℕ → Type 0 where
  prints_replies : (AsksReport line → EndsOutOfMemory number replies)
      → IsLineText settings number line m replies (replies_text replies)
  prints_report : {report : List ℕ} → AsksReport line → ¬ (EndsOutOfMemory number replies) → IsReportOf settings m report
      → IsLineText settings number line m replies (replies_text replies ++ report)
