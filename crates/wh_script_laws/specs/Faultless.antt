-- Where no call of a device fails, lines get what they get without the word of it.
use Rattle.std.specs.Prelude.{◌≡◌, ◌↔◌, ℕ, Bool, List, [], None}
use Rattle.std.specs.List.{AllByRecursion}
use Rattle.wh_script_model.specs.Settings.{Settings}
use Rattle.wh_script_model.specs.Texts.{Reply}
use Rattle.wh_script_model.specs.ScriptState.{NamedInstance, ScriptState, empty_script}
use Rattle.wh_script_model.specs.Drains.{Drains}
use Rattle.wh_script_model.specs.Answers.{Files, AnswersLines, AnswersScript}
use Rattle.wh_script_model.specs.Failing.{DrainsAmidFaults}

-- no call of an instance is blocked on a fault
abbrev pub NobodyStands : ScriptState → Type 0
NobodyStands w = AllByRecursion (λ (g : NamedInstance). g.at_fault ≡ None) w.instances

-- so it is of all that lines make
abbrev pub LinesLeaveNobody : Type 0
LinesLeaveNobody =
    (may_run_out : Bool) (settings : Settings) (files : Files) (lines : List (List ℕ)) (replies : List Reply)
    (w : ScriptState) → AnswersLines Drains may_run_out settings files empty_script 1 lines replies w → NobodyStands w

-- without a fault lines get the same in both ways, and make the same
abbrev pub FaultlessLines : Type 0
FaultlessLines =
    (may_run_out : Bool) (settings : Settings) (files : Files) (lines : List (List ℕ)) (replies : List Reply)
    (w : ScriptState)
    → (AnswersLines DrainsAmidFaults may_run_out settings files empty_script 1 lines replies w × (w.faults_met ≡ []))
    ↔ AnswersLines Drains may_run_out settings files empty_script 1 lines replies w

-- and so do scripts
abbrev pub FaultlessScripts : Type 0
FaultlessScripts =
    (may_run_out : Bool) (settings : Settings) (files : Files) (lines : List (List ℕ)) (replies : List Reply)
    → ((amid : AnswersScript DrainsAmidFaults may_run_out settings files lines replies) × (amid.after.faults_met ≡ []))
    ↔ AnswersScript Drains may_run_out settings files lines replies
