-- That answers are determined.
use Rattle.std.specs.Prelude.{◌≡◌, ℕ, Bool, List}
use Rattle.std.specs.List.{AllByRecursion}
use Rattle.wh_model.specs.Execution.Store.{Store}
use Rattle.wh_model.specs.Execution.Instance.{begins, IsInitial}
use Rattle.wh_host_model.specs.Owners.{given_of}
use Rattle.wh_script_model.specs.Texts.{Reply}
use Rattle.wh_script_model.specs.ScriptState.{NamedInstance, ScriptState, empty_script}
use Rattle.wh_script_model.specs.Drains.{RunsAlone, Drains}
use Rattle.wh_script_model.specs.Settings.{Settings}
use Rattle.wh_script_model.specs.Answers.{Files, AnswersLines}

-- it began as its module says
abbrev pub HasBegun : NamedInstance → Type 0
HasBegun g = (s : Store) × IsInitial g.m (given_of g.params) (begins g.inst s g.pieces)

-- the calls of an instance, run alone, come to one end
abbrev pub RunsOnce : Type 0
RunsOnce = (g a b : NamedInstance) → HasBegun g → RunsAlone g a → RunsAlone g b → a ≡ b

-- a drain prints the same lines, and leaves the same
abbrev pub DrainsOnce : Type 0
DrainsOnce =
    (w w2 w3 : ScriptState) (lines lines2 : List Reply) → AllByRecursion HasBegun w.instances → Drains w lines w2
    → Drains w lines2 w3 → (lines ≡ lines2) × (w2 ≡ w3)

-- and each instance that lines have made began so
abbrev pub LinesBegin : Type 0
LinesBegin =
    (may_run_out : Bool) (settings : Settings) (files : Files) (number : ℕ) (lines : List (List ℕ)) (replies : List Reply)
    (w : ScriptState) → AnswersLines Drains may_run_out settings files empty_script number lines replies w
    → AllByRecursion HasBegun w.instances
