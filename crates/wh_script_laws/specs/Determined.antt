-- That the answers to a script are determined.
use Rattle.std.specs.Prelude.{◌≡◌, ℕ, true, false, List, Option}
use Rattle.std.specs.List.{AllZip, AllByRecursion}
use Rattle.wh_model.specs.declared.faults.ValidKind.{ValidKind}
use Rattle.wh_model.specs.Format.Numbering.{valid_number}
use Rattle.wh_script_model.specs.Lines.{Place}
use Rattle.wh_host_model.specs.Owners.{IsValidFault}
use Rattle.wh_script_model.specs.Settings.{Settings}
use Rattle.wh_script_model.specs.Commands.{load, AsksCommand}
use Rattle.wh_script_model.specs.Texts.{invalid, Reply, module_refused}
use Rattle.wh_script_model.specs.ScriptState.{ScriptState, empty_script}
use Rattle.wh_script_model.specs.Drains.{Drains}
use Rattle.wh_script_model.specs.Answers.{Files, AnswersLines, AnswersScript}
use Rattle.wh_script_laws.specs.OutOfMemory.{NoneIsOutOfMemory}

-- what the file of a path holds is known, or that there is none
abbrev pub IsKnownFile : Files → List ℕ → Type 0
IsKnownFile files path = (one other : Option (List ℕ)) → files path one ≡ true → files path other ≡ true → one ≡ other

-- so it is for each file that one of the lines loads
abbrev pub AreKnown : Files → List (List ℕ) → Type 0
AreKnown files lines =
    AllByRecursion (λ line. (name path : List ℕ) → AsksCommand line (load name path) → IsKnownFile files path) lines

-- Two replies are the same; or both refuse a module, under one name, for a fault of the validator: which of its faults
-- is named, and where, is left open.
pub data IsAlike : Reply → Reply → Type 0 where
  is_same : {reply : Reply} → IsAlike reply reply
  both_invalid : {name : List ℕ} {place place2 : Place} (kind kind2 : ValidKind)
      → IsValidFault kind → IsValidFault kind2
      → IsAlike (module_refused name (invalid (valid_number kind) place))
      (module_refused name (invalid (valid_number kind2) place2))

-- Where memory can't run out and what is loaded is known, lines get one list of replies, but for that, and make one
-- thing.
abbrev pub LinesAreDetermined : Type 0
LinesAreDetermined =
    (settings : Settings) (files : Files) (lines : List (List ℕ)) (replies replies2 : List Reply) (w w2 : ScriptState)
    → AreKnown files lines → AnswersLines Drains false settings files empty_script 1 lines replies w
    → AnswersLines Drains false settings files empty_script 1 lines replies2 w2
    → AllZip IsAlike replies replies2 × (w ≡ w2)

-- so a script gets one list of replies, but for that
abbrev pub AnswersAreDetermined : Type 0
AnswersAreDetermined =
    (settings : Settings) (files : Files) (lines : List (List ℕ)) (replies replies2 : List Reply) → AreKnown files lines
    → AnswersScript Drains false settings files lines replies → AnswersScript Drains false settings files lines replies2
    → AllZip IsAlike replies replies2

-- and where memory may run out, if none of them names it
abbrev pub AnswersOutOfMemoryAreDetermined : Type 0
AnswersOutOfMemoryAreDetermined =
    (settings : Settings) (files : Files) (lines : List (List ℕ)) (replies replies2 : List Reply) → AreKnown files lines
    → AnswersScript Drains true settings files lines replies → AnswersScript Drains true settings files lines replies2
    → NoneIsOutOfMemory replies → NoneIsOutOfMemory replies2 → AllZip IsAlike replies replies2
