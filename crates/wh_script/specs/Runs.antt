-- What a run of a script reads and writes.
use Rattle.std.specs.Prelude.{◌≡◌, ◌≢◌, ℕ, ◌+◌, true, List, [], ◌∷◌, ◌++◌, All, Result, Ok, Err, Option, None, Some, ⊤, ◌⊎◌}
use Rattle.std.specs.Io.KnownBytes.{Appends}
use Rattle.wh_script_model.specs.Lines.{lines_of}
use Rattle.wh_script_model.specs.Settings.{Settings}
use Rattle.wh_script_model.specs.Texts.{Reply}
use Rattle.wh_script_model.specs.ScriptState.{ScriptState, empty_script, SomeCallMayGo}
use Rattle.wh_script_model.specs.Drains.{DrainRule, Drains}
use Rattle.wh_script_model.specs.Answers.{Files, AnswersLine, AnswersLines, AnswersScript, replies_text}
use Rattle.wh_script.specs.declared.fault.ScriptFault.{ScriptFault}
use Rattle.wh_script.specs.declared.fault.ScriptFault.TheVariants.{Script, Output, Memory, Transcript}
use Rattle.wh_script.specs.Speaking.{IsLineText}

-- ---- lines

-- the lines of the script, where its bytes are known
abbrev pub AreLines : Option (List ℕ) → List (List ℕ) → Type 0
AreLines None lines = ⊤
AreLines (Some script) lines = lines ≡ lines_of script

-- its first lines
abbrev pub AreFirstLines : Option (List ℕ) → List (List ℕ) → Type 0
AreFirstLines None lines = ⊤
AreFirstLines (Some script) lines = (others : List (List ℕ)) × (lines_of script ≡ lines ++ others)

-- The lines that the reader gave: what it gave after them is less than a line, and the other lines of the script are in this and
-- in what it has left.
abbrev pub GaveLines : Option (List ℕ) → Option (List ℕ) → List (List ℕ) → Type 0
GaveLines None left lines = ⊤
GaveLines (Some script) None lines = ⊥
GaveLines (Some script) (Some left) lines =
    (given begun : List ℕ) × (script ≡ given ++ begun ++ left) × All (λ b. b ≢ 10) begun
    × (lines_of script ≡ lines ++ lines_of (begun ++ left))

-- ---- texts

-- the known bytes grew by a beginning of the text
abbrev pub AppendsFront : Option (List ℕ) → Option (List ℕ) → List ℕ → Type 0
AppendsFront old new text = (front back : List ℕ) × (text ≡ front ++ back) × Appends old new front

-- a text was written: whole at Ok, a beginning of it where the writer failed
abbrev pub Sent : Option (List ℕ) → Option (List ℕ) → Result Unit ScriptFault → List ℕ → Type 0
Sent old new (Ok _) text = Appends old new text
Sent old new (Err Output) text = AppendsFront old new text
Sent old new (Err fault) text = ⊥

-- What lines say, where drains are such. `Runs` is the reading of it in which no call of a device fails.
module _ (Drain : DrainRule) (settings : Settings) (files : Files) where
  -- The lines get these replies, the first line having this number, and the text is made of those of the lines, one after
  -- the other.
  abbrev pub LinesSay : ScriptState → ℕ → List (List ℕ) → List Reply → List ℕ → ScriptState → Type 0
  LinesSay w number [] replies text w2 = (replies ≡ []) × (text ≡ []) × (w2 ≡ w)
  LinesSay w number (line ∷ lines) replies text w2 =
      (here rest : List Reply) × (now later : List ℕ) × (between : ScriptState) × (replies ≡ here ++ rest)
      × (text ≡ now ++ later) × AnswersLine Drain true settings files w number line here between
      × IsLineText settings number line between here now
      × LinesSay between (number + 1) lines rest later w2

  -- these faults of the device being met
  module _ (faults : List ℕ) where
    -- The text answers the whole script: it is that of the lines, and of the replies to the drain after them.
    pub record IsWhole (lines : List (List ℕ)) (text : List ℕ) : Type 0 where
      pub replies : List Reply
      pub front : List ℕ
      pub answers : AnswersScript Drain true settings files lines replies
      pub says : LinesSay empty_script 1 lines answers.to_lines front answers.before
      pub is : text ≡ front ++ replies_text answers.last
      pub met : faults ≡ answers.after.faults_met

    -- or these lines, with no drain after them; faults may have been met since
    pub record IsPartial (lines : List (List ℕ)) (text : List ℕ) : Type 0 where
      pub replies : List Reply
      pub made : ScriptState
      pub since : List ℕ
      pub answers : AnswersLines Drain true settings files empty_script 1 lines replies made
      pub says : LinesSay empty_script 1 lines replies text made
      pub met : faults ≡ since ++ made.faults_met

    -- and after them a call can make progress: it is open, is blocked on no fault, and has fuel left or took no charge
    pub record IsPartialAtCall (lines : List (List ℕ)) (text : List ℕ) : Type 0 where
      pub partial : IsPartial lines text
      pub may_go : SomeCallMayGo partial.made

    -- ---- runs

    -- what answers the first lines was written
    abbrev pub StopsBetween : Option (List ℕ) → Option (List ℕ) → Option (List ℕ) → Type 0
    StopsBetween script before after =
        (lines : List (List ℕ)) × (text : List ℕ) × AreFirstLines script lines × IsPartial lines text × Appends before after text

    -- and an instance that these have made has a call that may go on
    abbrev pub StopsAtCalls : Option (List ℕ) → Option (List ℕ) → Option (List ℕ) → Type 0
    StopsAtCalls script before after =
        (lines : List (List ℕ)) × (text : List ℕ) × AreFirstLines script lines × IsPartialAtCall lines text
        × Appends before after text

    -- What a run did, from the script to what the reader has left, and from the writer's bytes before to those after, by
    -- how it ended. To the end: what answers the script was written. Where the writer failed: a beginning of what answers
    -- the first lines. Where the reader failed: what answers the lines that it gave. Where memory ran out: what answers
    -- the first lines. Where calls didn't run to their ends: what answers the first lines, after which a call can make progress.
    -- It ends in no other way.
    abbrev pub ScriptRuns : Option (List ℕ) → Option (List ℕ) → Option (List ℕ) → Option (List ℕ) → Result Unit ScriptFault
        → Type 0
    ScriptRuns script left before after (Ok _) =
        (lines : List (List ℕ)) × (text : List ℕ) × AreLines script lines × IsWhole lines text × Appends before after text
    ScriptRuns script left before after (Err Output) =
        (lines : List (List ℕ)) × (text : List ℕ) × AreFirstLines script lines × (IsPartial lines text ⊎ IsWhole lines text)
        × AppendsFront before after text
    ScriptRuns script left before after (Err Script) =
        (lines : List (List ℕ)) × (text : List ℕ) × GaveLines script left lines × IsPartial lines text × Appends before after text
    ScriptRuns script left before after (Err Memory) = StopsBetween script before after
    ScriptRuns script left before after (Err Transcript) = StopsAtCalls script before after

-- where no call of a device fails: no drain meets a fault
abbrev pub Runs : Settings → Files → Option (List ℕ) → Option (List ℕ) → Option (List ℕ) → Option (List ℕ)
    → Result Unit ScriptFault → Type 0
Runs settings files = ScriptRuns Drains settings files []
