-- What a line gets, and for which script the engine stands then.
use Rattle.std.specs.Prelude.{◌≡◌, ℕ, true, List, [], ◌∷◌, ◌++◌, Option}
use Rattle.wh_script_model.specs.Settings.{Settings}
use Rattle.wh_script_model.specs.Commands.{Command, report, AsksCommand}
use Rattle.wh_script_model.specs.Texts.{Reply, error, reply_text}
use Rattle.wh_script_model.specs.ScriptState.{ScriptState}
use Rattle.wh_script_model.specs.Answers.{Files, IsObeyed, IsRead, AnswersLine}
use Rattle.wh_script_model.specs.Failing.{DrainsAmid, DrainsAmidFaults}
use Rattle.wh_script_laws.specs.Printed.{AllArePrinted, IsWellMade}
use Rattle.wh_host.specs.Reporting.{ReportState, ReportsHost}
use Rattle.wh_replies.specs.ReportTexts.{report_text}
use Rattle.wh_cell.specs.Scanned.{IsScanned}
use Rattle.wh_engine.specs.Draining.{CountsPass}
use Rattle.wh_engine.specs.RepresentedScript.{ScriptHostState, RepresentsScript}
use Rattle.wh_engine.specs.Printing.{AddsLines}
use Rattle.wh_script.specs.Reports.{IsReportOf}
use Rattle.wh_script.specs.Speaking.{IsLineText}

-- the engine represents what the script has made, and that is well made
abbrev pub ServesScript : {D : Type 0} → Settings → ScriptHostState D → ScriptState → Type 0
ServesScript settings e m = RepresentsScript settings e m × IsWellMade m

-- ---- drains

-- whatever script it serves: all calls have run while calls of the device had these faults, it was said of all how they are, and
-- their lines stand after the text
abbrev pub HasDrained : {D : Type 0} → ScriptHostState D → List ℕ → ScriptHostState D → List ℕ → (faults : List ℕ) → Type 0
HasDrained e text e2 text2 faults =
    (settings : Settings) (m : ScriptState) → ServesScript settings e m
    → (lines : List Reply) × (m2 : ScriptState) × DrainsAmid faults m lines m2 × AddsLines lines text text2 × ServesScript settings e2 m2
    × AllArePrinted m2

-- and the reply after them
abbrev pub Complains : {D : Type 0} → Reply → ScriptHostState D → List ℕ → ScriptHostState D → List ℕ → (faults : List ℕ) → Type 0
Complains reply e text e2 text2 faults =
    (settings : Settings) (m : ScriptState) → ServesScript settings e m
    → (lines : List Reply) × (m2 : ScriptState) × DrainsAmid faults m lines m2 × AddsLines (lines ++ reply ∷ []) text text2
    × ServesScript settings e2 m2

-- ---- commands

-- what a command gets after a drain: it is obeyed; or memory runs out for it
pub data GetsReplies (settings : Settings) (files : Files) (m : ScriptState) (number : ℕ) (command : Command)
    : List Reply → ScriptState → Type 0 where
  is_obeyed : {replies : List Reply} {m2 : ScriptState} → IsObeyed true settings files m number command replies m2
      → GetsReplies settings files m number command replies m2
  is_wanting : GetsReplies settings files m number command (error 5 number ∷ []) m

-- after the text stand these replies; and a report after them where it was asked for and no memory ran out
pub data AddsReplies (settings : Settings) (number : ℕ) (command : Command) (m : ScriptState) (replies : List Reply)
    (text text2 : List ℕ) : Type 0 where
  adds_replies : AddsLines replies text text2 → (command ≡ report → replies ≡ error 5 number ∷ [])
      → AddsReplies settings number command m replies text text2
  adds_report : {shown : List ℕ} → command ≡ report → replies ≡ [] → IsReportOf settings m shown → text2 ≡ text ++ shown
      → AddsReplies settings number command m replies text text2

-- the command of the line of this number, after a drain
abbrev pub Obeys : {D : Type 0} → Files → ℕ → Command → ScriptHostState D → List ℕ → ScriptHostState D → List ℕ → Type 0
Obeys files number command e text e2 text2 =
    (settings : Settings) (m : ScriptState) → RepresentsScript settings e m
    → (replies : List Reply) × (m2 : ScriptState) × GetsReplies settings files m number command replies m2
    × AddsReplies settings number command m2 replies text text2 × RepresentsScript settings e2 m2

-- ---- what the host does for them

-- All pages of the host were offered, each under this hash, and as many offers were counted: by a scanner, or, where threads were lacking,
-- by the host's owner.
abbrev pub HasOffered : {D : Type 0} → (hashes : List ℕ → ℕ) → ScriptHostState D → ScriptHostState D → Type 0
HasOffered hashes e e2 =
    (offered : Option ℕ) × IsScanned hashes e.host.host offered e2.host.host × CountsPass e2.lacked_threads e.host offered e2.host

-- the report of the host stands after the text: its heads, and a row for each of its instances, by number
abbrev pub AddsReport : {D : Type 0} → ScriptHostState D → List ℕ → List ℕ → Type 0
AddsReport e text text2 = (shown : ReportState) × ReportsHost e.host.host shown × (text2 ≡ text ++ report_text shown)

-- the same after a drain: of the host that it left, and after its lines
abbrev pub HasOfferedThen : {D : Type 0} → (hashes : List ℕ → ℕ) → ScriptHostState D → Type 0
HasOfferedThen {D} hashes e2 = (e : ScriptHostState D) × HasOffered hashes e e2

abbrev pub AddsReportThen : {D : Type 0} → ScriptHostState D → List ℕ → Type 0
AddsReportThen e text2 = (text : List ℕ) × AddsReport e text text2

-- this reply stands at the end of the text
abbrev pub EndsSaying : Reply → List ℕ → Type 0
EndsSaying reply text2 = (text : List ℕ) × (text2 ≡ text ++ reply_text reply)

-- that memory ran out for the line of this number
abbrev pub SaysMemoryRanOut : (number : ℕ) → List ℕ → Type 0
SaysMemoryRanOut number text2 = EndsSaying (error 5 number) text2

-- ---- lines

-- the line of this number, while calls of the device had these faults
abbrev pub Answers : {D : Type 0} → Files → ℕ → List ℕ → ScriptHostState D → List ℕ → ScriptHostState D → List ℕ → (faults : List ℕ)
    → Type 0
Answers files number line e text e2 text2 faults =
    (settings : Settings) (m : ScriptState) → ServesScript settings e m
    → (replies : List Reply) × (m2 : ScriptState) × (more : List ℕ)
    × AnswersLine DrainsAmidFaults true settings files m number line replies m2 × (m2.faults_met ≡ faults ++ m.faults_met)
    × IsLineText settings number line m2 replies more × (text2 ≡ text ++ more) × ServesScript settings e2 m2

-- a line of this number that asks for the command
abbrev pub AnswersCommand : {D : Type 0} → Files → ℕ → Command → ScriptHostState D → List ℕ → ScriptHostState D → List ℕ
    → (faults : List ℕ) → Type 0
AnswersCommand files number command e text e2 text2 faults =
    (line : List ℕ) → IsRead line → AsksCommand line command → Answers files number line e text e2 text2 faults
