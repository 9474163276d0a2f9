-- The answers to a script: the replies to its lines, but for those of reports, each call being run alone.
use Rattle.std.specs.Prelude.{◌≡◌, ℕ, ◌+◌, ◌<◌, ◌≤◌, Bool, true, false, List, [], ◌∷◌, ◌++◌, length, min, Option, Some, None, ℤ}
use Rattle.wh_model.specs.Format.Syntax.{Module}
use Rattle.wh_model.specs.Execution.Replay.{Call, Standing, store_at, Replay}
use Rattle.wh_script_model.specs.Lines.{is_skipped, longest_line}
use Rattle.wh_host_model.specs.Owners.{Params, given_of, most_fuel, first_open}
use Rattle.wh_script_model.specs.Settings.{Settings}
use Rattle.wh_script_model.specs.Commands.{Command, keep, load, admit, invoke, drain, refuel, cancel, retry, scan, report, release, AsksCommand}
use Rattle.wh_script_model.specs.Texts.{Reply, error, refuel_ok, refuel_refused, cancel_ok, cancel_refused, retry_ok, retry_refused, scan_ok, release_ok, release_refused, reply_text}
use Rattle.wh_script_model.specs.ScriptState.{NamedInstance, ScriptState, empty_script, HasModule, NoModule, HasInstance, LacksInstance, with_instance, with_first_open, cancel_first}
use Rattle.wh_script_model.specs.Drains.{DrainRule}
use Rattle.wh_script_model.specs.Receiving.{ReceivesModule, ReceivesInstance, ReceivesCall}

-- Whether the file of a path may hold these bytes, or may be none that can be opened and read, by what is known of
-- files. What a real file holds isn't known.
abbrev pub Files : Type 0
Files = List ℕ → Option (List ℕ) → Bool

-- it is known that there are none
abbrev pub no_files : Files
no_files path None = true
no_files path (Some bytes) = false

-- ---- one command

-- it brings a module of this name
abbrev pub NamesModule : Command → List ℕ → Type 0
NamesModule (keep n bytes) name = n ≡ name
NamesModule (load n path) name = n ≡ name
NamesModule other name = ⊥

-- and these are its bytes
abbrev pub BringsBytes : Files → Command → List ℕ → Type 0
BringsBytes files (keep name b) bytes = b ≡ bytes
BringsBytes files (load name path) bytes = files path (Some bytes) ≡ true
BringsBytes files other bytes = ⊥

-- it is for the instance of this name
abbrev pub IsForInstance : Command → List ℕ → Type 0
IsForInstance (invoke inst export fuel args) name = inst ≡ name
IsForInstance (refuel inst fuel) name = inst ≡ name
IsForInstance (cancel inst) name = inst ≡ name
IsForInstance (retry inst) name = inst ≡ name
IsForInstance (release inst) name = inst ≡ name
IsForInstance other name = ⊥

abbrev pub with_fuel : ℕ → Call → Call
with_fuel n call = record call { fuel = min (call.fuel + n) most_fuel }

-- What a command on the line of this number gets, after a drain. Causes of errors are looked at in the order of their numbers:
-- C2, no such name; C3, the name is taken; C4, no such file. Faults: H1, the instance is released; H8, it has no open call, or
-- none to try again: that is one which is blocked on a fault of the device.
pub data IsObeyed (may_run_out : Bool) (settings : Settings) (files : Files) (w : ScriptState) (number : ℕ)
    : Command → List Reply → ScriptState → Type 0 where
  module_name_is_taken : {command : Command} {name : List ℕ} {m : Module}
      → NamesModule command name → HasModule w name m
      → IsObeyed may_run_out settings files w number command (error 3 number ∷ []) w
  no_file : {name path : List ℕ} → NoModule w name → files path None ≡ true
      → IsObeyed may_run_out settings files w number (load name path) (error 4 number ∷ []) w
  module_comes : {command : Command} {name bytes : List ℕ} {reply : Reply} {w2 : ScriptState}
      → NamesModule command name → NoModule w name → BringsBytes files command bytes
      → ReceivesModule may_run_out w name bytes reply w2 → IsObeyed may_run_out settings files w number command (reply ∷ []) w2
  no_such_module : {inst of : List ℕ} {p : Params} → NoModule w of
      → IsObeyed may_run_out settings files w number (admit inst of p) (error 2 number ∷ []) w
  instance_name_is_taken : {inst of : List ℕ} {p : Params} {m : Module} (i : ℕ) {g : NamedInstance}
      → HasModule w of m → HasInstance w inst i g
      → IsObeyed may_run_out settings files w number (admit inst of p) (error 3 number ∷ []) w
  instance_comes : {inst of : List ℕ} {p : Params} {m : Module} {reply : Reply} {w2 : ScriptState}
      → HasModule w of m → LacksInstance w inst → ReceivesInstance may_run_out settings w inst m p reply w2
      → IsObeyed may_run_out settings files w number (admit inst of p) (reply ∷ []) w2
  no_such_instance : {command : Command} {name : List ℕ} → IsForInstance command name → LacksInstance w name
      → IsObeyed may_run_out settings files w number command (error 2 number ∷ []) w
  is_drained : IsObeyed may_run_out settings files w number drain [] w
  is_scanned : IsObeyed may_run_out settings files w number scan (scan_ok ∷ []) w
  -- its lines begin with `#`
  is_reported : IsObeyed may_run_out settings files w number report [] w
  is_refueled : {name : List ℕ} {n : ℕ} (i : ℕ) {g : NamedInstance} {call : Call}
      → HasInstance w name i g → g.is_released ≡ false → first_open g.calls ≡ Some call
      → IsObeyed may_run_out settings files w number (refuel name n) (refuel_ok name ∷ [])
      (with_instance w i (record g { calls = with_first_open (with_fuel n) g.calls }))
  no_one_to_refuel : {name : List ℕ} {n : ℕ} (i : ℕ) {g : NamedInstance} → HasInstance w name i g → g.is_released ≡ true
      → IsObeyed may_run_out settings files w number (refuel name n) (refuel_refused name 1 ∷ []) w
  no_call_to_refuel : {name : List ℕ} {n : ℕ} (i : ℕ) {g : NamedInstance}
      → HasInstance w name i g → g.is_released ≡ false → first_open g.calls ≡ None
      → IsObeyed may_run_out settings files w number (refuel name n) (refuel_refused name 8 ∷ []) w
  is_cancelled : {name : List ℕ} (i : ℕ) {g : NamedInstance} {call : Call}
      → HasInstance w name i g → g.is_released ≡ false → first_open g.calls ≡ Some call
      → IsObeyed may_run_out settings files w number (cancel name) (cancel_ok name ∷ [])
      (with_instance w i (record g { calls = cancel_first g.calls; at_fault = None }))
  no_one_to_cancel : {name : List ℕ} (i : ℕ) {g : NamedInstance} → HasInstance w name i g → g.is_released ≡ true
      → IsObeyed may_run_out settings files w number (cancel name) (cancel_refused name 1 ∷ []) w
  no_call_to_cancel : {name : List ℕ} (i : ℕ) {g : NamedInstance}
      → HasInstance w name i g → g.is_released ≡ false → first_open g.calls ≡ None
      → IsObeyed may_run_out settings files w number (cancel name) (cancel_refused name 8 ∷ []) w
  is_retried : {name : List ℕ} {fault : ℕ} (i : ℕ) {g : NamedInstance}
      → HasInstance w name i g → g.is_released ≡ false → g.at_fault ≡ Some fault
      → IsObeyed may_run_out settings files w number (retry name) (retry_ok name ∷ [])
      (with_instance w i (record g { at_fault = None }))
  no_one_to_retry : {name : List ℕ} (i : ℕ) {g : NamedInstance} → HasInstance w name i g → g.is_released ≡ true
      → IsObeyed may_run_out settings files w number (retry name) (retry_refused name 1 ∷ []) w
  no_fault_to_retry : {name : List ℕ} (i : ℕ) {g : NamedInstance}
      → HasInstance w name i g → g.is_released ≡ false → g.at_fault ≡ None
      → IsObeyed may_run_out settings files w number (retry name) (retry_refused name 8 ∷ []) w
  is_released : {name : List ℕ} (i : ℕ) {g : NamedInstance} (z : Standing)
      → HasInstance w name i g → g.is_released ≡ false → Replay g.m (given_of g.params) g.calls z
      → IsObeyed may_run_out settings files w number (release name) (release_ok name (store_at z).output ∷ [])
      (with_instance w i (record g { is_released = true }))
  no_one_to_release : {name : List ℕ} (i : ℕ) {g : NamedInstance} → HasInstance w name i g → g.is_released ≡ true
      → IsObeyed may_run_out settings files w number (release name) (release_refused name 1 ∷ []) w

-- ---- one line

-- the line isn't skipped, and isn't too long
abbrev pub IsRead : List ℕ → Type 0
IsRead line = (is_skipped line ≡ false) × (length line ≤ longest_line)

-- What a line gets, where drains are such. An `invoke` of an instance that there is gets nothing yet; before all else there
-- is a drain. C1: it is too long, or asks for nothing that there is. C5: memory runs out for it.
pub data AnswersLine (Drain : DrainRule) (may_run_out : Bool) (settings : Settings) (files : Files) (w : ScriptState) (number : ℕ)
    (line : List ℕ) : List Reply → ScriptState → Type 0 where
  skipped : is_skipped line ≡ true → AnswersLine Drain may_run_out settings files w number line [] w
  invoked : {inst export : List ℕ} {fuel : ℕ} {args : List ℤ} (i : ℕ) {g : NamedInstance} {w2 : ScriptState}
      → IsRead line → AsksCommand line (invoke inst export fuel args) → HasInstance w inst i g
      → ReceivesCall may_run_out w i g export fuel args w2 → AnswersLine Drain may_run_out settings files w number line [] w2
  obeyed : {command : Command} {lines replies : List Reply} {w1 w2 : ScriptState}
      → IsRead line → AsksCommand line command → Drain w lines w1
      → IsObeyed may_run_out settings files w1 number command replies w2
      → AnswersLine Drain may_run_out settings files w number line (lines ++ replies) w2
  too_long : {lines : List Reply} {w1 : ScriptState} → is_skipped line ≡ false → longest_line < length line
      → Drain w lines w1 → AnswersLine Drain may_run_out settings files w number line (lines ++ error 1 number ∷ []) w1
  no_command : {lines : List Reply} {w1 : ScriptState} → IsRead line → ((command : Command) → ¬ (AsksCommand line command))
      → Drain w lines w1 → AnswersLine Drain may_run_out settings files w number line (lines ++ error 1 number ∷ []) w1
  line_out_of_memory : {lines : List Reply} {w1 : ScriptState} → may_run_out ≡ true → IsRead line
      → Drain w lines w1 → AnswersLine Drain may_run_out settings files w number line (lines ++ error 5 number ∷ []) w1

-- ---- a script

-- lines one after the other, the first having this number
abbrev pub AnswersLines : DrainRule → Bool → Settings → Files → ScriptState → ℕ → List (List ℕ) → List Reply → ScriptState → Type 0
AnswersLines Drain may_run_out settings files w number [] replies w2 = (replies ≡ []) × (w2 ≡ w)
AnswersLines Drain may_run_out settings files w number (line ∷ lines) replies w2 =
    (here rest : List Reply) × (between : ScriptState) × (replies ≡ here ++ rest)
    × AnswersLine Drain may_run_out settings files w number line here between
    × AnswersLines Drain may_run_out settings files between (number + 1) lines rest w2

-- what the lines of a script get, and after them the drain at its end
pub record AnswersScript (Drain : DrainRule) (may_run_out : Bool) (settings : Settings) (files : Files) (lines : List (List ℕ))
    (replies : List Reply) : Type 0 where
  pub before : ScriptState
  pub after : ScriptState
  pub to_lines : List Reply
  pub last : List Reply
  pub answers : AnswersLines Drain may_run_out settings files empty_script 1 lines to_lines before
  pub drains : Drain before last after
  pub replies_are : replies ≡ to_lines ++ last

abbrev pub replies_text : List Reply → List ℕ
replies_text [] = []
replies_text (reply ∷ replies) = reply_text reply ++ replies_text replies
