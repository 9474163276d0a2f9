-- What commands and lines get of the host.
use Rattle.std.proofs.Common.{◌≡◌, ◌≢◌, ◌∙◌, ◌⊎◌, inl, ℕ, List, ◌∷◌, Result, Ok, Err, OnOk, refl, sym, ap, subst, slice_index, arith}
use Rattle.wh_script_model.specs.Commands as asked_of
use Rattle.wh_script_model.specs.{AsksCommand, verb, keep, load, admit, invoke, drain, refuel, cancel, retry, scan, report, release, error}
use Rattle.wh_commands.specs.declared.command.CallAction.TheVariants.{Refuel, Cancel, Retry}
use Rattle.wh_commands.specs.declared.command.Command.{Command}
use Rattle.wh_commands.specs.declared.command.Command.TheVariants.{Module, Load, Admit, Drain, Act, Scan, Report, Release}
use Rattle.wh_commands.specs.declared.command.InvokeCommand.{InvokeCommand}
use Rattle.wh_commands.specs.declared.command.ParsedLine.{ParsedLine}
use Rattle.wh_commands.specs.declared.error.ParseError.{ParseError}
use Rattle.wh_commands.specs.declared.error.ParseError.TheVariants.{Syntax, Memory}
use Rattle.wh_commands.specs.ParsedCommands.{FindsAsked, command_of, invoke_of}
use Rattle.wh_engine.specs.declared.fault.RunFault.{RunFault}
use Rattle.wh_script.specs.Causes.{cause_number, line_error}
use Rattle.wh_script.specs.Answering.{EndsSaying, SaysMemoryRanOut}
use Rattle.wh_script.proofs.Answered.{one_command}

-- another command
pub not_the : (X : Type 0) (r : Result Unit RunFault) (command a b : Command) → command ≡ a → (a ≡ b → ⊥) → OnOk r (command ≡ b → X)
not_the X (Ok x) command a b is apart = λ same. absurd (apart (sym is ∙ same))
not_the X (Err x) command a b is apart = tt

pub says_scan : (command : Command) → command_of command ≡ scan → command ≡ Scan
says_scan (Module name bytes) h = absurd (cc h)
says_scan (Load name path) h = absurd (cc h)
says_scan (Admit inst of given) h = absurd (cc h)
says_scan Drain h = absurd (cc h)
says_scan (Act inst (Refuel fuel)) h = absurd (cc h)
says_scan (Act inst Cancel) h = absurd (cc h)
says_scan (Act inst Retry) h = absurd (cc h)
says_scan Scan h = refl
says_scan Report h = absurd (cc h)
says_scan (Release inst) h = absurd (cc h)

pub says_report : (command : Command) → command_of command ≡ report → command ≡ Report
says_report (Module name bytes) h = absurd (cc h)
says_report (Load name path) h = absurd (cc h)
says_report (Admit inst of given) h = absurd (cc h)
says_report Drain h = absurd (cc h)
says_report (Act inst (Refuel fuel)) h = absurd (cc h)
says_report (Act inst Cancel) h = absurd (cc h)
says_report (Act inst Retry) h = absurd (cc h)
says_report Scan h = absurd (cc h)
says_report Report h = refl
says_report (Release inst) h = absurd (cc h)

first_apart : (x y : List ℕ) → slice_index x 0 ≢ slice_index y 0 → x ≡ y → ⊥
first_apart x y apart same = apart (ap (λ t. slice_index t 0) same)

scan_by_verb : (command : asked_of.Command) → verb command ≡ verb scan → command ≡ scan
scan_by_verb (keep name bytes) e = absurd (first_apart _ _ (λ same. omega (arith, same)) e)
scan_by_verb (load name path) e = absurd (first_apart _ _ (λ same. omega (arith, same)) e)
scan_by_verb (admit inst of params) e = absurd (first_apart _ _ (λ same. omega (arith, same)) e)
scan_by_verb (invoke inst export fuel args) e = absurd (first_apart _ _ (λ same. omega (arith, same)) e)
scan_by_verb drain e = absurd (first_apart _ _ (λ same. omega (arith, same)) e)
scan_by_verb (refuel inst fuel) e = absurd (first_apart _ _ (λ same. omega (arith, same)) e)
scan_by_verb (cancel inst) e = absurd (first_apart _ _ (λ same. omega (arith, same)) e)
scan_by_verb (retry inst) e = absurd (first_apart _ _ (λ same. omega (arith, same)) e)
scan_by_verb scan e = refl
scan_by_verb report e = absurd (first_apart _ _ (λ same. omega (arith, same)) e)
scan_by_verb (release inst) e = absurd (first_apart _ _ (λ same. omega (arith, same)) e)

heads : (x y : List ℕ) (xs ys : List (List ℕ)) → x ∷ xs ≡ y ∷ ys → x ≡ y
heads x y xs ys e = cc

-- a line asks for one command
pub scan_command : (line : List ℕ) (asked : asked_of.Command) → AsksCommand line asked → AsksCommand line scan → asked ≡ scan
scan_command line asked asks other = scan_by_verb asked (heads (verb asked) (verb scan) asks.0 other.0 (sym asks.1 ∙ other.1))

pub is_scan : (line : List ℕ) (command : Command) → AsksCommand line (command_of command) → AsksCommand line scan → command ≡ Scan
is_scan line command asks other = says_scan command (scan_command line (command_of command) asks other)

pub is_report : (line : List ℕ) (command : Command) → AsksCommand line (command_of command) → AsksCommand line report → command ≡ Report
is_report line command asks other = says_report command (one_command line (command_of command) asks other)

-- a line that asks for a call
pub no_scan : (line : List ℕ) (call : InvokeCommand) → AsksCommand line (invoke_of call) → ¬ (AsksCommand line scan)
no_scan line call asks other = let same = scan_command line (invoke_of call) asks other in absurd (cc same)

pub no_report : (line : List ℕ) (call : InvokeCommand) → AsksCommand line (invoke_of call) → ¬ (AsksCommand line report)
no_report line call asks other = let same = one_command line (invoke_of call) asks other in absurd (cc same)

-- a line in which no command is found
pub none_found : (X : Type 0) (r : Result ParsedLine ParseError) (cause : ParseError) (asked : asked_of.Command) (number : ℕ) (text2 : List ℕ) → r ≡ Err cause → FindsAsked r asked
    → EndsSaying (error (cause_number (line_error cause)) number) text2 → SaysMemoryRanOut number text2 ⊎ X
none_found X r Syntax asked number text2 is finds says = elim (subst (λ x. FindsAsked x asked) is finds) [ ]
none_found X r Memory asked number text2 is finds says = inl says
