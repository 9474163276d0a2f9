-- What a line asks for, as it is found.
use Rattle.std.specs.Prelude.{◌≡◌, ℕ, List, Result, Ok, Err, ⊤}
use Rattle.wh_script_model.specs.Commands.{Command as Asked, keep, load, admit, invoke, drain, refuel, cancel, retry, scan, report, release, verb, Follow}
use Rattle.wh_params.specs.View.{view_params}
use Rattle.wh_commands.specs.declared.command.CallAction.{CallAction}
use Rattle.wh_commands.specs.declared.command.CallAction.TheVariants.{Refuel, Cancel, Retry}
use Rattle.wh_commands.specs.declared.command.Command.{Command}
use Rattle.wh_commands.specs.declared.command.Command.TheVariants.{Module, Load, Admit, Drain, Act, Scan, Report, Release}
use Rattle.wh_commands.specs.declared.command.InvokeCommand.{InvokeCommand}
use Rattle.wh_commands.specs.declared.command.ParsedLine.{ParsedLine}
use Rattle.wh_commands.specs.declared.command.ParsedLine.TheVariants.{Invoke, Command as Other}
use Rattle.wh_commands.specs.declared.error.ParseError.{ParseError}
use Rattle.wh_commands.specs.declared.error.ParseError.TheVariants.{Syntax, Memory}

-- what is asked of the present call of the instance of this name
abbrev pub action_of : (inst : List ℕ) → CallAction → Asked
action_of inst (Refuel fuel) = refuel inst fuel
action_of inst Cancel = cancel inst
action_of inst Retry = retry inst

-- which command of the definitions a command is
abbrev pub command_of : Command → Asked
command_of (Module name bytes) = keep name.now bytes.items
command_of (Load name path) = load name.now path.now
command_of (Admit inst of given) = admit inst.now of.now (view_params given)
command_of Drain = drain
command_of (Act inst action) = action_of inst.now action
command_of Scan = scan
command_of Report = report
command_of (Release inst) = release inst.now

-- which one a call is
abbrev pub invoke_of : InvokeCommand → Asked
invoke_of call = invoke call.inst.now call.export.now call.fuel call.args.items

-- which one is found in a line
abbrev pub asked_in : ParsedLine → Asked
asked_in (Invoke call) = invoke_of call
asked_in (Other command) = command_of command

-- what is found is this one; or there was no memory for it
abbrev pub Finds : {A : Type 0} → (A → Asked) → Result A ParseError → Asked → Type 0
Finds is (Ok found) asked = is found ≡ asked
Finds is (Err Memory) asked = ⊤
Finds is (Err Syntax) asked = ⊥

-- so in a line
abbrev pub FindsAsked : Result ParsedLine ParseError → Asked → Type 0
FindsAsked = Finds asked_in

-- these words ask for it, the first of them being this verb
abbrev pub IsAskedBy : List ℕ → List (List ℕ) → Asked → Type 0
IsAskedBy first words asked = (verb asked ≡ first) × Follow asked words

-- the words aren't so, or there was no memory
abbrev pub Refuses : Type 0 → ParseError → Type 0
Refuses P Syntax = ¬ P
Refuses P Memory = ⊤
