-- Why a line can't be obeyed, and why a script stops.
use Rattle.std.specs.Prelude.{ℕ}
use Rattle.wh_commands.specs.declared.error.ParseError.{ParseError}
use Rattle.wh_commands.specs.declared.error.ParseError.TheVariants as parse
use Rattle.wh_engine.specs.declared.fault.RunFault.{RunFault}
use Rattle.wh_engine.specs.declared.fault.RunFault.TheVariants as run
use Rattle.wh_script.specs.declared.fault.ScriptFault.{ScriptFault}
use Rattle.wh_script.specs.declared.fault.ScriptFault.TheVariants as script
use Rattle.wh_script.specs.declared.line_error.LineError.{LineError}
use Rattle.wh_script.specs.declared.line_error.LineError.TheVariants.{Syntax, NoName, NameTaken, File, Memory}

-- a cause is named C and this number
abbrev pub cause_number : LineError → ℕ
cause_number Syntax = 1
cause_number NoName = 2
cause_number NameTaken = 3
cause_number File = 4
cause_number Memory = 5

-- a line from which no command is read
abbrev pub line_error : ParseError → LineError
line_error parse.Syntax = Syntax
line_error parse.Memory = Memory

-- calls that don't run to their ends
abbrev pub script_fault : RunFault → ScriptFault
script_fault run.Memory = script.Memory
script_fault run.Transcript = script.Transcript
