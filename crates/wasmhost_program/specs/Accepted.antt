-- Which words of a command line the program accepts, and what they ask for.
use Rattle.std.specs.Prelude.{◌≡◌, ◌≢◌, ℕ, true, List, Option, Some, None, codes, option_map, ⊤}
use Rattle.std.specs.Str.Parse.{digits_value, without_leading_plus}
use Rattle.clap.specs.Words.{App, IsAmong, IsUnsignedIn, Kinds, Rule, Text, fault_of, first_of, kind_of, matches_of, new_app, new_rule, with_rule}
use Rattle.clap.specs.Simple.{on_top}
use Rattle.clap.specs.declared.builder.value_parser.ValueParser.TheVariants.{Unsigned}
use Rattle.clap.specs.declared.error.Error.{Error}
use Rattle.clap.specs.declared.error.kind.ErrorKind.TheVariants.{OutOfMemory}
use Rattle.wasmhost_program.specs.declared.arguments.Arguments.{Arguments}
use Rattle.wasmhost_program.specs.declared.arguments.ArgumentsError.{ArgumentsError}
use Rattle.wasmhost_program.specs.declared.arguments.ArgumentsError.TheVariants.{Memory, Line}

-- `--settings FILE`
abbrev pub settings_rule : Rule
settings_rule = record (new_rule (codes "settings")) { long = Some (codes "settings"); value_names = 1 }

-- `--workers N`, a number from 1 to 64
abbrev pub workers_rule : Rule
workers_rule = record (new_rule (codes "workers")) {
  long = Some (codes "workers");
  value_names = 1;
  parser = Some (Unsigned 1 64);
}

-- `SCRIPT`
abbrev pub script_rule : Rule
script_rule = new_rule (codes "SCRIPT")

-- a command that tells its version
abbrev pub with_version : App → App
with_version app = on_top (λ shape. record shape { has_version = true }) app

-- each of them once at most; `--help`, and `--version`
abbrev pub command_line : App
command_line =
    with_rule (with_rule (with_rule (with_version (new_app (codes "wasmhost"))) settings_rule) workers_rule) script_rule

-- what stands in these words for an option, or for `SCRIPT`; the first of the words is the program's name
abbrev pub given_in : List Text → (option : Text) → Option Text
given_in words option = first_of option (matches_of command_line words)

-- why they aren't accepted; nothing where they are
abbrev pub line_faults : List Text → Kinds
line_faults words = fault_of command_line words

-- the number of workers: the one that is given, which is from 1 to 64; 4 where none is
abbrev pub CountsWorkers : Option Text → ℕ → Type 0
CountsWorkers None number = number ≡ 4
CountsWorkers (Some text) number =
    IsUnsignedIn 1 64 text × (number ≡ digits_value 10 (without_leading_plus text))

-- the words are accepted, and ask for this
pub record MeansArguments (words : List Text) (a : Arguments) : Type 0 where
  pub settings : option_map (λ s. s.now) a.settings ≡ given_in words (codes "settings")
  pub workers : CountsWorkers (given_in words (codes "workers")) a.workers.number
  pub script : option_map (λ s. s.now) a.script ≡ given_in words (codes "SCRIPT")

-- why a parser's error refuses a line
abbrev pub RefusesBy : Error → ArgumentsError → Type 0
RefusesBy error Memory = kind_of error ≡ OutOfMemory
RefusesBy error (Line shown) = (shown ≡ error) × (kind_of error ≢ OutOfMemory)

-- A line is refused for one of these faults; or there was no memory to read it.
abbrev pub IsRefusedBy : Kinds → ArgumentsError → Type 0
IsRefusedBy faults Memory = ⊤
IsRefusedBy faults (Line shown) = IsAmong (kind_of shown) faults
