-- What a verdict on settings, or on a line, says.
use Rattle.std.specs.Prelude.{◌≡◌, ℕ, ◌≤◌, ◌<◌, ◌⊎◌, List, length, true, false, ⊤}
use Rattle.wh_script_model.specs.Lines.{is_skipped, longest_line}
use Rattle.wh_script_model.specs.Commands.{Command, AsksCommand}
use Rattle.wh_script_model.specs.Settings.{Settings}
use Rattle.wh_settings.specs.Spelled.{SpellsSettings}
use Rattle.wh_explain.specs.declared.answer.Answer.{Answer}
use Rattle.wh_explain.specs.declared.answer.Answer.TheVariants.{Accepted, Refused, Memory}

-- the bytes spell some settings, or none
abbrev pub SpellsSome : List ℕ → Type 0
SpellsSome bytes = (s : Settings) × SpellsSettings bytes s

abbrev pub SpellsNone : List ℕ → Type 0
SpellsNone bytes = (s : Settings) → ¬ (SpellsSettings bytes s)

-- the line asks for some command, or for none
abbrev pub AsksSome : List ℕ → Type 0
AsksSome line = (asked : Command) × AsksCommand line asked

abbrev pub AsksNone : List ℕ → Type 0
AsksNone line = (asked : Command) → ¬ (AsksCommand line asked)

-- the host's answer is right; of out of memory nothing is said
abbrev pub SaysOfSettings : List ℕ → Answer → Type 0
SaysOfSettings bytes Accepted = SpellsSome bytes
SaysOfSettings bytes Refused = SpellsNone bytes
SaysOfSettings bytes Memory = ⊤

abbrev pub SaysOfLine : List ℕ → Answer → Type 0
SaysOfLine line Accepted = AsksSome line
SaysOfLine line Refused = AsksNone line
SaysOfLine line Memory = ⊤

-- the host skips the line, or obeys it as a command
abbrev pub IsSkippedOrAsked : List ℕ → Type 0
IsSkippedOrAsked line = (is_skipped line ≡ true) ⊎ ((length line ≤ longest_line) × AsksSome line)

-- the host doesn't skip the line, and it is too long, or asks for no command
abbrev pub IsNoCommand : List ℕ → Type 0
IsNoCommand line = (is_skipped line ≡ false) × ((longest_line < length line) ⊎ AsksNone line)
