-- What a refusal by `parse` says of a line.
use Rattle.std.specs.Prelude.{◌≡◌, ℕ, List, Err}
use Rattle.std.proofs.Common.{subst}
use Rattle.wh_script_model.specs.{Command, AsksCommand}
use Rattle.wh_commands.specs.ParsedCommands.{FindsAsked}
use Rattle.wh_commands.specs.declared.error.ParseError.{ParseError}
use Rattle.wh_commands.specs.declared.error.ParseError.TheVariants.{Syntax}
use Rattle.wh_explain.specs.Verdicts.{AsksNone}

pub asks_none : (line : List ℕ) (e : ParseError) → e ≡ Syntax
    → ((asked : Command) → AsksCommand line asked → FindsAsked (Err e) asked) → AsksNone line
asks_none line e is only asked asks = let P : ParseError → Type 0 = λ e. FindsAsked (Err e) asked in subst P is (only asked asks)
