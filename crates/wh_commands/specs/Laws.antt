-- What holds of the definitions alone.
use Rattle.std.specs.Prelude.{◌≡◌, ℕ, List}
use Rattle.wh_script_model.specs.Commands.{Command, AsksCommand}

-- a line asks for one command at most
abbrev pub AsksOnce : Type 0
AsksOnce = (line : List ℕ) (first second : Command) → AsksCommand line first → AsksCommand line second → first ≡ second
