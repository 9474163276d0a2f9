-- What holds of the definitions alone.
use Rattle.std.specs.Prelude.{◌≡◌, ℕ, List}
use Rattle.wh_script_model.specs.Settings.{Settings}
use Rattle.wh_settings.specs.Spelled.{SpellsSettings}

-- bytes spell settings in one way at most
abbrev pub SpellsOnce : Type 0
SpellsOnce = (bytes : List ℕ) (s t : Settings) → SpellsSettings bytes s → SpellsSettings bytes t → s ≡ t
