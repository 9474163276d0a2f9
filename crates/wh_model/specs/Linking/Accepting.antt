-- Which bytes are accepted as a module.
use Rattle.std.specs.Prelude.{ℕ, List}
use Rattle.wh_model.specs.Format.Syntax.{Module}
use Rattle.wh_model.specs.Format.Spelling.{Spells, Small}
use Rattle.wh_model.specs.Validity.Valid.{Valid}
use Rattle.wh_model.specs.Validity.Heights.{Fits}
use Rattle.wh_model.specs.Linking.Imports.{Links}

-- the bytes spell the module, within the limits of the format
pub record IsModule (bytes : List ℕ) (m : Module) : Type 0 where
  pub spelled : Spells bytes m
  pub small : Small bytes m

-- and it is valid, it fits, and each import has its item
pub record IsAccepted (bytes : List ℕ) (m : Module) : Type 0 where
  pub is_module : IsModule bytes m
  pub valid : Valid m
  pub fits : Fits m
  pub links : Links m
