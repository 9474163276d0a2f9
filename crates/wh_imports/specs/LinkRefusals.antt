-- What an error says of a module.
use Rattle.std.specs.Prelude.{⊤}
use Rattle.wh_model.specs.Format.Syntax.{Module}
use Rattle.wh_model.specs.Linking.Imports.{IsFirstFault}
use Rattle.wh_imports.specs.declared.error.LinkError.{LinkError}
use Rattle.wh_imports.specs.declared.error.LinkError.TheVariants.{NoItem, Memory}

-- the import that it names is the first one without its item, and that is the cause; of memory nothing is said
abbrev pub RefusesLink : Module → LinkError → Type 0
RefusesLink m (NoItem fault at) = IsFirstFault m fault at
RefusesLink m Memory = ⊤
