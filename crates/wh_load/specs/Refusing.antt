-- What a refusal says of bytes.
use Rattle.std.specs.Prelude.{◌≢◌, ℕ, List}
use Rattle.wh_model.specs.declared.faults.FaultKind.TheVariants.{Memory as NoRoom}
use Rattle.wh_model.specs.declared.faults.ValidKind.TheVariants.{Memory as NoRoomToCheck}
use Rattle.wh_model.specs.Format.Syntax.{Module}
use Rattle.wh_model.specs.Format.Spelling.{IsBroken}
use Rattle.wh_model.specs.Validity.Valid.{Valid}
use Rattle.wh_model.specs.Validity.Heights.{Fits}
use Rattle.wh_model.specs.Linking.Accepting.{IsModule}
use Rattle.wh_syntax.specs.View.{view_module}
use Rattle.wh_imports.specs.LinkedState.{LinkedState}
use Rattle.wh_imports.specs.LinkRefusals as linking
use Rattle.wh_load.specs.declared.error.LoadError.{LoadError}
use Rattle.wh_load.specs.declared.error.LoadError.TheVariants.{Decode, Valid as Invalid, Link}

-- the module that was linked
abbrev pub view_linked : LinkedState → Module
view_linked linked = view_module linked.valid.decoded

-- what is wrong with the bytes, or with the module that they spell, but for want of memory
abbrev pub RefusesBytes : List ℕ → LoadError → Type 0
RefusesBytes bytes (Decode e) = e.kind ≢ NoRoom → IsBroken bytes e.kind e.offset
RefusesBytes bytes (Invalid e) = (m : Module) × IsModule bytes m × (e.kind ≢ NoRoomToCheck → ¬ (Valid m × Fits m))
RefusesBytes bytes (Link e) = (m : Module) × IsModule bytes m × Valid m × Fits m × linking.RefusesLink m e
