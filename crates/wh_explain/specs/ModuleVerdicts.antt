-- What a verdict on a module says.
use Rattle.std.specs.Prelude.{◌≡◌, ℕ, List, ⊤}
use Rattle.wh_model.specs.declared.faults.FaultKind.TheVariants.{Memory as NoRoom}
use Rattle.wh_model.specs.declared.faults.ValidKind.TheVariants.{Memory as NoRoomToCheck}
use Rattle.wh_model.specs.Format.Syntax.{Module}
use Rattle.wh_model.specs.Format.Spelling.{IsBroken}
use Rattle.wh_model.specs.Validity.Valid.{Valid}
use Rattle.wh_model.specs.Validity.Heights.{Fits}
use Rattle.wh_model.specs.Linking.Imports.{IsFirstFault}
use Rattle.wh_model.specs.Linking.Accepting.{IsModule}
use Rattle.wh_imports.specs.declared.error.LinkError.TheVariants.{NoItem, Memory as NoRoomToLink}
use Rattle.wh_load.specs.declared.error.LoadError.{LoadError}
use Rattle.wh_load.specs.declared.error.LoadError.TheVariants.{Decode, Valid as Invalid, Link}

-- there was no memory to look
abbrev pub IsWantOfMemory : LoadError → Type 0
IsWantOfMemory (Decode e) = e.kind ≡ NoRoom
IsWantOfMemory (Invalid e) = e.kind ≡ NoRoomToCheck
IsWantOfMemory (Link (NoItem fault at)) = ⊥
IsWantOfMemory (Link NoRoomToLink) = ⊤

-- The bytes have this fault, and it isn't out of memory: they break so at this offset; or they spell a module that isn't
-- both valid and within the limits; or one that is, and this is its first import without an item, for this cause.
abbrev pub IsFaultOf : List ℕ → LoadError → Type 0
IsFaultOf bytes (Decode e) = IsBroken bytes e.kind e.offset
IsFaultOf bytes (Invalid e) = (m : Module) × IsModule bytes m × ¬ (Valid m × Fits m)
IsFaultOf bytes (Link (NoItem fault at)) = (m : Module) × IsModule bytes m × Valid m × Fits m × IsFirstFault m fault at
IsFaultOf bytes (Link NoRoomToLink) = ⊥
