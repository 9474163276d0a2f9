-- What holds of linking and of what an instance begins with.
use Rattle.std.specs.Prelude.{◌≡◌, ℕ}
use Rattle.wh_model.specs.Format.Syntax.{Module}
use Rattle.wh_model.specs.Validity.Valid.{Valid}
use Rattle.wh_model.specs.Execution.Instance.{Parameters, Beginning, IsInitial}
use Rattle.wh_model.specs.declared.faults.ImportFault.{ImportFault}
use Rattle.wh_model.specs.Linking.Imports.{Links, IsFirstFault}

-- a module has one first import without its item at most, for one cause
abbrev pub OneFirstFault : Type 0
OneFirstFault = (m : Module) (f g : ImportFault) (p q : ℕ) → IsFirstFault m f p → IsFirstFault m g q → (f ≡ g) × (p ≡ q)

-- and none where it links
abbrev pub LinksWithoutFault : Type 0
LinksWithoutFault = (m : Module) (f : ImportFault) (p : ℕ) → Links m → ¬ (IsFirstFault m f p)

-- every valid module that links begins, whatever its owner gives it: with an instance, or with a refusal by name
abbrev pub SomeBeginning : Type 0
SomeBeginning = (m : Module) (p : Parameters) → Valid m → Links m → (b : Beginning) × IsInitial m p b
