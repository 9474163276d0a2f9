-- Linking with the host's module (4.5.4 of the standard, steps 2 to 4): which item of the host each import is, and the
-- first import that has none.
use Rattle.std.specs.Prelude.{◌≡◌, ℕ, List, take, Some, slice_get, codes}
use Rattle.std.specs.List.{AllByRecursion}
use Rattle.wh_model.specs.declared.ValType.TheVariants.{I32, I64}
use Rattle.wh_model.specs.Format.Syntax.{FuncType, Import, Module}
use Rattle.wh_model.specs.Execution.Store.{Value, value}
use Rattle.wh_model.specs.Execution.Instance.{Parameters, name_of, ImportsFunc, ImportsGlobal}
use Rattle.wh_model.specs.declared.faults.ImportFault.{ImportFault}
use Rattle.wh_model.specs.declared.faults.ImportFault.TheVariants.{UnknownImport, ImportType}
use Rattle.wh_model.specs.declared.host.HostGlobal.{HostGlobal}
use Rattle.wh_model.specs.declared.host.HostGlobal.TheVariants.{Base, Salt}
use Rattle.wh_model.specs.declared.host.HostItem.{HostItem}
use Rattle.wh_model.specs.declared.host.HostItem.TheVariants.{Func, Global}

-- the name of an item in the module `host`
abbrev pub item_name : HostItem → List ℕ
item_name (Func h) = name_of h
item_name (Global Base) = codes "base"
item_name (Global Salt) = codes "salt"

-- the value of a global of the host, as the owner of an instance gives it
abbrev pub value_of : Parameters → HostGlobal → Value
value_of p Base = value I32 p.base
value_of p Salt = value I64 p.salt

-- the import is this item, by its names, its kind and its type
abbrev pub ImportsItem : List FuncType → Import → HostItem → Type 0
ImportsItem types i (Func h) = ImportsFunc types i h
ImportsItem types i (Global g) = (p : Parameters) → ImportsGlobal p i (value_of p g)

-- the import has its item
abbrev pub HasItem : List FuncType → Import → Type 0
HasItem types i = (item : HostItem) × ImportsItem types i item

-- the host has an item of the import's names
abbrev pub IsKnown : Import → Type 0
IsKnown i = (i.from ≡ codes "host") × (item : HostItem) × (i.name ≡ item_name item)

-- the import has no item, for this cause
abbrev pub LacksItem : List FuncType → Import → ImportFault → Type 0
LacksItem types i UnknownImport = ¬ (IsKnown i)
LacksItem types i ImportType = IsKnown i × ¬ (HasItem types i)

-- each import of the module has its item
abbrev pub Links : Module → Type 0
Links m = AllByRecursion (HasItem m.types) m.imports

-- The import at this place has no item, for this cause, and those before it have theirs.
pub record IsFirstFault (m : Module) (fault : ImportFault) (place : ℕ) : Type 0 where
  pub at : Import
  pub stands : slice_get m.imports place ≡ Some at
  pub lacks : LacksItem m.types at fault
  pub before : AllByRecursion (HasItem m.types) (take place m.imports)
