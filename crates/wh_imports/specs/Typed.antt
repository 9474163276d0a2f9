-- Which kind and type an item has.
use Rattle.std.specs.Prelude.{◌≡◌, ℕ, List, Some, slice_get}
use Rattle.wh_model.specs.declared.ValType.{ValType}
use Rattle.wh_model.specs.declared.ValType.TheVariants.{I32, I64}
use Rattle.wh_model.specs.Format.Syntax.{FuncType, ImportDesc, of_func, of_global}
use Rattle.wh_model.specs.Execution.Store.{host, signature}
use Rattle.wh_model.specs.declared.host.HostGlobal.{HostGlobal}
use Rattle.wh_model.specs.declared.host.HostGlobal.TheVariants.{Base, Salt}
use Rattle.wh_model.specs.declared.host.HostItem.{HostItem}
use Rattle.wh_model.specs.declared.host.HostItem.TheVariants.{Func, Global}

abbrev pub global_type : HostGlobal → ValType
global_type Base = I32
global_type Salt = I64

-- an import of this description asks for the item's kind and type
abbrev pub IsTyped : List FuncType → ImportDesc → HostItem → Type 0
IsTyped types desc (Func h) = (x : ℕ) × (desc ≡ of_func x) × (slice_get types x ≡ Some (signature (host h)))
IsTyped types desc (Global g) = desc ≡ of_global (global_type g)
