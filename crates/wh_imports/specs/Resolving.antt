-- What imports are resolved to.
use Rattle.std.specs.Prelude.{◌≡◌, List, [], ◌∷◌, ◌++◌, map}
use Rattle.wh_model.specs.declared.host.HostFunc.{HostFunc}
use Rattle.wh_model.specs.Format.Syntax.{FuncType, Import, Module}
use Rattle.wh_model.specs.Execution.Store.{host}
use Rattle.wh_model.specs.Execution.Instance.{Parameters, Imported}
use Rattle.wh_model.specs.declared.host.HostGlobal.{HostGlobal}
use Rattle.wh_model.specs.declared.host.HostItem.{HostItem}
use Rattle.wh_model.specs.declared.host.HostItem.TheVariants.{Func, Global}
use Rattle.wh_model.specs.Linking.Imports.{value_of}

-- where imports are these functions and, whatever the owner of an instance gives it, the values of these globals
abbrev pub AreResolved : List FuncType → List Import → List HostFunc → List HostGlobal → Type 0
AreResolved types imports funcs globals =
    (p : Parameters) → Imported types p imports (map (λ h. host h) funcs) (map (value_of p) globals)

-- the same of the imports of a module
abbrev pub IsResolved : Module → List HostFunc → List HostGlobal → Type 0
IsResolved m funcs globals = AreResolved m.types m.imports funcs globals

-- one more item, after the functions or after the globals
abbrev pub Adds : HostItem → List HostFunc → List HostGlobal → List HostFunc → List HostGlobal → Type 0
Adds (Func h) funcs globals more others = (more ≡ funcs ++ h ∷ []) × (others ≡ globals)
Adds (Global g) funcs globals more others = (more ≡ funcs) × (others ≡ globals ++ g ∷ [])
