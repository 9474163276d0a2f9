-- What a host tells of the functions that its modules export.
use Rattle.std.specs.Prelude.{◌≡◌, ℕ, ◌++◌, Bool, true, false, List, length, filter, slice_get, Option, Some, None}
use Rattle.wh_model.specs.declared.ExternKind.{ExternKind}
use Rattle.wh_model.specs.declared.ExternKind.TheVariants.{Func, Table, Memory, Global}
use Rattle.wh_model.specs.Format.Syntax.{FuncType, Export, Module}
use Rattle.wh_model.specs.Validity.Valid.{imported_funcs}
use Rattle.wh_host_model.specs.Host.Worlds.{Loaded, World, loaded_of}
use Rattle.wh_host.specs.declared.parts.LoadedModule.{LoadedModule}
use Rattle.wh_host.specs.Hosting.{HostState, IsHost, loaded_as}

-- ---- of a module

-- what is exported is a function
abbrev pub is_func : ExternKind → Bool
is_func Func = true
is_func Table = false
is_func Memory = false
is_func Global = false

-- the functions that a module exports, in order
abbrev pub exported_funcs : Module → List Export
exported_funcs m = filter (λ e. is_func e.kind) m.exports

-- the type of the function of this index: those that are imported come before its own
abbrev pub IsTypeOfFunc : Module → ℕ → FuncType → Type 0
IsTypeOfFunc m x type =
    (k : ℕ) × (slice_get (imported_funcs m.imports ++ m.funcs) x ≡ Some k) × (slice_get m.types k ≡ Some type)

-- the function that it exports at this place has this name and this type
pub record ExportsAt (m : Module) (at : ℕ) (name : List ℕ) (type : FuncType) : Type 0 where
  pub index : ℕ
  pub exported : slice_get (exported_funcs m) at ≡ Some (record { name = name; kind = Func; index = index })
  pub typed : IsTypeOfFunc m index type

-- ---- for whatever host the code's stands

-- the module of this number is there and exports so many, or it isn't there
abbrev pub IsExportCount : World → ℕ → Option ℕ → Type 0
IsExportCount w k None = loaded_of w k ≡ None
IsExportCount w k (Some count) = (l : Loaded) × (loaded_of w k ≡ Some l) × (count ≡ length (exported_funcs l.m))

abbrev pub CountsExports : HostState → ℕ → Option ℕ → Type 0
CountsExports h k count = (w : World) → IsHost h w → IsExportCount w k count

-- it is there, and exports this one at this place
abbrev pub ShowsExport : HostState → ℕ → ℕ → List ℕ → FuncType → Type 0
ShowsExport h k at name type =
    (w : World) → IsHost h w → (l : Loaded) × (loaded_of w k ≡ Some l) × ExportsAt l.m at name type

-- it isn't there, or exports none at this place
abbrev pub HasNoExport : HostState → ℕ → ℕ → Type 0
HasNoExport h k at =
    (w : World) → IsHost h w → (l : Loaded) → loaded_of w k ≡ Some l → slice_get (exported_funcs l.m) at ≡ None

-- ---- within the crate

-- the module of this number, or there is none
abbrev pub IsModuleMeant : World → ℕ → Option LoadedModule → Type 0
IsModuleMeant w k None = loaded_of w k ≡ None
IsModuleMeant w k (Some x) = loaded_of w k ≡ Some (loaded_as x)

abbrev pub FindsModule : HostState → ℕ → Option LoadedModule → Type 0
FindsModule h k found = (w : World) → IsHost h w → IsModuleMeant w k found
