-- When a module is valid: sections 3.2 and 3.4 of the standard. Constant expressions are narrower in this profile: one
-- constant, or one immutable global.
use Rattle.std.specs.Prelude.{◌≡◌, ◌≢◌, ℕ, ◌≤◌, ◌⊎◌, List, [], ◌∷◌, ◌++◌, length, map, Option, Some, None, slice_get, ℤ}
use Rattle.std.specs.List.{AllByRecursion}
use Rattle.wh_model.specs.declared.ValType.{ValType}
use Rattle.wh_model.specs.declared.ValType.TheVariants.{I32, I64}
use Rattle.wh_model.specs.declared.Mutability.TheVariants.{Const}
use Rattle.wh_model.specs.declared.ExternKind.{ExternKind}
use Rattle.wh_model.specs.declared.ExternKind.TheVariants.{Func, Table, Memory, Global as GlobalKind}
use Rattle.wh_model.specs.Format.Syntax.{i32_const, i64_const, global_get, Code, nothing, plain, FuncType, Limits, GlobalType, ImportDesc, of_func, of_global, Import, Global, Export, Element, Data, Body, Module}
use Rattle.wh_model.specs.Validity.Typing.{Context, operand, HasType}

-- ---- types (3.2)

-- a function type has one result at most (3.2.3)
abbrev pub ValidType : FuncType → Type 0
ValidType f = length f.results ≤ 1

-- a size range within a bound (3.2.1)
abbrev pub WithinBound : ℕ → Limits → Type 0
WithinBound bound l = (l.min ≤ bound) × ((max : ℕ) → l.max ≡ Some max → (max ≤ bound) × (l.min ≤ max))

-- ---- what a module defines and imports, in the order of the indices (3.4.10)

abbrev pub func_first : ImportDesc → List ℕ → List ℕ
func_first (of_func x) xs = x ∷ xs
func_first (of_global t) xs = xs

abbrev pub imported_funcs : List Import → List ℕ
imported_funcs [] = []
imported_funcs (i ∷ is) = func_first i.desc (imported_funcs is)

-- imported globals are never written
abbrev pub global_first : ImportDesc → List GlobalType → List GlobalType
global_first (of_func x) ts = ts
global_first (of_global t) ts = record { value = t; mutability = Const } ∷ ts

abbrev pub imported_globals : List Import → List GlobalType
imported_globals [] = []
imported_globals (i ∷ is) = global_first i.desc (imported_globals is)

-- each index names that type
abbrev pub Name : List FuncType → List ℕ → List FuncType → Type 0
Name types [] fs = fs ≡ []
Name types (x ∷ xs) fs =
    (f : FuncType) × (rest : List FuncType) × (fs ≡ f ∷ rest) × (slice_get types x ≡ Some f) × Name types xs rest

-- the context of the module: imported functions and globals come before its own
pub record IsContext (m : Module) (c : Context) : Type 0 where
  pub types : c.types ≡ m.types
  pub funcs : Name m.types (imported_funcs m.imports ++ m.funcs) c.funcs
  pub tables : c.tables ≡ m.tables
  pub memories : c.memories ≡ m.memories
  pub globals : c.globals ≡ imported_globals m.imports ++ map (λ g. g.type) m.globals
  pub no_locals : (c.locals ≡ []) × (c.labels ≡ []) × (c.result ≡ None)

-- ---- constant expressions (3.3.7)

-- the expression is one constant of the type, or one of these globals, of the type and never written
abbrev pub ConstantOf : List GlobalType → Code → ValType → Type 0
ConstantOf globals e t = ((n : ℤ) × (e ≡ plain (i32_const n) nothing) × (t ≡ I32))
    ⊎ ((n : ℤ) × (e ≡ plain (i64_const n) nothing) × (t ≡ I64))
    ⊎ ((x : ℕ) × (e ≡ plain (global_get x) nothing)
    × (slice_get globals x ≡ Some (record { value = t; mutability = Const })))

-- ---- the parts of a module (3.4.1 to 3.4.9)

-- a body: its locals are the parameters and its own; its label and its return carry the result
abbrev pub ValidBody : Context → FuncType → Body → Type 0
ValidBody c f b = (t : Option ValType) × (f.results ≡ operand t)
    × HasType (record c { locals = f.params ++ b.locals; labels = t ∷ []; result = t }) b.code [] (operand t)

-- each body with its function's type
abbrev pub ValidBodies : Context → List ℕ → List Body → Type 0
ValidBodies c [] bs = bs ≡ []
ValidBodies c (x ∷ xs) bs =
    (b : Body) × (rest : List Body) × (bs ≡ b ∷ rest) × (f : FuncType) × (slice_get c.types x ≡ Some f)
    × ValidBody c f b × ValidBodies c xs rest

-- a global's own expression sees the imported globals alone
abbrev pub ValidGlobal : List Import → Global → Type 0
ValidGlobal imports g = ConstantOf (imported_globals imports) g.init g.type.value

-- there is a function of this index
abbrev pub HasFunc : Context → ℕ → Type 0
HasFunc c x = (f : FuncType) × (slice_get c.funcs x ≡ Some f)

abbrev pub ValidElement : Context → Element → Type 0
ValidElement c e =
    ((l : Limits) × (slice_get c.tables e.table ≡ Some l)) × ConstantOf c.globals e.offset I32
    × AllByRecursion (HasFunc c) e.init

abbrev pub ValidData : Context → Data → Type 0
ValidData c d = ((l : Limits) × (slice_get c.memories d.memory ≡ Some l)) × ConstantOf c.globals d.offset I32

-- the start function takes and gives nothing
abbrev pub ValidStart : Context → Option ℕ → Type 0
ValidStart c None = Unit {0}
ValidStart c (Some x) = slice_get c.funcs x ≡ Some (record { params = []; results = [] })

-- what is exported is there
abbrev pub Exported : Context → ExternKind → ℕ → Type 0
Exported c Func x = HasFunc c x
Exported c Table x = (l : Limits) × (slice_get c.tables x ≡ Some l)
Exported c Memory x = (l : Limits) × (slice_get c.memories x ≡ Some l)
Exported c GlobalKind x = (g : GlobalType) × (slice_get c.globals x ≡ Some g)

-- export names differ (3.4.10)
abbrev pub DifferentNames : List Export → Type 0
DifferentNames [] = Unit {0}
DifferentNames (e ∷ es) = AllByRecursion (λ other. other.name ≢ e.name) es × DifferentNames es

-- ---- modules (3.4.10)

abbrev pub most_pages : ℕ
most_pages = 65536

abbrev pub most_entries : ℕ
most_entries = 4294967296

-- the module is valid in its context
pub record IsValidIn (m : Module) (c : Context) : Type 0 where
  pub context : IsContext m c
  pub types : AllByRecursion ValidType m.types
  pub bodies : ValidBodies c m.funcs m.bodies
  pub tables : AllByRecursion (WithinBound most_entries) m.tables
  pub one_table : length m.tables ≤ 1
  pub memories : AllByRecursion (WithinBound most_pages) m.memories
  pub one_memory : length m.memories ≤ 1
  pub globals : AllByRecursion (ValidGlobal m.imports) m.globals
  pub elements : AllByRecursion (ValidElement c) m.elements
  pub segments : AllByRecursion (ValidData c) m.segments
  pub start : ValidStart c m.start
  pub exports : AllByRecursion (λ e. Exported c e.kind e.index) m.exports
  pub names : DifferentNames m.exports

unfoldable pub Valid : Module → Type 0
Valid m = (c : Context) × IsValidIn m c
