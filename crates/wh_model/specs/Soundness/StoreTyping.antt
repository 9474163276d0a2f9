-- Typing of values, of a module's instance and of its store: section 4.2 of the standard and section 7.5, its appendix
-- on soundness. A store here has one instance, so the types of all that it has stand in the module's context.
use Rattle.std.specs.Prelude.{◌≡◌, ℕ, ◌+◌, ◌*◌, ◌^◌, ◌<◌, ◌≤◌, List, [], ◌∷◌, ◌++◌, length, map, Option, Some, None, slice_get}
use Rattle.std.specs.List.{AllByRecursion}
use Rattle.wh_model.specs.declared.ValType.{ValType}
use Rattle.wh_model.specs.declared.Mutability.TheVariants.{Const}
use Rattle.wh_model.specs.Format.Syntax.{GlobalType, Data, Module}
use Rattle.wh_model.specs.Validity.Typing.{Context}
use Rattle.wh_model.specs.Validity.Valid.{ValidBody, HasFunc, most_pages}
use Rattle.wh_model.specs.Execution.Store.{Value, type_of, InRange, FuncInst, own, host, signature, Instance, Store, output_room}
use Rattle.wh_model.specs.Execution.Instance.{Piece, first_size, last_size}

-- ---- values

-- a value of the type, in the type's range
abbrev pub IsOfType : ValType → Value → Type 0
IsOfType t v = (type_of v ≡ t) × InRange v

-- values of these types, one by one
abbrev pub AreOfTypes : List Value → List ValType → Type 0
AreOfTypes [] [] = Unit {0}
AreOfTypes (v ∷ vs) (t ∷ ts) = IsOfType t v × AreOfTypes vs ts
AreOfTypes _ _ = ⊥

-- a number of 8 bits
abbrev pub IsByte : ℕ → Type 0
IsByte n = n < 256

-- ---- the module's instance, where this is the module's context

-- a function instance: the module's own has a body that is valid for its type
abbrev pub FuncInstType : Context → FuncInst → Type 0
FuncInstType c (own type body) = ValidBody c type body
FuncInstType c (host h) = Unit {0}

-- The instance has the types of the context, a function of its type for each one there, and no more pages to grow to
-- than the memory declares.
pub record InstanceType (c : Context) (inst : Instance) : Type 0 where
  pub types : inst.types ≡ c.types
  pub signatures : map signature inst.funcs ≡ c.funcs
  pub funcs : AllByRecursion (FuncInstType c) inst.funcs
  pub page_limit : inst.page_limit ≤ last_size c.memories most_pages

-- ---- the store

-- an entry of the table is empty, or it names a function that there is
abbrev pub EntryType : Context → Option ℕ → Type 0
EntryType c None = Unit {0}
EntryType c (Some x) = HasFunc c x

-- whole pages of bytes, as many as the memory has at first or more, within the limit
abbrev pub MemoryType : Context → Instance → List ℕ → Type 0
MemoryType c inst bytes =
    ((n : ℕ) × (length bytes ≡ n * 65536) × (first_size c.memories ≤ n) × (n ≤ inst.page_limit))
    × AllByRecursion IsByte bytes

-- The memory is as its type says, each global has a value of its type, the table has as many entries as it declares;
-- and the host's part: words of 64 bits to be read, and output of bytes, no more than there is room for.
pub record StoreType (c : Context) (inst : Instance) (s : Store) : Type 0 where
  pub memory : MemoryType c inst s.bytes
  pub globals : AreOfTypes s.globals (map (λ g. g.value) c.globals)
  pub entries : length s.table ≡ first_size c.tables
  pub table : AllByRecursion (EntryType c) s.table
  pub inputs : AllByRecursion (λ n. n < 2 ^ 64) s.inputs
  pub output : (length s.output ≤ output_room) × AllByRecursion IsByte s.output

-- What may become of a store: the table and the words to be read stay, and so does the value of a global that is never written;
-- the memory has no fewer bytes, and output comes after the one that was there.
pub record StoreExtends (c : Context) (before after : Store) : Type 0 where
  pub table : after.table ≡ before.table
  pub inputs : after.inputs ≡ before.inputs
  pub constants : (x : ℕ) (g : GlobalType) → slice_get c.globals x ≡ Some g → g.mutability ≡ Const
      → slice_get after.globals x ≡ slice_get before.globals x
  pub memory : length before.bytes ≤ length after.bytes
  pub output : (more : List ℕ) × (after.output ≡ before.output ++ more)

-- bytes that are to be written, within the memory
abbrev pub PieceType : Store → Piece → Type 0
PieceType s p = (p.at + length p.items ≤ length s.bytes) × AllByRecursion IsByte p.items

-- ---- modules

-- the module's data are bytes, as the syntax of the standard has them (2.5.8)
abbrev pub HasBytes : Module → Type 0
HasBytes m = AllByRecursion (λ (d : Data). AllByRecursion IsByte d.init) m.segments
