-- Instantiation, sections 4.5.3 and 4.5.4 of the standard: what the host's module offers, and what an instance begins
-- with.
use Rattle.std.specs.Prelude.{◌≡◌, ℕ, ◌+◌, ◌*◌, ◌%◌, ◌^◌, ◌==◌, ◌<◌, ◌≤◌, ◌⊎◌, if◌then◌else◌, List, [], ◌∷◌, ◌++◌, length, map, replicate, slice_get, min, Option, Some, None, unwrap_or, codes, ℤ}
use Rattle.std.specs.List.{AllByRecursion}
use Rattle.wh_model.specs.declared.ValType.TheVariants.{I32, I64}
use Rattle.wh_model.specs.declared.host.HostFunc.{HostFunc}
use Rattle.wh_model.specs.declared.host.HostFunc.TheVariants.{Input, Put, Emit}
use Rattle.wh_model.specs.Format.Syntax.{i32_const, i64_const, global_get, Code, nothing, plain, FuncType, Limits, of_func, of_global, Import, Global, Body, Module}
use Rattle.wh_model.specs.Execution.Numbers.{unsigned}
use Rattle.wh_model.specs.Execution.Store.{Value, value, FuncInst, own, host, signature, Instance, Store, written}

-- What the owner of an instance gives it: the values of the host's two globals, the words that `input` reads, and the
-- greatest number of pages of its memory.
pub record Parameters : Type 0 where
  pub base : ℕ
  pub salt : ℕ
  pub inputs : List ℕ
  pub page_limit : ℕ

-- they are values of their types: an i32, an i64, and words of 64 bits
pub record AreGiven (p : Parameters) : Type 0 where
  pub base : p.base < 2 ^ 32
  pub salt : p.salt < 2 ^ 64
  pub inputs : AllByRecursion (λ n. n < 2 ^ 64) p.inputs

-- ---- imports (4.5.3): the host has one module, `host`

abbrev pub name_of : HostFunc → List ℕ
name_of Input = codes "input"
name_of Put = codes "put"
name_of Emit = codes "emit"

-- the import is this function of the host, by its names and its type
abbrev pub ImportsFunc : List FuncType → Import → HostFunc → Type 0
ImportsFunc types i h =
    (i.from ≡ codes "host") × (i.name ≡ name_of h) × (x : ℕ) × (i.desc ≡ of_func x)
    × (slice_get types x ≡ Some (signature (host h)))

-- the import is a global of the host, which has this value
abbrev pub ImportsGlobal : Parameters → Import → Value → Type 0
ImportsGlobal p i v = (i.from ≡ codes "host")
    × (((i.name ≡ codes "base") × (i.desc ≡ of_global I32) × (v ≡ value I32 p.base))
    ⊎ ((i.name ≡ codes "salt") × (i.desc ≡ of_global I64) × (v ≡ value I64 p.salt)))

-- all imports, in order: the functions, and the globals' values
abbrev pub Imported : List FuncType → Parameters → List Import → List FuncInst → List Value → Type 0
Imported types p [] fs vs = (fs ≡ []) × (vs ≡ [])
Imported types p (i ∷ is) fs vs =
    ((h : HostFunc) × (rest : List FuncInst) × ImportsFunc types i h × (fs ≡ host h ∷ rest)
    × Imported types p is rest vs)
    ⊎ ((v : Value) × (rest : List Value) × ImportsGlobal p i v × (vs ≡ v ∷ rest) × Imported types p is fs rest)

-- ---- the module's own functions and globals (4.5.3)

abbrev pub Defined : List FuncType → List ℕ → List Body → List FuncInst → Type 0
Defined types [] bs fs = (bs ≡ []) × (fs ≡ [])
Defined types (x ∷ xs) bs fs = (type : FuncType) × (b : Body) × (more : List Body) × (rest : List FuncInst)
    × (slice_get types x ≡ Some type) × (bs ≡ b ∷ more) × (fs ≡ own type b ∷ rest) × Defined types xs more rest

-- a constant expression has this value, where the globals have these: it is one constant, or one global
abbrev pub Evaluates : List Value → Code → Value → Type 0
Evaluates globals e v = ((n : ℤ) × (e ≡ plain (i32_const n) nothing) × (v ≡ value I32 (unsigned 32 n)))
    ⊎ ((n : ℤ) × (e ≡ plain (i64_const n) nothing) × (v ≡ value I64 (unsigned 64 n)))
    ⊎ ((x : ℕ) × (e ≡ plain (global_get x) nothing) × (slice_get globals x ≡ Some v))

-- a global's own expression sees the imported globals alone
abbrev pub Begun : List Value → List Global → List Value → Type 0
Begun imported [] vs = vs ≡ []
Begun imported (g ∷ gs) vs =
    (v : Value) × (rest : List Value) × Evaluates imported g.init v × (vs ≡ v ∷ rest) × Begun imported gs rest

-- ---- segments

-- items that are to stand from a place on
pub record Piece : Type 0 where
  pub at : ℕ
  pub items : List ℕ

-- segments, each an offset and its items, with what their offsets are, unsigned
abbrev pub Placed : List Value → List (Code × List ℕ) → List Piece → Type 0
Placed globals [] ps = ps ≡ []
Placed globals (s ∷ ss) ps =
    (n : ℕ) × (rest : List Piece) × Evaluates globals s.0 (value I32 n) × (ps ≡ record { at = n; items = s.1 } ∷ rest)
    × Placed globals ss rest

-- they end within `size` places
abbrev pub Within : ℕ → List Piece → Type 0
Within size ps = AllByRecursion (λ p. p.at + length p.items ≤ size) ps

-- the table with functions written into it, in order
abbrev pub filled : List (Option ℕ) → List Piece → List (Option ℕ)
filled table [] = table
filled table (p ∷ ps) = filled (written table p.at (map (λ x. Some x) p.items)) ps

-- a byte in front of pieces that begin right after it: it is of the first one, unless that begins at a multiple of 4096
abbrev pub onto_piece : ℕ → ℕ → List Piece → List Piece
onto_piece at b [] = record { at = at; items = b ∷ [] } ∷ []
onto_piece at b (p ∷ ps) =
    if p.at % 4096 == 0 then record { at = at; items = b ∷ [] } ∷ p ∷ ps
    else record { at = at; items = b ∷ p.items } ∷ ps

-- bytes from a place on, cut at the multiples of 4096
abbrev pub cut_up : ℕ → List ℕ → List Piece
cut_up at [] = []
cut_up at (b ∷ bs) = onto_piece at b (cut_up (at + 1) bs)

-- segments in order, each cut up: the fragments in which they are written
abbrev pub fragments : List Piece → List Piece
fragments [] = []
fragments (p ∷ ps) = cut_up p.at p.items ++ fragments ps

-- ---- sizes

-- of a table or a memory at first; 0 where there is none
abbrev pub first_size : List Limits → ℕ
first_size [] = 0
first_size (l ∷ ls) = l.min

-- to how many pages a memory may grow: as far as it declares, and as far as the owner lets it
abbrev pub last_size : List Limits → ℕ → ℕ
last_size [] limit = 0
last_size (l ∷ ls) limit = min (unwrap_or l.max 65536) limit

-- ---- instantiation (4.5.4)

-- the instance, its globals, and where its element and data segments belong
pub record Prepares (m : Module) (p : Parameters) (inst : Instance) (globals : List Value)
    (elements segments : List Piece) : Type 0 where
  pub types : inst.types ≡ m.types
  pub page_limit : inst.page_limit ≡ last_size m.memories p.page_limit
  pub hosts : List FuncInst
  pub owns : List FuncInst
  pub imported : List Value
  pub begun : List Value
  pub imports : Imported m.types p m.imports hosts imported
  pub defines : Defined m.types m.funcs m.bodies owns
  pub funcs : inst.funcs ≡ hosts ++ owns
  pub begins : Begun imported m.globals begun
  pub globals_are : globals ≡ imported ++ begun
  pub elements_at : Placed globals (map (λ e. (e.offset, e.init)) m.elements) elements
  pub segments_at : Placed globals (map (λ d. (d.offset, d.init)) m.segments) segments

-- the outcome of instantiation: a refusal by name, or an instance, its store, and the fragments that its start has to write
pub data Beginning : Type 0 where
  memory_min : Beginning
  segment_bounds : Beginning
  begins : (inst : Instance) (s : Store) (to_write : List Piece) → Beginning

-- Globals are set first, since offsets read them. Then all bounds are looked at, and nothing is written where one is
-- passed.
pub data IsInitial (m : Module) (p : Parameters) : Beginning → Type 0 where
  -- the memory's first size is more than the owner gives
  needs_more : p.page_limit < first_size m.memories → IsInitial m p memory_min
  -- a segment passes the end of the table or of the memory
  out_of_bounds : {inst : Instance} {globals : List Value} {elements segments : List Piece}
      → first_size m.memories ≤ p.page_limit → Prepares m p inst globals elements segments
      → ¬ (Within (first_size m.tables) elements × Within (first_size m.memories * 65536) segments)
      → IsInitial m p segment_bounds
  in_bounds : {inst : Instance} {globals : List Value} {elements segments : List Piece}
      → first_size m.memories ≤ p.page_limit → Prepares m p inst globals elements segments
      → Within (first_size m.tables) elements → Within (first_size m.memories * 65536) segments
      → IsInitial m p (begins inst (record {
        bytes = replicate (first_size m.memories * 65536) 0;
        globals = globals;
        table = filled (replicate (first_size m.tables) None) elements;
        inputs = p.inputs;
        output = [];
      }) (fragments segments))
