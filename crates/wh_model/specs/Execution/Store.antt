-- Runtime structure, section 4.2 of the standard: values, function instances, the module instance and the store; and
-- how numbers lie in memory (4.3.1).
use Rattle.std.specs.Prelude.{ℕ, zero, suc, ◌+◌, ◌*◌, ◌/◌, ◌%◌, ◌^◌, ◌<◌, List, [], ◌∷◌, ◌++◌, Option, length, slice_range, take, drop}
use Rattle.wh_model.specs.declared.ValType.{ValType}
use Rattle.wh_model.specs.declared.ValType.TheVariants.{I32, I64}
use Rattle.wh_model.specs.declared.LoadOp.{LoadOp}
use Rattle.wh_model.specs.declared.LoadOp.TheVariants.{I32Load, I64Load, I32Load8S, I32Load8U, I32Load16S, I32Load16U, I64Load8S, I64Load8U, I64Load16S, I64Load16U, I64Load32S, I64Load32U}
use Rattle.wh_model.specs.declared.host.HostFunc.{HostFunc}
use Rattle.wh_model.specs.declared.host.HostFunc.TheVariants.{Input, Put, Emit}
use Rattle.wh_model.specs.Format.Syntax.{FuncType, Body}
use Rattle.wh_model.specs.Execution.Numbers.{bits, extend_s, extend_u}

-- ---- values (4.2.1)

-- t.const n: a number below 2 ^ N, where N is the number of bits of t
pub data Value : Type 0 where
  value : (t : ValType) (n : ℕ) → Value

abbrev pub type_of : Value → ValType
type_of (value t n) = t

-- the number without its type
abbrev pub bits_of : Value → ℕ
bits_of (value t n) = n

abbrev pub zero_of : ValType → Value
zero_of t = value t 0

-- a value is a number of its type's bits
abbrev pub InRange : Value → Type 0
InRange (value t n) = n < 2 ^ bits t

-- ---- functions and the module instance (4.2.5, 4.2.6)

-- a function instance is the module's own, with its type, or the host's
pub data FuncInst : Type 0 where
  own : (type : FuncType) (body : Body) → FuncInst
  host : HostFunc → FuncInst

abbrev pub signature : FuncInst → FuncType
signature (own type body) = type
signature (host Input) = record { params = I32 ∷ []; results = I64 ∷ [] }
signature (host Put) = record { params = I64 ∷ []; results = [] }
signature (host Emit) = record { params = I32 ∷ I32 ∷ []; results = [] }

-- the module's types, its functions, the imported ones first, and how many pages its memory may grow to
pub record Instance : Type 0 where
  pub types : List FuncType
  pub funcs : List FuncInst
  pub page_limit : ℕ

-- ---- the store (4.2.3)

-- The linear memory, one flat list of bytes, empty where the module has none; the globals, imported ones first; the
-- table, with a function's index in each entry that has one; and beside the standard the words that the host function
-- `input` reads, and the bytes that `put` and `emit` have written.
pub record Store : Type 0 where
  pub bytes : List ℕ
  pub globals : List Value
  pub table : List (Option ℕ)
  pub inputs : List ℕ
  pub output : List ℕ

-- the size of a memory in pages
abbrev pub pages : List ℕ → ℕ
pages bytes = length bytes / 65536

-- how many bytes the host keeps as output
abbrev pub output_room : ℕ
output_room = 65536

-- ---- numbers in memory (4.3.1)

-- bytes as a number, the lowest first
abbrev pub number : List ℕ → ℕ
number [] = 0
number (b ∷ bs) = b + 256 * number bs

-- the k lowest bytes of a number, the lowest first
abbrev pub bytes_of : ℕ → ℕ → List ℕ
bytes_of zero n = []
bytes_of (suc k) n = n % 256 ∷ bytes_of k (n / 256)

-- the k bytes at a place
abbrev pub bytes_at : List ℕ → ℕ → ℕ → List ℕ
bytes_at bytes at k = slice_range bytes at (at + k)

-- a list with these written over it from a place on
abbrev pub written : {X : Type 0} → List X → ℕ → List X → List X
written old at given = take at old ++ (given ++ drop (at + length given) old)

-- what a load makes of the number that it reads (4.4.4): a narrow one extends it
abbrev pub loaded : LoadOp → ℕ → ℕ
loaded I32Load n = n
loaded I64Load n = n
loaded I32Load8S n = extend_s 8 32 n
loaded I32Load8U n = extend_u n
loaded I32Load16S n = extend_s 16 32 n
loaded I32Load16U n = extend_u n
loaded I64Load8S n = extend_s 8 64 n
loaded I64Load8U n = extend_u n
loaded I64Load16S n = extend_s 16 64 n
loaded I64Load16U n = extend_u n
loaded I64Load32S n = extend_s 32 64 n
loaded I64Load32U n = extend_u n
