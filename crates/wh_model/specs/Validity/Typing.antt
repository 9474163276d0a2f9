-- When instructions are valid, and with which type: sections 3.1 and 3.3 of the standard.
--
-- Lists of operand types have the topmost operand first, so a type [t1 t2] -> [t] of the standard is t2 ∷ t1 ∷ [] to
-- t ∷ [] here.
use Rattle.std.specs.Prelude.{◌≡◌, ℕ, ◌^◌, ◌≤◌, List, [], ◌∷◌, ◌++◌, Option, Some, None, slice_get, reverse}
use Rattle.std.specs.List.{AllByRecursion}
use Rattle.wh_model.specs.declared.ValType.{ValType}
use Rattle.wh_model.specs.declared.ValType.TheVariants.{I32, I64}
use Rattle.wh_model.specs.declared.Mutability.TheVariants.{Var}
use Rattle.wh_model.specs.declared.ConvertOp.{ConvertOp}
use Rattle.wh_model.specs.declared.ConvertOp.TheVariants.{WrapI64, ExtendI32S, ExtendI32U}
use Rattle.wh_model.specs.declared.LoadOp.{LoadOp}
use Rattle.wh_model.specs.declared.LoadOp.TheVariants.{I32Load, I64Load, I32Load8S, I32Load8U, I32Load16S, I32Load16U, I64Load8S, I64Load8U, I64Load16S, I64Load16U, I64Load32S, I64Load32U}
use Rattle.wh_model.specs.declared.StoreOp.{StoreOp}
use Rattle.wh_model.specs.declared.StoreOp.TheVariants.{I32Store, I64Store, I32Store8, I32Store16, I64Store8, I64Store16, I64Store32}
use Rattle.wh_model.specs.Format.Syntax.{Op, unreachable, nop, br, br_if, br_table, return, call, call_indirect, drop_operand, select, local_get, local_set, local_tee, global_get, global_set, load, store, memory_size, memory_grow, i32_const, i64_const, test, comparison, unary, binary, conversion, Code, nothing, plain, block, loop, if_then, if_else, FuncType, Limits, GlobalType}

-- ---- contexts (3.1.1)

-- What there is around an instruction. A label and the result of the function carry one value at most, of this type.
pub record Context : Type 0 where
  pub types : List FuncType
  pub funcs : List FuncType
  pub tables : List Limits
  pub memories : List Limits
  pub globals : List GlobalType
  pub locals : List ValType
  pub labels : List (Option ValType)
  pub result : Option ValType

-- the context inside one more label
abbrev pub under : Option ValType → Context → Context
under t c = record c { labels = t ∷ c.labels }

-- [t?]
abbrev pub operand : Option ValType → List ValType
operand None = []
operand (Some t) = t ∷ []

-- ---- memory instructions (3.3.4)

-- the type of what is loaded, and the bytes that are read
abbrev pub load_type : LoadOp → ValType × ℕ
load_type I32Load = (I32, 4)
load_type I64Load = (I64, 8)
load_type I32Load8S = (I32, 1)
load_type I32Load8U = (I32, 1)
load_type I32Load16S = (I32, 2)
load_type I32Load16U = (I32, 2)
load_type I64Load8S = (I64, 1)
load_type I64Load8U = (I64, 1)
load_type I64Load16S = (I64, 2)
load_type I64Load16U = (I64, 2)
load_type I64Load32S = (I64, 4)
load_type I64Load32U = (I64, 4)

-- the type of what is stored, and the bytes that are written
abbrev pub store_type : StoreOp → ValType × ℕ
store_type I32Store = (I32, 4)
store_type I64Store = (I64, 8)
store_type I32Store8 = (I32, 1)
store_type I32Store16 = (I32, 2)
store_type I64Store8 = (I64, 1)
store_type I64Store16 = (I64, 2)
store_type I64Store32 = (I64, 4)

-- there is a memory
abbrev pub HasMemory : Context → Type 0
HasMemory c = (l : Limits) × (slice_get c.memories 0 ≡ Some l)

-- there is a memory, and accesses of `bytes` bytes may be aligned so
abbrev pub Aligned : Context → ℕ → ℕ → Type 0
Aligned c align bytes = HasMemory c × (2 ^ align ≤ bytes)

-- ---- numeric instructions (3.3.1)

-- what a conversion takes and gives
abbrev pub conversion_type : ConvertOp → ValType × ValType
conversion_type WrapI64 = (I64, I32)
conversion_type ExtendI32S = (I32, I64)
conversion_type ExtendI32U = (I32, I64)

-- ---- instructions without a body (3.3.1 to 3.3.5)

-- The instruction has the type ins -> outs. After unreachable, br, br_table and return operands are of any form.
abbrev pub OpType : Context → Op → List ValType → List ValType → Type 0
OpType c unreachable ins outs = Unit {0}
OpType c nop ins outs = (ins ≡ []) × (outs ≡ [])
OpType c (br l) ins outs =
    (t : Option ValType) × (any : List ValType) × (slice_get c.labels l ≡ Some t) × (ins ≡ operand t ++ any)
OpType c (br_if l) ins outs =
    (t : Option ValType) × (slice_get c.labels l ≡ Some t) × (ins ≡ I32 ∷ operand t) × (outs ≡ operand t)
OpType c (br_table ls l) ins outs =
    (t : Option ValType) × (any : List ValType) × AllByRecursion (λ k. slice_get c.labels k ≡ Some t) ls
    × (slice_get c.labels l ≡ Some t) × (ins ≡ I32 ∷ operand t ++ any)
OpType c return ins outs = (any : List ValType) × (ins ≡ operand c.result ++ any)
OpType c (call x) ins outs =
    (f : FuncType) × (slice_get c.funcs x ≡ Some f) × (ins ≡ reverse f.params) × (outs ≡ reverse f.results)
OpType c (call_indirect y) ins outs =
    (l : Limits) × (f : FuncType) × (slice_get c.tables 0 ≡ Some l) × (slice_get c.types y ≡ Some f)
    × (ins ≡ I32 ∷ reverse f.params) × (outs ≡ reverse f.results)
OpType c drop_operand ins outs = (t : ValType) × (ins ≡ t ∷ []) × (outs ≡ [])
OpType c select ins outs = (t : ValType) × (ins ≡ I32 ∷ t ∷ t ∷ []) × (outs ≡ t ∷ [])
OpType c (local_get x) ins outs = (t : ValType) × (slice_get c.locals x ≡ Some t) × (ins ≡ []) × (outs ≡ t ∷ [])
OpType c (local_set x) ins outs = (t : ValType) × (slice_get c.locals x ≡ Some t) × (ins ≡ t ∷ []) × (outs ≡ [])
OpType c (local_tee x) ins outs = (t : ValType) × (slice_get c.locals x ≡ Some t) × (ins ≡ t ∷ []) × (outs ≡ t ∷ [])
OpType c (global_get x) ins outs =
    (g : GlobalType) × (slice_get c.globals x ≡ Some g) × (ins ≡ []) × (outs ≡ g.value ∷ [])
OpType c (global_set x) ins outs =
    (g : GlobalType) × (slice_get c.globals x ≡ Some g) × (g.mutability ≡ Var) × (ins ≡ g.value ∷ []) × (outs ≡ [])
OpType c (load op align offset) ins outs =
    Aligned c align (load_type op).1 × (ins ≡ I32 ∷ []) × (outs ≡ (load_type op).0 ∷ [])
OpType c (store op align offset) ins outs =
    Aligned c align (store_type op).1 × (ins ≡ (store_type op).0 ∷ I32 ∷ []) × (outs ≡ [])
OpType c memory_size ins outs = HasMemory c × (ins ≡ []) × (outs ≡ I32 ∷ [])
OpType c memory_grow ins outs = HasMemory c × (ins ≡ I32 ∷ []) × (outs ≡ I32 ∷ [])
OpType c (i32_const n) ins outs = (ins ≡ []) × (outs ≡ I32 ∷ [])
OpType c (i64_const n) ins outs = (ins ≡ []) × (outs ≡ I64 ∷ [])
OpType c (test t op) ins outs = (ins ≡ t ∷ []) × (outs ≡ I32 ∷ [])
OpType c (comparison t op) ins outs = (ins ≡ t ∷ t ∷ []) × (outs ≡ I32 ∷ [])
OpType c (unary t op) ins outs = (ins ≡ t ∷ []) × (outs ≡ t ∷ [])
OpType c (binary t op) ins outs = (ins ≡ t ∷ t ∷ []) × (outs ≡ t ∷ [])
OpType c (conversion op) ins outs = (ins ≡ (conversion_type op).0 ∷ []) × (outs ≡ (conversion_type op).1 ∷ [])

-- ---- sequences (3.3.6), and the constructs in them (3.3.5)

-- The sequence has the type ins -> outs: each instruction stands over further operands, which it leaves alone. A
-- block's label takes its result, a loop's takes nothing. An if without an else is one whose other part is empty, so it
-- has no result.
pub data HasType : Context → Code → List ValType → List ValType → Type 0 where
  no_more : {c : Context} {ts : List ValType} → HasType c nothing ts ts
  then_op : {c : Context} {op : Op} {rest : Code} {outs : List ValType} (a b below : List ValType)
      → OpType c op a b → HasType c rest (b ++ below) outs → HasType c (plain op rest) (a ++ below) outs
  then_block : {c : Context} {t : Option ValType} {body rest : Code} {below outs : List ValType}
      → HasType (under t c) body [] (operand t) → HasType c rest (operand t ++ below) outs
      → HasType c (block t body rest) below outs
  then_loop : {c : Context} {t : Option ValType} {body rest : Code} {below outs : List ValType}
      → HasType (under None c) body [] (operand t) → HasType c rest (operand t ++ below) outs
      → HasType c (loop t body rest) below outs
  then_if : {c : Context} {t : Option ValType} {first rest : Code} {below outs : List ValType}
      → HasType (under t c) first [] (operand t) → HasType (under t c) nothing [] (operand t)
      → HasType c rest (operand t ++ below) outs → HasType c (if_then t first rest) (I32 ∷ below) outs
  then_if_else : {c : Context} {t : Option ValType} {first second rest : Code} {below outs : List ValType}
      → HasType (under t c) first [] (operand t) → HasType (under t c) second [] (operand t)
      → HasType c rest (operand t ++ below) outs → HasType c (if_else t first second rest) (I32 ∷ below) outs
