-- The bytes that encode types (section 5.3 of the standard) and instructions (section 5.4). Floating point is left out of this
-- profile: its types and opcodes are the fault Float, every other byte outside the tables UnknownByte.
use Rattle.std.specs.Prelude.{ℕ, ◌-◌, List, [], ◌∷◌, Option, Some, None, Result, Ok, Err, Bool, true, false, if◌then◌else◌, ◌==◌, ◌&&◌, ◌||◌, nat_le, slice_get}
use Rattle.wh_model.specs.declared.faults.FaultKind.{FaultKind}
use Rattle.wh_model.specs.declared.faults.FaultKind.TheVariants.{UnknownByte, Float, Unsupported}
use Rattle.wh_model.specs.declared.ValType.{ValType}
use Rattle.wh_model.specs.declared.ValType.TheVariants.{I32, I64}
use Rattle.wh_model.specs.declared.Mutability.{Mutability}
use Rattle.wh_model.specs.declared.Mutability.TheVariants.{Const, Var}
use Rattle.wh_model.specs.declared.ExternKind.{ExternKind}
use Rattle.wh_model.specs.declared.ExternKind.TheVariants.{Func, Table, Memory, Global}
use Rattle.wh_model.specs.declared.UnaryOp.{UnaryOp}
use Rattle.wh_model.specs.declared.UnaryOp.TheVariants.{Clz, Ctz, Popcnt, Extend8S, Extend16S, Extend32S}
use Rattle.wh_model.specs.declared.BinaryOp.{BinaryOp}
use Rattle.wh_model.specs.declared.BinaryOp.TheVariants.{Add, Sub, Mul, DivS, DivU, RemS, RemU, And, Or, Xor, Shl, ShrS, ShrU, Rotl, Rotr}
use Rattle.wh_model.specs.declared.TestOp.TheVariants.{Eqz}
use Rattle.wh_model.specs.declared.CompareOp.{CompareOp}
use Rattle.wh_model.specs.declared.CompareOp.TheVariants.{Eq, Ne, LtS, LtU, GtS, GtU, LeS, LeU, GeS, GeU}
use Rattle.wh_model.specs.declared.ConvertOp.TheVariants.{WrapI64, ExtendI32S, ExtendI32U}
use Rattle.wh_model.specs.declared.LoadOp.{LoadOp}
use Rattle.wh_model.specs.declared.LoadOp.TheVariants.{I32Load, I64Load, I32Load8S, I32Load8U, I32Load16S, I32Load16U, I64Load8S, I64Load8U, I64Load16S, I64Load16U, I64Load32S, I64Load32U}
use Rattle.wh_model.specs.declared.StoreOp.{StoreOp}
use Rattle.wh_model.specs.declared.StoreOp.TheVariants.{I32Store, I64Store, I32Store8, I32Store16, I64Store8, I64Store16, I64Store32}
use Rattle.wh_model.specs.declared.Opcode.{Opcode}
use Rattle.wh_model.specs.declared.Opcode.TheVariants.{Unreachable, Nop, Block, Loop, If, Else, End, Br, BrIf, BrTable, Return, Call, CallIndirect, Drop, Select, LocalGet, LocalSet, LocalTee, GlobalGet, GlobalSet, Load, Store, MemorySize, MemoryGrow, I32Const, I64Const, Test, Compare, Unary, Binary, Convert}

-- ---- types

-- valtype (5.3.1)
abbrev pub value_type : ℕ → Result ValType FaultKind
value_type n = if n == 0x7f then Ok I32 else if n == 0x7e then Ok I64
    else if n == 0x7d then Err Float else if n == 0x7c then Err Float else Err UnknownByte

-- blocktype (5.3.2): a value type, or none
abbrev pub block_type : ℕ → Result (Option ValType) FaultKind
block_type n = if n == 0x40 then Ok None else if n == 0x7f then Ok (Some I32) else if n == 0x7e then Ok (Some I64)
    else if n == 0x7d then Err Float else if n == 0x7c then Err Float else Err UnknownByte

-- mut (5.3.7)
abbrev pub mutability : ℕ → Result Mutability FaultKind
mutability n = if n == 0 then Ok Const else if n == 1 then Ok Var else Err UnknownByte

-- mut of an imported global: one that is written is left out of this profile
abbrev pub imported_mutability : ℕ → Result Mutability FaultKind
imported_mutability n = if n == 0 then Ok Const else if n == 1 then Err Unsupported else Err UnknownByte

-- the flag of limits (5.3.4): whether a maximum follows
abbrev pub limits_flag : ℕ → Result Bool FaultKind
limits_flag n = if n == 0 then Ok false else if n == 1 then Ok true else Err UnknownByte

-- the kind of an export (5.5.10)
abbrev pub export_kind : ℕ → Result ExternKind FaultKind
export_kind n =
    if n == 0 then Ok Func
    else if n == 1 then Ok Table
    else if n == 2 then Ok Memory
    else if n == 3 then Ok Global
    else Err UnknownByte

-- the kind of an import (5.5.5), true for a function and false for a global: tables and memories aren't imported in
-- this profile
abbrev pub import_kind : ℕ → Result Bool FaultKind
import_kind n =
    if n == 0 then Ok true
    else if n == 1 then Err Unsupported
    else if n == 2 then Err Unsupported
    else if n == 3 then Ok false
    else Err UnknownByte

-- ---- instructions

-- control instructions (5.4.1) and parametric ones (5.4.2)
abbrev pub control_opcode : ℕ → Option Opcode
control_opcode n = if n == 0x00 then Some Unreachable else if n == 0x01 then Some Nop
    else if n == 0x02 then Some Block else if n == 0x03 then Some Loop else if n == 0x04 then Some If
    else if n == 0x05 then Some Else else if n == 0x0b then Some End
    else if n == 0x0c then Some Br else if n == 0x0d then Some BrIf else if n == 0x0e then Some BrTable
    else if n == 0x0f then Some Return else if n == 0x10 then Some Call else if n == 0x11 then Some CallIndirect
    else if n == 0x1a then Some Drop else if n == 0x1b then Some Select
    else None

-- variable instructions (5.4.3), memory instructions without an address (5.4.4) and constants (5.4.5)
abbrev pub variable_opcode : ℕ → Option Opcode
variable_opcode n =
    if n == 0x20 then Some LocalGet else if n == 0x21 then Some LocalSet else if n == 0x22 then Some LocalTee
    else if n == 0x23 then Some GlobalGet else if n == 0x24 then Some GlobalSet
    else if n == 0x3f then Some MemorySize else if n == 0x40 then Some MemoryGrow
    else if n == 0x41 then Some I32Const else if n == 0x42 then Some I64Const
    else None

-- The operators of a class have opcodes one after the other: the one that the opcode n encodes, where `first` is that of the
-- list's first operator.
abbrev pub operator_from : {A : Type 0} → ℕ → List A → ℕ → Option A
operator_from first operators n = if nat_le first n then slice_get operators (n - first) else None

-- the classes in the order of the standard's tables (5.4.4, 5.4.5)
abbrev pub full_loads : List LoadOp
full_loads = I32Load ∷ I64Load ∷ []

abbrev pub narrow_loads : List LoadOp
narrow_loads =
    I32Load8S ∷ I32Load8U ∷ I32Load16S ∷ I32Load16U ∷ I64Load8S ∷ I64Load8U ∷ I64Load16S ∷ I64Load16U ∷ I64Load32S
    ∷ I64Load32U ∷ []

abbrev pub full_stores : List StoreOp
full_stores = I32Store ∷ I64Store ∷ []

abbrev pub narrow_stores : List StoreOp
narrow_stores = I32Store8 ∷ I32Store16 ∷ I64Store8 ∷ I64Store16 ∷ I64Store32 ∷ []

abbrev pub comparisons : List CompareOp
comparisons = Eq ∷ Ne ∷ LtS ∷ LtU ∷ GtS ∷ GtU ∷ LeS ∷ LeU ∷ GeS ∷ GeU ∷ []

abbrev pub unary_operators : List UnaryOp
unary_operators = Clz ∷ Ctz ∷ Popcnt ∷ []

-- sign extensions, from version 2.0; the last one is of i64 alone
abbrev pub extensions_i32 : List UnaryOp
extensions_i32 = Extend8S ∷ Extend16S ∷ []

abbrev pub extensions_i64 : List UnaryOp
extensions_i64 = Extend8S ∷ Extend16S ∷ Extend32S ∷ []

abbrev pub binary_operators : List BinaryOp
binary_operators = Add ∷ Sub ∷ Mul ∷ DivS ∷ DivU ∷ RemS ∷ RemU ∷ And ∷ Or ∷ Xor ∷ Shl ∷ ShrS ∷ ShrU ∷ Rotl ∷ Rotr ∷ []

-- the one that is there, or else the next
abbrev pub class_or : {A : Type 0} → Option A → (A → Opcode) → Option Opcode → Option Opcode
class_or (Some operator) opcode next = Some (opcode operator)
class_or None opcode next = next

-- loads and stores (5.4.4)
abbrev pub memory_opcode : ℕ → Option Opcode
memory_opcode n = class_or (operator_from 0x28 full_loads n) Load
    (class_or (operator_from 0x2c narrow_loads n) Load
    (class_or (operator_from 0x36 full_stores n) Store
    (class_or (operator_from 0x3a narrow_stores n) Store None)))

-- tests, eqz, and conversions (5.4.5)
abbrev pub single_opcode : ℕ → Option Opcode
single_opcode n = if n == 0x45 then Some (Test I32 Eqz) else if n == 0x50 then Some (Test I64 Eqz)
    else if n == 0xa7 then Some (Convert WrapI64)
    else if n == 0xac then Some (Convert ExtendI32S)
    else if n == 0xad then Some (Convert ExtendI32U)
    else None

-- the other numeric instructions (5.4.5)
abbrev pub numeric_opcode : ℕ → Option Opcode
numeric_opcode n = class_or (operator_from 0x46 comparisons n) (Compare I32)
    (class_or (operator_from 0x51 comparisons n) (Compare I64)
    (class_or (operator_from 0x67 unary_operators n) (Unary I32)
    (class_or (operator_from 0x6a binary_operators n) (Binary I32)
    (class_or (operator_from 0x79 unary_operators n) (Unary I64)
    (class_or (operator_from 0x7c binary_operators n) (Binary I64)
    (class_or (operator_from 0xc0 extensions_i32 n) (Unary I32)
    (class_or (operator_from 0xc2 extensions_i64 n) (Unary I64) None)))))))

-- the opcodes of floating-point instructions
abbrev pub between : ℕ → ℕ → ℕ → Bool
between low high n = nat_le low n && nat_le n high

abbrev pub is_float_opcode : ℕ → Bool
is_float_opcode n = between 0x2a 0x2b n || between 0x38 0x39 n || between 0x43 0x44 n || between 0x5b 0x66 n
    || between 0x8b 0xa6 n || between 0xa8 0xab n || between 0xae 0xbf n

abbrev pub or_else : Option Opcode → Result Opcode FaultKind → Result Opcode FaultKind
or_else (Some opcode) next = Ok opcode
or_else None next = next

-- what a byte encodes where an instruction begins
unfoldable pub opcode : ℕ → Result Opcode FaultKind
opcode n =
    or_else (control_opcode n)
    (or_else (variable_opcode n)
    (or_else (memory_opcode n)
    (or_else (single_opcode n)
    (or_else (numeric_opcode n)
    (if is_float_opcode n then Err Float else Err UnknownByte)))))
