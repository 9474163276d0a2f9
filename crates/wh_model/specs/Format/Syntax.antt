-- Abstract syntax, section 2 of the standard: types (2.3), instructions (2.4) and modules (2.5).
use Rattle.std.specs.Prelude.{ℕ, List, [], ◌∷◌, ◌++◌, Option, None, ℤ}
use Rattle.wh_model.specs.declared.ValType.{ValType}
use Rattle.wh_model.specs.declared.Mutability.{Mutability}
use Rattle.wh_model.specs.declared.UnaryOp.{UnaryOp}
use Rattle.wh_model.specs.declared.BinaryOp.{BinaryOp}
use Rattle.wh_model.specs.declared.TestOp.{TestOp}
use Rattle.wh_model.specs.declared.CompareOp.{CompareOp}
use Rattle.wh_model.specs.declared.ConvertOp.{ConvertOp}
use Rattle.wh_model.specs.declared.LoadOp.{LoadOp}
use Rattle.wh_model.specs.declared.StoreOp.{StoreOp}
use Rattle.wh_model.specs.declared.ExternKind.{ExternKind}

-- ---- instructions

-- An instruction with nothing nested in it (2.4.1 to 2.4.5). Labels, functions, types, locals and globals are named
-- by their index; a load and a store carry the exponent of their alignment and their offset.
pub data Op : Type 0 where
  unreachable : Op
  nop : Op
  br : ℕ → Op
  br_if : ℕ → Op
  br_table : List ℕ → ℕ → Op
  return : Op
  call : ℕ → Op
  call_indirect : ℕ → Op
  drop_operand : Op
  select : Op
  local_get : ℕ → Op
  local_set : ℕ → Op
  local_tee : ℕ → Op
  global_get : ℕ → Op
  global_set : ℕ → Op
  load : LoadOp → ℕ → ℕ → Op
  store : StoreOp → ℕ → ℕ → Op
  memory_size : Op
  memory_grow : Op
  i32_const : ℤ → Op
  i64_const : ℤ → Op
  test : ValType → TestOp → Op
  comparison : ValType → CompareOp → Op
  unary : ValType → UnaryOp → Op
  binary : ValType → BinaryOp → Op
  conversion : ConvertOp → Op

-- A sequence of instructions, instr* (2.4.5, 2.4.6): the first instruction with its result type and what is nested in it, and the
-- instructions after it. An if keeps whether an else stands in it, so that this form and the binary one determine each other.
pub data Code : Type 0 where
  nothing : Code
  plain : Op → Code → Code
  block : Option ValType → Code → Code → Code
  loop : Option ValType → Code → Code → Code
  if_then : Option ValType → Code → Code → Code
  if_else : Option ValType → Code → Code → Code → Code

-- an opcode with its immediates, as instructions stand one after the other in binary order
pub data Instr : Type 0 where
  single : Op → Instr
  block_start : Option ValType → Instr
  loop_start : Option ValType → Instr
  if_start : Option ValType → Instr
  else_mark : Instr
  end_mark : Instr

-- the instructions of a sequence in binary order
abbrev pub flatten : Code → List Instr
flatten nothing = []
flatten (plain op rest) = single op ∷ flatten rest
flatten (block t body rest) = block_start t ∷ flatten body ++ end_mark ∷ flatten rest
flatten (loop t body rest) = loop_start t ∷ flatten body ++ end_mark ∷ flatten rest
flatten (if_then t first rest) = if_start t ∷ flatten first ++ end_mark ∷ flatten rest
flatten (if_else t first second rest) =
    if_start t ∷ flatten first ++ else_mark ∷ flatten second ++ end_mark ∷ flatten rest

-- one sequence, and after it another
abbrev pub join : Code → Code → Code
join nothing d = d
join (plain op rest) d = plain op (join rest d)
join (block t body rest) d = block t body (join rest d)
join (loop t body rest) d = loop t body (join rest d)
join (if_then t first rest) d = if_then t first (join rest d)
join (if_else t first second rest) d = if_else t first second (join rest d)

-- expr (2.4.6): the instructions, and an end
abbrev pub expression : Code → List Instr
expression c = flatten c ++ end_mark ∷ []

-- ---- types

pub record FuncType : Type 0 where
  pub params : List ValType
  pub results : List ValType

-- the size range of a table, in entries, or of a memory, in pages of 65536 bytes; with no maximum it is unbounded
pub record Limits : Type 0 where
  pub min : ℕ
  pub max : Option ℕ

pub record GlobalType : Type 0 where
  pub value : ValType
  pub mutability : Mutability

-- ---- modules

-- what is imported: a function of the type at an index, or a global that is never written
pub data ImportDesc : Type 0 where
  of_func : ℕ → ImportDesc
  of_global : ValType → ImportDesc

-- names are their bytes
pub record Import : Type 0 where
  pub from : List ℕ
  pub name : List ℕ
  pub desc : ImportDesc

pub record Global : Type 0 where
  pub type : GlobalType
  pub init : Code

pub record Export : Type 0 where
  pub name : List ℕ
  pub kind : ExternKind
  pub index : ℕ

-- function indices for a table from an offset on
pub record Element : Type 0 where
  pub table : ℕ
  pub offset : Code
  pub init : List ℕ

-- bytes for a memory from an offset on
pub record Data : Type 0 where
  pub memory : ℕ
  pub offset : Code
  pub init : List ℕ

-- the locals beside the parameters, and the instructions, of a function
pub record Body : Type 0 where
  pub locals : List ValType
  pub code : Code

-- `funcs` has the type index of each function, `bodies` what it does
pub record Module : Type 0 where
  pub types : List FuncType
  pub imports : List Import
  pub funcs : List ℕ
  pub tables : List Limits
  pub memories : List Limits
  pub globals : List Global
  pub exports : List Export
  pub start : Option ℕ
  pub elements : List Element
  pub bodies : List Body
  pub segments : List Data

-- the module without any part
abbrev pub empty_module : Module
empty_module = record {
  types = [];
  imports = [];
  funcs = [];
  tables = [];
  memories = [];
  globals = [];
  exports = [];
  start = None;
  elements = [];
  bodies = [];
  segments = [];
}
