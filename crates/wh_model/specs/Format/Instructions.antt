-- Instructions and expressions in the binary format, section 5.4 of the standard.
use Rattle.std.specs.Prelude.{◌≡◌, ℕ, suc, ◌+◌, ◌≤◌, ◌<◌, ◌⊎◌, List, [], ◌∷◌, ◌++◌, length, Result, Ok, Err, Option, Some, None, if◌then◌else◌, nat_lt}
use Rattle.wh_model.specs.declared.faults.FaultKind.{FaultKind}
use Rattle.wh_model.specs.declared.faults.FaultKind.TheVariants.{UnknownByte, Limit}
use Rattle.wh_model.specs.declared.ValType.{ValType}
use Rattle.wh_model.specs.declared.Opcode.{Opcode}
use Rattle.wh_model.specs.declared.Opcode.TheVariants.{Unreachable, Nop, Block, Loop, If, Else, End, Br, BrIf, BrTable, Return, Call, CallIndirect, Drop, Select, LocalGet, LocalSet, LocalTee, GlobalGet, GlobalSet, Load, Store, MemorySize, MemoryGrow, I32Const, I64Const, Test, Compare, Unary, Binary, Convert}
use Rattle.wh_model.specs.declared.Open.{Open}
use Rattle.wh_model.specs.declared.Open.TheVariants.{Then, Other}
use Rattle.wh_model.specs.Format.Grammar.{Grammar, gives, ◌>>=◌, ◌>>◌, one_of, this_byte, Each}
use Rattle.wh_model.specs.Format.Leb.{u32, s32, s64, vec_up_to}
use Rattle.wh_model.specs.Format.Syntax.{Op, unreachable, nop, br, br_if, br_table, return, call, call_indirect, drop_operand, select, local_get, local_set, local_tee, global_get, global_set, load, store, memory_size, memory_grow, i32_const, i64_const, test, comparison, unary, binary, conversion, Code, Instr, single, block_start, loop_start, if_start, else_mark, end_mark, flatten, expression}
use Rattle.wh_model.specs.Format.Opcodes.{block_type, opcode}
use Rattle.wh_model.specs.Format.Limits.{depth, most_nested, most_labels, FewInstructions}

-- valtype or 0x40 after an opcode that opens a construct
abbrev pub blocktype : Grammar (Option ValType)
blocktype = one_of block_type

-- an instruction with one index after its opcode
abbrev pub with_index : (ℕ → Op) → Grammar Instr
with_index op = do
  x ← u32
  gives (single (op x))

-- memarg (5.4.4): the exponent of the alignment, and the offset
abbrev pub with_address : (ℕ → ℕ → Op) → Grammar Instr
with_address op = do
  align ← u32
  offset ← u32
  gives (single (op align offset))

abbrev pub opening : (Option ValType → Instr) → Grammar Instr
opening start = do
  t ← blocktype
  gives (start t)

-- what stands after an opcode
abbrev pub operands : Opcode → Grammar Instr
operands Unreachable = gives (single unreachable)
operands Nop = gives (single nop)
operands Block = opening block_start
operands Loop = opening loop_start
operands If = opening if_start
operands Else = gives else_mark
operands End = gives end_mark
operands Br = with_index br
operands BrIf = with_index br_if
operands BrTable = do
  labels ← vec_up_to most_labels u32
  last ← u32
  gives (single (br_table labels last))
operands Return = gives (single return)
operands Call = with_index call
operands CallIndirect = do
  type ← u32
  this_byte UnknownByte 0x00
  gives (single (call_indirect type))
operands Drop = gives (single drop_operand)
operands Select = gives (single select)
operands LocalGet = with_index local_get
operands LocalSet = with_index local_set
operands LocalTee = with_index local_tee
operands GlobalGet = with_index global_get
operands GlobalSet = with_index global_set
operands (Load op) = with_address (load op)
operands (Store op) = with_address (store op)
operands MemorySize = do
  this_byte UnknownByte 0x00
  gives (single memory_size)
operands MemoryGrow = do
  this_byte UnknownByte 0x00
  gives (single memory_grow)
operands I32Const = do
  n ← s32
  gives (single (i32_const n))
operands I64Const = do
  n ← s64
  gives (single (i64_const n))
operands (Test t op) = gives (single (test t op))
operands (Compare t op) = gives (single (comparison t op))
operands (Unary t op) = gives (single (unary t op))
operands (Binary t op) = gives (single (binary t op))
operands (Convert op) = gives (single (conversion op))

-- one instruction, in binary order
abbrev pub instr : Grammar Instr
instr = one_of opcode >>= operands

-- ---- how expressions break

-- These instructions are a front of an expression, within the limit on nesting; inside these constructs, the
-- innermost first, the next instruction stands.
pub data Front : List Instr → List Open → Type 0 where
  in_body : (c : Code) → depth c ≤ most_nested → Front (flatten c) []
  in_block : {front : List Instr} {stack : List Open} (t : Option ValType) (c : Code) → Front front stack
      → depth c + suc (length stack) ≤ most_nested → Front (front ++ block_start t ∷ flatten c) (Other ∷ stack)
  in_loop : {front : List Instr} {stack : List Open} (t : Option ValType) (c : Code) → Front front stack
      → depth c + suc (length stack) ≤ most_nested → Front (front ++ loop_start t ∷ flatten c) (Other ∷ stack)
  in_then : {front : List Instr} {stack : List Open} (t : Option ValType) (c : Code) → Front front stack
      → depth c + suc (length stack) ≤ most_nested → Front (front ++ if_start t ∷ flatten c) (Then ∷ stack)
  in_else : {front : List Instr} {stack : List Open} (t : Option ValType) (c d : Code) → Front front stack
      → depth c + suc (length stack) ≤ most_nested → depth d + suc (length stack) ≤ most_nested
      → Front (front ++ if_start t ∷ flatten c ++ else_mark ∷ flatten d) (Other ∷ stack)

-- what an opcode encodes inside these constructs: one that opens a construct has to be at a level that there may be, and an else
-- directly in an if whose else it is
abbrev pub if_room : List Open → Opcode → Result Opcode FaultKind
if_room stack code = if nat_lt (length stack) most_nested then Ok code else Err Limit

abbrev pub else_in : List Open → Result Opcode FaultKind
else_in [] = Err UnknownByte
else_in (Then ∷ stack) = Ok Else
else_in (Other ∷ stack) = Err UnknownByte

abbrev pub allowed : List Open → Opcode → Result Opcode FaultKind
allowed stack Block = if_room stack Block
allowed stack Loop = if_room stack Loop
allowed stack If = if_room stack If
allowed stack Else = else_in stack
allowed stack other = Ok other

abbrev pub may_come : List Open → Result Opcode FaultKind → Result Opcode FaultKind
may_come stack (Err kind) = Err kind
may_come stack (Ok code) = allowed stack code

abbrev pub next_instr : List Open → Grammar Instr
next_instr stack = one_of (λ n. may_come stack (opcode n)) >>= operands

-- how the next instruction breaks after `count` ones, where there may be no more than `most`: whatever it is, if they are all
-- there
abbrev pub NextBreaks : Option ℕ → ℕ → List Open → List ℕ → FaultKind → ℕ → Type 0
NextBreaks None count stack b kind k = (next_instr stack).breaks b kind k
NextBreaks (Some most) count stack b kind k = ((count < most) × (next_instr stack).breaks b kind k)
    ⊎ ((count ≡ most) × (one_of {A = Instr} (λ _. Err Limit)).breaks b kind k)

-- expr (5.4.6), with a limit on its instructions or none
abbrev pub expr : Option ℕ → Grammar Code
expr most = record {
  spells = λ c b. Each instr.spells (expression c) b;
  within =
      λ c b. Each instr.within (expression c) b × FewInstructions most (length (expression c))
      × (depth c ≤ most_nested);
  breaks =
      λ b kind k. (front : List Instr) × (stack : List Open) × (t u : List ℕ) × (j : ℕ) × (b ≡ t ++ u)
      × (k ≡ length t + j)
      × Front front stack × Each instr.within front t × NextBreaks most (length front) stack u kind j;
}
