-- Reading instructions from a place of a byte list.
use Rattle.std.specs.Prelude.{ℕ, zero, suc, ◌-◌, List, [], ◌∷◌, length, drop, Result, Ok, Err, Option, Some, None}
use Rattle.wh_model.specs.declared.faults.FaultKind.TheVariants.{Limit, UnknownByte}
use Rattle.wh_model.specs.declared.faults.DecodeError.{DecodeError}
use Rattle.wh_model.specs.declared.ValType.{ValType}
use Rattle.wh_model.specs.declared.Open.{Open}
use Rattle.wh_model.specs.declared.Open.TheVariants.{Then, Other}
use Rattle.wh_model.specs.declared.Opcode.{Opcode}
use Rattle.wh_model.specs.declared.Opcode.TheVariants.{Unreachable, Nop, Block, Loop, If, Else, End, Br, BrIf, BrTable, Return, Call, CallIndirect, Drop, Select, LocalGet, LocalSet, LocalTee, GlobalGet, GlobalSet, Load, Store, MemorySize, MemoryGrow, I32Const, I64Const, Test, Compare, Unary, Binary, Convert}
use Rattle.wh_model.specs.Format.Grammar.{exact_byte}
use Rattle.wh_model.specs.Format.Syntax.{Op, unreachable, nop, br, br_if, br_table, return, call, call_indirect, drop_operand, select, local_get, local_set, local_tee, global_get, global_set, load, store, memory_size, memory_grow, i32_const, i64_const, test, comparison, unary, binary, conversion, Code, Instr, single, block_start, loop_start, if_start, else_mark, end_mark}
use Rattle.wh_model.specs.Format.Opcodes.{block_type, opcode}
use Rattle.wh_model.specs.Format.Limits.{most_labels}
use Rattle.wh_model.specs.Format.Instructions.{may_come}
use Rattle.wh_model.specs.Focus.Nested.{nested}
use Rattle.wh_leb.specs.Reading.{◌>>=◌, head_of, one_at, u32_at, s32_at, s64_at, Reader, vec_up_to_at}

abbrev pub with_index_at : (ℕ → Op) → Reader Instr
with_index_at op b at = do
  x ← u32_at b at
  Ok (single (op x.0), x.1)

abbrev pub with_address_at : (ℕ → ℕ → Op) → Reader Instr
with_address_at op b at = do
  align ← u32_at b at
  offset ← u32_at b align.1
  Ok (single (op align.0 offset.0), offset.1)

abbrev pub opening_at : (Option ValType → Instr) → Reader Instr
opening_at start b at = do
  t ← one_at block_type b at
  Ok (start t.0, t.1)

abbrev pub table_at : Reader Instr
table_at b at = do
  labels ← vec_up_to_at most_labels u32_at b at
  last ← u32_at b labels.1
  Ok (single (br_table labels.0 last.0), last.1)

abbrev pub indirect_at : Reader Instr
indirect_at b at = do
  type ← u32_at b at
  zero_byte ← one_at (exact_byte UnknownByte 0x00) b type.1
  Ok (single (call_indirect type.0), zero_byte.1)

abbrev pub reserved_at : Op → Reader Instr
reserved_at op b at = do
  zero_byte ← one_at (exact_byte UnknownByte 0x00) b at
  Ok (single op, zero_byte.1)

unfoldable pub operands_at : Opcode → Reader Instr
operands_at Unreachable b at = Ok (single unreachable, at)
operands_at Nop b at = Ok (single nop, at)
operands_at Block b at = opening_at block_start b at
operands_at Loop b at = opening_at loop_start b at
operands_at If b at = opening_at if_start b at
operands_at Else b at = Ok (else_mark, at)
operands_at End b at = Ok (end_mark, at)
operands_at Br b at = with_index_at br b at
operands_at BrIf b at = with_index_at br_if b at
operands_at BrTable b at = table_at b at
operands_at Return b at = Ok (single return, at)
operands_at Call b at = with_index_at call b at
operands_at CallIndirect b at = indirect_at b at
operands_at Drop b at = Ok (single drop_operand, at)
operands_at Select b at = Ok (single select, at)
operands_at LocalGet b at = with_index_at local_get b at
operands_at LocalSet b at = with_index_at local_set b at
operands_at LocalTee b at = with_index_at local_tee b at
operands_at GlobalGet b at = with_index_at global_get b at
operands_at GlobalSet b at = with_index_at global_set b at
operands_at (Load op) b at = with_address_at (load op) b at
operands_at (Store op) b at = with_address_at (store op) b at
operands_at MemorySize b at = reserved_at memory_size b at
operands_at MemoryGrow b at = reserved_at memory_grow b at
operands_at I32Const b at = do
  n ← s32_at b at
  Ok (single (i32_const n.0), n.1)
operands_at I64Const b at = do
  n ← s64_at b at
  Ok (single (i64_const n.0), n.1)
operands_at (Test t op) b at = Ok (single (test t op), at)
operands_at (Compare t op) b at = Ok (single (comparison t op), at)
operands_at (Unary t op) b at = Ok (single (unary t op), at)
operands_at (Binary t op) b at = Ok (single (binary t op), at)
operands_at (Convert op) b at = Ok (single (conversion op), at)

unfoldable pub instr_at : List Open → Reader Instr
instr_at stack b at = do
  code ← one_at (λ n. may_come stack (opcode n)) b at
  operands_at code.0 b code.1

-- the constructs that are open after an instruction; none where it ends the expression
abbrev pub else_after : List Open → Option (List Open)
else_after [] = Some []
else_after (construct ∷ stack) = Some (Other ∷ stack)

abbrev pub end_after : List Open → Option (List Open)
end_after [] = None
end_after (construct ∷ stack) = Some stack

abbrev pub after_instr : List Open → Instr → Option (List Open)
after_instr stack (single op) = Some stack
after_instr stack (block_start t) = Some (Other ∷ stack)
after_instr stack (loop_start t) = Some (Other ∷ stack)
after_instr stack (if_start t) = Some (Then ∷ stack)
after_instr stack else_mark = else_after stack
after_instr stack end_mark = end_after stack

abbrev pub goes_on : Option (List Open) → Instr → ℕ → (List Open → Result (List Instr × ℕ) DecodeError)
    → Result (List Instr × ℕ) DecodeError
goes_on None i at rest = Ok (i ∷ [], at)
goes_on (Some stack) i at rest = rest stack >>= λ r. Ok (i ∷ r.0, r.1)

-- the instructions up to the end of the expression, at most n
unfoldable pub code_from : ℕ → List Open → Reader (List Instr)
code_from zero stack b at = head_of (λ _. Err Limit) (drop at b) at
code_from (suc n) stack b at =
    instr_at stack b at >>= λ i. goes_on (after_instr stack i.0) i.0 i.1 (λ inner. code_from n inner b i.1)

-- without a limit there may be as many as there are bytes
abbrev pub most_from : Option ℕ → List ℕ → ℕ → ℕ
most_from (Some most) b at = most
most_from None b at = length b - at

unfoldable pub code_at : Option ℕ → Reader Code
code_at most b at = code_from (most_from most b at) [] b at >>= λ r. Ok (nested r.0, r.1)
