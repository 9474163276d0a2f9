-- Which instruction of the abstract syntax an instruction with its expression's pool of labels represents.
use Rattle.std.specs.Prelude.{ℕ, ◌+◌, ◌<◌, List, length, take, drop, slice_index}
use Rattle.wh_syntax.specs.declared.instr.Instr.{Instr}
use Rattle.wh_syntax.specs.declared.instr.Instr.TheVariants.{Unreachable, Nop, Block, Loop, If, Else, End, Br, BrIf, BrTable, Return, Call, CallIndirect, Drop, Select, LocalGet, LocalSet, LocalTee, GlobalGet, GlobalSet, Load, Store, MemorySize, MemoryGrow, I32Const, I64Const, Test, Compare, Unary, Binary, Convert}
use Rattle.wh_model.specs.Format.Syntax as model
use Rattle.wh_model.specs.Format.Syntax.{unreachable, nop, br, br_if, br_table, return, call, call_indirect, drop_operand, select, local_get, local_set, local_tee, global_get, global_set, load, store, memory_size, memory_grow, i32_const, i64_const, test, comparison, unary, binary, conversion, single, block_start, loop_start, if_start, else_mark, end_mark}

abbrev pub instr_of : List ℕ → Instr → model.Instr
instr_of labels Unreachable = single unreachable
instr_of labels Nop = single nop
instr_of labels (Block t) = block_start t
instr_of labels (Loop t) = loop_start t
instr_of labels (If t) = if_start t
instr_of labels Else = else_mark
instr_of labels End = end_mark
instr_of labels (Br l) = single (br l)
instr_of labels (BrIf l) = single (br_if l)
instr_of labels (BrTable first count) =
    single (br_table (take count (drop first labels)) (slice_index labels (first + count)))
instr_of labels Return = single return
instr_of labels (Call f) = single (call f)
instr_of labels (CallIndirect t) = single (call_indirect t)
instr_of labels Drop = single drop_operand
instr_of labels Select = single select
instr_of labels (LocalGet x) = single (local_get x)
instr_of labels (LocalSet x) = single (local_set x)
instr_of labels (LocalTee x) = single (local_tee x)
instr_of labels (GlobalGet x) = single (global_get x)
instr_of labels (GlobalSet x) = single (global_set x)
instr_of labels (Load op align offset) = single (load op align offset)
instr_of labels (Store op align offset) = single (store op align offset)
instr_of labels MemorySize = single memory_size
instr_of labels MemoryGrow = single memory_grow
instr_of labels (I32Const n) = single (i32_const n)
instr_of labels (I64Const n) = single (i64_const n)
instr_of labels (Test t op) = single (test t op)
instr_of labels (Compare t op) = single (comparison t op)
instr_of labels (Unary t op) = single (unary t op)
instr_of labels (Binary t op) = single (binary t op)
instr_of labels (Convert op) = single (conversion op)

-- the labels of an instruction, the default one too, are in the pool
abbrev pub InPool : List ℕ → Instr → Type 0
InPool labels (BrTable first count) = first + count < length labels
InPool labels _ = Unit {0}
