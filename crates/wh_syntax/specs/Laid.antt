-- Instructions of the abstract syntax laid out: with the labels of each br_table after those of the ones before it.
use Rattle.std.specs.Prelude.{ℕ, ◌+◌, List, [], ◌∷◌, ◌++◌, length}
use Rattle.wh_syntax.specs.declared.instr.Instr.{Instr}
use Rattle.wh_syntax.specs.declared.instr.Instr.TheVariants.{Unreachable, Nop, Block, Loop, If, Else, End, Br, BrIf, BrTable, Return, Call, CallIndirect, Drop, Select, LocalGet, LocalSet, LocalTee, GlobalGet, GlobalSet, Load, Store, MemorySize, MemoryGrow, I32Const, I64Const, Test, Compare, Unary, Binary, Convert}
use Rattle.wh_model.specs.Format.Syntax as model
use Rattle.wh_model.specs.Format.Syntax.{Op, unreachable, nop, br, br_if, br_table, return, call, call_indirect, drop_operand, select, local_get, local_set, local_tee, global_get, global_set, load, store, memory_size, memory_grow, i32_const, i64_const, test, comparison, unary, binary, conversion, single, block_start, loop_start, if_start, else_mark, end_mark}

-- the instruction, where its labels begin at this place of the pool
abbrev pub laid_op : ℕ → Op → Instr
laid_op first unreachable = Unreachable
laid_op first nop = Nop
laid_op first (br l) = Br l
laid_op first (br_if l) = BrIf l
laid_op first (br_table labels last) = BrTable first (length labels)
laid_op first return = Return
laid_op first (call f) = Call f
laid_op first (call_indirect t) = CallIndirect t
laid_op first drop_operand = Drop
laid_op first select = Select
laid_op first (local_get x) = LocalGet x
laid_op first (local_set x) = LocalSet x
laid_op first (local_tee x) = LocalTee x
laid_op first (global_get x) = GlobalGet x
laid_op first (global_set x) = GlobalSet x
laid_op first (load op align offset) = Load op align offset
laid_op first (store op align offset) = Store op align offset
laid_op first memory_size = MemorySize
laid_op first memory_grow = MemoryGrow
laid_op first (i32_const n) = I32Const n
laid_op first (i64_const n) = I64Const n
laid_op first (test t op) = Test t op
laid_op first (comparison t op) = Compare t op
laid_op first (unary t op) = Unary t op
laid_op first (binary t op) = Binary t op
laid_op first (conversion op) = Convert op

abbrev pub laid_instr : ℕ → model.Instr → Instr
laid_instr first (single op) = laid_op first op
laid_instr first (block_start t) = Block t
laid_instr first (loop_start t) = Loop t
laid_instr first (if_start t) = If t
laid_instr first else_mark = Else
laid_instr first end_mark = End

-- its labels
abbrev pub labels_of : model.Instr → List ℕ
labels_of (single (br_table labels last)) = labels ++ last ∷ []
labels_of _ = []

abbrev pub laid_instrs : ℕ → List model.Instr → List Instr
laid_instrs first [] = []
laid_instrs first (i ∷ is) = laid_instr first i ∷ laid_instrs (first + length (labels_of i)) is

abbrev pub laid_labels : List model.Instr → List ℕ
laid_labels [] = []
laid_labels (i ∷ is) = labels_of i ++ laid_labels is
