-- Reading one instruction.
use Rattle.std.proofs.Common.{◌≡◌, ℕ, ◌<◌, ◌≤◌, List, [], ◌∷◌, length, Result, Ok, Err, Option, refl, sym, ap, subst, ◌∙◌, inl, inr, arith, ltb, length-append}
use Rattle.std.proofs.lemmas.Bool.{ltb-true, lt-ltb}
use Rattle.wh_model.specs.declared.faults.FaultKind.{FaultKind}
use Rattle.wh_model.specs.declared.faults.FaultKind.TheVariants.{Limit, UnknownByte}
use Rattle.wh_model.specs.declared.ValType.{ValType}
use Rattle.wh_model.specs.declared.Open.{Open}
use Rattle.wh_model.specs.declared.Open.TheVariants.{Then, Other}
use Rattle.wh_model.specs.declared.Opcode.{Opcode}
use Rattle.wh_model.specs.declared.Opcode.TheVariants.{Unreachable, Nop, Block, Loop, If, Else, End, Br, BrIf, BrTable, Return, Call, CallIndirect, Drop, Select, LocalGet, LocalSet, LocalTee, GlobalGet, GlobalSet, Load, Store, MemorySize, MemoryGrow, I32Const, I64Const, Test, Compare, Unary, Binary, Convert}
use Rattle.wh_model.specs.Format.Grammar.{◌>>=◌ as ◌then◌}
use Rattle.wh_model.specs.Format.{gives, one_of, this_byte, exact_byte, Each, u32, s32, s64, vec_up_to, Op, unreachable, nop, br, br_if, br_table, return, call, call_indirect, drop_operand, select, local_get, local_set, local_tee, global_get, global_set, load, store, memory_size, memory_grow, i32_const, i64_const, test, comparison, unary, binary, conversion, Instr, single, block_start, loop_start, if_start, else_mark, end_mark, block_type, opcode, most_nested, most_labels, blocktype, with_index, with_address, opening, operands, instr, if_room, else_in, allowed, may_come, next_instr}
use Rattle.wh_leb.specs.Reading.{◌>>=◌, ReadsBy, Anything, one_at, u32_at, s32_at, s64_at, vec_up_to_at}
use Rattle.wh_leb.proofs.Combinators.{chosen, reads_gives, reads_then, reads_one_of}
use Rattle.wh_leb.proofs.Integers.{reads_u32, reads_s32, reads_s64, reads_vec_up_to, reads_byte}
use Rattle.wh_expr.specs.ReadingCode.{with_index_at, with_address_at, opening_at, table_at, indirect_at, reserved_at, operands_at, instr_at}
use Rattle.wh_expr.proofs.Fronts.{MayCome, ElseMayCome}

reads_with_index : (op : ℕ → Op) → ReadsBy Anything (with_index op) (with_index_at op)
reads_with_index op = reads_then Anything u32 (λ x. gives (single (op x))) u32_at (λ x b at. Ok (single (op x), at)) reads_u32 (λ x. reads_gives (single (op x)))

reads_with_address : (op : ℕ → ℕ → Op) → ReadsBy Anything (with_address op) (with_address_at op)
reads_with_address op =
    reads_then Anything u32 (λ a. u32 then λ o. gives (single (op a o))) u32_at (λ a b at. u32_at b at >>= λ o. Ok (single (op a o.0), o.1)) reads_u32 (λ a.
    reads_then Anything u32 (λ o. gives (single (op a o))) u32_at (λ o b at. Ok (single (op a o), at)) reads_u32 (λ o. reads_gives (single (op a o))))

reads_opening : (start : Option ValType → Instr) → ReadsBy Anything (opening start) (opening_at start)
reads_opening start = reads_then Anything blocktype (λ t. gives (start t)) (one_at block_type) (λ t b at. Ok (start t, at)) (reads_one_of block_type) (λ t. reads_gives (start t))

reads_table : ReadsBy Anything (operands BrTable) table_at
reads_table =
    reads_then Anything (vec_up_to most_labels u32) (λ ls. u32 then λ l. gives (single (br_table ls l))) (vec_up_to_at most_labels u32_at) (λ ls b at. u32_at b at >>= λ l. Ok (single (br_table ls l.0), l.1)) (reads_vec_up_to most_labels u32 u32_at reads_u32) (λ ls.
    reads_then Anything u32 (λ l. gives (single (br_table ls l))) u32_at (λ l b at. Ok (single (br_table ls l), at)) reads_u32 (λ l. reads_gives (single (br_table ls l))))

reads_indirect : ReadsBy Anything (operands CallIndirect) indirect_at
reads_indirect =
    reads_then Anything u32 (λ t. this_byte UnknownByte 0 then λ _. gives (single (call_indirect t))) u32_at (λ t b at. one_at (exact_byte UnknownByte 0) b at >>= λ z. Ok (single (call_indirect t), z.1)) reads_u32 (λ t.
    reads_then Anything (this_byte UnknownByte 0) (λ _. gives (single (call_indirect t))) (one_at (exact_byte UnknownByte 0)) (λ _ b at. Ok (single (call_indirect t), at)) (reads_byte UnknownByte 0) (λ _. reads_gives (single (call_indirect t))))

reads_reserved : (op : Op) → ReadsBy Anything (this_byte UnknownByte 0 then λ _. gives (single op)) (reserved_at op)
reads_reserved op = reads_then Anything (this_byte UnknownByte 0) (λ _. gives (single op)) (one_at (exact_byte UnknownByte 0)) (λ _ b at. Ok (single op, at)) (reads_byte UnknownByte 0) (λ _. reads_gives (single op))

reads_operands : (code : Opcode) → ReadsBy Anything (operands code) (operands_at code)
unfolding operands_at
reads_operands Unreachable = reads_gives (single unreachable)
reads_operands Nop = reads_gives (single nop)
reads_operands Block = reads_opening block_start
reads_operands Loop = reads_opening loop_start
reads_operands If = reads_opening if_start
reads_operands Else = reads_gives else_mark
reads_operands End = reads_gives end_mark
reads_operands Br = reads_with_index br
reads_operands BrIf = reads_with_index br_if
reads_operands BrTable = reads_table
reads_operands Return = reads_gives (single return)
reads_operands Call = reads_with_index call
reads_operands CallIndirect = reads_indirect
reads_operands Drop = reads_gives (single drop_operand)
reads_operands Select = reads_gives (single select)
reads_operands LocalGet = reads_with_index local_get
reads_operands LocalSet = reads_with_index local_set
reads_operands LocalTee = reads_with_index local_tee
reads_operands GlobalGet = reads_with_index global_get
reads_operands GlobalSet = reads_with_index global_set
reads_operands (Load op) = reads_with_address (load op)
reads_operands (Store op) = reads_with_address (store op)
reads_operands MemorySize = reads_reserved memory_size
reads_operands MemoryGrow = reads_reserved memory_grow
reads_operands I32Const = reads_then Anything s32 (λ n. gives (single (i32_const n))) s32_at (λ n b at. Ok (single (i32_const n), at)) reads_s32 (λ n. reads_gives (single (i32_const n)))
reads_operands I64Const = reads_then Anything s64 (λ n. gives (single (i64_const n))) s64_at (λ n b at. Ok (single (i64_const n), at)) reads_s64 (λ n. reads_gives (single (i64_const n)))
reads_operands (Test t op) = reads_gives (single (test t op))
reads_operands (Compare t op) = reads_gives (single (comparison t op))
reads_operands (Unary t op) = reads_gives (single (unary t op))
reads_operands (Binary t op) = reads_gives (single (binary t op))
reads_operands (Convert op) = reads_gives (single (conversion op))

pub reads_next : (stack : List Open) → ReadsBy Anything (next_instr stack) (instr_at stack)
unfolding instr_at
reads_next stack = reads_then Anything (one_of (λ n. may_come stack (opcode n))) operands (one_at (λ n. may_come stack (opcode n))) (λ code. operands_at code) (reads_one_of (λ n. may_come stack (opcode n))) reads_operands

-- ---- what may come next is an instruction that may come

abbrev CodeMay : List Open → Opcode → Type 0
CodeMay stack Block = length stack < most_nested
CodeMay stack Loop = length stack < most_nested
CodeMay stack If = length stack < most_nested
CodeMay stack Else = ElseMayCome stack
CodeMay stack _ = Unit {0}

abbrev some_code : Opcode → Result Opcode FaultKind
some_code code = Ok code

code_is : (a b : Opcode) → some_code a ≡ some_code b → a ≡ b
code_is a b e = cc

code_may : (stack : List Open) (a code : Opcode) → CodeMay stack a → a ≡ code → CodeMay stack code
code_may stack a code m e = subst (λ (c : Opcode). CodeMay stack c) e m

room_is : (stack : List Open) (a code : Opcode) → if_room stack a ≡ Ok code → (length stack < most_nested) × (a ≡ code)
room_is stack a code e = elim (chosen (ltb (length stack) most_nested) (Ok a) (Err Limit) (Ok code) e) [
  | inl h ↦ (ltb-true _ _ h.0, code_is a code h.1)
  | inr h ↦ absurd cc
]

else_is : (stack : List Open) (code : Opcode) → else_in stack ≡ Ok code → ElseMayCome stack × (Else ≡ code)
else_is [] code e = absurd cc
else_is (Then ∷ stack) code e = (tt, code_is Else code e)
else_is (Other ∷ stack) code e = absurd cc

allowed_ok : (stack : List Open) (a code : Opcode) → allowed stack a ≡ Ok code → (a ≡ code) × CodeMay stack code
allowed_ok stack Block code e = let p = room_is stack Block code e in (p.1, code_may stack Block code p.0 p.1)
allowed_ok stack Loop code e = let p = room_is stack Loop code e in (p.1, code_may stack Loop code p.0 p.1)
allowed_ok stack If code e = let p = room_is stack If code e in (p.1, code_may stack If code p.0 p.1)
allowed_ok stack Else code e = let p = else_is stack code e in (p.1, code_may stack Else code p.0 p.1)
allowed_ok stack a code e = let p = code_is a code e in (p, code_may stack a code tt p)

else_again : (stack : List Open) → ElseMayCome stack → else_in stack ≡ Ok Else
else_again [] m = absurd m
else_again (Then ∷ stack) m = refl
else_again (Other ∷ stack) m = absurd m

allowed_again : (stack : List Open) (code : Opcode) → CodeMay stack code → allowed stack code ≡ Ok code
allowed_again stack Block m = rw (lt-ltb (length stack) most_nested m) refl
allowed_again stack Loop m = rw (lt-ltb (length stack) most_nested m) refl
allowed_again stack If m = rw (lt-ltb (length stack) most_nested m) refl
allowed_again stack Else m = else_again stack m
allowed_again stack _ m = refl

may_come_ok : (stack : List Open) (r : Result Opcode FaultKind) (code : Opcode) → may_come stack r ≡ Ok code → (r ≡ Ok code) × CodeMay stack code
may_come_ok stack (Err kind) code e = absurd cc
may_come_ok stack (Ok a) code e = let p = allowed_ok stack a code e in (ap some_code p.0, p.1)

-- The instruction that an opcode begins, by what it may have to do with the constructs that are open
abbrev Opens : Opcode → Instr → Type 0
Opens Block i = (t : Option ValType) × (i ≡ block_start t)
Opens Loop i = (t : Option ValType) × (i ≡ loop_start t)
Opens If i = (t : Option ValType) × (i ≡ if_start t)
Opens Else i = i ≡ else_mark
Opens End i = i ≡ end_mark
Opens _ i = (op : Op) × (i ≡ single op)

opens : (code : Opcode) (i : Instr) (u : List ℕ) → (operands code).within i u → Opens code i
opens Unreachable i u w = (_, w.0)
opens Nop i u w = (_, w.0)
opens Block i u w = (w.0, w.5.0)
opens Loop i u w = (w.0, w.5.0)
opens If i u w = (w.0, w.5.0)
opens Else i u w = w.0
opens End i u w = w.0
opens Br i u w = (_, w.5.0)
opens BrIf i u w = (_, w.5.0)
opens BrTable i u w = (_, w.5.5.0)
opens Return i u w = (_, w.0)
opens Call i u w = (_, w.5.0)
opens CallIndirect i u w = (_, w.5.5.0)
opens Drop i u w = (_, w.0)
opens Select i u w = (_, w.0)
opens LocalGet i u w = (_, w.5.0)
opens LocalSet i u w = (_, w.5.0)
opens LocalTee i u w = (_, w.5.0)
opens GlobalGet i u w = (_, w.5.0)
opens GlobalSet i u w = (_, w.5.0)
opens (Load op) i u w = (_, w.5.5.0)
opens (Store op) i u w = (_, w.5.5.0)
opens MemorySize i u w = (_, w.5.0)
opens MemoryGrow i u w = (_, w.5.0)
opens I32Const i u w = (_, w.5.0)
opens I64Const i u w = (_, w.5.0)
opens (Test t op) i u w = (_, w.0)
opens (Compare t op) i u w = (_, w.0)
opens (Unary t op) i u w = (_, w.0)
opens (Binary t op) i u w = (_, w.0)
opens (Convert op) i u w = (_, w.0)

may_by : (stack : List Open) (i j : Instr) → i ≡ j → MayCome stack j → MayCome stack i
may_by stack i j e m = subst (λ (x : Instr). MayCome stack x) (sym e) m

operands_may : (code : Opcode) (stack : List Open) (i : Instr) → Opens code i → CodeMay stack code → MayCome stack i
operands_may Block stack i o m = may_by stack i _ o.1 m
operands_may Loop stack i o m = may_by stack i _ o.1 m
operands_may If stack i o m = may_by stack i _ o.1 m
operands_may Else stack i o m = may_by stack i else_mark o m
operands_may End stack i o m = may_by stack i end_mark o tt
operands_may _ stack i o m = may_by stack i (single o.0) o.1 tt

may_operands : (code : Opcode) (stack : List Open) (i : Instr) → Opens code i → MayCome stack i → CodeMay stack code
may_operands Block stack i o m = may_by stack _ i (sym o.1) m
may_operands Loop stack i o m = may_by stack _ i (sym o.1) m
may_operands If stack i o m = may_by stack _ i (sym o.1) m
may_operands Else stack i o m = may_by stack else_mark i (sym o) m
may_operands _ stack i o m = tt

pub next_within : (stack : List Open) (i : Instr) (t : List ℕ) → (next_instr stack).within i t → instr.within i t × MayCome stack i
next_within stack i t w =
    let p = may_come_ok stack (opcode w.4.0) w.0 w.4.2 in
    ((w.0, w.1, w.2, w.3, (w.4.0, w.4.1, p.0), w.5), operands_may w.0 stack i (opens w.0 i w.2 w.5) p.1)

pub next_again : (stack : List Open) (i : Instr) (t : List ℕ) → instr.within i t → MayCome stack i → (next_instr stack).within i t
next_again stack i t w m = (w.0, w.1, w.2, w.3, (w.4.0, w.4.1, ap (may_come stack) w.4.2 ∙ allowed_again stack w.0 (may_operands w.0 stack i (opens w.0 i w.2 w.5) m)), w.5)

-- an instruction has an opcode, so they are no more than their bytes
pub instr_long : (i : Instr) (t : List ℕ) → instr.within i t → 0 < length t
instr_long i t w = omega (arith, ap length w.3, length-append w.1 w.2, ap length w.4.1)

pub each_long : (is : List Instr) (t : List ℕ) → Each instr.within is t → length is ≤ length t
each_long [] t w = omega arith
each_long (i ∷ is) t w = let one = instr_long i w.0 w.3 in omega (arith, each_long is w.1 w.4, ap length w.2, length-append w.0 w.1)
