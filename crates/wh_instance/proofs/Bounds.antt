-- The bytes that a next step reads or writes lie in the memory, and are few.
use Rattle.std.proofs.Common.{ℕ, ◌≤◌, List, [], ◌∷◌, length, arith}
use Rattle.std.specs.List.{AllByRecursion}
use Rattle.wh_model.specs.declared.host.HostFunc.TheVariants.{Input, Put, Emit}
use Rattle.wh_model.specs.declared.memory.Need.{Need}
use Rattle.wh_model.specs.declared.LoadOp.{LoadOp}
use Rattle.wh_model.specs.declared.LoadOp.TheVariants as loads
use Rattle.wh_model.specs.declared.StoreOp.{StoreOp}
use Rattle.wh_model.specs.declared.StoreOp.TheVariants as stores
use Rattle.wh_model.specs.Format.{Op, unreachable, nop, br, br_if, br_table, return, call, call_indirect, drop_operand, select, local_get, local_set, local_tee, global_get, global_set, load, store, memory_size, memory_grow, i32_const, i64_const, test, comparison, unary, binary, conversion, Code, nothing, plain, block, loop, if_then, if_else}
use Rattle.wh_model.specs.Validity.{load_type, store_type}
use Rattle.wh_model.specs.Execution.Store.{Instance, Store}
use Rattle.wh_model.specs.Execution.{Value, FuncInst, own, host, Term, code, label, frame, config, CallAsks, OpAsks, CodeAsks, TermAsks, Asks, Piece, Within}
use Rattle.wh_model.specs.Execution.Memory.{writing}
use Rattle.wh_model.specs.Laws.{InOnePage}
use Rattle.wh_instance.specs.Advancing.{IsInMemory}

few_loaded : (op : LoadOp) → (load_type op).1 ≤ 4096
few_loaded loads.I32Load = omega arith
few_loaded loads.I64Load = omega arith
few_loaded loads.I32Load8S = omega arith
few_loaded loads.I32Load8U = omega arith
few_loaded loads.I32Load16S = omega arith
few_loaded loads.I32Load16U = omega arith
few_loaded loads.I64Load8S = omega arith
few_loaded loads.I64Load8U = omega arith
few_loaded loads.I64Load16S = omega arith
few_loaded loads.I64Load16U = omega arith
few_loaded loads.I64Load32S = omega arith
few_loaded loads.I64Load32U = omega arith

few_stored : (op : StoreOp) → (store_type op).1 ≤ 4096
few_stored stores.I32Store = omega arith
few_stored stores.I64Store = omega arith
few_stored stores.I32Store8 = omega arith
few_stored stores.I32Store16 = omega arith
few_stored stores.I64Store8 = omega arith
few_stored stores.I64Store16 = omega arith
few_stored stores.I64Store32 = omega arith

call_within : (s : Store) (h : FuncInst) (operands : List Value) (need : Need) → CallAsks s h operands need → IsInMemory s.bytes need
call_within s (own type body) operands need asks = absurd asks
call_within s (host Input) operands need asks = absurd asks
call_within s (host Put) operands need asks = absurd asks
call_within s (host Emit) operands need (i, n, vs, are, few, within, room, is) = rw is (within, few)

op_within : (inst : Instance) (s : Store) (op : Op) (operands : List Value) (need : Need) → OpAsks inst s op operands need → IsInMemory s.bytes need
op_within inst s (load op align offset) operands need (i, vs, are, within, is) = rw is (within, few_loaded op)
op_within inst s (store op align offset) operands need (v, i, vs, are, within, is) = rw is (within, few_stored op)
op_within inst s (call x) operands need (h, at, asks) = call_within s h operands need asks
op_within inst s (call_indirect y) operands need (i, x, h, vs, are, entry, at, same, asks) = call_within s h vs need asks
op_within inst s unreachable operands need asks = absurd asks
op_within inst s nop operands need asks = absurd asks
op_within inst s (br x) operands need asks = absurd asks
op_within inst s (br_if x) operands need asks = absurd asks
op_within inst s (br_table xs x) operands need asks = absurd asks
op_within inst s return operands need asks = absurd asks
op_within inst s drop_operand operands need asks = absurd asks
op_within inst s select operands need asks = absurd asks
op_within inst s (local_get x) operands need asks = absurd asks
op_within inst s (local_set x) operands need asks = absurd asks
op_within inst s (local_tee x) operands need asks = absurd asks
op_within inst s (global_get x) operands need asks = absurd asks
op_within inst s (global_set x) operands need asks = absurd asks
op_within inst s memory_size operands need asks = absurd asks
op_within inst s memory_grow operands need asks = absurd asks
op_within inst s (i32_const n) operands need asks = absurd asks
op_within inst s (i64_const n) operands need asks = absurd asks
op_within inst s (test t op) operands need asks = absurd asks
op_within inst s (comparison t op) operands need asks = absurd asks
op_within inst s (unary t op) operands need asks = absurd asks
op_within inst s (binary t op) operands need asks = absurd asks
op_within inst s (conversion op) operands need asks = absurd asks

code_within : (inst : Instance) (s : Store) (is : Code) (operands : List Value) (need : Need) → CodeAsks inst s is operands need → IsInMemory s.bytes need
code_within inst s nothing operands need asks = absurd asks
code_within inst s (plain op rest) operands need asks = op_within inst s op operands need asks
code_within inst s (block t body rest) operands need asks = absurd asks
code_within inst s (loop t body rest) operands need asks = absurd asks
code_within inst s (if_then t body rest) operands need asks = absurd asks
code_within inst s (if_else t body other rest) operands need asks = absurd asks

term_within : (inst : Instance) (s : Store) (t : Term) (need : Need) → TermAsks inst s t need → IsInMemory s.bytes need
term_within inst s (code vs is) need asks = code_within inst s is vs need asks
term_within inst s (label vs n next t is) need asks = term_within inst s t need asks
term_within inst s (frame vs n f t is) need asks = term_within inst s t need asks

pub asks_within : (inst : Instance) (s : Store) (t : Term) (need : Need) → Asks inst (config s [] t) need → IsInMemory s.bytes need
asks_within inst s t need asks = term_within inst s t need asks

-- of pieces each in one page that end within the memory, the first
pub piece_within : (bytes : List ℕ) (p : Piece) (ps : List Piece) → Within (length bytes) (p ∷ ps) → AllByRecursion InOnePage (p ∷ ps) → IsInMemory bytes (writing p.at (length p.items))
piece_within bytes p ps within pages = let one = pages.0.1 in (within.0, omega (arith, one))
