-- Which bytes of the memory the next reduction reads or writes: those of a load or a store (4.4.4), and those that the
-- host's function `emit` hands on.
use Rattle.std.specs.Prelude.{◌≡◌, ℕ, ◌+◌, ◌≤◌, List, ◌∷◌, Some, slice_get, length}
use Rattle.wh_model.specs.declared.ValType.TheVariants.{I32}
use Rattle.wh_model.specs.declared.host.HostFunc.TheVariants.{Emit}
use Rattle.wh_model.specs.declared.memory.Need.{Need}
use Rattle.wh_model.specs.Format.Syntax.{Op, call, call_indirect, load, store, Code, plain}
use Rattle.wh_model.specs.Validity.Typing.{load_type, store_type}
use Rattle.wh_model.specs.Execution.Store.{Value, value, FuncInst, host, signature, Instance, Store, output_room}
use Rattle.wh_model.specs.Execution.Configuration.{Term, code, label, frame, Config, config}
use Rattle.wh_model.specs.Execution.Rules.{most_emitted}
use Rattle.wh_model.specs.Execution.Memory.{reading, writing}

-- the call of a function over these operands
abbrev pub CallAsks : Store → FuncInst → List Value → Need → Type 0
CallAsks s (host Emit) operands need =
    (i n : ℕ) × (vs : List Value) × (operands ≡ value I32 n ∷ value I32 i ∷ vs) × (n ≤ most_emitted)
    × (i + n ≤ length s.bytes)
    × (length s.output + n ≤ output_room) × (need ≡ reading i n)
CallAsks s h operands need = ⊥

-- an instruction without a body, over these operands
abbrev pub OpAsks : Instance → Store → Op → List Value → Need → Type 0
OpAsks inst s (load op align offset) operands need =
    (i : ℕ) × (vs : List Value) × (operands ≡ value I32 i ∷ vs) × (i + offset + (load_type op).1 ≤ length s.bytes)
    × (need ≡ reading (i + offset) (load_type op).1)
OpAsks inst s (store op align offset) operands need =
    (v : Value) × (i : ℕ) × (vs : List Value) × (operands ≡ v ∷ value I32 i ∷ vs)
    × (i + offset + (store_type op).1 ≤ length s.bytes)
    × (need ≡ writing (i + offset) (store_type op).1)
OpAsks inst s (call x) operands need = (h : FuncInst) × (slice_get inst.funcs x ≡ Some h) × CallAsks s h operands need
OpAsks inst s (call_indirect y) operands need =
    (i x : ℕ) × (h : FuncInst) × (vs : List Value) × (operands ≡ value I32 i ∷ vs)
    × (slice_get s.table i ≡ Some (Some x))
    × (slice_get inst.funcs x ≡ Some h) × (slice_get inst.types y ≡ Some (signature h)) × CallAsks s h vs need
OpAsks inst s op operands need = ⊥

-- a sequence, by its first instruction
abbrev pub CodeAsks : Instance → Store → Code → List Value → Need → Type 0
CodeAsks inst s (plain op rest) operands need = OpAsks inst s op operands need
CodeAsks inst s is operands need = ⊥

-- a term, by its innermost instructions
abbrev pub TermAsks : Instance → Store → Term → Need → Type 0
TermAsks inst s (code vs is) need = CodeAsks inst s is vs need
TermAsks inst s (label vs n next t is) need = TermAsks inst s t need
TermAsks inst s (frame vs n f t is) need = TermAsks inst s t need

abbrev pub Asks : Instance → Config → Need → Type 0
Asks inst (config s f t) need = TermAsks inst s t need
Asks inst c need = ⊥
