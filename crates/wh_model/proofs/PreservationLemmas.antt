-- What an instruction does to the store, to locals and by a call keeps types.
use Rattle.std.proofs.Common.{◌≡◌, ℕ, zero, suc, ◌+◌, ◌^◌, ◌<◌, ◌≤◌, List, [], ◌∷◌, ◌++◌, length, map, reverse, Option, Some, None, option_map, slice_get, get_or, refl, sym, ap, subst, arith, ◌∙◌, length-append, rules}
use Rattle.std.specs.List.{AllByRecursion}
use Rattle.std.proofs.lemmas.List.{length-reverse, reverse-reverse}
use Rattle.std.proofs.lemmas.Option.{slice_get-map}
use Rattle.wh_model.specs.declared.ValType.{ValType}
use Rattle.wh_model.specs.declared.ValType.TheVariants.{I32, I64}
use Rattle.wh_model.specs.Format.{Code, FuncType, GlobalType}
use Rattle.wh_model.specs.Validity.{Context, operand, load_type, store_type, HasType, no_more}
use Rattle.wh_model.specs.Execution.Store.{Instance, Store}
use Rattle.wh_model.specs.Execution.{Value, value, FuncInst, signature, number, bytes_of, bytes_at, output_room, arity, Config, Calls, by_call, by_indirect, Invokes, enter, too_deep, input, put, put_full, emit, emit_long, emit_beyond, emit_full, Base, pure, traps, get_local, set_local, tee_local, get_global, set_global, load_bytes, store_bytes, size_pages, grow_pages, grow_too_far, invoke}
use Rattle.wh_model.specs.Soundness.{IsByte, IsOfType, AreOfTypes, FuncInstType, InstanceType, MemoryType, StoreType, IsInside, ConfigType}
use Rattle.wh_model.proofs.Beginnings.{some_in}
use Rattle.wh_model.proofs.StoreTypingLemmas.{types_append, types_parted, types_get, types_set, types_zeros, types_reverse}
use Rattle.wh_model.proofs.MemoryTypingLemmas.{each_append, each_at, number_at, loaded_fits, bytes_of_bytes, length-bytes_of, few_at, pages_fit, memory_written, memory_grown}
use Rattle.wh_model.proofs.TermTypingLemmas.{taking, giving, stands, arity_length, gives_all}
use Rattle.wh_model.proofs.RewritesTypedLemmas.{rewrites_keep}

-- ---- calls

pub each_get : {X : Type 0} (P : X → Type 0) (xs : List X) (k : ℕ) (x : X) → slice_get xs k ≡ Some x
    → AllByRecursion P xs → P x
each_get P [] k x e h = absurd (cc e)
each_get P (y ∷ ys) zero x e h = let same : y ≡ x = cc e in subst P same h.0
each_get P (y ∷ ys) (suc k) x e h = each_get P ys k x e h.1

-- a function instance has the type that its index has in the context
pub func_typed : (m : Context) (inst : Instance) (x : ℕ) (h : FuncInst) → InstanceType m inst
    → slice_get inst.funcs x ≡ Some h
    → (slice_get m.funcs x ≡ Some (signature h)) × FuncInstType m h
func_typed m inst x h i at = search (rules, slice_get-map, option_map, each_get)

-- and each type there has its instance
pub func_there : (m : Context) (inst : Instance) (x : ℕ) (type : FuncType) → InstanceType m inst
    → slice_get m.funcs x ≡ Some type
    → (h : FuncInst) × (slice_get inst.funcs x ≡ Some h) × (signature h ≡ type)
func_there m inst x type i at = search (rules, some_in, slice_get-map)

-- a call's operands and what it gives, by its function's type
pub record CallTyped (m c : Context) (h : FuncInst) (vs : List Value) (is : Code) (outs : List ValType) : Type 0 where
  pub below : List ValType
  pub over : AreOfTypes vs (reverse (signature h).params ++ below)
  pub goes : HasType c is (reverse (signature h).results ++ below) outs
  pub is_func : FuncInstType m h

calls_typed : {inst : Instance} {s : Store} {vs rest : List Value} {js is : Code} {h : FuncInst}
    → Calls inst s vs js h rest is → (m c : Context) (ins outs : List ValType)
    → InstanceType m inst → IsInside m c → AreOfTypes vs ins → HasType c js ins outs → CallTyped m c h rest is outs
calls_typed {inst = inst} (by_call {x = x} {h = h} {vs = vs} {is = is} at) m c ins outs i inside over t =
    let z = stands vs over t in
    let f = func_typed m inst x h i at in
    let type : z.is_op.0 ≡ signature h = search rules in
    record {
      below = z.below;
      over = taking vs z.below (z.is_op.2 ∙ ap (λ (w : FuncType). reverse w.params) type) z.over;
      goes = giving c is z.below outs (z.is_op.3 ∙ ap (λ (w : FuncType). reverse w.results) type) z.goes;
      is_func = f.1;
    }
calls_typed {inst = inst} (by_indirect {i = n} {x = x} {y = y} {h = h} {vs = vs} {is = is} entry at type_at) m c ins
    outs i inside over t =
    let z = stands (value I32 n ∷ vs) over t in
    let f = func_typed m inst x h i at in
    let type : z.is_op.1 ≡ signature h = search rules in
    record {
      below = z.below;
      over = search (rules, taking, reverse);
      goes = giving c is z.below outs (z.is_op.5 ∙ ap (λ (w : FuncType). reverse w.results) type) z.goes;
      is_func = f.1;
    }

reverse_operand : (t : Option ValType) → reverse (operand t) ≡ operand t
reverse_operand None = refl
reverse_operand (Some t) = refl

-- words that the host gives are in range
word_at : (words : List ℕ) (i : ℕ) → AllByRecursion (λ n. n < 2 ^ 64) words → get_or words i 0 < 2 ^ 64
word_at [] i h = omega arith
word_at (w ∷ ws) zero h = h.0
word_at (w ∷ ws) (suc i) h = word_at ws i h.1

-- more output, as far as there is room
more_output : (m : Context) (inst : Instance) (s : Store) (bytes : List ℕ) (n : ℕ) → StoreType m inst s
    → length bytes ≤ n → AllByRecursion IsByte bytes → length s.output + n ≤ output_room
    → StoreType m inst (record s { output = s.output ++ bytes })
more_output m inst s bytes n t few all room = search (rules, length-append, each_append)

pub invokes_keep : {d : ℕ} {s : Store} {f vs : List Value} {h : FuncInst} {is : Code} {b : Config}
    → Invokes d s f h vs is b → (m c : Context) (inst : Instance) (outs : List ValType)
    → StoreType m inst s → AreOfTypes f c.locals → CallTyped m c h vs is outs → ConfigType m inst c b outs
invokes_keep (enter {type = type} {body = body} {operands = operands} {args = args} {vs = vs} {is = is} takes low) m c
    inst outs st ls x =
    let valid = x.is_func in
    let t = valid.0 in
    let cut = types_parted args vs (reverse type.params) x.below (takes.count ∙ sym (length-reverse type.params))
    (subst (λ w. AreOfTypes w (reverse type.params ++ x.below)) takes.split x.over) in
    let given : AreOfTypes (reverse args) type.params =
    subst (λ w. AreOfTypes (reverse args) w) (reverse-reverse type.params)
    (types_reverse args (reverse type.params) cut.0) in
    let count : length type.results ≡ arity t = ap length valid.1 ∙ sym (arity_length t) in
    let inside = record m { locals = type.params ++ body.locals; labels = []; result = t } in (
      st,
      ls,
      (
        x.below,
        type.params ++ body.locals,
        t,
        cut.1,
        count,
        types_append (reverse args) _ type.params body.locals given (types_zeros body.locals),
        ([], operand t, t, tt, count, no_more, ([], tt, valid.2), gives_all inside (operand t)),
        giving c is x.below outs (ap reverse valid.1 ∙ reverse_operand t) x.goes,
      ),
    )
invokes_keep (too_deep takes high) m c inst outs st ls x = st
invokes_keep (input {i = i} {vs = vs}) m c inst outs st ls x = search (rules, word_at)
invokes_keep {s = s} (put {n = n} room) m c inst outs st ls x = search (rules, length-bytes_of, more_output, bytes_of_bytes)
invokes_keep (put_full room) m c inst outs st ls x = st
invokes_keep {s = s} (emit {i = i} {n = n} few within room) m c inst outs st ls x = search (rules, more_output, few_at, each_at)
invokes_keep (emit_long many) m c inst outs st ls x = st
invokes_keep (emit_beyond few beyond) m c inst outs st ls x = st
invokes_keep (emit_full few within room) m c inst outs st ls x = st

-- ---- instructions that look at the store or the locals

pub global_at : (m c : Context) (x : ℕ) (g : GlobalType) → IsInside m c → slice_get c.globals x ≡ Some g
    → slice_get (map (λ (k : GlobalType). k.value) m.globals) x ≡ Some g.value
global_at m c x g inside at = search (rules, slice_get-map, option_map)

-- the value at a place, of the type at that place
value_there : (ts : List ValType) (vs : List Value) (x : ℕ) (t : ValType) (v : Value) → slice_get ts x ≡ Some t
    → slice_get vs x ≡ Some v → AreOfTypes vs ts → IsOfType t v
value_there ts vs x t v type at h = search (rules, types_get)

pub stored_memory : (m : Context) (inst : Instance) (s : Store) (bytes : List ℕ) → StoreType m inst s
    → MemoryType m inst bytes → StoreType m inst (record s { bytes = bytes })
stored_memory m inst s bytes t h = search rules

stored_globals : (m : Context) (inst : Instance) (s : Store) (vs : List Value) → StoreType m inst s
    → AreOfTypes vs (map (λ g. g.value) m.globals) → StoreType m inst (record s { globals = vs })
stored_globals m inst s vs t h = search rules

pub base_keeps : {inst : Instance} {d k : ℕ} {s : Store} {f vs : List Value} {is : Code} {b : Config}
    → Base inst d s f vs is k b → (m c : Context) (ins outs : List ValType)
    → InstanceType m inst → IsInside m c → StoreType m inst s → AreOfTypes f c.locals → AreOfTypes vs ins
    → HasType c is ins outs → ConfigType m inst c b outs
base_keeps (pure x) m c ins outs i inside st ls over t = (st, ls, rewrites_keep x m c ins outs over t)
base_keeps (traps x) m c ins outs i inside st ls over t = st
base_keeps {f = f} (get_local {x = x} {v = v} {vs = vs} {is = is} at) m c ins outs i inside st ls over t =
    let z = stands vs over t in
    let o = z.is_op in (
      st,
      ls,
      (
        o.0 ∷ z.below,
        (value_there c.locals f x o.0 v o.1 at ls, taking vs z.below o.2 z.over),
        giving c is z.below
            outs o.3 z.goes,
      ),
    )
base_keeps {f = f} (set_local {x = x} {v = v} {vs = vs} {is = is} low) m c ins outs i inside st ls over t =
    let z = stands (v ∷ vs) over t in
    let o = z.is_op in
    let y = taking (v ∷ vs) z.below o.2 z.over in
    (st, types_set c.locals f x o.0 v o.1 y.0 ls, (z.below, y.1, giving c is z.below outs o.3 z.goes))
base_keeps {f = f} (tee_local {x = x} {v = v} {vs = vs} {is = is} low) m c ins outs i inside st ls over t =
    let z = stands (v ∷ vs) over t in
    let o = z.is_op in
    let y = taking (v ∷ vs) z.below o.2 z.over in
    (st, types_set c.locals f x o.0 v o.1 y.0 ls, (o.0 ∷ z.below, y, giving c is z.below outs o.3 z.goes))
base_keeps {s = s} (get_global {x = x} {v = v} {vs = vs} {is = is} at) m c ins outs i inside st ls over t =
    let z = stands vs over t in
    let o = z.is_op in
    let type = global_at m c x o.0 inside o.1 in (
      st,
      ls,
      (
        (o.0).value ∷ z.below,
        (
          value_there (map (λ g. g.value) m.globals) s.globals x
              (o.0).value v type at st.globals,
          taking vs z.below o.2 z.over,
        ),
        giving c is z.below outs o.3 z.goes,
      ),
    )
base_keeps {inst = inst} {s = s}
    (set_global {x = x} {v = v} {vs = vs} {is = is} low) m c ins outs i inside st ls over t =
    let z = stands (v ∷ vs) over t in
    let o = z.is_op in
    let y = taking (v ∷ vs) z.below o.3 z.over in
    let type = global_at m c x o.0 inside o.1 in (
      stored_globals m inst s _ st
          (types_set (map (λ g. g.value) m.globals) s.globals x (o.0).value v type y.0 st.globals),
      ls,
      (z.below, y.1, giving c is z.below outs o.4 z.goes),
    )
base_keeps {s = s} (load_bytes {op = op} {i = n} {offset = offset} {vs = vs} {is = is} within) m c ins outs i inside st
    ls over t =
    let z = stands (value I32 n ∷ vs) over t in
    let o = z.is_op in
    let y = taking (value I32 n ∷ vs) z.below o.1 z.over in
    let fits = loaded_fits op (number (bytes_at s.bytes (n + offset) (load_type op).1))
    (number_at s.bytes (n + offset) (load_type op).1 st.memory.1) in
    (st, ls, ((load_type op).0 ∷ z.below, ((refl, fits), y.1), giving c is z.below outs o.2 z.goes))
base_keeps {inst = inst} {s = s}
    (store_bytes {op = op} {i = n} {n = given} {offset = offset} {v = v} {vs = vs} {is = is} e within) m c ins outs i
    inside st ls over t =
    let z = stands (v ∷ value I32 n ∷ vs) over t in
    let o = z.is_op in
    let y = taking (v ∷ value I32 n ∷ vs) z.below o.1 z.over in
    let count = length-bytes_of (store_type op).1 given in
    let memory = memory_written m inst s.bytes (n + offset) (bytes_of (store_type op).1 given) st.memory
    (omega (arith, count, within)) (bytes_of_bytes (store_type op).1 given) in
    (stored_memory m inst s _ st memory, ls, (z.below, y.1.1, giving c is z.below outs o.2 z.goes))
base_keeps {inst = inst} {s = s} (size_pages {vs = vs} {is = is}) m c ins outs i inside st ls over t =
    let z = stands vs over t in
    let o = z.is_op in (
      st,
      ls,
      (
        I32 ∷ z.below,
        ((refl, pages_fit m inst s.bytes i st.memory), taking vs z.below o.1 z.over),
        giving c is
            z.below outs o.2 z.goes,
      ),
    )
base_keeps {inst = inst} {s = s} (grow_pages {n = n} {vs = vs} {is = is} room) m c ins outs i inside st ls over t =
    let z = stands (value I32 n ∷ vs) over t in
    let o = z.is_op in
    let y = taking (value I32 n ∷ vs) z.below o.1 z.over in (
      stored_memory m inst s _ st (memory_grown m inst s.bytes n st.memory room),
      ls,
      (I32 ∷ z.below, ((refl, pages_fit m inst s.bytes i st.memory), y.1), giving c is z.below outs o.2 z.goes),
    )
base_keeps (grow_too_far {n = n} {vs = vs} {is = is} room) m c ins outs i inside st ls over t =
    let z = stands (value I32 n ∷ vs) over t in
    let o = z.is_op in
    let y = taking (value I32 n ∷ vs) z.below o.1 z.over in
    (st, ls, (I32 ∷ z.below, ((refl, omega arith), y.1), giving c is z.below outs o.2 z.goes))
base_keeps {inst = inst} (invoke calls does) m c ins outs i inside st ls over t = search (rules, invokes_keep, calls_typed)
