-- A typed sequence has ended, or its first instruction does something.
use Rattle.std.proofs.Common.{◌≡◌, ℕ, zero, suc, ◌+◌, ◌<◌, ◌≤◌, ◌⊎◌, inl, inr, ⊎_elim, List, [], ◌∷◌, ◌++◌, length, map, reverse, Option, Some, None, slice_get, refl, sym, ap, subst, arith, ◌∙◌, Result, Ok, Err}
use Rattle.std.specs.Prelude.{◌≢◌}
use Rattle.std.proofs.lemmas.Bool.{cases_lt}
use Rattle.std.proofs.lemmas.List.{length-reverse}
use Rattle.std.proofs.lemmas.Option.{slice_get_within}
use Rattle.wh_model.specs.declared.Trap.{Trap}
use Rattle.wh_model.specs.declared.ValType.{ValType}
use Rattle.wh_model.specs.declared.ValType.TheVariants.{I32, I64}
use Rattle.wh_model.specs.declared.BinaryOp.{BinaryOp}
use Rattle.wh_model.specs.declared.ConvertOp.{ConvertOp}
use Rattle.wh_model.specs.declared.ConvertOp.TheVariants.{WrapI64, ExtendI32S, ExtendI32U}
use Rattle.wh_model.specs.declared.host.HostFunc.TheVariants.{Input, Put, Emit}
use Rattle.wh_model.specs.Format.{Op, unreachable, nop, br, br_if, br_table, return, call, call_indirect, drop_operand, select, local_get, local_set, local_tee, global_get, global_set, load, store, memory_size, memory_grow, i32_const, i64_const, test, comparison, unary, binary, conversion, Code, nothing, plain, block, loop, if_then, if_else, FuncType, GlobalType}
use Rattle.wh_model.specs.Validity.{Context, operand, load_type, store_type, conversion_type, HasType}
use Rattle.wh_model.specs.Execution.Numbers as numbers
use Rattle.wh_model.specs.Execution.Store.{Instance, Store}
use Rattle.wh_model.specs.Execution.{Value, value, FuncInst, own, host, signature, pages, output_room, Term, code, Config, config, TakesOperands, Block, hole, const_i32, const_i64, unary_op, binary_op, test_op, compare_op, convert_op, drop_top, select_first, select_second, do_nothing, enter_block, enter_loop, then_true, then_false, if_true, if_false, br_if_not, never_return, no_number, load_beyond, store_beyond, no_entry, empty_entry, other_type, Calls, by_call, by_indirect, call_depth, most_emitted, Invokes, enter, too_deep, input, put, put_full, emit, emit_long, emit_beyond, emit_full, Base, pure, traps, get_local, set_local, tee_local, get_global, set_global, load_bytes, store_bytes, size_pages, grow_pages, grow_too_far, invoke, Jumps, by_br, by_br_if, by_br_table, Reduces, base}
use Rattle.wh_model.specs.Soundness.{AreOfTypes, EntryType, InstanceType, StoreType, IsInside}
use Rattle.wh_model.proofs.StoreTypingLemmas.{top_of_type, some_top, types_length, types_split, types_get}
use Rattle.wh_model.proofs.TermTypingLemmas.{parts, taking, Stands, stands}
use Rattle.wh_model.proofs.PreservationLemmas.{func_there, global_at, each_get}

-- ---- tests

pub zero_or_not : (i : ℕ) → (i ≡ 0) ⊎ (i ≢ 0)
zero_or_not zero = inl refl
zero_or_not (suc i) = inr (λ e. absurd (omega arith))

same_type : (t u : ValType) → (t ≡ u) ⊎ (t ≢ u)
same_type I32 I32 = inl refl
same_type I32 I64 = inr (λ e. absurd (cc e))
same_type I64 I32 = inr (λ e. absurd (cc e))
same_type I64 I64 = inl refl

tails_same : (t u : ValType) (ts us : List ValType) → t ∷ ts ≡ u ∷ us → (t ≡ u) × (ts ≡ us)
tails_same t u ts us e = (cc e, cc e)

same_types : (ts us : List ValType) → (ts ≡ us) ⊎ (ts ≢ us)
same_types [] [] = inl refl
same_types [] (u ∷ us) = inr (λ e. absurd (cc e))
same_types (t ∷ ts) [] = inr (λ e. absurd (cc e))
same_types (t ∷ ts) (u ∷ us) =
    ⊎_elim
    (λ first. ⊎_elim (λ rest. inl (cc (first, rest))) (λ never. inr (λ e. never (tails_same t u ts us e).1))
    (same_types ts us))
    (λ never. inr (λ e. never (tails_same t u ts us e).0))
    (same_type t u)

same_func_type : (a b : FuncType) → (a ≡ b) ⊎ (a ≢ b)
same_func_type a b =
    ⊎_elim
    (λ first. ⊎_elim
    (λ rest. inl (ap (λ (ts : List ValType). record a { params = ts }) first
    ∙ ap (λ (ts : List ValType). record b { results = ts }) rest))
    (λ never. inr (λ e. never (ap (λ (f : FuncType). f.results) e))) (same_types a.results b.results))
    (λ never. inr (λ e. never (ap (λ (f : FuncType). f.params) e)))
    (same_types a.params b.params)

takes_operand : (op : ConvertOp) → (conversion_type op).0 ≡ numbers.operand_type op
takes_operand WrapI64 = refl
takes_operand ExtendI32S = refl
takes_operand ExtendI32U = refl

-- ---- what a typed term does

-- It has ended with values of its types; or it reduces; or what is inside all its labels branches out of them, or
-- returns.
pub data Going (inst : Instance) (d : ℕ) (s : Store) (f : List Value) : Term → List ValType → Type 0 where
  at_end : {vs : List Value} {outs : List ValType} → AreOfTypes vs outs → Going inst d s f (code vs nothing) outs
  moves : {t : Term} {outs : List ValType} {k : ℕ} {b : Config} → Reduces inst d (config s f t) k b
      → Going inst d s f t outs
  jumps : {t : Term} {outs : List ValType} {k l : ℕ} {vs rest : List Value} {is : Code} → Block k t vs is
      → Jumps vs is l rest → k ≤ l → Going inst d s f t outs
  leaves : {t : Term} {outs : List ValType} {k : ℕ} {vs : List Value} {is : Code} → Block k t vs (plain return is)
      → Going inst d s f t outs

module _ (m c : Context) (inst : Instance) (d : ℕ) (s : Store) (f : List Value) (i_is : InstanceType m inst)
    (inside : IsInside m c) (st : StoreType m inst s) (ls : AreOfTypes f c.locals) where
  -- by a rule for these operands
  by_base : (outs : List ValType) {vs us : List Value} {is : Code} {k : ℕ} {b : Config} → vs ≡ us
      → Base inst d s f us is k b → Going inst d s f (code vs is) outs
  by_base outs {vs} {us} {is} e x = subst (λ w. Going inst d s f (code w is) outs) (sym e) (moves (base x))

  by_invoke : {h : FuncInst} {vs us : List Value} {is : Code} {b : Config} → vs ≡ us → Invokes d s f h us is b
      → (r : Config) × Invokes d s f h vs is r
  by_invoke {h} {vs} {us} {is} {b} e x = (b, subst (λ w. Invokes d s f h w is b) (sym e) x)

  -- a call of a function whose operands are there
  invokes_go : (h : FuncInst) (vs : List Value) (is : Code) (below : List ValType)
      → AreOfTypes vs (reverse (signature h).params ++ below) → (b : Config) × Invokes d s f h vs is b
  invokes_go (own type body) vs is below over =
      let cut = types_split (reverse type.params) below vs over in
      let takes : TakesOperands (length type.params) vs cut.0 cut.1 =
      record {
        split = cut.2;
        count = types_length cut.0 (reverse type.params) cut.3
            ∙ length-reverse type.params;
      } in
      ⊎_elim (λ low. (_, enter takes low)) (λ high. (_, too_deep takes high)) (cases_lt d call_depth)
  invokes_go (host Input) vs is below over =
      by_invoke (top_of_type I32 below vs over).2 input
  invokes_go (host Put) vs is below over =
      let x = top_of_type I64 below vs over in
      ⊎_elim
      (λ full. by_invoke x.2 (put_full full))
      (λ room. by_invoke x.2 (put room))
      (cases_lt output_room (length s.output + 8))
  invokes_go (host Emit) vs is below over =
      let x = top_of_type I32 (I32 ∷ below) vs over in
      let y = top_of_type I32 below x.1 x.4 in
      let e = x.2 ∙ ap (λ w. value I32 x.0 ∷ w) y.2 in
      ⊎_elim
      (λ long. by_invoke e (emit_long long))
      (λ few. ⊎_elim
      (λ beyond. by_invoke e (emit_beyond few beyond))
      (λ within. ⊎_elim
      (λ full. by_invoke e (emit_full few within full))
      (λ room. by_invoke e (emit few within room))
      (cases_lt output_room (length s.output + x.0)))
      (cases_lt (length s.bytes) (y.0 + x.0)))
      (cases_lt most_emitted x.0)

  calls_go : (outs : List ValType) {vs us rest : List Value} {js is : Code} (h : FuncInst) (below : List ValType)
      → vs ≡ us → Calls inst s us js h rest is
      → AreOfTypes rest (reverse (signature h).params ++ below) → Going inst d s f (code vs js) outs
  calls_go outs {rest = rest} {is = is} h below e calls over =
      by_base outs e (invoke calls (invokes_go h rest is below over).1)

  -- a result, or a trap
  binary_goes : (outs : List ValType) (t : ValType) (op : BinaryOp) (i j : ℕ) (vs rest : List Value) (is : Code)
      (r : Result ℕ Trap) → numbers.binary t op i j ≡ r → vs ≡ value t j ∷ value t i ∷ rest
      → Going inst d s f (code vs (plain (binary t op) is)) outs
  binary_goes outs t op i j vs rest is (Ok r) is_r e = by_base outs e (pure (binary_op refl refl is_r))
  binary_goes outs t op i j vs rest is (Err x) is_r e = by_base outs e (traps (no_number refl refl is_r))

  -- an entry of the table is past its end, or empty, or a function of the type or of another
  indirect_goes : (outs below : List ValType) (y i : ℕ) (type : FuncType) (vs rest : List Value) (is : Code)
      (entry : Option (Option ℕ)) → slice_get s.table i ≡ entry → slice_get c.types y ≡ Some type
      → vs ≡ value I32 i ∷ rest → AreOfTypes rest (reverse type.params ++ below)
      → Going inst d s f (code vs (plain (call_indirect y) is)) outs
  indirect_goes outs below y i type vs rest is None at named e over = by_base outs e (traps (no_entry at))
  indirect_goes outs below y i type vs rest is (Some None) at named e over = by_base outs e (traps (empty_entry at))
  indirect_goes outs below y i type vs rest is (Some (Some x)) at named e over =
      let there = each_get (EntryType m) s.table i (Some x) at st.table in
      let h = func_there m inst x there.0 i_is there.1 in
      let is_type : slice_get inst.types y ≡ Some type = ap (λ ts. slice_get ts y) (i_is.types ∙ sym inside.0)
      ∙ named in
      ⊎_elim
      (λ same. calls_go outs h.0 below e (by_indirect at h.1 (is_type ∙ ap (λ (t : FuncType). Some t) same))
      (subst (λ (t : FuncType). AreOfTypes rest (reverse t.params ++ below)) same over))
      (λ other. by_base outs e (traps (other_type at h.1 is_type other)))
      (same_func_type type (signature h.0))

  local_there : (x : ℕ) (t : ValType) → slice_get c.locals x ≡ Some t → x < length f
  local_there x t at = let v = types_get c.locals f x t at ls in slice_get_within f x v.0 v.1

  op_goes : (op : Op) (is : Code) (vs : List Value) (outs : List ValType) → Stands c op is vs outs
      → Going inst d s f (code vs (plain op is)) outs
  op_goes unreachable is vs outs z = moves (base (traps never_return))
  op_goes nop is vs outs z = moves (base (pure do_nothing))
  op_goes (br l) is vs outs z = jumps hole by_br (omega arith)
  op_goes (br_if l) is vs outs z =
      let o = z.is_op in
      let x = top_of_type I32 (operand o.0 ++ z.below) vs (taking vs z.below o.2 z.over) in
      ⊎_elim
      (λ none. by_base outs x.2 (pure (br_if_not none)))
      (λ some. subst (λ w. Going inst d s f (code w (plain (br_if l) is)) outs) (sym x.2)
      (jumps hole (by_br_if some) (omega arith)))
      (zero_or_not x.0)
  op_goes (br_table ls l) is vs outs z =
      let o = z.is_op in
      let x = top_of_type I32 ((operand o.0 ++ o.1) ++ z.below) vs (taking vs z.below o.4 z.over) in
      subst (λ w. Going inst d s f (code w (plain (br_table ls l) is)) outs) (sym x.2)
      (jumps hole (by_br_table refl) (omega arith))
  op_goes return is vs outs z = leaves hole
  op_goes (call x) is vs outs z =
      let o = z.is_op in
      let h = func_there m inst x o.0 i_is (ap (λ ts. slice_get ts x) (sym inside.1) ∙ o.1) in
      calls_go outs h.0 z.below refl (by_call h.1)
      (taking vs z.below (o.2 ∙ ap (λ (t : FuncType). reverse t.params) (sym h.2)) z.over)
  op_goes (call_indirect y) is vs outs z =
      let o = z.is_op in
      let x = top_of_type I32 (reverse (o.1).params ++ z.below) vs (taking vs z.below o.4 z.over) in
      indirect_goes outs z.below y x.0 o.1 vs x.1 is (slice_get s.table x.0) refl o.3 x.2 x.4
  op_goes drop_operand is vs outs z =
      by_base outs (some_top z.is_op.0 z.below vs (taking vs z.below z.is_op.1 z.over)).2 (pure drop_top)
  op_goes select is vs outs z =
      let t = z.is_op.0 in
      let x = top_of_type I32 (t ∷ t ∷ z.below) vs (taking vs z.below z.is_op.1 z.over) in
      let y = some_top t (t ∷ z.below) x.1 x.4 in
      let e = x.2 ∙ ap (λ us. value I32 x.0 ∷ us) (y.2 ∙ ap (λ us. y.0 ∷ us) (some_top t z.below y.1 y.4).2) in
      ⊎_elim
      (λ none. by_base outs e (pure (select_second none)))
      (λ some. by_base outs e (pure (select_first some)))
      (zero_or_not x.0)
  op_goes (local_get x) is vs outs z =
      moves (base (get_local (types_get c.locals f x z.is_op.0 z.is_op.1 ls).1))
  op_goes (local_set x) is vs outs z =
      let y = some_top z.is_op.0 z.below vs (taking vs z.below z.is_op.2 z.over) in
      by_base outs y.2 (set_local (local_there x z.is_op.0 z.is_op.1))
  op_goes (local_tee x) is vs outs z =
      let y = some_top z.is_op.0 z.below vs (taking vs z.below z.is_op.2 z.over) in
      by_base outs y.2 (tee_local (local_there x z.is_op.0 z.is_op.1))
  op_goes (global_get x) is vs outs z =
      let v = types_get (map (λ (g : GlobalType). g.value) m.globals) s.globals x (z.is_op.0).value
      (global_at m c x z.is_op.0 inside z.is_op.1) st.globals in
      moves (base (get_global v.1))
  op_goes (global_set x) is vs outs z =
      let v = types_get (map (λ (g : GlobalType). g.value) m.globals) s.globals x (z.is_op.0).value
      (global_at m c x z.is_op.0 inside z.is_op.1) st.globals in
      let y = some_top (z.is_op.0).value z.below vs (taking vs z.below z.is_op.3 z.over) in
      by_base outs y.2 (set_global (slice_get_within s.globals x v.0 v.1))
  op_goes (load op align offset) is vs outs z =
      let x = top_of_type I32 z.below vs (taking vs z.below z.is_op.1 z.over) in
      ⊎_elim
      (λ beyond. by_base outs x.2 (traps (load_beyond beyond)))
      (λ within. by_base outs x.2 (load_bytes within))
      (cases_lt (length s.bytes) (x.0 + offset + (load_type op).1))
  op_goes (store op align offset) is vs outs z =
      let y = top_of_type (store_type op).0 (I32 ∷ z.below) vs (taking vs z.below z.is_op.1 z.over) in
      let x = top_of_type I32 z.below y.1 y.4 in
      let e = y.2 ∙ ap (λ us. value (store_type op).0 y.0 ∷ us) x.2 in
      ⊎_elim
      (λ beyond. by_base outs e (traps (store_beyond refl beyond)))
      (λ within. by_base outs e (store_bytes refl within))
      (cases_lt (length s.bytes) (x.0 + offset + (store_type op).1))
  op_goes memory_size is vs outs z = moves (base size_pages)
  op_goes memory_grow is vs outs z =
      let x = top_of_type I32 z.below vs (taking vs z.below z.is_op.1 z.over) in
      ⊎_elim
      (λ far. by_base outs x.2 (grow_too_far far))
      (λ room. by_base outs x.2 (grow_pages room))
      (cases_lt inst.page_limit (pages s.bytes + x.0))
  op_goes (i32_const n) is vs outs z = moves (base (pure const_i32))
  op_goes (i64_const n) is vs outs z = moves (base (pure const_i64))
  op_goes (test t op) is vs outs z =
      by_base outs (top_of_type t z.below vs (taking vs z.below z.is_op.0 z.over)).2 (pure (test_op refl))
  op_goes (comparison t op) is vs outs z =
      let x = top_of_type t (t ∷ z.below) vs (taking vs z.below z.is_op.0 z.over) in
      by_base outs (x.2 ∙ ap (λ us. value t x.0 ∷ us) (top_of_type t z.below x.1 x.4).2) (pure (compare_op refl refl))
  op_goes (unary t op) is vs outs z =
      by_base outs (top_of_type t z.below vs (taking vs z.below z.is_op.0 z.over)).2 (pure (unary_op refl))
  op_goes (binary t op) is vs outs z =
      let x = top_of_type t (t ∷ z.below) vs (taking vs z.below z.is_op.0 z.over) in
      let y = top_of_type t z.below x.1 x.4 in
      binary_goes outs t op y.0 x.0 vs y.1 is (numbers.binary t op y.0 x.0) refl (x.2 ∙ ap (λ us. value t x.0 ∷ us) y.2)
  op_goes (conversion op) is vs outs z =
      let x = top_of_type (numbers.operand_type op) z.below vs
      (taking vs z.below (z.is_op.0 ∙ ap (λ t. t ∷ []) (takes_operand op)) z.over) in
      by_base outs x.2 (pure (convert_op refl))

  pub code_goes : (is : Code) (vs : List Value) (ins outs : List ValType) → AreOfTypes vs ins → HasType c is ins outs
      → Going inst d s f (code vs is) outs
  code_goes nothing vs ins outs over t = at_end (subst (AreOfTypes vs) (parts t) over)
  code_goes (plain op is) vs ins outs over t = op_goes op is vs outs (stands vs over t)
  code_goes (block u body is) vs ins outs over t = moves (base (pure enter_block))
  code_goes (loop u body is) vs ins outs over t = moves (base (pure enter_loop))
  code_goes (if_then u first is) vs ins outs over t =
      let z = parts t in
      let x = top_of_type I32 z.0 vs (subst (AreOfTypes vs) z.1 over) in
      ⊎_elim (λ none. by_base outs x.2 (pure (then_false none))) (λ some. by_base outs x.2 (pure (then_true some)))
      (zero_or_not x.0)
  code_goes (if_else u first second is) vs ins outs over t =
      let z = parts t in
      let x = top_of_type I32 z.0 vs (subst (AreOfTypes vs) z.1 over) in
      ⊎_elim (λ none. by_base outs x.2 (pure (if_false none))) (λ some. by_base outs x.2 (pure (if_true some)))
      (zero_or_not x.0)
