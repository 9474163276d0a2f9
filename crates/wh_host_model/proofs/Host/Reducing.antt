-- What one reduction does to the bytes of a memory, and that it is decided which bytes the next one asks for.
use Rattle.std.proofs.Common.{◌≡◌, ◌≢◌, ℕ, ◌+◌, ◌*◌, ◌≤◌, ◌⊎◌, inl, inr, List, [], ◌∷◌, ◌++◌, Option, Some, None, length, replicate, slice_get, refl, sym, ap, subst, ◌∙◌, arith}
use Rattle.std.proofs.lemmas.Bool.{cases_lt}
use Rattle.wh_model.specs.declared.memory.Need.{Need}
use Rattle.wh_model.specs.declared.ValType.{ValType}
use Rattle.wh_model.specs.declared.ValType.TheVariants.{I32, I64}
use Rattle.wh_model.specs.declared.LoadOp.{LoadOp}
use Rattle.wh_model.specs.declared.StoreOp.{StoreOp}
use Rattle.wh_model.specs.declared.LoadOp.TheVariants.{I32Load, I64Load, I32Load8S, I32Load8U, I32Load16S, I32Load16U, I64Load8S, I64Load8U, I64Load16S, I64Load16U, I64Load32S, I64Load32U}
use Rattle.wh_model.specs.declared.StoreOp.TheVariants.{I32Store, I64Store, I32Store8, I32Store16, I64Store8, I64Store16, I64Store32}
use Rattle.wh_model.specs.declared.host.HostFunc.TheVariants.{Emit, Input, Put}
use Rattle.wh_model.specs.Format.{Code, FuncType, Op, call, call_indirect, load, plain, store}
use Rattle.wh_model.specs.Validity.{load_type, store_type}
use Rattle.wh_model.specs.Execution.Store.{Instance, Store}
use Rattle.wh_model.specs.Execution.{FuncInst, Value, bytes_of, host, output_room, own, pages, signature, value, written, Config, Term, code, config, frame, label, store_of, Asks, CallAsks, CodeAsks, OpAsks, TermAsks, Base, Invokes, emit, emit_beyond, emit_full, emit_long, enter, get_global, get_local, grow_pages, grow_too_far, input, invoke, load_bytes, most_emitted, pure, put, put_full, set_global, set_local, size_pages, store_bytes, tee_local, too_deep, traps, Leads, Reduces, base, branch, goes_on, in_frame, in_label, leave_frame, leave_label, returns, stays, trap_frame, trap_label}
use Rattle.wh_model.specs.Execution.Memory.{writing}
use Rattle.wh_model.proofs.MemoryTypingLemmas.{length-bytes_of}

-- ---- the bytes

-- they stay, or some are written for which was asked, or zeros come behind them
pub data Leaves (inst : Instance) (s : Store) (asks : Need → Type 0) : List ℕ → Type 0 where
  stay : {bytes : List ℕ} → bytes ≡ s.bytes → Leaves inst s asks bytes
  wrote : (at : ℕ) (given : List ℕ) → at + length given ≤ length s.bytes → length given ≤ 4096 → asks (writing at (length given))
      → Leaves inst s asks (written s.bytes at given)
  grew : (n : ℕ) → pages s.bytes + n ≤ inst.page_limit → Leaves inst s asks (s.bytes ++ replicate (n * 65536) 0)

few_stored : (op : StoreOp) → (store_type op).1 ≤ 4096
few_stored I32Store = omega arith
few_stored I64Store = omega arith
few_stored I32Store8 = omega arith
few_stored I32Store16 = omega arith
few_stored I64Store8 = omega arith
few_stored I64Store16 = omega arith
few_stored I64Store32 = omega arith

invokes_stay : {d : ℕ} {s : Store} {f vs : List Value} {h : FuncInst} {is : Code} {b : Config} → Invokes d s f h vs is b → (store_of b).bytes ≡ s.bytes
invokes_stay (enter takes low) = refl
invokes_stay (too_deep takes high) = refl
invokes_stay input = refl
invokes_stay (put room) = refl
invokes_stay (put_full room) = refl
invokes_stay (emit few within room) = refl
invokes_stay (emit_long many) = refl
invokes_stay (emit_beyond few beyond) = refl
invokes_stay (emit_full few within room) = refl

base_leaves : {inst : Instance} {d k : ℕ} {s : Store} {f vs : List Value} {is : Code} {b : Config} → Base inst d s f vs is k b → Leaves inst s (CodeAsks inst s is vs) (store_of b).bytes
base_leaves (pure x) = stay refl
base_leaves (traps x) = stay refl
base_leaves (get_local at) = stay refl
base_leaves (set_local low) = stay refl
base_leaves (tee_local low) = stay refl
base_leaves (get_global at) = stay refl
base_leaves (set_global low) = stay refl
base_leaves (load_bytes within) = stay refl
base_leaves {inst = inst} {s = s} (store_bytes {op = op} {i = i} {n = n} {offset = offset} {v = v} {vs = vs} e within) =
    let long = length-bytes_of (store_type op).1 n in
    let few = few_stored op in
    wrote (i + offset) (bytes_of (store_type op).1 n) (omega (arith, long, within)) (omega (arith, long, few)) (v, i, vs, refl, within, ap (writing (i + offset)) long)
base_leaves size_pages = stay refl
base_leaves (grow_pages {n = n} room) = grew n room
base_leaves (grow_too_far room) = stay refl
base_leaves (invoke calls does) = stay (invokes_stay does)

pub reduces_leaves : {inst : Instance} {d k : ℕ} {a b : Config} → Reduces inst d a k b → Leaves inst (store_of a) (Asks inst a) (store_of b).bytes
reduces_leaves (base x) = base_leaves x
reduces_leaves (in_label x) = reduces_leaves x
reduces_leaves (in_frame x) = reduces_leaves x
reduces_leaves (trap_label x) = reduces_leaves x
reduces_leaves (trap_frame x) = reduces_leaves x
reduces_leaves leave_label = stay refl
reduces_leaves (leave_frame e) = stay refl
reduces_leaves (branch b j z) = stay refl
reduces_leaves (returns b z) = stay refl

-- what has no charge leaves them

base_still : {inst : Instance} {d k : ℕ} {s : Store} {f vs : List Value} {is : Code} {b : Config} → Base inst d s f vs is k b → k ≡ 0 → (store_of b).bytes ≡ s.bytes
base_still (pure x) e = refl
base_still b e = absurd (omega (arith, e))

reduces_still : {inst : Instance} {d k : ℕ} {a b : Config} → Reduces inst d a k b → k ≡ 0 → (store_of b).bytes ≡ (store_of a).bytes
reduces_still (base x) e = base_still x e
reduces_still (in_label x) e = reduces_still x e
reduces_still (in_frame x) e = reduces_still x e
reduces_still (trap_label x) e = reduces_still x e
reduces_still (trap_frame x) e = reduces_still x e
reduces_still leave_label e = refl
reduces_still (leave_frame x) e = refl
reduces_still (branch b j z) e = refl
reduces_still (returns b z) e = refl

pub leads_still : {inst : Instance} {n : ℕ} {a b : Config} → Leads inst a n b → n ≡ 0 → (store_of b).bytes ≡ (store_of a).bytes
leads_still stays e = refl
leads_still (goes_on k n x r) e = leads_still r (omega (arith, e)) ∙ reduces_still x (omega (arith, e))

-- ---- what is asked for

abbrev Known : (Need → Type 0) → Type 0
Known P = ((need : Need) × P need) ⊎ ((need : Need) → ¬ (P need))

at_most : (m n : ℕ) → (m ≤ n) ⊎ ¬ (m ≤ n)
at_most m n = elim (cases_lt n m) [ inl above ↦ inr (λ low. absurd (omega (arith, above, low))) | inr low ↦ inl (omega (arith, low)) ]

emit_known : (s : Store) (vs : List Value) → Known (CallAsks s (host Emit) vs)
emit_known s [] = inr (λ need a. (let bad = a.3 in cc bad))
emit_known s (v ∷ []) = inr (λ need a. (let bad = a.3 in cc bad))
emit_known s (value I64 n ∷ w ∷ vs) = inr (λ need a. (let bad = a.3 in cc bad))
emit_known s (value I32 n ∷ value I64 i ∷ vs) = inr (λ need a. (let bad = a.3 in cc bad))
emit_known s (value I32 n ∷ value I32 i ∷ vs) = elim (at_most n most_emitted) [
  | inr many ↦ inr (λ need a. (let e = a.3 in let few = a.4 in let same : n ≡ a.1 = cc e in absurd (many (omega (arith, few, same)))))
  | inl few ↦ elim (at_most (i + n) (length s.bytes)) [
    | inr beyond ↦ inr (λ need a. (let e = a.3 in let within = a.5 in let same : n ≡ a.1 = cc e in let first : i ≡ a.0 = cc e in absurd (beyond (omega (arith, within, same, first)))))
    | inl within ↦ elim (at_most (length s.output + n) output_room) [
      | inr full ↦ inr (λ need a. (let e = a.3 in let room = a.6 in let same : n ≡ a.1 = cc e in absurd (full (omega (arith, room, same)))))
      | inl room ↦ inl (_, (i, n, vs, refl, few, within, room, refl))
    ]
  ]
]

call_known : (s : Store) (h : FuncInst) (vs : List Value) → Known (CallAsks s h vs)
call_known s (own type body) vs = inr (λ need a. a)
call_known s (host Input) vs = inr (λ need a. a)
call_known s (host Put) vs = inr (λ need a. a)
call_known s (host Emit) vs = emit_known s vs

same_type : (a b : ValType) → (a ≡ b) ⊎ (a ≢ b)
same_type I32 I32 = inl refl
same_type I32 I64 = inr (λ e. cc e)
same_type I64 I32 = inr (λ e. cc e)
same_type I64 I64 = inl refl

same_types : (xs ys : List ValType) → (xs ≡ ys) ⊎ (xs ≢ ys)
same_types [] [] = inl refl
same_types [] (y ∷ ys) = inr (λ e. cc e)
same_types (x ∷ xs) [] = inr (λ e. cc e)
same_types (x ∷ xs) (y ∷ ys) = elim (same_type x y) [
  | inr other ↦ inr (λ e. (let h : x ≡ y = cc e in other h))
  | inl same ↦ elim (same_types xs ys) [ inr other ↦ inr (λ e. (let h : xs ≡ ys = cc e in other h)) | inl rest ↦ inl (cc (same, rest)) ]
]

one_func_type : (p q r t : List ValType) → p ≡ q → r ≡ t → ◌≡◌ {A = FuncType} (record { params = p; results = r }) (record { params = q; results = t })
one_func_type p q r t params results = cc

same_func_type : (a b : FuncType) → (a ≡ b) ⊎ (a ≢ b)
same_func_type a b = elim (same_types a.params b.params) [
  | inr other ↦ inr (λ e. other (ap (λ (t : FuncType). t.params) e))
  | inl params ↦ elim (same_types a.results b.results) [
    | inr other ↦ inr (λ e. other (ap (λ (t : FuncType). t.results) e))
    | inl results ↦ inl (one_func_type a.params b.params a.results b.results params results)
  ]
]

some_or_none : {X : Type 0} (o : Option X) → ((x : X) × (o ≡ Some x)) ⊎ (o ≡ None)
some_or_none None = inr refl
some_or_none (Some x) = inl (x, refl)

named_known : (s : Store) (o : Option FuncInst) (vs : List Value) → Known (λ need. (h : FuncInst) × (o ≡ Some h) × CallAsks s h vs need)
named_known s None vs = inr (λ need a. (let bad = a.1 in cc bad))
named_known s (Some h) vs = elim (call_known s h vs) [
  | inl asks ↦ inl (asks.0, (h, refl, asks.1))
  | inr none ↦ inr (λ need a. (let same : a.0 ≡ h = cc (a.1) in none need (subst (λ z. CallAsks s z vs need) same a.2)))
]

abbrev Indirect : Instance → Store → ℕ → ℕ → List Value → Need → Type 0
Indirect inst s y i vs need =
    (x : ℕ) × (h : FuncInst) × (slice_get s.table i ≡ Some (Some x)) × (slice_get inst.funcs x ≡ Some h) × (slice_get inst.types y ≡ Some (signature h)) × CallAsks s h vs need

typed_known : (inst : Instance) (s : Store) (y i x : ℕ) (h : FuncInst) (vs : List Value) → slice_get s.table i ≡ Some (Some x) → slice_get inst.funcs x ≡ Some h → (o : Option FuncType) → slice_get inst.types y ≡ o → Known (Indirect inst s y i vs)
typed_known inst s y i x h vs entry at None type = inr (λ need a. (let bad : None ≡ Some (signature a.1) = sym type ∙ a.4 in cc bad))
typed_known inst s y i x h vs entry at (Some t) type = elim (same_func_type t (signature h)) [
  | inr other ↦ inr (λ need a. (let index : a.0 ≡ x = cc (a.2, entry) in let func : a.1 ≡ h = cc (a.3, at, index) in let sig : t ≡ signature a.1 = cc (a.4, type) in other (sig ∙ ap signature func)))
  | inl same ↦ elim (call_known s h vs) [
    | inl asks ↦ inl (asks.0, (x, h, entry, at, type ∙ ap (λ z. Some z) same, asks.1))
    | inr none ↦ inr (λ need a. (let index : a.0 ≡ x = cc (a.2, entry) in let func : a.1 ≡ h = cc (a.3, at, index) in none need (subst (λ z. CallAsks s z vs need) func a.5)))
  ]
]

entry_known : (inst : Instance) (s : Store) (y i : ℕ) (vs : List Value) (o : Option (Option ℕ)) → slice_get s.table i ≡ o → Known (Indirect inst s y i vs)
entry_known inst s y i vs None entry = inr (λ need a. (let bad : None ≡ Some (Some a.0) = sym entry ∙ a.2 in cc bad))
entry_known inst s y i vs (Some None) entry = inr (λ need a. (let bad : Some None ≡ Some (Some a.0) = sym entry ∙ a.2 in cc bad))
entry_known inst s y i vs (Some (Some x)) entry = elim (some_or_none (slice_get inst.funcs x)) [
  | inr none ↦ inr (λ need a. (let index : a.0 ≡ x = cc (a.2, entry) in let bad : None ≡ Some a.1 = sym none ∙ (ap (slice_get inst.funcs) (sym index) ∙ a.3) in cc bad))
  | inl (h, at) ↦ typed_known inst s y i x h vs entry at (slice_get inst.types y) refl
]

op_known : (inst : Instance) (s : Store) (op : Op) (vs : List Value) → Known (OpAsks inst s op vs)
op_known inst s (load op align offset) [] = inr (λ need a. (let bad = a.2 in cc bad))
op_known inst s (load op align offset) (value I64 i ∷ vs) = inr (λ need a. (let bad = a.2 in cc bad))
op_known inst s (load op align offset) (value I32 i ∷ vs) = elim (at_most (i + offset + (load_type op).1) (length s.bytes)) [
  | inl within ↦ inl (_, (i, vs, refl, within, refl))
  | inr beyond ↦ inr (λ need a. (let e = a.2 in let low = a.3 in let same : i ≡ a.0 = cc e in absurd (beyond (omega (arith, low, same)))))
]
op_known inst s (store op align offset) [] = inr (λ need a. (let bad = a.3 in cc bad))
op_known inst s (store op align offset) (v ∷ []) = inr (λ need a. (let bad = a.3 in cc bad))
op_known inst s (store op align offset) (v ∷ value I64 i ∷ vs) = inr (λ need a. (let bad = a.3 in cc bad))
op_known inst s (store op align offset) (v ∷ value I32 i ∷ vs) = elim (at_most (i + offset + (store_type op).1) (length s.bytes)) [
  | inl within ↦ inl (_, (v, i, vs, refl, within, refl))
  | inr beyond ↦ inr (λ need a. (let e = a.3 in let low = a.4 in let same : i ≡ a.1 = cc e in absurd (beyond (omega (arith, low, same)))))
]
op_known inst s (call x) vs = named_known s (slice_get inst.funcs x) vs
op_known inst s (call_indirect y) [] = inr (λ need a. (let bad = a.4 in cc bad))
op_known inst s (call_indirect y) (value I64 i ∷ vs) = inr (λ need a. (let bad = a.4 in cc bad))
op_known inst s (call_indirect y) (value I32 i ∷ vs) = elim (entry_known inst s y i vs (slice_get s.table i) refl) [
  | inl (need, (x, h, entry, at, type, asks)) ↦ inl (need, (i, x, h, vs, refl, entry, at, type, asks))
  | inr none ↦ inr (λ need a. (
      let e = a.4 in
      let index : a.0 ≡ i = cc e in
      let args : a.3 ≡ vs = cc e in
      none need (a.1, a.2, ap (slice_get s.table) (sym index) ∙ a.5, a.6, a.7, subst (λ z. CallAsks s a.2 z need) args a.8)))
]
op_known inst s op vs = inr (λ need a. a)

code_known : (inst : Instance) (s : Store) (is : Code) (vs : List Value) → Known (CodeAsks inst s is vs)
code_known inst s (plain op rest) vs = op_known inst s op vs
code_known inst s is vs = inr (λ need a. a)

term_known : (inst : Instance) (s : Store) (t : Term) → Known (TermAsks inst s t)
term_known inst s (code vs is) = code_known inst s is vs
term_known inst s (label vs n next t is) = term_known inst s t
term_known inst s (frame vs n f t is) = term_known inst s t

pub asks_known : (inst : Instance) (s : Store) (f : List Value) (t : Term) → ((need : Need) × Asks inst (config s f t) need) ⊎ ((need : Need) → ¬ (Asks inst (config s f t) need))
asks_known inst s f t = term_known inst s t

-- what is asked for lies in the memory, and is at most a page

few_loaded : (op : LoadOp) → (load_type op).1 ≤ 4096
few_loaded I32Load = omega arith
few_loaded I64Load = omega arith
few_loaded I32Load8S = omega arith
few_loaded I32Load8U = omega arith
few_loaded I32Load16S = omega arith
few_loaded I32Load16U = omega arith
few_loaded I64Load8S = omega arith
few_loaded I64Load8U = omega arith
few_loaded I64Load16S = omega arith
few_loaded I64Load16U = omega arith
few_loaded I64Load32S = omega arith
few_loaded I64Load32U = omega arith

abbrev LiesIn : Store → Need → Type 0
LiesIn s need = (need.at + need.length ≤ length s.bytes) × (need.length ≤ 4096)

call_within : (s : Store) (h : FuncInst) (vs : List Value) (need : Need) → CallAsks s h vs need → LiesIn s need
call_within s (host Emit) vs need (i, n, rest, e, few, within, room, is) = subst (LiesIn s) (sym is) (within, few)
call_within s (host Input) vs need a = absurd a
call_within s (host Put) vs need a = absurd a
call_within s (own type body) vs need a = absurd a

op_within : (inst : Instance) (s : Store) (op : Op) (vs : List Value) (need : Need) → OpAsks inst s op vs need → LiesIn s need
op_within inst s (load op align offset) vs need (i, rest, e, within, is) = subst (LiesIn s) (sym is) (within, few_loaded op)
op_within inst s (store op align offset) vs need (v, i, rest, e, within, is) = subst (LiesIn s) (sym is) (within, few_stored op)
op_within inst s (call x) vs need (h, at, asks) = call_within s h vs need asks
op_within inst s (call_indirect y) vs need (i, x, h, rest, e, entry, at, type, asks) = call_within s h rest need asks
op_within inst s op vs need a = absurd a

code_within : (inst : Instance) (s : Store) (is : Code) (vs : List Value) (need : Need) → CodeAsks inst s is vs need → LiesIn s need
code_within inst s (plain op rest) vs need a = op_within inst s op vs need a
code_within inst s is vs need a = absurd a

term_within : (inst : Instance) (s : Store) (t : Term) (need : Need) → TermAsks inst s t need → LiesIn s need
term_within inst s (code vs is) need a = code_within inst s is vs need a
term_within inst s (label vs n next t is) need a = term_within inst s t need a
term_within inst s (frame vs n f t is) need a = term_within inst s t need a

pub asks_within : (inst : Instance) (s : Store) (f : List Value) (t : Term) (need : Need) → Asks inst (config s f t) need → (need.at + need.length ≤ length s.bytes) × (need.length ≤ 4096)
asks_within inst s f t need a = term_within inst s t need a
