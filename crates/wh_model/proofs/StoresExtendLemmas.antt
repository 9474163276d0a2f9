-- What reductions may leave of a store.
use Rattle.std.proofs.Common.{◌≡◌, ℕ, ◌+◌, zero, suc, ◌≤◌, ◌⊎◌, inl, inr, ⊎_elim, List, [], ◌∷◌, ◌++◌, length, replicate, ◌*◌, None, slice_get, slice_set, refl, sym, ap, arith, ◌∙◌, append_assoc, length-append, rules}
use Rattle.std.proofs.lemmas.List.{append-nil}
use Rattle.wh_model.specs.declared.ValType.{ValType}
use Rattle.wh_model.specs.declared.Mutability.TheVariants.{Const, Var}
use Rattle.wh_model.specs.Format.{Code, GlobalType}
use Rattle.wh_model.specs.Validity.{Context, under, operand, store_type, HasType}
use Rattle.wh_model.specs.Execution.Store.{Instance, Store}
use Rattle.wh_model.specs.Execution.{Value, FuncInst, bytes_of, bytes_at, Term, Config, config, trapped, store_of, Invokes, enter, too_deep, input, put, put_full, emit, emit_long, emit_beyond, emit_full, Base, pure, traps, get_local, set_local, tee_local, get_global, set_global, load_bytes, store_bytes, size_pages, grow_pages, grow_too_far, invoke, Reduces, base, in_label, in_frame, trap_label, trap_frame, leave_label, leave_frame, branch, returns, Leads, stays, goes_on}
use Rattle.wh_model.specs.Soundness.{AreOfTypes, InstanceType, StoreExtends, frame_context, IsInside, TermType, ThreadType}
use Rattle.wh_model.specs.Laws.{StoresExtend}
use Rattle.wh_model.proofs.Fragments.{length-written}
use Rattle.wh_model.proofs.MemoryTypingLemmas.{length-bytes_of}
use Rattle.wh_model.proofs.TermTypingLemmas.{stands}
use Rattle.wh_model.proofs.StuckLemmas.{thread_preservation}

same_store : (m : Context) (s : Store) → StoreExtends m s s
same_store m s = search rules

extends_further : (m : Context) (a b c : Store) → StoreExtends m a b → StoreExtends m b c → StoreExtends m a c
extends_further m a b c x y = search (rules, append_assoc)

-- a write leaves all other places
set_elsewhere : {X : Type 0} (xs : List X) (i j : ℕ) (x : X)
    → (i ≡ j) ⊎ (slice_get (slice_set xs i x) j ≡ slice_get xs j)
set_elsewhere [] i j x = inr refl
set_elsewhere (y ∷ ys) zero zero x = inl refl
set_elsewhere (y ∷ ys) zero (suc j) x = inr refl
set_elsewhere (y ∷ ys) (suc i) zero x = inr refl
set_elsewhere (y ∷ ys) (suc i) (suc j) x = ⊎_elim (λ e. inl (ap suc e)) (λ e. inr e) (set_elsewhere ys i j x)

more_memory : (m : Context) (s : Store) (bytes : List ℕ) → length s.bytes ≤ length bytes
    → StoreExtends m s (record s { bytes = bytes })
more_memory m s bytes low = search rules

output_appended : (m : Context) (s : Store) (more : List ℕ) → StoreExtends m s (record s { output = s.output ++ more })
output_appended m s more = search rules

never_both : (g h : GlobalType) → g ≡ h → g.mutability ≡ Const → h.mutability ≡ Var → ⊥
never_both g h e const var = let same = sym const ∙ ap (λ (k : GlobalType). k.mutability) e ∙ var in absurd (cc same)

invokes_extends : {d : ℕ} {s : Store} {f vs : List Value} {h : FuncInst} {is : Code} {b : Config}
    → Invokes d s f h vs is b → (m : Context) → StoreExtends m s (store_of b)
invokes_extends {s = s} (enter takes low) m = same_store m s
invokes_extends {s = s} (too_deep takes high) m = same_store m s
invokes_extends {s = s} input m = same_store m s
invokes_extends {s = s} (put {n = n} room) m = output_appended m s (bytes_of 8 n)
invokes_extends {s = s} (put_full room) m = same_store m s
invokes_extends {s = s} (emit {i = i} {n = n} few within room) m = output_appended m s (bytes_at s.bytes i n)
invokes_extends {s = s} (emit_long many) m = same_store m s
invokes_extends {s = s} (emit_beyond few beyond) m = same_store m s
invokes_extends {s = s} (emit_full few within room) m = same_store m s

base_extends : {inst : Instance} {d k : ℕ} {s : Store} {f vs : List Value} {is : Code} {b : Config}
    → Base inst d s f vs is k b → (m c : Context) (ins outs : List ValType)
    → IsInside m c → AreOfTypes vs ins → HasType c is ins outs → StoreExtends m s (store_of b)
base_extends {s = s} (pure x) m c ins outs inside over t = same_store m s
base_extends {s = s} (traps x) m c ins outs inside over t = same_store m s
base_extends {s = s} (get_local at) m c ins outs inside over t = same_store m s
base_extends {s = s} (set_local low) m c ins outs inside over t = same_store m s
base_extends {s = s} (tee_local low) m c ins outs inside over t = same_store m s
base_extends {s = s} (get_global at) m c ins outs inside over t = same_store m s
base_extends {s = s} (set_global {x = x} {v = v} {vs = vs} low) m c ins outs inside over t =
    let o = (stands (v ∷ vs) over t).is_op in
    record {
      memory = omega arith;
      table = refl;
      inputs = refl;
      constants = search (rules, ⊎_elim, never_both, set_elsewhere);
      output = ([], sym (append-nil s.output));
    }
base_extends {s = s} (load_bytes within) m c ins outs inside over t = same_store m s
base_extends {s = s} (store_bytes {op = op} {i = i} {n = n} {offset = offset} e within) m c ins outs inside over t =
    search (rules, length-bytes_of, length-written, more_memory)
base_extends {s = s} size_pages m c ins outs inside over t = same_store m s
base_extends {s = s} (grow_pages {n = n} room) m c ins outs inside over t = search (rules, length-append, replicate, more_memory)
base_extends {s = s} (grow_too_far room) m c ins outs inside over t = same_store m s
base_extends (invoke calls does) m c ins outs inside over t = invokes_extends does m

reduces_extends : {inst : Instance} {d k : ℕ} {s : Store} {f : List Value} {t : Term} {b : Config}
    → Reduces inst d (config s f t) k b → (m c : Context) (outs : List ValType)
    → IsInside m c → TermType m c t outs → StoreExtends m s (store_of b)
reduces_extends (base x) m c outs inside t = base_extends x m c t.0 outs inside t.1 t.2
reduces_extends (in_label x) m c outs inside (below, ends, takes, over, n, next, body, behind) =
    reduces_extends x m (under takes c) ends inside body
reduces_extends (in_frame x) m c outs inside (below, locals, result, over, n, given, body, behind) =
    reduces_extends x m (frame_context m locals result) (operand result) (refl, refl, refl, refl, refl) body
reduces_extends (trap_label x) m c outs inside (below, ends, takes, over, n, next, body, behind) =
    reduces_extends x m (under takes c) ends inside body
reduces_extends (trap_frame x) m c outs inside (below, locals, result, over, n, given, body, behind) =
    reduces_extends x m (frame_context m locals result) (operand result) (refl, refl, refl, refl, refl) body
reduces_extends {s = s} leave_label m c outs inside t = same_store m s
reduces_extends {s = s} (leave_frame count) m c outs inside t = same_store m s
reduces_extends {s = s} (branch b j z) m c outs inside t = same_store m s
reduces_extends {s = s} (returns b z) m c outs inside t = same_store m s

thread_extends : (m : Context) (inst : Instance) (k : ℕ) (a b : Config) (outs : List ValType) → ThreadType m inst a outs
    → Reduces inst 0 a k b → StoreExtends m (store_of a) (store_of b)
thread_extends m inst k (config s f t) b outs h r = search (rules, reduces_extends)
thread_extends m inst k (trapped s x) b outs h r = elim r [ ]

leads_extend : {inst : Instance} {n : ℕ} {a b : Config} → Leads inst a n b → (m : Context) (outs : List ValType)
    → InstanceType m inst → ThreadType m inst a outs → StoreExtends m (store_of a) (store_of b)
leads_extend {a = a} stays m outs i h = same_store m (store_of a)
leads_extend {inst = inst} {a = a} {b = c} (goes_on {b = b} k n x r) m outs i h =
    extends_further m (store_of a) (store_of b) (store_of c) (thread_extends m inst k a b outs h x)
    (leads_extend r m outs i (thread_preservation m inst k a b outs i h x))

pub stores_extend : StoresExtend
stores_extend m inst n a b outs i h x = leads_extend x m outs i h
