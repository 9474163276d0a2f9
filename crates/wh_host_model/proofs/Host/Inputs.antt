-- The words of an instance's input never change.
use Rattle.std.proofs.Common.{◌≡◌, ℕ, List, refl, ◌∙◌}
use Rattle.wh_model.specs.Format.{Code, Module}
use Rattle.wh_model.specs.Execution.Store.{Instance, Store}
use Rattle.wh_model.specs.Execution.{Value, FuncInst, Config, store_of, Invokes, enter, too_deep, input, put, put_full, emit, emit_long, emit_beyond, emit_full, Base, pure, traps, get_local, set_local, tee_local, get_global, set_global, load_bytes, store_bytes, size_pages, grow_pages, grow_too_far, invoke, Reduces, base, in_label, in_frame, trap_label, trap_frame, leave_label, leave_frame, branch, returns, Leads, stays, goes_on, Parameters, Piece, begins, IsInitial, in_bounds}

invokes_inputs : {d : ℕ} {s : Store} {f vs : List Value} {h : FuncInst} {is : Code} {b : Config} → Invokes d s f h vs is b → (store_of b).inputs ≡ s.inputs
invokes_inputs (enter takes low) = refl
invokes_inputs (too_deep takes high) = refl
invokes_inputs input = refl
invokes_inputs (put room) = refl
invokes_inputs (put_full room) = refl
invokes_inputs (emit few within room) = refl
invokes_inputs (emit_long many) = refl
invokes_inputs (emit_beyond few beyond) = refl
invokes_inputs (emit_full few within room) = refl

base_inputs : {inst : Instance} {d k : ℕ} {s : Store} {f vs : List Value} {is : Code} {b : Config} → Base inst d s f vs is k b → (store_of b).inputs ≡ s.inputs
base_inputs (pure x) = refl
base_inputs (traps x) = refl
base_inputs (get_local at) = refl
base_inputs (set_local low) = refl
base_inputs (tee_local low) = refl
base_inputs (get_global at) = refl
base_inputs (set_global low) = refl
base_inputs (load_bytes within) = refl
base_inputs (store_bytes e within) = refl
base_inputs size_pages = refl
base_inputs (grow_pages room) = refl
base_inputs (grow_too_far room) = refl
base_inputs (invoke calls does) = invokes_inputs does

reduces_inputs : {inst : Instance} {d k : ℕ} {a b : Config} → Reduces inst d a k b → (store_of b).inputs ≡ (store_of a).inputs
reduces_inputs (base x) = base_inputs x
reduces_inputs (in_label x) = reduces_inputs x
reduces_inputs (in_frame x) = reduces_inputs x
reduces_inputs (trap_label x) = reduces_inputs x
reduces_inputs (trap_frame x) = reduces_inputs x
reduces_inputs leave_label = refl
reduces_inputs (leave_frame count) = refl
reduces_inputs (branch b j z) = refl
reduces_inputs (returns b z) = refl

pub leads_inputs : {inst : Instance} {n : ℕ} {a b : Config} → Leads inst a n b → (store_of b).inputs ≡ (store_of a).inputs
leads_inputs stays = refl
leads_inputs (goes_on k n x r) = leads_inputs r ∙ reduces_inputs x

pub initial_inputs : {m : Module} {p : Parameters} {inst : Instance} {s : Store} {ps : List Piece} → IsInitial m p (begins inst s ps) → s.inputs ≡ p.inputs
initial_inputs (in_bounds fits prepares elements segments) = refl
