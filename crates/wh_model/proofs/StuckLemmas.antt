-- Typed configurations outside of all functions: each has ended or goes further, and so nothing gets stuck.
use Rattle.std.proofs.Common.{◌≡◌, ℕ, suc, ◌≤◌, ◌⊎◌, inl, inr, ⊎_elim, List, [], ◌++◌, length, Option, None, slice_get, refl, sym, ap, subst, arith, ◌∙◌, append_assoc, rules}
use Rattle.std.proofs.lemmas.Bool.{cases_lt}
use Rattle.wh_model.specs.declared.ValType.{ValType}
use Rattle.wh_model.specs.Format.{Code, nothing, plain, return}
use Rattle.wh_model.specs.Validity.{Context, under, operand}
use Rattle.wh_model.specs.Execution.Store.{Instance, Store}
use Rattle.wh_model.specs.Execution.{Value, Term, code, label, frame, arity, Config, config, trapped, TakesOperands, Block, inner, Jumps, Reduces, in_label, in_frame, trap_label, trap_frame, leave_label, leave_frame, branch, returns, Leads, stays, goes_on}
use Rattle.wh_model.specs.Soundness.{AreOfTypes, InstanceType, StoreType, frame_context, IsInside, TermType, ConfigType, IsAlone, ThreadType}
use Rattle.wh_model.specs.Laws.{ThreadPreservation, Progress, NeverStuck}
use Rattle.wh_model.proofs.OneReduction.{done_stays}
use Rattle.wh_model.proofs.StoreTypingLemmas.{types_length, types_split}
use Rattle.wh_model.proofs.TermTypingLemmas.{parts, taking, stands, arity_length, block_typed, drop_at, none_behind}
use Rattle.wh_model.proofs.SoundnessLemmas.{jump_typed, preservation}
use Rattle.wh_model.proofs.ProgressLemmas.{Going, at_end, moves, jumps, leaves, code_goes}

-- ---- labels and frames

-- values on top that a branch or a return takes along
takes_typed : (t : Option ValType) (any : List ValType) (n : ℕ) (vs : List Value) → n ≡ arity t
    → AreOfTypes vs (operand t ++ any) → (us ws : List Value) × TakesOperands n vs us ws
takes_typed t any n vs e over = search (rules, types_split, types_length, arity_length)

in_a_label : {inst : Instance} {d k : ℕ} {s : Store} {f vs : List Value} {t : Term} (n : ℕ) (next is : Code)
    (b : Config) → Reduces inst d (config s f t) k b → (r : Config)
    × Reduces inst d (config s f (label vs n next t is)) k r
in_a_label {vs = vs} n next is (config s2 f2 t2) x = (config s2 f2 (label vs n next t2 is), in_label x)
in_a_label n next is (trapped s2 y) x = (trapped s2 y, trap_label x)

in_a_frame : {inst : Instance} {d k : ℕ} {s : Store} {f g vs : List Value} {t : Term} (n : ℕ) (is : Code) (b : Config)
    → Reduces inst (suc d) (config s g t) k b → (r : Config) × Reduces inst d (config s f (frame vs n g t is)) k r
in_a_frame {f = f} {vs = vs} n is (config s2 g2 t2) x = (config s2 f (frame vs n g2 t2 is), in_frame x)
in_a_frame n is (trapped s2 y) x = (trapped s2 y, trap_frame x)

same_or_above : (k l : ℕ) → k ≤ l → (l ≡ k) ⊎ (suc k ≤ l)
same_or_above k l low = search rules

-- a branch to the label, from operands that can be parted
branches_out : {inst : Instance} {d l n : ℕ} {s : Store} {f us rest : List Value} {t : Term} {js : Code}
    (outs : List ValType) (vs : List Value) (next is : Code) → Block l t us js → Jumps us js l rest
    → (ws dropped : List Value) × TakesOperands n rest ws dropped → Going inst d s f (label vs n next t is) outs
branches_out outs vs next is b j z = moves (branch b j z.2)

returns_out : {inst : Instance} {d k n : ℕ} {s : Store} {f g us : List Value} {t : Term} {js : Code} (vs : List Value)
    (is : Code) → Block k t us (plain return js)
    → (ws dropped : List Value) × TakesOperands n us ws dropped → (j : ℕ) × (b : Config)
    × Reduces inst d (config s f (frame vs n g t is)) j b
returns_out vs is b z = (1, _, returns b z.2)

label_goes : {inst : Instance} {d : ℕ} {s : Store} {f : List Value} {t : Term} {ends : List ValType}
    → Going inst d s f t ends → (m c : Context) (outs : List ValType) (vs : List Value) (n : ℕ) (next is : Code)
    (takes : Option ValType)
    → n ≡ arity takes → TermType m (under takes c) t ends → Going inst d s f (label vs n next t is) outs
label_goes (at_end h) m c outs vs n next is takes e body = moves leave_label
label_goes (moves {b = b} x) m c outs vs n next is takes e body = moves (in_a_label n next is b x).1
label_goes {inst = inst} {d = d} {s = s} {f = f} {t = t} {ends = ends}
    (jumps {k = k} {l = l} {vs = us} {rest = rest} {is = js} b j low) m c outs vs n next is takes e body =
    ⊎_elim
    (λ same.
    let x = block_typed b m (under takes c) ends body in
    let y = jump_typed j x.around x.ins x.outs x.over x.goes in
    let there : y.takes ≡ takes = search (rules, drop_at) in
    let z = takes_typed takes y.any n rest e (subst (λ w. AreOfTypes rest (operand w ++ y.any)) there y.over) in
    branches_out outs vs next is b (subst (λ w. Jumps us js w rest) same j) z)
    (λ above. jumps (inner b) j above)
    (same_or_above k l low)
label_goes (leaves b) m c outs vs n next is takes e body = leaves (inner b)

-- a frame's term reduces
frame_goes : {inst : Instance} {d : ℕ} {s : Store} {f g : List Value} {t : Term} {ends : List ValType}
    → Going inst (suc d) s g t ends
    → (m : Context) (vs : List Value) (n : ℕ) (is : Code) (locals : List ValType) (result : Option ValType)
    → ends ≡ operand result → n ≡ arity result → TermType m (frame_context m locals result) t ends → (k : ℕ)
    × (b : Config) × Reduces inst d (config s f (frame vs n g t is)) k b
frame_goes (at_end {vs = us} {outs = ends} h) m vs n is locals result ends_are e body =
    (0, _, leave_frame (types_length us ends h ∙ ap length ends_are ∙ sym (arity_length result) ∙ sym e))
frame_goes (moves {k = k} {b = b} x) m vs n is locals result ends_are e body =
    let r = in_a_frame n is b x in (k, r.0, r.1)
frame_goes {ends = ends} (jumps {k = k} {l = l} b j low) m vs n is locals result ends_are e body =
    let x = block_typed b m (frame_context m locals result) ends body in
    let y = jump_typed j x.around x.ins x.outs x.over x.goes in
    absurd (none_behind k l x.around.labels y.takes x.labels low y.label)
frame_goes {ends = ends} (leaves {vs = us} b) m vs n is locals result ends_are e body =
    let x = block_typed b m (frame_context m locals result) ends body in
    let y = stands us x.over x.goes in
    let top = subst (AreOfTypes us) (append_assoc (operand result) y.is_op.0 y.below)
    (taking us y.below (y.is_op.1 ∙ ap (λ r. operand r ++ y.is_op.0) x.result) y.over) in
    let z = takes_typed result (y.is_op.0 ++ y.below) n us e top in
    returns_out vs is b z

term_goes : (t : Term) (m c : Context) (inst : Instance) (d : ℕ) (s : Store) (f : List Value) (outs : List ValType)
    → InstanceType m inst → IsInside m c → StoreType m inst s → AreOfTypes f c.locals → TermType m c t outs
    → Going inst d s f t outs
term_goes (code vs is) m c inst d s f outs i inside st ls (ins, over, t) = search (rules, code_goes)
term_goes (label vs n next t is) m c inst d s f outs i inside st ls (below, ends, takes, over, e, goes, body, behind) =
    label_goes (term_goes t m (under takes c) inst d s f ends i inside st ls body) m c outs vs n next is takes e body
term_goes (frame vs n g t is) m c inst d s f outs i inside st ls (below, locals, result, over, e, given, body, behind) =
    let x = term_goes t m (frame_context m locals result) inst (suc d) s g (operand result) i
    (refl, refl, refl, refl, refl) st given body in
    moves (frame_goes x m vs n is locals result refl e body).2

-- ---- outside of all functions

pub progress : Progress
progress m inst (trapped s x) outs i h = inl tt
progress m inst (config s f (code vs nothing)) outs i h = inl (subst (AreOfTypes vs) (parts h.0.2.2) h.0.2.1)
progress m inst (config s f (frame [] n g t nothing)) outs i
    ((st, ls, (below, locals, result, over, e, given, body, behind)), alone) =
    let x = term_goes t m (frame_context m locals result) inst 1 s g (operand result) i
    (refl, refl, refl, refl, refl) st given body in
    inr (frame_goes x m [] n nothing locals result refl e body)
progress m inst (config s f t) outs i h = absurd h.1

AloneToo : Config → Type 0
AloneToo (config s f t) = IsAlone t
AloneToo (trapped s x) = Unit {0}

frame_alone : {inst : Instance} {d k n : ℕ} {s : Store} {f g vs : List Value} {t : Term} {is : Code} {b : Config}
    → Reduces inst d (config s f (frame vs n g t is)) k b → vs ≡ [] → is ≡ nothing → AloneToo b
unfolding AloneToo
frame_alone {n = n} {vs = vs} {is = is} (in_frame {g2 = g2} {t2 = t2} x) e q = search rules
frame_alone (trap_frame x) e q = tt
frame_alone {vs = vs} (leave_frame {us = us} count) e q = subst (λ w. IsAlone (code (us ++ vs) w)) (sym q) tt
frame_alone {vs = vs} (returns {us = us} b z) e q = subst (λ w. IsAlone (code (us ++ vs) w)) (sym q) tt

with_alone : (m : Context) (inst : Instance) (b : Config) (outs : List ValType)
    → ConfigType m inst (frame_context m [] None) b outs → AloneToo b → ThreadType m inst b outs
unfolding AloneToo
with_alone m inst (config s f t) outs h alone = (h, alone)
with_alone m inst (trapped s x) outs h alone = h

pub thread_preservation : ThreadPreservation
thread_preservation m inst k (trapped s x) b outs i h r = elim r [ ]
thread_preservation m inst k (config s f (code vs nothing)) b outs i h r = absurd (done_stays r)
thread_preservation m inst k (config s f (frame [] n g t nothing)) b outs i h r = search (rules, with_alone, preservation, frame_alone)
thread_preservation m inst k (config s f t) b outs i h r = absurd h.1

pub thread_leads : {inst : Instance} {n : ℕ} {a b : Config} → Leads inst a n b → (m : Context) (outs : List ValType)
    → InstanceType m inst → ThreadType m inst a outs → ThreadType m inst b outs
thread_leads stays m outs i h = h
thread_leads {inst = inst} {a = a} (goes_on {b = b} k n x r) m outs i h =
    thread_leads r m outs i (thread_preservation m inst k a b outs i h x)

pub never_stuck : NeverStuck
never_stuck m inst n a b outs i h x = let t = thread_leads x m outs i h in (t, progress m inst b outs i t)
