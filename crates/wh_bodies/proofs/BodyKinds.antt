-- The kinds of fault that instructions have.
use Rattle.std.proofs.Common.{◌≡◌, ℕ, ◌+◌, List, [], ◌∷◌, ◌++◌, length, reverse, Option, Some, None, Result, Ok, Err, Bool, true, false, cond, rules}
use Rattle.std.specs.Prelude.{slice_get, nat_lt, nat_le}
use Rattle.wh_model.specs.declared.ValType.{ValType}
use Rattle.wh_model.specs.declared.ValType.TheVariants.{I32}
use Rattle.wh_model.specs.declared.Mutability.{Mutability}
use Rattle.wh_model.specs.declared.Mutability.TheVariants.{Const, Var}
use Rattle.wh_model.specs.Format.{Op, unreachable, nop, br, br_if, br_table, return, call, call_indirect, drop_operand, select, local_get, local_set, local_tee, global_get, global_set, load, store, memory_size, memory_grow, i32_const, i64_const, test, comparison, unary, binary, conversion, Instr, single, block_start, loop_start, if_start, else_mark, end_mark}
use Rattle.wh_model.specs.Validity.{Context, operand, load_type, store_type}
use Rattle.wh_model.specs.declared.faults.ValidKind.{ValidKind}
use Rattle.wh_model.specs.declared.faults.ValidKind.TheVariants.{BadType, Align, Arity, Height}
use Rattle.wh_bodies.specs.declared.fault.BodyFault.{BodyFault}
use Rattle.wh_bodies.specs.declared.table.BranchEntry.{BranchEntry}
use Rattle.wh_bodies.specs.declared.labels.Label.{Label}
use Rattle.wh_bodies.specs.BodyFaults.{follow, IsOfBody}
use Rattle.wh_bodies.specs.SideTables.{nowhere, leads_to, immediate_of}
use Rattle.wh_bodies.specs.Known.{Known, topmost, take_any, is_wanted, take_one, give_one, fall, take_all, give_all, pass, selected, same_type}
use Rattle.wh_bodies.specs.CheckSteps.{State, found, typed, aligned, type_to_write, load_exponent, store_exponent, fixed, straight, entry_to, branch, branch_if, same_operand, add_run, branch_table, plain_step, closed_construct, with_label, act, noted, step, at_instr, run}
use Rattle.wh_bodies.specs.ConstructEnds.{all_marks}
use Rattle.wh_bodies.specs.CheckEnds.{started, whole_run}
use Rattle.wh_bodies.proofs.Constructs.{Act, Two}

-- what goes wrong is of these kinds
abbrev Listed : {A : Type 0} → Result A ValidKind → Type 0
Listed (Ok x) = Unit {0}
Listed (Err kind) = IsOfBody kind

in_follow : {A B : Type 0} (x : Result A ValidKind) (next : A → Result B ValidKind) → Listed x → ((y : A) → Listed (next y)) → Listed (follow x next)
in_follow (Ok y) next p q = q y
in_follow (Err k) next p q = p

in_found : {A B : Type 0} (x : Option A) (next : A → Result B ValidKind) → ((y : A) → Listed (next y)) → Listed (found x next)
in_found None next q = tt
in_found (Some y) next q = q y

in_cond : {A : Type 0} (b : Bool) (x y : Result A ValidKind) → Listed x → Listed y → Listed (cond b x y)
in_cond true x y p q = p
in_cond false x y p q = q

-- ---- operands

in_topmost : (k : Known) (os : List (Option ValType)) → Listed (topmost k os)
in_topmost k [] = tt
in_topmost k (o ∷ os) = tt

abbrev Top : Type 0
Top = Option ValType × Known

in_take_any : (k : Known) → Listed (take_any k)
in_take_any k = in_cond {A = Top} (nat_lt k.floor (length k.types)) (topmost k k.types) (cond k.dead (Ok (None, k)) (Err Arity)) (in_topmost k k.types) (in_cond {A = Top} k.dead (Ok (None, k)) (Err Arity) tt tt)

in_wanted : (t : ValType) (o : Option ValType) (k : Known) → Listed (is_wanted t o k)
in_wanted t None k = tt
in_wanted t (Some u) k = in_cond (same_type u t) (Ok k) (Err BadType) tt tt

in_take_one : (k : Known) (t : ValType) → Listed (take_one k t)
in_take_one k t = in_follow (take_any k) (λ r. is_wanted t r.0 r.1) (in_take_any k) (λ r. in_wanted t r.0 r.1)

in_give : (k : Known) (o : Option ValType) → Listed (give_one k o)
in_give k o = in_cond {A = Known} (nat_lt (length k.types) 256) (Ok (record k { types = o ∷ k.types })) (Err Height) tt tt

in_take_all : (k : Known) (ts : List ValType) → Listed (take_all k ts)
in_take_all k [] = tt
in_take_all k (t ∷ ts) = in_follow (take_one k t) (λ left. take_all left ts) (in_take_one k t) (λ left. in_take_all left ts)

in_give_all : (k : Known) (ts : List ValType) → Listed (give_all k ts)
in_give_all k [] = tt
in_give_all k (t ∷ ts) = in_follow (give_one k (Some t)) (λ more. give_all more ts) (in_give k (Some t)) (λ more. in_give_all more ts)

in_pass : (k : Known) (params results : List ValType) → Listed (pass k params results)
in_pass k params results = in_follow (take_all k (reverse params)) (λ left. give_all left results) (in_take_all k (reverse params)) (λ left. in_give_all left results)

in_selected : (k : Known) → Listed (selected k)
in_selected k = search rules

-- ---- instructions without a body

in_written : (m : Mutability) (t : ValType) → Listed (type_to_write m t)
in_written Const t = tt
in_written Var t = tt

in_fixed : (c : Context) (op : Op) → Listed (fixed c op)
in_fixed c (call x) = in_found (slice_get c.funcs x) (λ f. Ok f) (λ f. tt)
in_fixed c (local_get x) = in_found (slice_get c.locals x) (λ t. typed [] (t ∷ [])) (λ t. tt)
in_fixed c (local_set x) = in_found (slice_get c.locals x) (λ t. typed (t ∷ []) []) (λ t. tt)
in_fixed c (local_tee x) = in_found (slice_get c.locals x) (λ t. typed (t ∷ []) (t ∷ [])) (λ t. tt)
in_fixed c (global_get x) = in_found (slice_get c.globals x) (λ g. typed [] (g.value ∷ [])) (λ g. tt)
in_fixed c (global_set x) = in_found (slice_get c.globals x) (λ g. type_to_write g.mutability g.value) (λ g. in_written g.mutability g.value)
in_fixed c (load op align offset) = let t = typed (I32 ∷ []) ((load_type op).0 ∷ []) in in_found (slice_get c.memories 0) (λ l. aligned align (load_exponent op) t) (λ l. in_cond (nat_le align (load_exponent op)) t (Err Align) tt tt)
in_fixed c (store op align offset) = let t = typed (I32 ∷ (store_type op).0 ∷ []) [] in in_found (slice_get c.memories 0) (λ l. aligned align (store_exponent op) t) (λ l. in_cond (nat_le align (store_exponent op)) t (Err Align) tt tt)
in_fixed c memory_size = in_found (slice_get c.memories 0) (λ l. typed [] (I32 ∷ [])) (λ l. tt)
in_fixed c memory_grow = in_found (slice_get c.memories 0) (λ l. typed (I32 ∷ []) (I32 ∷ [])) (λ l. tt)
in_fixed c _ = tt

in_passed : (c : Context) (op : Op) (k : Known) → Listed (follow (fixed c op) (λ f. pass k f.params f.results))
in_passed c op k = in_follow (fixed c op) (λ f. pass k f.params f.results) (in_fixed c op) (λ f. in_pass k f.params f.results)

in_straight : (c : Context) (op : Op) (k : Known) → Listed (straight c op k)
in_straight c unreachable k = tt
in_straight c return k = in_follow (take_all k (operand c.result)) (λ left. Ok (fall left)) (in_take_all k (operand c.result)) (λ left. tt)
in_straight c drop_operand k = in_follow (take_any k) (λ r. Ok r.1) (in_take_any k) (λ r. tt)
in_straight c select k = in_selected k
in_straight c (call_indirect y) k = search (rules, in_found, in_follow, in_take_one, in_pass)
in_straight c (br l) k = in_passed c (br l) k
in_straight c (br_if l) k = in_passed c (br_if l) k
in_straight c (br_table ls l) k = in_passed c (br_table ls l) k
in_straight c nop k = in_passed c nop k
in_straight c (call x) k = in_passed c (call x) k
in_straight c (local_get x) k = in_passed c (local_get x) k
in_straight c (local_set x) k = in_passed c (local_set x) k
in_straight c (local_tee x) k = in_passed c (local_tee x) k
in_straight c (global_get x) k = in_passed c (global_get x) k
in_straight c (global_set x) k = in_passed c (global_set x) k
in_straight c (load op align offset) k = in_passed c (load op align offset) k
in_straight c (store op align offset) k = in_passed c (store op align offset) k
in_straight c memory_size k = in_passed c memory_size k
in_straight c memory_grow k = in_passed c memory_grow k
in_straight c (i32_const n) k = in_passed c (i32_const n) k
in_straight c (i64_const n) k = in_passed c (i64_const n) k
in_straight c (test t op) k = in_passed c (test t op) k
in_straight c (comparison t op) k = in_passed c (comparison t op) k
in_straight c (unary t op) k = in_passed c (unary t op) k
in_straight c (binary t op) k = in_passed c (binary t op) k
in_straight c (conversion op) k = in_passed c (conversion op) k

abbrev Step : Type 0
Step = BranchEntry × Known × List BranchEntry

in_branch : (labels : List Label) (l : ℕ) (k : Known) → Listed (branch labels l k)
in_branch labels l k = in_found {B = BranchEntry × Known} (slice_get labels l) (λ to. follow (take_all k (operand to.carries)) (λ left. Ok (entry_to to, fall left))) (λ to. in_follow {B = BranchEntry × Known} (take_all k (operand to.carries)) (λ left. Ok (entry_to to, fall left)) (in_take_all k (operand to.carries)) (λ left. tt))

in_branch_if : (labels : List Label) (l : ℕ) (k : Known) → Listed (branch_if labels l k)
in_branch_if labels l k = search rules

in_run : (labels : List Label) (carries : Option ValType) (ls : List ℕ) (pool : List BranchEntry) → Listed (add_run labels carries ls pool)
in_run labels carries [] pool = tt
in_run labels carries (l ∷ ls) pool = in_found (slice_get labels l) (λ to. cond (same_operand to.carries carries) (add_run labels carries ls (pool ++ entry_to to ∷ [])) (Err BadType))
    (λ to. in_cond (same_operand to.carries carries) (add_run labels carries ls (pool ++ entry_to to ∷ [])) (Err BadType) (in_run labels carries ls (pool ++ entry_to to ∷ [])) tt)

in_table : (labels : List Label) (ls : List ℕ) (last : ℕ) (k : Known) (pool : List BranchEntry) → Listed (branch_table labels ls last k pool)
in_table labels ls last k pool = search (rules, in_found, in_follow, in_run, in_take_one, in_take_all)

in_noted : (c : Context) (op : Op) (k : Known) (pool : List BranchEntry) → Listed (straight c op k) → Listed (follow {B = Step} (straight c op k) (λ new. Ok (leads_to (immediate_of op), new, pool)))
in_noted c op k pool p = in_follow {B = Step} (straight c op k) (λ new. Ok (leads_to (immediate_of op), new, pool)) p (λ new. tt)

in_plain : (c : Context) (labels : List Label) (op : Op) (k : Known) (pool : List BranchEntry) → Listed (plain_step c labels op k pool)
in_plain c labels (br l) k pool = in_follow {B = Step} (branch labels l k) (λ r. Ok (r.0, r.1, pool)) (in_branch labels l k) (λ r. tt)
in_plain c labels (br_if l) k pool = in_follow {B = Step} (branch_if labels l k) (λ r. Ok (r.0, r.1, pool)) (in_branch_if labels l k) (λ r. tt)
in_plain c labels (br_table ls l) k pool = in_table labels ls l k pool
in_plain c labels nop k pool = tt
in_plain c labels unreachable k pool = in_noted c unreachable k pool (in_straight c unreachable k)
in_plain c labels return k pool = in_noted c return k pool (in_straight c return k)
in_plain c labels drop_operand k pool = in_noted c drop_operand k pool (in_straight c drop_operand k)
in_plain c labels select k pool = in_noted c select k pool (in_straight c select k)
in_plain c labels (call_indirect y) k pool = in_noted c (call_indirect y) k pool (in_straight c (call_indirect y) k)
in_plain c labels (call x) k pool = in_noted c (call x) k pool (in_straight c (call x) k)
in_plain c labels (local_get x) k pool = in_noted c (local_get x) k pool (in_straight c (local_get x) k)
in_plain c labels (local_set x) k pool = in_noted c (local_set x) k pool (in_straight c (local_set x) k)
in_plain c labels (local_tee x) k pool = in_noted c (local_tee x) k pool (in_straight c (local_tee x) k)
in_plain c labels (global_get x) k pool = in_noted c (global_get x) k pool (in_straight c (global_get x) k)
in_plain c labels (global_set x) k pool = in_noted c (global_set x) k pool (in_straight c (global_set x) k)
in_plain c labels (load op align offset) k pool = in_noted c (load op align offset) k pool (in_straight c (load op align offset) k)
in_plain c labels (store op align offset) k pool = in_noted c (store op align offset) k pool (in_straight c (store op align offset) k)
in_plain c labels memory_size k pool = in_noted c memory_size k pool (in_straight c memory_size k)
in_plain c labels memory_grow k pool = in_noted c memory_grow k pool (in_straight c memory_grow k)
in_plain c labels (i32_const n) k pool = in_noted c (i32_const n) k pool (in_straight c (i32_const n) k)
in_plain c labels (i64_const n) k pool = in_noted c (i64_const n) k pool (in_straight c (i64_const n) k)
in_plain c labels (test t op) k pool = in_noted c (test t op) k pool (in_straight c (test t op) k)
in_plain c labels (comparison t op) k pool = in_noted c (comparison t op) k pool (in_straight c (comparison t op) k)
in_plain c labels (unary t op) k pool = in_noted c (unary t op) k pool (in_straight c (unary t op) k)
in_plain c labels (binary t op) k pool = in_noted c (binary t op) k pool (in_straight c (binary t op) k)
in_plain c labels (conversion op) k pool = in_noted c (conversion op) k pool (in_straight c (conversion op) k)

-- ---- constructs

in_closed : (k : Known) (ls : List Label) → Listed (closed_construct k ls)
in_closed k [] = tt
in_closed k (l ∷ ls) = search rules

in_act : (c : Context) (i : Instr) (s : State) → Listed (act c i s)
in_act c (single op) s = in_follow {A = Step} {B = Act} (plain_step c s.labels op s.known s.pool) (λ r. Ok (r.0, record s { known = r.1; pool = r.2 })) (in_plain c s.labels op s.known s.pool) (λ r. tt)
in_act c (block_start t) s = search rules
in_act c (loop_start t) s = search rules
in_act c (if_start t) s = search rules
in_act c else_mark s = search rules
in_act c end_mark s = in_follow {A = Two} {B = Act} (closed_construct s.known s.labels) (λ r. Ok (with_label s s.marks r nowhere)) (in_closed s.known s.labels) (λ r. tt)

in_step : (c : Context) (i : Instr) (s : State) → Listed (step c i s)
in_step c i s = in_follow {A = Act} {B = State} (act c i s) (λ r. Ok (noted r)) (in_act c i s) (λ r. tt)

-- ---- runs

fault_of : (n : ℕ) (x : Result State ValidKind) (is : List Instr) (c : Context) (e : BodyFault) → Listed x → ((next : State) → run c (n + 1) is next ≡ Err e → IsOfBody e.kind) → follow {B = State} (at_instr n x) (λ next. run c (n + 1) is next) ≡ Err e → IsOfBody e.kind
fault_of n (Ok s) is c e p q h = q s h
fault_of n (Err kind) is c e p q h = search rules

-- the fault of a run is of these kinds
pub run_fault : (c : Context) (n : ℕ) (is : List Instr) (s : State) (e : BodyFault) → run c n is s ≡ Err e → IsOfBody e.kind
run_fault c n [] s e h = cc
run_fault c n (i ∷ is) s e h = fault_of n (step c i s) is c e (in_step c i s) (λ next g. run_fault c (n + 1) is next e g) h

-- of a context and instructions that are these
pub whole_fault : (c d : Context) (is js : List Instr) (e : BodyFault) → c ≡ d → is ≡ js → whole_run c is ≡ Err e → IsOfBody e.kind
whole_fault c d is js e around code h = run_fault c 0 is (started c.result (length is) (all_marks 0 is).done) e h
