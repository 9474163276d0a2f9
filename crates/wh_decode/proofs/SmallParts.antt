-- What is derived within the limits is what is derived and small: the parts of a module.
use Rattle.std.proofs.Common.{◌≡◌, ℕ, zero, suc, ◌+◌, ◌-◌, ◌≤◌, Bool, true, false, List, [], ◌∷◌, length, Result, Option, Some, None, sym, ap, subst, ◌∙◌, arith, length-append, IsUtf8}
use Rattle.std.proofs.Math.ListN.{replicate, length-replicate}
use Rattle.std.specs.List.{AllByRecursion}
use Rattle.wh_model.specs.declared.faults.FaultKind.{FaultKind}
use Rattle.wh_model.specs.declared.faults.FaultKind.TheVariants.{UnknownByte, Utf8, CountMismatch}
use Rattle.wh_model.specs.declared.ValType.{ValType}
use Rattle.wh_model.specs.declared.Opcode.{Opcode}
use Rattle.wh_model.specs.declared.Opcode.TheVariants.{Unreachable, Nop, Block, Loop, If, Else, End, Br, BrIf, BrTable, Return, Call, CallIndirect, Drop, Select, LocalGet, LocalSet, LocalTee, GlobalGet, GlobalSet, Load, Store, MemorySize, MemoryGrow, I32Const, I64Const, Test, Compare, Unary, Binary, Convert}
use Rattle.wh_model.specs.Format.Grammar.{Grammar, ◌>>=◌}
use Rattle.wh_model.specs.Format.{gives, one_of, this_byte, bytes, only_if, up_to, times, Each, exactly, exactly_from, u32, s32, s64, unsigned, signed, vec, vec_up_to, Op, unreachable, nop, br, br_if, br_table, return, call, call_indirect, drop_operand, select, local_get, local_set, local_tee, global_get, global_set, load, store, memory_size, memory_grow, i32_const, i64_const, test, comparison, unary, binary, conversion, Instr, single, block_start, loop_start, if_start, else_mark, end_mark, expression, FuncType, Global, Element, Data, Body, opcode, export_kind, most_params, most_locals, most_labels, most_instructions, SmallInstr, SmallCode, SmallBody, blocktype, with_index, with_address, opening, operands, instr, expr, custom, section, valtype, functype, limits_by, limits, tabletype, globaltype, name, constant, importdesc_by, importdesc, global, export, element, byte_vector, segment, runs, locals, func, code, codes}
use Rattle.wh_model.specs.Format.Parts.{«import»}

pub record IsLimited {A : Type 0} (g : Grammar A) (S : A → Type 0) : Type 0 where
  pub loose : (x : A) (b : List ℕ) → g.within x b → g.spells x b × S x
  pub tight : (x : A) (b : List ℕ) → g.spells x b → S x → g.within x b

abbrev pub Free : {A : Type 0} → A → Type 0
Free x = Unit {0}

-- ---- combinators

limited_gives : {A : Type 0} (x : A) → IsLimited (gives x) Free
limited_gives x = record { loose = λ y b w. (w, tt); tight = λ y b w s. w }

limited_one_of : {A : Type 0} (table : ℕ → Result A FaultKind) → IsLimited (one_of table) Free
limited_one_of table = record { loose = λ y b w. (w, tt); tight = λ y b w s. w }

limited_bytes : (n : ℕ) → IsLimited (bytes n) Free
limited_bytes n = record { loose = λ y b w. (w, tt); tight = λ y b w s. w }

pub limited_unsigned : (n : ℕ) → IsLimited (unsigned n) Free
limited_unsigned n = record { loose = λ y b w. (w, tt); tight = λ y b w s. w }

limited_signed : (n : ℕ) → IsLimited (signed n) Free
limited_signed n = record { loose = λ y b w. (w, tt); tight = λ y b w s. w }

limited_then : {A B : Type 0} (a : Grammar A) (f : A → Grammar B) (Sa : A → Type 0) (Sf : A → B → Type 0) (S : B → Type 0) → IsLimited a Sa → ((x : A) → IsLimited (f x) (Sf x))
    → ((x : A) (y : B) (t u : List ℕ) → a.spells x t → (f x).spells y u → Sa x → Sf x y → S y) → ((x : A) (y : B) (t u : List ℕ) → a.spells x t → (f x).spells y u → S y → Sa x × Sf x y) → IsLimited (a >>= f) S
limited_then a f Sa Sf S la lf up down = record {
  loose = λ y b w.
      let p = la.loose w.0 w.1 w.4 in
      let q = (lf w.0).loose y w.2 w.5 in
      ((w.0, w.1, w.2, w.3, p.0, q.0), up w.0 y w.1 w.2 p.0 q.0 p.1 q.1);
  tight = λ y b w s.
      let d = down w.0 y w.1 w.2 w.4 w.5 s in
      (w.0, w.1, w.2, w.3, la.tight w.0 w.1 w.4 d.0, (lf w.0).tight y w.2 w.5 d.1);
}

-- without limits of its own
pub limited_plain : {A B : Type 0} (a : Grammar A) (f : A → Grammar B) (S : B → Type 0) → IsLimited a Free → ((x : A) → IsLimited (f x) S) → IsLimited (a >>= f) S
limited_plain a f S la lf = limited_then a f Free (λ x. S) S la lf (λ x y t u p q s r. r) (λ x y t u p q s. (tt, s))

-- a value that is always small
limited_free : {A : Type 0} (g : Grammar A) (S : A → Type 0) → ((x : A) → S x) → IsLimited g S → IsLimited g Free
limited_free g S every l = record { loose = λ x b w. ((l.loose x b w).0, tt); tight = λ x b w s. l.tight x b w (every x) }

-- the last step, which makes the value
limited_last : {A B : Type 0} (a : Grammar A) (make : A → B) (Sa : A → Type 0) (S : B → Type 0) → IsLimited a Sa → ((x : A) → Sa x → S (make x)) → ((x : A) → S (make x) → Sa x) → IsLimited (a >>= λ x. gives (make x)) S
limited_last {A} {B} a make Sa S la up down = limited_then a (λ x. gives (make x)) Sa (λ x y. Unit {0}) S la (λ x. limited_gives (make x))
    (λ x y t u p q s r. subst S (sym q.0) (up x s)) (λ x y t u p q s. (down x (subst S q.0 s), tt))

limited_up_to : (limit : ℕ) (g : Grammar ℕ) → IsLimited g Free → IsLimited (up_to limit g) (λ n. n ≤ limit)
limited_up_to limit g l = record { loose = λ x b w. ((l.loose x b w.0).0, w.1); tight = λ x b w s. (l.tight x b w tt, s) }

limited_only_if : {A : Type 0} (P : A → Type 0) (kind : FaultKind) (g : Grammar A) (S : A → Type 0) → IsLimited g S → IsLimited (only_if P kind g) S
limited_only_if P kind g S l = record { loose = λ x b w. let p = l.loose x b w.0 in ((p.0, w.1), p.1); tight = λ x b w s. (l.tight x b w.0 s, w.1) }

limited_times : {A : Type 0} (n : ℕ) (g : Grammar A) (S : A → Type 0) → IsLimited g S → IsLimited (times n g) (AllByRecursion S)
limited_times zero g S l = record { loose = λ xs b w. (w, subst (λ (v : List _). AllByRecursion S v) (sym w.0) tt); tight = λ xs b w s. w }
limited_times {A} (suc n) g S l = record {
  loose = λ ys b w.
      let p = l.loose w.0 w.1 w.4 in
      let q = (limited_times n g S l).loose w.5.0 w.5.1 w.5.4 in
      ((w.0, w.1, w.2, w.3, p.0, (w.5.0, w.5.1, w.5.2, w.5.3, q.0, w.5.5)), subst (λ (v : List A). AllByRecursion S v) (sym w.5.5.0) (p.1, q.1));
  tight = λ ys b w s.
      let d : S w.0 × AllByRecursion S w.5.0 = subst (λ (v : List A). AllByRecursion S v) w.5.5.0 s in
      (w.0, w.1, w.2, w.3, l.tight w.0 w.1 w.4 d.0, (w.5.0, w.5.1, w.5.2, w.5.3, (limited_times n g S l).tight w.5.0 w.5.1 w.5.4 d.1, w.5.5));
}

times_length : {A : Type 0} (n : ℕ) (g : Grammar A) (xs : List A) (b : List ℕ) → (times n g).spells xs b → length xs ≡ n
times_length zero g xs b w = ap length w.0
times_length (suc n) g xs b w = ap length w.5.5.0 ∙ ap suc (times_length n g w.5.0 w.5.1 w.5.4)

limited_vec : {A : Type 0} (g : Grammar A) (S : A → Type 0) → IsLimited g S → IsLimited (vec g) (AllByRecursion S)
limited_vec g S l = limited_plain u32 (λ n. times n g) (AllByRecursion S) (limited_unsigned 32) (λ n. limited_times n g S l)

abbrev pub FewAll : {A : Type 0} → ℕ → (A → Type 0) → List A → Type 0
FewAll limit S xs = (length xs ≤ limit) × AllByRecursion S xs

pub limited_vec_up_to : {A : Type 0} (limit : ℕ) (g : Grammar A) (S : A → Type 0) → IsLimited g S → IsLimited (vec_up_to limit g) (FewAll limit S)
limited_vec_up_to limit g S l = limited_then (up_to limit u32) (λ n. times n g) (λ n. n ≤ limit) (λ n xs. AllByRecursion S xs) (FewAll limit S) (limited_up_to limit u32 (limited_unsigned 32)) (λ n. limited_times n g S l)
    (λ n xs t u p q s r. (let e = times_length n g xs u q in omega arith, r)) (λ n xs t u p q s. (let e = times_length n g xs u q in let le = s.0 in omega arith, s.1))

-- a list of which nothing is asked
pub all_free : {A : Type 0} (xs : List A) → AllByRecursion (λ (x : A). Unit {0}) xs
all_free [] = tt
all_free (x ∷ xs) = (tt, all_free xs)

abbrev pub Few : {A : Type 0} → ℕ → List A → Type 0
Few limit xs = length xs ≤ limit

pub limited_count : {A : Type 0} (limit : ℕ) (g : Grammar A) → IsLimited g Free → IsLimited (vec_up_to limit g) (Few limit)
limited_count limit g l = record {
  loose = λ xs b w. let p = (limited_vec_up_to limit g Free l).loose xs b w in (p.0, p.1.0);
  tight = λ xs b w s. (limited_vec_up_to limit g Free l).tight xs b w (s, all_free xs);
}

pub limited_list : {A : Type 0} (g : Grammar A) → IsLimited g Free → IsLimited (vec g) Free
limited_list g l = limited_free (vec g) (AllByRecursion Free) all_free (limited_vec g Free l)

limited_exactly : {A : Type 0} (n : ℕ) (g : Grammar A) (S : A → Type 0) → IsLimited g S → IsLimited (exactly n g) S
limited_exactly n g S l = record { loose = λ x b w. let p = l.loose x b w.1 in ((w.0, p.0), p.1); tight = λ x b w s. (w.0, l.tight x b w.1 s) }

limited_exactly_from : {A : Type 0} (n : ℕ) (g : Grammar A) → IsLimited g Free → IsLimited (exactly_from n g) Free
limited_exactly_from n g l = record { loose = λ x b w. ((w.0, w.1, w.2, w.3, (l.loose x w.1 w.4).0), tt); tight = λ x b w s. (w.0, w.1, w.2, w.3, l.tight x w.1 w.4 tt) }

-- ---- instructions

limited_index : (op : ℕ → Op) → ((x : ℕ) → SmallInstr (single (op x))) → IsLimited (with_index op) SmallInstr
limited_index op small = limited_last u32 (λ x. single (op x)) Free SmallInstr (limited_unsigned 32) (λ x s. small x) (λ x s. tt)

limited_address : (op : ℕ → ℕ → Op) → ((a o : ℕ) → SmallInstr (single (op a o))) → IsLimited (with_address op) SmallInstr
limited_address op small = limited_plain u32 (λ a. u32 >>= λ o. gives (single (op a o))) SmallInstr (limited_unsigned 32) (λ a. limited_last u32 (λ o. single (op a o)) Free SmallInstr (limited_unsigned 32) (λ o s. small a o) (λ o s. tt))

limited_opening : (start : Option ValType → Instr) → ((t : Option ValType) → SmallInstr (start t)) → IsLimited (opening start) SmallInstr
limited_opening start small = limited_last blocktype start Free SmallInstr (limited_one_of _) (λ t s. small t) (λ t s. tt)

limited_alone : (i : Instr) → SmallInstr i → IsLimited (gives i) SmallInstr
limited_alone i small = record { loose = λ y b w. (w, subst SmallInstr (sym w.0) small); tight = λ y b w s. w }

limited_reserved : (op : Op) → SmallInstr (single op) → IsLimited (this_byte UnknownByte 0 >>= λ _. gives (single op)) SmallInstr
limited_reserved op small = limited_last (this_byte UnknownByte 0) (λ _. single op) Free SmallInstr (limited_one_of _) (λ x s. small) (λ x s. tt)

limited_table : IsLimited (operands BrTable) SmallInstr
limited_table = limited_then (vec_up_to most_labels u32) (λ ls. u32 >>= λ l. gives (single (br_table ls l))) (Few most_labels) (λ ls i. Unit {0}) SmallInstr (limited_count most_labels u32 (limited_unsigned 32))
    (λ ls. limited_plain u32 (λ l. gives (single (br_table ls l))) Free (limited_unsigned 32) (λ l. limited_gives (single (br_table ls l))))
    (λ ls i t u p q s r. subst SmallInstr (sym q.5.0) s) (λ ls i t u p q s. (subst SmallInstr q.5.0 s, tt))

limited_operands : (c : Opcode) → IsLimited (operands c) SmallInstr
limited_operands Unreachable = limited_alone (single unreachable) tt
limited_operands Nop = limited_alone (single nop) tt
limited_operands Block = limited_opening block_start (λ t. tt)
limited_operands Loop = limited_opening loop_start (λ t. tt)
limited_operands If = limited_opening if_start (λ t. tt)
limited_operands Else = limited_alone else_mark tt
limited_operands End = limited_alone end_mark tt
limited_operands Br = limited_index br (λ x. tt)
limited_operands BrIf = limited_index br_if (λ x. tt)
limited_operands BrTable = limited_table
limited_operands Return = limited_alone (single return) tt
limited_operands Call = limited_index call (λ x. tt)
limited_operands CallIndirect = limited_plain u32 (λ t. this_byte UnknownByte 0 >>= λ _. gives (single (call_indirect t))) SmallInstr (limited_unsigned 32) (λ t. limited_reserved (call_indirect t) tt)
limited_operands Drop = limited_alone (single drop_operand) tt
limited_operands Select = limited_alone (single select) tt
limited_operands LocalGet = limited_index local_get (λ x. tt)
limited_operands LocalSet = limited_index local_set (λ x. tt)
limited_operands LocalTee = limited_index local_tee (λ x. tt)
limited_operands GlobalGet = limited_index global_get (λ x. tt)
limited_operands GlobalSet = limited_index global_set (λ x. tt)
limited_operands (Load op) = limited_address (load op) (λ a o. tt)
limited_operands (Store op) = limited_address (store op) (λ a o. tt)
limited_operands MemorySize = limited_reserved memory_size tt
limited_operands MemoryGrow = limited_reserved memory_grow tt
limited_operands I32Const = limited_last s32 (λ n. single (i32_const n)) Free SmallInstr (limited_signed 32) (λ n s. tt) (λ n s. tt)
limited_operands I64Const = limited_last s64 (λ n. single (i64_const n)) Free SmallInstr (limited_signed 64) (λ n s. tt) (λ n s. tt)
limited_operands (Test t op) = limited_alone (single (test t op)) tt
limited_operands (Compare t op) = limited_alone (single (comparison t op)) tt
limited_operands (Unary t op) = limited_alone (single (unary t op)) tt
limited_operands (Binary t op) = limited_alone (single (binary t op)) tt
limited_operands (Convert op) = limited_alone (single (conversion op)) tt

limited_instr : IsLimited instr SmallInstr
limited_instr = limited_plain (one_of opcode) operands SmallInstr (limited_one_of opcode) limited_operands

pub each_loose : {A : Type 0} (g : Grammar A) (S : A → Type 0) → IsLimited g S → (xs : List A) (b : List ℕ) → Each g.within xs b → Each g.spells xs b × AllByRecursion S xs
each_loose g S l [] b w = (w, tt)
each_loose g S l (x ∷ xs) b w =
    let p = l.loose x w.0 w.3 in
    let q = each_loose g S l xs w.1 w.4 in
    ((w.0, w.1, w.2, p.0, q.0), (p.1, q.1))

pub each_tight : {A : Type 0} (g : Grammar A) (S : A → Type 0) → IsLimited g S → (xs : List A) (b : List ℕ) → Each g.spells xs b → AllByRecursion S xs → Each g.within xs b
each_tight g S l [] b w s = w
each_tight g S l (x ∷ xs) b w s = (w.0, w.1, w.2, l.tight x w.0 w.3 s.0, each_tight g S l xs w.1 w.4 s.1)

limited_expr : (most : Option ℕ) → IsLimited (expr most) (SmallCode most)
limited_expr most = record {
  loose = λ c b w. let p = each_loose instr SmallInstr limited_instr (expression c) b w.0 in (p.0, record { count = w.1; nesting = w.2; labels = p.1 });
  tight = λ c b w s. (each_tight instr SmallInstr limited_instr (expression c) b w s.labels, s.count, s.nesting);
}

-- ---- the productions

limited_valtype : IsLimited valtype Free
limited_valtype = limited_one_of _

pub limited_functype : IsLimited functype (λ t. length t.params ≤ most_params)
limited_functype =
    limited_plain (this_byte UnknownByte 0x60) (λ _. vec_up_to most_params valtype >>= λ ps. vec valtype >>= λ rs. gives (record { params = ps; results = rs })) (λ t. length t.params ≤ most_params) (limited_one_of _) (λ _.
    limited_then (vec_up_to most_params valtype) (λ ps. vec valtype >>= λ rs. gives (record { params = ps; results = rs })) (Few most_params) (λ ps t. Unit {0}) (λ t. length t.params ≤ most_params) (limited_count most_params valtype limited_valtype)
    (λ ps. limited_plain (vec valtype) (λ rs. gives (record { params = ps; results = rs })) Free (limited_list valtype limited_valtype) (λ rs. limited_gives (record { params = ps; results = rs })))
    (λ ps t a b p q s r. subst (λ (v : FuncType). length v.params ≤ most_params) (sym q.5.0) s)
    (λ ps t a b p q s. (subst (λ (v : FuncType). length v.params ≤ most_params) q.5.0 s, tt)))

limited_limits_by : (flag : Bool) → IsLimited (limits_by flag) Free
limited_limits_by false = record { loose = λ x b w. (w, tt); tight = λ x b w s. w }
limited_limits_by true = record { loose = λ x b w. (w, tt); tight = λ x b w s. w }

pub limited_limits : IsLimited limits Free
limited_limits = limited_plain (one_of _) limits_by Free (limited_one_of _) limited_limits_by

pub limited_tabletype : IsLimited tabletype Free
limited_tabletype = limited_plain (this_byte UnknownByte 0x70) (λ _. limits) Free (limited_one_of _) (λ _. limited_limits)

limited_globaltype : IsLimited globaltype Free
limited_globaltype = record { loose = λ x b w. (w, tt); tight = λ x b w s. w }

limited_name : IsLimited name Free
limited_name = limited_plain u32 (λ n. only_if IsUtf8 Utf8 (bytes n)) Free (limited_unsigned 32) (λ n. limited_only_if IsUtf8 Utf8 (bytes n) Free (limited_bytes n))

limited_importdesc_by : (kind : Bool) → IsLimited (importdesc_by kind) Free
limited_importdesc_by true = record { loose = λ x b w. (w, tt); tight = λ x b w s. w }
limited_importdesc_by false = record { loose = λ x b w. (w, tt); tight = λ x b w s. w }

limited_importdesc : IsLimited importdesc Free
limited_importdesc = limited_plain (one_of _) importdesc_by Free (limited_one_of _) limited_importdesc_by

pub limited_import : IsLimited «import» Free
limited_import =
    limited_plain name (λ m. name >>= λ n. importdesc >>= λ d. gives (record { from = m; name = n; desc = d })) Free limited_name (λ m.
    limited_plain name (λ n. importdesc >>= λ d. gives (record { from = m; name = n; desc = d })) Free limited_name (λ n.
    limited_plain importdesc (λ d. gives (record { from = m; name = n; desc = d })) Free limited_importdesc (λ d. limited_gives (record { from = m; name = n; desc = d }))))

abbrev pub SmallGlobal : Global → Type 0
SmallGlobal g = SmallCode None g.init

pub limited_global : IsLimited global SmallGlobal
limited_global = limited_plain globaltype (λ t. constant >>= λ e. gives (record { type = t; init = e })) SmallGlobal limited_globaltype (λ t.
    limited_last constant (λ e. record { type = t; init = e }) (SmallCode None) SmallGlobal (limited_expr None) (λ e s. s) (λ e s. s))

pub limited_export : IsLimited export Free
limited_export = limited_plain name (λ n. one_of export_kind >>= λ k. u32 >>= λ x. gives (record { name = n; kind = k; index = x })) Free limited_name (λ n. record { loose = λ x b w. (w, tt); tight = λ x b w s. w })

abbrev pub SmallElement : Element → Type 0
SmallElement e = SmallCode None e.offset

pub limited_element : IsLimited element SmallElement
limited_element =
    limited_plain u32 (λ x. constant >>= λ e. vec u32 >>= λ ys. gives (record { table = x; offset = e; init = ys })) SmallElement (limited_unsigned 32) (λ x.
    limited_then constant (λ e. vec u32 >>= λ ys. gives (record { table = x; offset = e; init = ys })) (SmallCode None) (λ e y. Unit {0}) SmallElement (limited_expr None)
    (λ e. limited_plain (vec u32) (λ ys. gives (record { table = x; offset = e; init = ys })) Free (limited_list u32 (limited_unsigned 32)) (λ ys. limited_gives (record { table = x; offset = e; init = ys })))
    (λ e y t u p q s r. subst SmallElement (sym q.5.0) s) (λ e y t u p q s. (subst SmallElement q.5.0 s, tt)))

abbrev pub SmallSegment : Data → Type 0
SmallSegment d = SmallCode None d.offset

limited_byte_vector : IsLimited byte_vector Free
limited_byte_vector = limited_plain u32 bytes Free (limited_unsigned 32) limited_bytes

pub limited_segment : IsLimited segment SmallSegment
limited_segment =
    limited_plain u32 (λ x. constant >>= λ e. byte_vector >>= λ bs. gives (record { memory = x; offset = e; init = bs })) SmallSegment (limited_unsigned 32) (λ x.
    limited_then constant (λ e. byte_vector >>= λ bs. gives (record { memory = x; offset = e; init = bs })) (SmallCode None) (λ e y. Unit {0}) SmallSegment (limited_expr None)
    (λ e. limited_plain byte_vector (λ bs. gives (record { memory = x; offset = e; init = bs })) Free limited_byte_vector (λ bs. limited_gives (record { memory = x; offset = e; init = bs })))
    (λ e y t u p q s r. subst SmallSegment (sym q.5.0) s) (λ e y t u p q s. (subst SmallSegment q.5.0 s, tt)))

limited_runs : (k declared : ℕ) → IsLimited (runs k declared) (λ ls. length ls ≤ most_locals - declared)
limited_runs zero declared = record { loose = λ ls b w. (w, (let e = ap length w.0 in omega arith)); tight = λ ls b w s. w }
limited_runs (suc k) declared = record {
  loose = λ ls b w.
      let r = w.5.5 in
      let q = (limited_runs k (declared + w.0)).loose r.0 r.1 r.4 in (
        (w.0, w.1, w.2, w.3, w.4.0, (w.5.0, w.5.1, w.5.2, w.5.3, w.5.4, (r.0, r.1, r.2, r.3, q.0, r.5))),
        (let few = w.4.1 in let more = q.1 in omega (arith, ap length r.5.0, length-append (replicate w.0 w.5.0) r.0, length-replicate w.0 w.5.0)),
      );
  tight = λ ls b w s.
      let r = w.5.5 in
      let all : length ls ≡ w.0 + length r.0 = omega (arith, ap length r.5.0, length-append (replicate w.0 w.5.0) r.0, length-replicate w.0 w.5.0) in
      (w.0, w.1, w.2, w.3, (w.4, omega arith), (w.5.0, w.5.1, w.5.2, w.5.3, w.5.4, (r.0, r.1, r.2, r.3, (limited_runs k (declared + w.0)).tight r.0 r.1 r.4 (omega arith), r.5)));
}

limited_locals : IsLimited locals (λ ls. length ls ≤ most_locals)
limited_locals = limited_plain u32 (λ k. runs k 0) (λ ls. length ls ≤ most_locals) (limited_unsigned 32) (λ k. limited_runs k 0)

limited_func : IsLimited func SmallBody
limited_func = limited_then locals (λ ls. expr (Some most_instructions) >>= λ c. gives (record { locals = ls; code = c })) (λ ls. length ls ≤ most_locals) (λ ls f. SmallCode (Some most_instructions) f.code) SmallBody limited_locals
    (λ ls. limited_last (expr (Some most_instructions)) (λ c. record { locals = ls; code = c }) (SmallCode (Some most_instructions)) (λ f. SmallCode (Some most_instructions) f.code) (limited_expr (Some most_instructions)) (λ c s. s) (λ c s. s))
    (λ ls f t u p q s r. record { locals = subst (λ (v : Body). length v.locals ≤ most_locals) (sym q.5.0) s; code = r })
    (λ ls f t u p q s. (subst (λ (v : Body). length v.locals ≤ most_locals) q.5.0 s.locals, s.code))

limited_code : IsLimited code SmallBody
limited_code = limited_plain u32 (λ size. exactly size func) SmallBody (limited_unsigned 32) (λ size. limited_exactly size func SmallBody limited_func)

pub limited_codes : (n : ℕ) → IsLimited (codes n) (AllByRecursion SmallBody)
limited_codes n = limited_plain (only_if (λ k. k ≡ n) CountMismatch u32) (λ k. times k code) (AllByRecursion SmallBody) (limited_only_if (λ k. k ≡ n) CountMismatch u32 Free (limited_unsigned 32)) (λ k. limited_times k code SmallBody limited_code)

pub limited_custom : IsLimited custom Free
limited_custom = limited_plain (this_byte UnknownByte 0) (λ _. u32 >>= λ size. exactly_from size name) Free (limited_one_of _) (λ _. limited_plain u32 (λ size. exactly_from size name) Free (limited_unsigned 32) (λ size. limited_exactly_from size name limited_name))

pub limited_section : {A : Type 0} (id : ℕ) (g : Grammar A) (S : A → Type 0) → IsLimited g S → IsLimited (section id g) S
limited_section id g S l = limited_plain (this_byte UnknownByte id) (λ _. u32 >>= λ size. exactly size g) S (limited_one_of _) (λ _. limited_plain u32 (λ size. exactly size g) S (limited_unsigned 32) (λ size. limited_exactly size g S l))
