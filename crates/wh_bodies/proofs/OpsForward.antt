-- An instruction that has a type is not refused where its operands fit.
use Rattle.std.proofs.Common.{◌≡◌, ℕ, zero, suc, ◌+◌, ◌-◌, ◌≤◌, ◌^◌, max, List, [], ◌∷◌, ◌++◌, length, reverse, map, Option, Some, None, Result, Ok, Err, Bool, true, false, cond, refl, sym, ap, subst, ◌∙◌, arith, append_assoc, rules}
use Rattle.std.specs.Prelude.{slice_get, unwrap_or, nat_le}
use Rattle.std.specs.List.{AllByRecursion}
use Rattle.std.proofs.Common.{inl, inr}
use Rattle.std.proofs.lemmas.Bool.Decides.{leb_tells}
use Rattle.std.proofs.lemmas.Nat.{pow_below}
use Rattle.std.proofs.lemmas.List.{length-reverse}
use Rattle.wh_model.specs.declared.ValType.{ValType}
use Rattle.wh_model.specs.declared.ValType.TheVariants.{I32, I64}
use Rattle.wh_model.specs.Format.Syntax.{Limits}
use Rattle.wh_model.specs.Format.{Op, unreachable, nop, br, br_if, br_table, return, call, call_indirect, drop_operand, select, local_get, local_set, local_tee, global_get, global_set, load, store, memory_size, memory_grow, i32_const, i64_const, test, comparison, unary, binary, conversion, FuncType, GlobalType}
use Rattle.wh_model.specs.Validity.{Context, OpType, operand, load_type, store_type, conversion_type, taken, given, lowered, height_behind, operands, carried, no_type}
use Rattle.wh_model.specs.declared.faults.ValidKind.{ValidKind}
use Rattle.wh_model.specs.declared.faults.ValidKind.TheVariants.{BadType, Align}
use Rattle.wh_bodies.specs.declared.table.BranchEntry.{BranchEntry}
use Rattle.wh_bodies.specs.declared.labels.Label.{Label}
use Rattle.wh_bodies.specs.BodyFaults.{follow}
use Rattle.wh_bodies.specs.Known.{Known, Fit, take_one, take_all, give_all, pass, fall}
use Rattle.wh_bodies.specs.SideTables.{leads_to, immediate_of}
use Rattle.wh_bodies.specs.Opened.{around}
use Rattle.wh_bodies.specs.CheckSteps.{found, fixed, straight, typed, aligned, type_to_write, load_exponent, store_exponent, entry_to, same_operand, add_run, plain_step}
use Rattle.wh_bodies.proofs.Knowing.{takes_one, takes_all}
use Rattle.wh_bodies.proofs.Forward.{Goes, can_take, can_take_one, can_take_all, can_give_all, can_pass, can_select, can_fall, same_true}
use Rattle.wh_bodies.proofs.Ops.{operand_reversed}
use Rattle.wh_bodies.proofs.OpTypes.{Typed, load_width, store_width, call_typed, get_typed, set_typed, tee_typed, global_typed, written_typed, load_typed, store_typed, size_typed, grow_typed, nop_typed, i32_typed, i64_typed, test_typed, comparison_typed, unary_typed, binary_typed, conversion_typed}

-- ---- of a fixed type

-- the check finds the type that the instruction has
abbrev Has : Context → Op → List ValType → List ValType → Type 0
Has c op a b = (f : FuncType) × (fixed c op ≡ Ok f) × (a ≡ reverse f.params) × (b ≡ reverse f.results)

abbrev type : List ValType → List ValType → FuncType
type params results = record { params = params; results = results }

small_align : (align most bytes : ℕ) → 2 ^ most ≡ bytes → 2 ^ align ≤ bytes → nat_le align most ≡ true
small_align align most bytes e h = (elim (leb_tells align most) [ inl p ↦ p.0 | inr p ↦ absurd (let q = pow_below most align p.1 in omega arith) ])

-- it has a fixed type
abbrev fixed_op : Op → Bool
fixed_op unreachable = false
fixed_op (br l) = false
fixed_op (br_if l) = false
fixed_op (br_table ls l) = false
fixed_op return = false
fixed_op (call_indirect y) = false
fixed_op drop_operand = false
fixed_op select = false
fixed_op _ = true

has : (c : Context) (op : Op) (a b : List ValType) → fixed_op op ≡ true → OpType c op a b → Has c op a b
has c nop a b w t = (type [] [], refl, t.0, t.1)
has c (call x) a b w t = (t.0, ap (λ o. found o (λ f. Ok f)) t.1, t.2, t.3)
has c (local_get x) a b w t = (type [] (t.0 ∷ []), ap (λ o. found o (λ u. typed [] (u ∷ []))) t.1, t.2, t.3)
has c (local_set x) a b w t = (type (t.0 ∷ []) [], ap (λ o. found o (λ u. typed (u ∷ []) [])) t.1, t.2, t.3)
has c (local_tee x) a b w t = (type (t.0 ∷ []) (t.0 ∷ []), ap (λ o. found o (λ u. typed (u ∷ []) (u ∷ []))) t.1, t.2, t.3)
has c (global_get x) a b w t = (type [] (t.0.value ∷ []), ap (λ o. found o (λ (g : GlobalType). typed [] (g.value ∷ []))) t.1, t.2, t.3)
has c (global_set x) a b w t = (type (t.0.value ∷ []) [], ap (λ o. found o (λ (g : GlobalType). type_to_write g.mutability g.value)) t.1 ∙ ap (λ m. type_to_write m t.0.value) t.2, t.3, t.4)
has c (load op align offset) a b w t =
    let rest = typed (I32 ∷ []) ((load_type op).0 ∷ []) in
    (type (I32 ∷ []) ((load_type op).0 ∷ []), ap (λ o. found o (λ (l : Limits). aligned align (load_exponent op) rest)) t.0.0.1 ∙ ap (λ x. cond x rest (Err Align)) (small_align align (load_exponent op) (load_type op).1 (load_width op) t.0.1), t.1, t.2)
has c (store op align offset) a b w t =
    let rest = typed (I32 ∷ (store_type op).0 ∷ []) [] in
    (type (I32 ∷ (store_type op).0 ∷ []) [], ap (λ o. found o (λ (l : Limits). aligned align (store_exponent op) rest)) t.0.0.1 ∙ ap (λ x. cond x rest (Err Align)) (small_align align (store_exponent op) (store_type op).1 (store_width op) t.0.1), t.1, t.2)
has c memory_size a b w t = (type [] (I32 ∷ []), ap (λ o. found o (λ (l : Limits). typed [] (I32 ∷ []))) t.0.1, t.1, t.2)
has c memory_grow a b w t = (type (I32 ∷ []) (I32 ∷ []), ap (λ o. found o (λ (l : Limits). typed (I32 ∷ []) (I32 ∷ []))) t.0.1, t.1, t.2)
has c (i32_const n) a b w t = (type [] (I32 ∷ []), refl, t.0, t.1)
has c (i64_const n) a b w t = (type [] (I64 ∷ []), refl, t.0, t.1)
has c (test u op) a b w t = (type (u ∷ []) (I32 ∷ []), refl, t.0, t.1)
has c (comparison u op) a b w t = (type (u ∷ u ∷ []) (I32 ∷ []), refl, t.0, t.1)
has c (unary u op) a b w t = (type (u ∷ []) (u ∷ []), refl, t.0, t.1)
has c (binary u op) a b w t = (type (u ∷ u ∷ []) (u ∷ []), refl, t.0, t.1)
has c (conversion op) a b w t = (type ((conversion_type op).0 ∷ []) ((conversion_type op).1 ∷ []), refl, t.0, t.1)
has c _ a b w t = cc

can_fixed : (c : Context) (op : Op) (k : Known) (a b below : List ValType) → k.floor ≤ length k.types → ((floor h : ℕ) → height_behind c floor h op ≡ lowered floor h (taken c op) + given c op) → ((f : FuncType) → fixed c op ≡ Ok f → Typed c op f) → height_behind c k.floor (length k.types) op ≤ 256 → Has c op a b → Fit k (a ++ below) → Goes (follow (fixed c op) (λ f. pass k f.params f.results)) (b ++ below)
can_fixed c op k a b below w high types room t fit = search (rules, max, reverse, length-reverse, can_pass)

-- ---- with types of their own

can_return : (c : Context) (k : Known) (a b below : List ValType) → k.floor ≤ length k.types → OpType c return a b → Fit k (a ++ below) → Goes (straight c return k) (b ++ below)
can_return c k a b below w t fit =
    let p = can_take_all k (operand c.result) (t.0 ++ below) (subst (λ xs. Fit k xs) (ap (λ xs. xs ++ below) t.1 ∙ append_assoc (operand c.result) t.0 below) fit) in
    let q = takes_all k p.0 (operand c.result) w p.1 in
    (fall p.0, ap (λ (r : Result Known ValidKind). follow r (λ left. Ok (fall left))) p.1, can_fall p.0 (b ++ below) q.stays.within)

can_drop : (c : Context) (k : Known) (a b below : List ValType) → OpType c drop_operand a b → Fit k (a ++ below) → Goes (straight c drop_operand k) (b ++ below)
can_drop c k a b below t fit = search (rules, can_take)

can_choose : (c : Context) (k : Known) (a b below : List ValType) → k.floor ≤ length k.types → length k.types ≤ 256 → height_behind c k.floor (length k.types) select ≤ 256 → OpType c select a b → Fit k (a ++ below) → Goes (straight c select k) (b ++ below)
can_choose c k a b below w small room t fit = search (rules, can_select)

can_indirect : (c : Context) (y : ℕ) (k : Known) (a b below : List ValType) → k.floor ≤ length k.types → height_behind c k.floor (length k.types) (call_indirect y) ≤ 256 → OpType c (call_indirect y) a b → Fit k (a ++ below) → Goes (straight c (call_indirect y) k) (b ++ below)
can_indirect c y k a b below w room t fit =
    let f : FuncType = t.1 in
    let p = can_take_one k I32 (reverse f.params ++ below) (subst (λ xs. Fit k (xs ++ below)) t.4 fit) in
    let q = takes_one k p.0 I32 w p.1 in
    let high = q.height in
    let floor = q.stays.floor in
    let params : length (unwrap_or (slice_get c.types y) no_type).params ≡ length f.params = ap (λ o. length (unwrap_or o no_type).params) t.3 in
    let results : length (unwrap_or (slice_get c.types y) no_type).results ≡ length f.results = ap (λ o. length (unwrap_or o no_type).results) t.3 in
    let l1 = length-reverse f.params in
    let r = can_pass p.0 f.params f.results below q.stays.within (omega arith) p.2 in (
      r.0,
      ap (λ o. found o (λ (l : Limits). found (slice_get c.types y) (λ f. follow (take_one k I32) (λ left. pass left f.params f.results)))) t.2
          ∙ ap (λ o. found o (λ (f : FuncType). follow (take_one k I32) (λ left. pass left f.params f.results))) t.3
          ∙ ap (λ (x : Result Known ValidKind). follow x (λ left. pass left f.params f.results)) p.1 ∙ r.1,
      subst (λ xs. Fit r.0 (xs ++ below)) (sym t.5) r.2,
    )

-- ---- branches

unmap : {A B : Type 0} (f : A → B) (xs : List A) (i : ℕ) (y : B) → slice_get (map f xs) i ≡ Some y → (x : A) × (slice_get xs i ≡ Some x) × (f x ≡ y)
unmap f [] i y e = cc
unmap f (x ∷ xs) zero y e = (x, refl, cc)
unmap f (x ∷ xs) (suc i) y e = unmap f xs i y e

label_of : (c : Context) (labels : List Label) (l : ℕ) (t : Option ValType) → slice_get (around labels c).labels l ≡ Some t → (to : Label) × (slice_get labels l ≡ Some to) × (to.carries ≡ t)
label_of c labels l t e = search (rules, unmap)

abbrev Step : Type 0
Step = BranchEntry × Known × List BranchEntry

-- a step passes, and these types fit behind it
abbrev pub Steps : Result Step ValidKind → List ValType → Type 0
Steps r after = (e : BranchEntry) × (n : Known) × (more : List BranchEntry) × (r ≡ Ok (e, n, more)) × Fit n after

can_branch : (c : Context) (labels : List Label) (l : ℕ) (k : Known) (pool : List BranchEntry) (a b below : List ValType) → k.floor ≤ length k.types → OpType (around labels c) (br l) a b → Fit k (a ++ below) → Steps (plain_step c labels (br l) k pool) (b ++ below)
can_branch c labels l k pool a b below w t fit =
    let to = label_of c labels l t.0 t.2 in
    let ts = operand to.0.carries in
    let p = can_take_all k ts (t.1 ++ below) (subst (λ xs. Fit k xs) (ap (λ xs. xs ++ below) (t.3 ∙ ap (λ o. operand o ++ t.1) (sym to.2)) ∙ append_assoc ts t.1 below) fit) in
    let q = takes_all k p.0 ts w p.1 in (
      entry_to to.0,
      fall p.0,
      pool,
      ap (λ (x : Option Label). follow {B = Step} (found {B = BranchEntry × Known} x (λ to. follow {B = BranchEntry × Known} (take_all k (operand to.carries)) (λ left. Ok (entry_to to, fall left)))) (λ r. Ok (r.0, r.1, pool))) to.1
          ∙ ap (λ (x : Result Known ValidKind). follow {B = Step} (follow {B = BranchEntry × Known} x (λ left. Ok (entry_to to.0, fall left))) (λ r. Ok (r.0, r.1, pool))) p.1,
      can_fall p.0 (b ++ below) q.stays.within,
    )

can_branch_if : (c : Context) (labels : List Label) (l : ℕ) (k : Known) (pool : List BranchEntry) (a b below : List ValType) → k.floor ≤ length k.types → height_behind (around labels c) k.floor (length k.types) (br_if l) ≤ 256 → OpType (around labels c) (br_if l) a b → Fit k (a ++ below) → Steps (plain_step c labels (br_if l) k pool) (b ++ below)
can_branch_if c labels l k pool a b below w room t fit =
    let to = label_of c labels l t.0 t.1 in
    let ts = operand to.0.carries in
    let p = can_take_one k I32 (ts ++ below) (subst (λ xs. Fit k (xs ++ below)) (t.2 ∙ ap (λ o. I32 ∷ operand o) (sym to.2)) fit) in
    let pa = takes_one k p.0 I32 w p.1 in
    let q = can_take_all p.0 ts below p.2 in
    let pb = takes_all p.0 q.0 ts pa.stays.within q.1 in
    let many : carried (around labels c) l ≡ length ts = ap (λ o. operands (unwrap_or o None)) t.1 ∙ ap (λ o. length (operand o)) (sym to.2) in
    let h1 = pa.height in
    let h2 = pb.height in
    let f1 = pa.stays.floor in
    let g = can_give_all q.0 ts below pb.stays.within (omega arith) q.2 in (
      entry_to to.0,
      g.0,
      pool,
      ap (λ (x : Option Label). follow {B = Step} (found {B = BranchEntry × Known} x (λ to. follow {B = BranchEntry × Known} (take_one k I32) (λ a. follow {B = BranchEntry × Known} (take_all a (operand to.carries)) (λ b. follow {B = BranchEntry × Known} (give_all b (operand to.carries)) (λ new. Ok (entry_to to, new)))))) (λ r. Ok (r.0, r.1, pool))) to.1
          ∙ ap (λ (x : Result Known ValidKind). follow {B = Step} (follow {B = BranchEntry × Known} x (λ a. follow {B = BranchEntry × Known} (take_all a ts) (λ b. follow {B = BranchEntry × Known} (give_all b ts) (λ new. Ok (entry_to to.0, new))))) (λ r. Ok (r.0, r.1, pool))) p.1
          ∙ ap (λ (x : Result Known ValidKind). follow {B = Step} (follow {B = BranchEntry × Known} x (λ b. follow {B = BranchEntry × Known} (give_all b ts) (λ new. Ok (entry_to to.0, new)))) (λ r. Ok (r.0, r.1, pool))) q.1
          ∙ ap (λ (x : Result Known ValidKind). follow {B = Step} (follow {B = BranchEntry × Known} x (λ new. Ok (entry_to to.0, new))) (λ r. Ok (r.0, r.1, pool))) g.1,
      subst (λ xs. Fit g.0 (xs ++ below)) (operand_reversed to.0.carries ∙ ap operand to.2 ∙ sym t.3) g.2,
    )

same_operand_true : (t : Option ValType) → same_operand t t ≡ true
same_operand_true None = refl
same_operand_true (Some t) = same_true t

can_run : (c : Context) (labels : List Label) (carries : Option ValType) (ls : List ℕ) (pool : List BranchEntry) → AllByRecursion (λ k. slice_get (around labels c).labels k ≡ Some carries) ls → (more : List BranchEntry) × (add_run labels carries ls pool ≡ Ok more)
can_run c labels carries [] pool all = (pool, refl)
can_run c labels carries (l ∷ ls) pool all =
    let to = label_of c labels l carries all.0 in
    let r = can_run c labels carries ls (pool ++ entry_to to.0 ∷ []) all.1 in (
      r.0,
      ap (λ (x : Option Label). found x (λ to. cond (same_operand to.carries carries) (add_run labels carries ls (pool ++ entry_to to ∷ [])) (Err BadType))) to.1
          ∙ ap (λ x. cond x (add_run labels carries ls (pool ++ entry_to to.0 ∷ [])) (Err BadType)) (ap (λ o. same_operand o carries) to.2 ∙ same_operand_true carries) ∙ r.1,
    )

can_table : (c : Context) (labels : List Label) (ls : List ℕ) (last : ℕ) (k : Known) (pool : List BranchEntry) (a b below : List ValType) → k.floor ≤ length k.types → OpType (around labels c) (br_table ls last) a b → Fit k (a ++ below) → Steps (plain_step c labels (br_table ls last) k pool) (b ++ below)
can_table c labels ls last k pool a b below w t fit =
    let to = label_of c labels last t.0 t.3 in
    let ts = operand to.0.carries in
    let r = can_run c labels to.0.carries ls pool (subst (λ (o : Option ValType). AllByRecursion (λ k. slice_get (around labels c).labels k ≡ Some o) ls) (sym to.2) t.2) in
    let p = can_take_one k I32 (ts ++ (t.1 ++ below)) (subst (λ xs. Fit k xs) (ap (λ xs. xs ++ below) (t.4 ∙ ap (λ o. I32 ∷ (operand o ++ t.1)) (sym to.2)) ∙ ap (λ xs. I32 ∷ xs) (append_assoc ts t.1 below)) fit) in
    let q = can_take_all p.0 ts (t.1 ++ below) p.2 in
    let pb = takes_all p.0 q.0 ts (takes_one k p.0 I32 w p.1).stays.within q.1 in (
      leads_to (length pool),
      fall q.0,
      r.0 ++ entry_to to.0 ∷ [],
      ap (λ (x : Option Label). found {B = Step} x (λ to. follow {B = Step} (add_run labels to.carries ls pool) (λ more. follow {B = Step} (take_one k I32) (λ a. follow {B = Step} (take_all a (operand to.carries)) (λ b. Ok (leads_to (length pool), fall b, more ++ entry_to to ∷ [])))))) to.1
          ∙ ap (λ (x : Result (List BranchEntry) ValidKind). follow {B = Step} x (λ more. follow {B = Step} (take_one k I32) (λ a. follow {B = Step} (take_all a ts) (λ b. Ok (leads_to (length pool), fall b, more ++ entry_to to.0 ∷ []))))) r.1
          ∙ ap (λ (x : Result Known ValidKind). follow {B = Step} x (λ a. follow {B = Step} (take_all a ts) (λ b. Ok (leads_to (length pool), fall b, r.0 ++ entry_to to.0 ∷ [])))) p.1
          ∙ ap (λ (x : Result Known ValidKind). follow {B = Step} x (λ b. Ok (leads_to (length pool), fall b, r.0 ++ entry_to to.0 ∷ []))) q.1,
      can_fall q.0 (b ++ below) pb.stays.within,
    )

-- ---- every instruction without a body

straight_steps : (c : Context) (op : Op) (k : Known) (pool : List BranchEntry) (after : List ValType) → Goes (straight c op k) after → Steps (follow {B = Step} (straight c op k) (λ new. Ok (leads_to (immediate_of op), new, pool))) after
straight_steps c op k pool after g = (leads_to (immediate_of op), g.0, pool, ap (λ (r : Result Known ValidKind). follow {B = Step} r (λ new. Ok (leads_to (immediate_of op), new, pool))) g.1, g.2)

pub can_step : (c : Context) (labels : List Label) (op : Op) (k : Known) (pool : List BranchEntry) (a b below : List ValType) → k.floor ≤ length k.types → length k.types ≤ 256 → height_behind (around labels c) k.floor (length k.types) op ≤ 256 → OpType (around labels c) op a b → Fit k (a ++ below) → Steps (plain_step c labels op k pool) (b ++ below)
can_step c labels (br l) k pool a b below w small room t fit = can_branch c labels l k pool a b below w t fit
can_step c labels (br_if l) k pool a b below w small room t fit = can_branch_if c labels l k pool a b below w room t fit
can_step c labels (br_table ls l) k pool a b below w small room t fit = can_table c labels ls l k pool a b below w t fit
can_step c labels unreachable k pool a b below w small room t fit = straight_steps c unreachable k pool (b ++ below) (fall k, refl, can_fall k (b ++ below) w)
can_step c labels return k pool a b below w small room t fit = straight_steps c return k pool (b ++ below) (can_return (around labels c) k a b below w t fit)
can_step c labels drop_operand k pool a b below w small room t fit = straight_steps c drop_operand k pool (b ++ below) (can_drop (around labels c) k a b below t fit)
can_step c labels select k pool a b below w small room t fit = straight_steps c select k pool (b ++ below) (can_choose (around labels c) k a b below w small room t fit)
can_step c labels (call_indirect y) k pool a b below w small room t fit = straight_steps c (call_indirect y) k pool (b ++ below) (can_indirect (around labels c) y k a b below w room t fit)
can_step c labels nop k pool a b below w small room t fit = straight_steps c nop k pool (b ++ below) (can_fixed (around labels c) nop k a b below w (λ floor tall. omega arith) (λ f g. nop_typed (around labels c) f g) room (has (around labels c) nop a b refl t) fit)
can_step c labels (call x) k pool a b below w small room t fit = straight_steps c (call x) k pool (b ++ below) (can_fixed (around labels c) (call x) k a b below w (λ floor tall. refl) (λ f g. call_typed (around labels c) x f g) room (has (around labels c) (call x) a b refl t) fit)
can_step c labels (local_get x) k pool a b below w small room t fit = straight_steps c (local_get x) k pool (b ++ below) (can_fixed (around labels c) (local_get x) k a b below w (λ floor tall. refl) (λ f g. get_typed (around labels c) x f g) room (has (around labels c) (local_get x) a b refl t) fit)
can_step c labels (local_set x) k pool a b below w small room t fit = straight_steps c (local_set x) k pool (b ++ below) (can_fixed (around labels c) (local_set x) k a b below w (λ floor tall. refl) (λ f g. set_typed (around labels c) x f g) room (has (around labels c) (local_set x) a b refl t) fit)
can_step c labels (local_tee x) k pool a b below w small room t fit = straight_steps c (local_tee x) k pool (b ++ below) (can_fixed (around labels c) (local_tee x) k a b below w (λ floor tall. refl) (λ f g. tee_typed (around labels c) x f g) room (has (around labels c) (local_tee x) a b refl t) fit)
can_step c labels (global_get x) k pool a b below w small room t fit = straight_steps c (global_get x) k pool (b ++ below) (can_fixed (around labels c) (global_get x) k a b below w (λ floor tall. refl) (λ f g. global_typed (around labels c) x f g) room (has (around labels c) (global_get x) a b refl t) fit)
can_step c labels (global_set x) k pool a b below w small room t fit = straight_steps c (global_set x) k pool (b ++ below) (can_fixed (around labels c) (global_set x) k a b below w (λ floor tall. refl) (λ f g. written_typed (around labels c) x f g) room (has (around labels c) (global_set x) a b refl t) fit)
can_step c labels (load op align offset) k pool a b below w small room t fit = straight_steps c (load op align offset) k pool (b ++ below) (can_fixed (around labels c) (load op align offset) k a b below w (λ floor tall. refl) (λ f g. load_typed (around labels c) op align offset f g) room (has (around labels c) (load op align offset) a b refl t) fit)
can_step c labels (store op align offset) k pool a b below w small room t fit = straight_steps c (store op align offset) k pool (b ++ below) (can_fixed (around labels c) (store op align offset) k a b below w (λ floor tall. refl) (λ f g. store_typed (around labels c) op align offset f g) room (has (around labels c) (store op align offset) a b refl t) fit)
can_step c labels memory_size k pool a b below w small room t fit = straight_steps c memory_size k pool (b ++ below) (can_fixed (around labels c) memory_size k a b below w (λ floor tall. refl) (λ f g. size_typed (around labels c) f g) room (has (around labels c) memory_size a b refl t) fit)
can_step c labels memory_grow k pool a b below w small room t fit = straight_steps c memory_grow k pool (b ++ below) (can_fixed (around labels c) memory_grow k a b below w (λ floor tall. refl) (λ f g. grow_typed (around labels c) f g) room (has (around labels c) memory_grow a b refl t) fit)
can_step c labels (i32_const i) k pool a b below w small room t fit = straight_steps c (i32_const i) k pool (b ++ below) (can_fixed (around labels c) (i32_const i) k a b below w (λ floor tall. refl) (λ f g. i32_typed (around labels c) f i g) room (has (around labels c) (i32_const i) a b refl t) fit)
can_step c labels (i64_const i) k pool a b below w small room t fit = straight_steps c (i64_const i) k pool (b ++ below) (can_fixed (around labels c) (i64_const i) k a b below w (λ floor tall. refl) (λ f g. i64_typed (around labels c) f i g) room (has (around labels c) (i64_const i) a b refl t) fit)
can_step c labels (test u op) k pool a b below w small room t fit = straight_steps c (test u op) k pool (b ++ below) (can_fixed (around labels c) (test u op) k a b below w (λ floor tall. refl) (λ f g. test_typed (around labels c) f u op g) room (has (around labels c) (test u op) a b refl t) fit)
can_step c labels (comparison u op) k pool a b below w small room t fit = straight_steps c (comparison u op) k pool (b ++ below) (can_fixed (around labels c) (comparison u op) k a b below w (λ floor tall. refl) (λ f g. comparison_typed (around labels c) f u op g) room (has (around labels c) (comparison u op) a b refl t) fit)
can_step c labels (unary u op) k pool a b below w small room t fit = straight_steps c (unary u op) k pool (b ++ below) (can_fixed (around labels c) (unary u op) k a b below w (λ floor tall. refl) (λ f g. unary_typed (around labels c) f u op g) room (has (around labels c) (unary u op) a b refl t) fit)
can_step c labels (binary u op) k pool a b below w small room t fit = straight_steps c (binary u op) k pool (b ++ below) (can_fixed (around labels c) (binary u op) k a b below w (λ floor tall. refl) (λ f g. binary_typed (around labels c) f u op g) room (has (around labels c) (binary u op) a b refl t) fit)
can_step c labels (conversion op) k pool a b below w small room t fit = straight_steps c (conversion op) k pool (b ++ below) (can_fixed (around labels c) (conversion op) k a b below w (λ floor tall. refl) (λ f g. conversion_typed (around labels c) f op g) room (has (around labels c) (conversion op) a b refl t) fit)
