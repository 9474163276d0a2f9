-- An instruction without a body that passes has a type that explains what is known behind it.
use Rattle.std.proofs.Common.{◌≡◌, ℕ, zero, suc, ◌+◌, ◌-◌, ◌≤◌, max, List, [], ◌∷◌, ◌++◌, length, reverse, map, Option, Some, None, Result, Ok, Err, true, cond, refl, sym, ap, subst, ◌∙◌, arith, append_assoc, append-nil, rules}
use Rattle.std.specs.Prelude.{slice_get, unwrap_or}
use Rattle.std.specs.List.{AllByRecursion}
use Rattle.std.proofs.lemmas.List.{length-reverse, map-append}
use Rattle.wh_model.specs.declared.ValType.{ValType}
use Rattle.wh_model.specs.declared.ValType.TheVariants.{I32}
use Rattle.wh_model.specs.Format.{Op, unreachable, nop, br, br_if, br_table, return, call, call_indirect, drop_operand, select, local_get, local_set, local_tee, global_get, global_set, load, store, memory_size, memory_grow, i32_const, i64_const, test, comparison, unary, binary, conversion, FuncType}
use Rattle.wh_model.specs.Validity.{Context, OpType, operand, taken, given, lowered, height_behind, operands, carried, no_type}
use Rattle.wh_model.specs.declared.faults.ValidKind.{ValidKind}
use Rattle.wh_model.specs.declared.faults.ValidKind.TheVariants.{BadType}
use Rattle.wh_bodies.specs.declared.table.BranchEntry.{BranchEntry}
use Rattle.wh_bodies.specs.declared.labels.Label.{Label}
use Rattle.wh_bodies.specs.BodyFaults.{follow}
use Rattle.wh_bodies.specs.Known.{Known, Admits, Fit, take_any, take_one, give_one, take_all, give_all, pass, fall, agreed, selected}
use Rattle.wh_bodies.specs.SideTables.{Target, leads_to, immediate_of, entry_of, run_of, branch_to, to_target}
use Rattle.wh_bodies.specs.Opened.{target_of, targets_of, around}
use Rattle.wh_bodies.specs.CheckSteps.{found, fixed, straight, entry_to, branch, branch_if, same_operand, add_run, branch_table, plain_step}
use Rattle.wh_bodies.proofs.Follow.{ok_is, follow_ok, found_ok, cond_ok}
use Rattle.wh_bodies.proofs.Knowing.{Stays, stays_on, Passes, pushed, popped, takes_one, takes_all, gives_all, take_then, take_then_give, falls, some_fit, same_types}
use Rattle.wh_bodies.proofs.OpTypes.{Typed, call_typed, get_typed, set_typed, tee_typed, global_typed, written_typed, load_typed, store_typed, size_typed, grow_typed, nop_typed, i32_typed, i64_typed, test_typed, comparison_typed, unary_typed, binary_typed, conversion_typed}

-- Whatever fits behind the instruction comes of something that fitted before it.
abbrev pub Explains : Context → Op → Known → Known → Type 0
Explains c op k n = (after : List ValType) → Fit n after → (before : List ValType) × Fit k before × (a b below : List ValType) × OpType c op a b × (before ≡ a ++ below) × (after ≡ b ++ below)

-- what is known changes as the instruction's type and height say
pub record Explained (c : Context) (op : Op) (k n : Known) : Type 0 where
  pub stays : Stays k n
  pub height : length n.types ≡ height_behind c k.floor (length k.types) op
  pub back : Explains c op k n

-- ---- of a fixed type

explained_pass : (c : Context) (op : Op) (k n : Known) (ins outs : List ValType) → OpType c op ins outs → height_behind c k.floor (length k.types) op ≡ max k.floor (length k.types - length ins) + length outs → Passes k n ins outs → Explained c op k n
explained_pass c op k n ins outs t high p = search rules

passes : (k n : Known) (params results : List ValType) → k.floor ≤ length k.types → pass k params results ≡ Ok n → Passes k n (reverse params) (reverse results)
passes k n params results w e =
    let q = follow_ok (take_all k (reverse params)) (λ left. give_all left results) n e in
    let p = takes_all k q.0 (reverse params) w q.1 in
    take_then_give k q.0 n (reverse params) (reverse results) p (gives_all q.0 n results p.stays.within q.2)

explained_fixed : (c : Context) (op : Op) (k n : Known) → k.floor ≤ length k.types → ((floor h : ℕ) → height_behind c floor h op ≡ lowered floor h (taken c op) + given c op) → ((f : FuncType) → fixed c op ≡ Ok f → Typed c op f) → follow (fixed c op) (λ f. pass k f.params f.results) ≡ Ok n → Explained c op k n
explained_fixed c op k n w high types e =
    let q = follow_ok (fixed c op) (λ f. pass k f.params f.results) n e in
    let f = q.0 in
    let t = types f q.1 in
    let tall : height_behind c k.floor (length k.types) op ≡ max k.floor (length k.types - length (reverse f.params)) + length (reverse f.results) =
    high k.floor (length k.types) ∙ ap (λ m. lowered k.floor (length k.types) m + given c op) (t.takes ∙ sym (length-reverse f.params)) ∙ ap (λ m. max k.floor (length k.types - length (reverse f.params)) + m) (t.gives ∙ sym (length-reverse f.results)) in
    explained_pass c op k n (reverse f.params) (reverse f.results) t.type tall (passes k n f.params f.results w q.2)

-- ---- with types of their own

explained_fall : (c : Context) (op : Op) (k m : Known) (ins : List ValType) → height_behind c k.floor (length k.types) op ≡ k.floor → ((any outs : List ValType) → OpType c op (ins ++ any) outs) → Passes k m ins [] → Explained c op k (fall m)
explained_fall c op k m ins high types p =
    let f = falls m p.stays.within in record {
      stays = stays_on k m (fall m) p.stays f.stays;
      height = f.height ∙ p.stays.floor ∙ sym high;
      back = λ after fit.
          let u = some_fit m in
          let v = p.back u.0 u.1 in
          (ins ++ v.0, v.2, ins ++ v.0, after, [], types v.0 after, sym (append-nil (ins ++ v.0)), sym (append-nil after));
    }

explained_return : (c : Context) (k n : Known) → k.floor ≤ length k.types → straight c return k ≡ Ok n → Explained c return k n
explained_return c k n w e =
    let q = follow_ok (take_all k (operand c.result)) (λ left. Ok (fall left)) n e in
    subst (λ u. Explained c return k u) (ok_is {E = ValidKind} (fall q.0) n q.2) (explained_fall c return k q.0 (operand c.result) refl (λ any outs. (any, refl)) (takes_all k q.0 (operand c.result) w q.1))

explained_unreachable : (c : Context) (k : Known) → k.floor ≤ length k.types → Explained c unreachable k (fall k)
explained_unreachable c k w =
    let f = falls k w in record {
      stays = f.stays;
      height = f.height;
      back = λ after fit. let u = some_fit k in (u.0, u.1, u.0, after, [], tt, sym (append-nil u.0), sym (append-nil after));
    }

some_type : (o : Option ValType) → (t : ValType) × Admits o t
some_type None = (I32, tt)
some_type (Some t) = (t, refl)

explained_drop : (c : Context) (k n : Known) → k.floor ≤ length k.types → straight c drop_operand k ≡ Ok n → Explained c drop_operand k n
explained_drop c k n w e =
    let q = follow_ok (take_any k) (λ r. Ok r.1) n e in
    let p = popped k q.0.0 q.0.1 w q.1 in
    let high = p.height in
    subst (λ u. Explained c drop_operand k u) (ok_is {E = ValidKind} q.0.1 n q.2) (record {
      stays = p.stays;
      height = omega arith;
      back = λ after fit. let t = some_type q.0.0 in (t.0 ∷ after, p.back after fit t.0 t.1, t.0 ∷ [], [], after, (t.0, refl, refl), refl, refl);
    })

admits_both : (o p r : Option ValType) (t : ValType) → agreed o p ≡ Ok r → Admits r t → Admits o t × Admits p t
admits_both None p r t e a = (tt, subst (λ u. Admits u t) (sym (ok_is {E = ValidKind} p r e)) a)
admits_both (Some u) None r t e a = (subst (λ v. Admits v t) (sym (ok_is {E = ValidKind} (Some u) r e)) a, tt)
admits_both (Some u) (Some v) r t e a = search rules

explained_select : (c : Context) (k n : Known) → k.floor ≤ length k.types → selected k ≡ Ok n → Explained c select k n
explained_select c k n w e =
    let q = follow_ok (take_one k I32) (λ a. follow (take_any a) (λ b. follow (take_any b.1) (λ d. follow (agreed b.0 d.0) (λ of. give_one d.1 of)))) n e in
    let a = q.0 in
    let pa = takes_one k a I32 w q.1 in
    let q2 = follow_ok (take_any a) (λ b. follow (take_any b.1) (λ d. follow (agreed b.0 d.0) (λ of. give_one d.1 of))) n q.2 in
    let b = q2.0.1 in
    let pb = popped a q2.0.0 b pa.stays.within q2.1 in
    let q3 = follow_ok (take_any b) (λ d. follow (agreed q2.0.0 d.0) (λ of. give_one d.1 of)) n q2.2 in
    let d = q3.0.1 in
    let pd = popped b q3.0.0 d pb.stays.within q3.1 in
    let q4 = follow_ok (agreed q2.0.0 q3.0.0) (λ of. give_one d of) n q3.2 in
    let pn = pushed d n q4.0 pd.stays.within q4.2 in
    record {
      stays = stays_on k a n pa.stays (stays_on a b n pb.stays (stays_on b d n pd.stays pn.stays));
      height = (let h1 = pa.height in let h2 = pb.height in let h3 = pd.height in let h4 = pn.height in let f1 = pa.stays.floor in let f2 = pb.stays.floor in omega arith);
      back = λ after fit.
          let u = pn.back after fit in
          let both = admits_both q2.0.0 q3.0.0 q4.0 u.0 q4.1 u.3 in
          let v = pa.back (u.0 ∷ u.0 ∷ u.1) (pb.back (u.0 ∷ u.1) (pd.back u.1 u.4 u.0 both.1) u.0 both.0) in
          (I32 ∷ u.0 ∷ u.0 ∷ u.1, subst (λ xs. Fit k (I32 ∷ xs)) {x = v.0} {y = u.0 ∷ u.0 ∷ u.1} (sym v.1) v.2, I32 ∷ u.0 ∷ u.0 ∷ [], u.0 ∷ [], u.1, (u.0, refl, refl), refl, u.2);
    }

explained_indirect : (c : Context) (y : ℕ) (k n : Known) → k.floor ≤ length k.types → straight c (call_indirect y) k ≡ Ok n → Explained c (call_indirect y) k n
explained_indirect c y k n w e =
    let q = found_ok (slice_get c.tables 0) (λ l. found (slice_get c.types y) (λ f. follow (take_one k I32) (λ left. pass left f.params f.results))) n e in
    let q2 = found_ok (slice_get c.types y) (λ f. follow (take_one k I32) (λ left. pass left f.params f.results)) n q.2 in
    let f = q2.0 in
    let q3 = follow_ok (take_one k I32) (λ left. pass left f.params f.results) n q2.2 in
    let p = takes_one k q3.0 I32 w q3.1 in
    let r = follow_ok (take_all q3.0 (reverse f.params)) (λ left. give_all left f.results) n q3.2 in
    let s = takes_all q3.0 r.0 (reverse f.params) p.stays.within r.1 in
    let all = take_then_give k r.0 n (I32 ∷ reverse f.params) (reverse f.results) (take_then k q3.0 r.0 (I32 ∷ []) (reverse f.params) p s) (gives_all r.0 n f.results s.stays.within r.2) in
    let params : length (unwrap_or (slice_get c.types y) no_type).params ≡ length f.params = ap (λ o. length (unwrap_or o no_type).params) q2.1 in
    let results : length (unwrap_or (slice_get c.types y) no_type).results ≡ length f.results = ap (λ o. length (unwrap_or o no_type).results) q2.1 in
    let l1 = length-reverse f.params in
    let l2 = length-reverse f.results in
    explained_pass c (call_indirect y) k n (I32 ∷ reverse f.params) (reverse f.results) (q.0, f, q.1, q2.1, refl, refl) (omega arith) all

-- ---- with their entries

-- and beside it stands the entry of the table, and in the pool the run of a br_table
pub record Done (c : Context) (labels : List Label) (op : Op) (k n : Known) (pool : List BranchEntry) (e : BranchEntry) (more : List BranchEntry) : Type 0 where
  pub explained : Explained (around labels c) op k n
  pub entry : e ≡ entry_of (targets_of labels) (length pool) op
  pub run : more ≡ pool ++ run_of (targets_of labels) op

abbrev Step : Type 0
Step = BranchEntry × Known × List BranchEntry

done_as : (c : Context) (labels : List Label) (op : Op) (k m n : Known) (pool : List BranchEntry) (d e : BranchEntry) (less more : List BranchEntry) → ◌≡◌ {A = Result Step ValidKind} (Ok (d, m, less)) (Ok (e, n, more)) → Done c labels op k m pool d less → Done c labels op k n pool e more
done_as c labels op k m n pool d e less more same h = subst (λ (s : Step). Done c labels op k s.1 pool s.0 s.2) (ok_is {E = ValidKind} (d, m, less) (e, n, more) same) h

module _ (c : Context) (labels : List Label) (k n : Known) (pool : List BranchEntry) (e : BranchEntry) (more : List BranchEntry) (w : k.floor ≤ length k.types) where
  straight_done : (op : Op) → ((m : Known) → straight c op k ≡ Ok m → Explained (around labels c) op k m) → entry_of (targets_of labels) (length pool) op ≡ leads_to (immediate_of op) → run_of (targets_of labels) op ≡ [] → follow {B = Step} (straight c op k) (λ new. Ok (leads_to (immediate_of op), new, pool)) ≡ Ok (e, n, more) → Done c labels op k n pool e more
  straight_done op explained entry run same =
      let q = follow_ok {B = Step} (straight c op k) (λ new. Ok (leads_to (immediate_of op), new, pool)) (e, n, more) same in
      done_as c labels op k q.0 n pool (leads_to (immediate_of op)) e pool more q.2 (record { explained = explained q.0 q.1; entry = sym entry; run = sym (ap (λ r. pool ++ r) run ∙ append-nil pool) })

  fixed_done : (op : Op) → ((m : Known) → straight c op k ≡ Ok m → follow (fixed (around labels c) op) (λ f. pass k f.params f.results) ≡ Ok m) → ((floor h : ℕ) → height_behind (around labels c) floor h op ≡ lowered floor h (taken (around labels c) op) + given (around labels c) op) → ((f : FuncType) → fixed (around labels c) op ≡ Ok f → Typed (around labels c) op f) → entry_of (targets_of labels) (length pool) op ≡ leads_to (immediate_of op) → run_of (targets_of labels) op ≡ [] → follow {B = Step} (straight c op k) (λ new. Ok (leads_to (immediate_of op), new, pool)) ≡ Ok (e, n, more) → Done c labels op k n pool e more
  fixed_done op is high types entry run same = straight_done op (λ m h. explained_fixed (around labels c) op k m w high types (is m h)) entry run same

-- ---- branches

pub get_map : {A B : Type 0} (f : A → B) (xs : List A) (i : ℕ) (x : A) → slice_get xs i ≡ Some x → slice_get (map f xs) i ≡ Some (f x)
get_map f [] i x e = cc
get_map f (y ∷ ys) zero x e = cc
get_map f (y ∷ ys) (suc i) x e = get_map f ys i x e

label_there : (c : Context) (labels : List Label) (l : ℕ) (to : Label) → slice_get labels l ≡ Some to → slice_get (around labels c).labels l ≡ Some to.carries
label_there c labels l to e = get_map (λ (t : Target). t.carries) (targets_of labels) l (target_of to) (get_map target_of labels l to e)

label_entry : (labels : List Label) (l : ℕ) (to : Label) → slice_get labels l ≡ Some to → entry_to to ≡ branch_to (targets_of labels) l
label_entry labels l to e = sym (ap to_target (get_map target_of labels l to e))

branch_done : (c : Context) (labels : List Label) (l : ℕ) (k n : Known) (e : BranchEntry) → k.floor ≤ length k.types → branch labels l k ≡ Ok (e, n) → Explained (around labels c) (br l) k n × (e ≡ branch_to (targets_of labels) l)
branch_done c labels l k n e w h =
    let q = found_ok (slice_get labels l) (λ to. follow {B = BranchEntry × Known} (take_all k (operand to.carries)) (λ left. Ok (entry_to to, fall left))) (e, n) h in
    let to = q.0 in
    let r = follow_ok {B = BranchEntry × Known} (take_all k (operand to.carries)) (λ left. Ok (entry_to to, fall left)) (e, n) q.2 in
    let p = takes_all k r.0 (operand to.carries) w r.1 in
    let there = label_there c labels l to q.1 in
    let x = explained_fall (around labels c) (br l) k r.0 (operand to.carries) refl (λ any outs. (to.carries, any, there, refl)) p in
    let same = ok_is {A = BranchEntry × Known} {E = ValidKind} (entry_to to, fall r.0) (e, n) r.2 in
    (subst (λ u. Explained (around labels c) (br l) k u) (ap (λ (s : BranchEntry × Known). s.1) same) x, sym (ap (λ (s : BranchEntry × Known). s.0) same) ∙ label_entry labels l to q.1)

pub operand_reversed : (t : Option ValType) → reverse (operand t) ≡ operand t
operand_reversed None = refl
operand_reversed (Some t) = refl

branch_if_done : (c : Context) (labels : List Label) (l : ℕ) (k n : Known) (e : BranchEntry) → k.floor ≤ length k.types → branch_if labels l k ≡ Ok (e, n) → Explained (around labels c) (br_if l) k n × (e ≡ branch_to (targets_of labels) l)
branch_if_done c labels l k n e w h =
    let q = found_ok (slice_get labels l) (λ to. follow {B = BranchEntry × Known} (take_one k I32) (λ a. follow {B = BranchEntry × Known} (take_all a (operand to.carries)) (λ b. follow {B = BranchEntry × Known} (give_all b (operand to.carries)) (λ new. Ok (entry_to to, new))))) (e, n) h in
    let to = q.0 in
    let ts = operand to.carries in
    let r = follow_ok {B = BranchEntry × Known} (take_one k I32) (λ a. follow {B = BranchEntry × Known} (take_all a ts) (λ b. follow {B = BranchEntry × Known} (give_all b ts) (λ new. Ok (entry_to to, new)))) (e, n) q.2 in
    let pa = takes_one k r.0 I32 w r.1 in
    let s = follow_ok {B = BranchEntry × Known} (take_all r.0 ts) (λ b. follow {B = BranchEntry × Known} (give_all b ts) (λ new. Ok (entry_to to, new))) (e, n) r.2 in
    let pb = takes_all r.0 s.0 ts pa.stays.within s.1 in
    let g = follow_ok {B = BranchEntry × Known} (give_all s.0 ts) (λ new. Ok (entry_to to, new)) (e, n) s.2 in
    let pg = gives_all s.0 g.0 ts pb.stays.within g.1 in
    let all = take_then_give k s.0 g.0 (I32 ∷ ts) (reverse ts) (take_then k r.0 s.0 (I32 ∷ []) ts pa pb) pg in
    let there = label_there c labels l to q.1 in
    let many : carried (around labels c) l ≡ length ts = ap (λ o. operands (unwrap_or o None)) there in
    let back : length (reverse ts) ≡ length ts = length-reverse ts in
    let x = explained_pass (around labels c) (br_if l) k g.0 (I32 ∷ ts) (reverse ts) (to.carries, there, refl, operand_reversed to.carries) (omega arith) all in
    let same = ok_is {A = BranchEntry × Known} {E = ValidKind} (entry_to to, g.0) (e, n) g.2 in
    (subst (λ u. Explained (around labels c) (br_if l) k u) (ap (λ (s : BranchEntry × Known). s.1) same) x, sym (ap (λ (s : BranchEntry × Known). s.0) same) ∙ label_entry labels l to q.1)

same_carried : (t u : Option ValType) → same_operand t u ≡ true → t ≡ u
same_carried None None e = refl
same_carried None (Some u) e = cc
same_carried (Some t) None e = cc
same_carried (Some t) (Some u) e = ap (λ v. Some v) (same_types t u e)

run_done : (c : Context) (labels : List Label) (carries : Option ValType) (ls : List ℕ) (pool more : List BranchEntry) → add_run labels carries ls pool ≡ Ok more → AllByRecursion (λ k. slice_get (around labels c).labels k ≡ Some carries) ls × (more ≡ pool ++ map (branch_to (targets_of labels)) ls)
run_done c labels carries [] pool more e = (tt, sym (ok_is {E = ValidKind} pool more e) ∙ sym (append-nil pool))
run_done c labels carries (l ∷ ls) pool more e =
    let q = found_ok (slice_get labels l) (λ to. cond (same_operand to.carries carries) (add_run labels carries ls (pool ++ entry_to to ∷ [])) (Err BadType)) more e in
    let to = q.0 in
    let p = cond_ok (same_operand to.carries carries) (add_run labels carries ls (pool ++ entry_to to ∷ [])) BadType more q.2 in
    let r = run_done c labels carries ls (pool ++ entry_to to ∷ []) more p.1 in
    let one = entry_to to in
    let these = map (branch_to (targets_of labels)) ls in (
      (label_there c labels l to q.1 ∙ ap (λ v. Some v) (same_carried to.carries carries p.0), r.0),
      r.1 ∙ append_assoc pool (one ∷ []) these ∙ ap (λ u. pool ++ (u ∷ these)) (label_entry labels l to q.1),
    )

branch_table_done : (c : Context) (labels : List Label) (ls : List ℕ) (last : ℕ) (k n : Known) (pool : List BranchEntry) (e : BranchEntry) (more : List BranchEntry) → k.floor ≤ length k.types → branch_table labels ls last k pool ≡ Ok (e, n, more) → Done c labels (br_table ls last) k n pool e more
branch_table_done c labels ls last k n pool e more w h =
    let q = found_ok (slice_get labels last) (λ to. follow {B = Step} (add_run labels to.carries ls pool) (λ more. follow {B = Step} (take_one k I32) (λ a. follow {B = Step} (take_all a (operand to.carries)) (λ b. Ok (leads_to (length pool), fall b, more ++ entry_to to ∷ []))))) (e, n, more) h in
    let to = q.0 in
    let ts = operand to.carries in
    let u = follow_ok {B = Step} (add_run labels to.carries ls pool) (λ more. follow {B = Step} (take_one k I32) (λ a. follow {B = Step} (take_all a ts) (λ b. Ok (leads_to (length pool), fall b, more ++ entry_to to ∷ [])))) (e, n, more) q.2 in
    let run = run_done c labels to.carries ls pool u.0 u.1 in
    let r = follow_ok {B = Step} (take_one k I32) (λ a. follow {B = Step} (take_all a ts) (λ b. Ok (leads_to (length pool), fall b, u.0 ++ entry_to to ∷ []))) (e, n, more) u.2 in
    let pa = takes_one k r.0 I32 w r.1 in
    let s = follow_ok {B = Step} (take_all r.0 ts) (λ b. Ok (leads_to (length pool), fall b, u.0 ++ entry_to to ∷ [])) (e, n, more) r.2 in
    let pb = takes_all r.0 s.0 ts pa.stays.within s.1 in
    let there = label_there c labels last to q.1 in
    let x = explained_fall (around labels c) (br_table ls last) k s.0 (I32 ∷ ts) refl (λ any outs. (to.carries, any, run.0, there, refl)) (take_then k r.0 s.0 (I32 ∷ []) ts pa pb) in
    let f = branch_to (targets_of labels) in
    let pools : u.0 ++ entry_to to ∷ [] ≡ pool ++ map f (ls ++ last ∷ []) = search (rules, append_assoc, label_entry, map-append) in
    done_as c labels (br_table ls last) k (fall s.0) n pool (leads_to (length pool)) e (u.0 ++ entry_to to ∷ []) more s.2 (record { explained = x; entry = refl; run = pools })

-- ---- every instruction without a body

pub done : (c : Context) (labels : List Label) (op : Op) (k n : Known) (pool : List BranchEntry) (e : BranchEntry) (more : List BranchEntry) → k.floor ≤ length k.types → plain_step c labels op k pool ≡ Ok (e, n, more) → Done c labels op k n pool e more
done c labels (br l) k n pool e more w h =
    let q = follow_ok {B = Step} (branch labels l k) (λ r. Ok (r.0, r.1, pool)) (e, n, more) h in
    let b = branch_done c labels l k q.0.1 q.0.0 w q.1 in
    done_as c labels (br l) k q.0.1 n pool q.0.0 e pool more q.2 (record { explained = b.0; entry = b.1; run = sym (append-nil pool) })
done c labels (br_if l) k n pool e more w h =
    let q = follow_ok {B = Step} (branch_if labels l k) (λ r. Ok (r.0, r.1, pool)) (e, n, more) h in
    let b = branch_if_done c labels l k q.0.1 q.0.0 w q.1 in
    done_as c labels (br_if l) k q.0.1 n pool q.0.0 e pool more q.2 (record { explained = b.0; entry = b.1; run = sym (append-nil pool) })
done c labels (br_table ls l) k n pool e more w h = branch_table_done c labels ls l k n pool e more w h
done c labels unreachable k n pool e more w h = straight_done c labels k n pool e more w unreachable (λ m g. subst (λ u. Explained (around labels c) unreachable k u) (ok_is {E = ValidKind} (fall k) m g) (explained_unreachable (around labels c) k w)) refl refl h
done c labels return k n pool e more w h = straight_done c labels k n pool e more w return (λ m g. explained_return (around labels c) k m w g) refl refl h
done c labels drop_operand k n pool e more w h = straight_done c labels k n pool e more w drop_operand (λ m g. explained_drop (around labels c) k m w g) refl refl h
done c labels select k n pool e more w h = straight_done c labels k n pool e more w select (λ m g. explained_select (around labels c) k m w g) refl refl h
done c labels (call_indirect y) k n pool e more w h = straight_done c labels k n pool e more w (call_indirect y) (λ m g. explained_indirect (around labels c) y k m w g) refl refl h
done c labels nop k n pool e more w h = fixed_done c labels k n pool e more w nop (λ m g. g) (λ floor tall. omega arith) (λ f g. nop_typed (around labels c) f g) refl refl h
done c labels (call x) k n pool e more w h = fixed_done c labels k n pool e more w (call x) (λ m g. g) (λ floor tall. refl) (λ f g. call_typed (around labels c) x f g) refl refl h
done c labels (local_get x) k n pool e more w h = fixed_done c labels k n pool e more w (local_get x) (λ m g. g) (λ floor tall. refl) (λ f g. get_typed (around labels c) x f g) refl refl h
done c labels (local_set x) k n pool e more w h = fixed_done c labels k n pool e more w (local_set x) (λ m g. g) (λ floor tall. refl) (λ f g. set_typed (around labels c) x f g) refl refl h
done c labels (local_tee x) k n pool e more w h = fixed_done c labels k n pool e more w (local_tee x) (λ m g. g) (λ floor tall. refl) (λ f g. tee_typed (around labels c) x f g) refl refl h
done c labels (global_get x) k n pool e more w h = fixed_done c labels k n pool e more w (global_get x) (λ m g. g) (λ floor tall. refl) (λ f g. global_typed (around labels c) x f g) refl refl h
done c labels (global_set x) k n pool e more w h = fixed_done c labels k n pool e more w (global_set x) (λ m g. g) (λ floor tall. refl) (λ f g. written_typed (around labels c) x f g) refl refl h
done c labels (load op align offset) k n pool e more w h = fixed_done c labels k n pool e more w (load op align offset) (λ m g. g) (λ floor tall. refl) (λ f g. load_typed (around labels c) op align offset f g) refl refl h
done c labels (store op align offset) k n pool e more w h = fixed_done c labels k n pool e more w (store op align offset) (λ m g. g) (λ floor tall. refl) (λ f g. store_typed (around labels c) op align offset f g) refl refl h
done c labels memory_size k n pool e more w h = fixed_done c labels k n pool e more w memory_size (λ m g. g) (λ floor tall. refl) (λ f g. size_typed (around labels c) f g) refl refl h
done c labels memory_grow k n pool e more w h = fixed_done c labels k n pool e more w memory_grow (λ m g. g) (λ floor tall. refl) (λ f g. grow_typed (around labels c) f g) refl refl h
done c labels (i32_const i) k n pool e more w h = fixed_done c labels k n pool e more w (i32_const i) (λ m g. g) (λ floor tall. refl) (λ f g. i32_typed (around labels c) f i g) refl refl h
done c labels (i64_const i) k n pool e more w h = fixed_done c labels k n pool e more w (i64_const i) (λ m g. g) (λ floor tall. refl) (λ f g. i64_typed (around labels c) f i g) refl refl h
done c labels (test t op) k n pool e more w h = fixed_done c labels k n pool e more w (test t op) (λ m g. g) (λ floor tall. refl) (λ f g. test_typed (around labels c) f t op g) refl refl h
done c labels (comparison t op) k n pool e more w h = fixed_done c labels k n pool e more w (comparison t op) (λ m g. g) (λ floor tall. refl) (λ f g. comparison_typed (around labels c) f t op g) refl refl h
done c labels (unary t op) k n pool e more w h = fixed_done c labels k n pool e more w (unary t op) (λ m g. g) (λ floor tall. refl) (λ f g. unary_typed (around labels c) f t op g) refl refl h
done c labels (binary t op) k n pool e more w h = fixed_done c labels k n pool e more w (binary t op) (λ m g. g) (λ floor tall. refl) (λ f g. binary_typed (around labels c) f t op g) refl refl h
done c labels (conversion op) k n pool e more w h = fixed_done c labels k n pool e more w (conversion op) (λ m g. g) (λ floor tall. refl) (λ f g. conversion_typed (around labels c) f op g) refl refl h
