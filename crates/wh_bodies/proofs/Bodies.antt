-- What the run of a whole body shows.
use Rattle.std.proofs.Common.{◌≡◌, ℕ, ◌+◌, ◌≤◌, max, List, [], ◌∷◌, ◌++◌, length, map, Option, None, Ok, refl, sym, ap, subst, ◌∙◌, arith, append-nil, length-append, rules}
use Rattle.std.specs.Prelude.{slice_get}
use Rattle.wh_model.specs.declared.ValType.{ValType}
use Rattle.wh_model.specs.declared.Open.TheVariants.{Other}
use Rattle.wh_model.specs.Format.{Op, unreachable, Code, nothing, plain, block, loop, if_then, if_else, Instr, end_mark, flatten, expression, FuncType, Body}
use Rattle.wh_model.specs.Validity.{Context, operand, ValidBody, operands, lowered, height_behind, greatest, body_height}
use Rattle.wh_bodies.specs.declared.fault.BodyFault.{BodyFault}
use Rattle.wh_bodies.specs.declared.table.BranchEntry.{BranchEntry}
use Rattle.wh_bodies.specs.declared.marks.ConstructEnd.{ConstructEnd}
use Rattle.wh_bodies.specs.ConstructEnds.{Marks, all_marks}
use Rattle.wh_bodies.specs.SideTables.{Table, Target, within, base, laid, beside, one, nowhere, leads_to, entry_of, run_of, table_of}
use Rattle.wh_bodies.specs.Opened.{targets_of}
use Rattle.wh_bodies.specs.CheckSteps.{State, run}
use Rattle.wh_bodies.specs.CheckEnds.{nothing_known, body_label, started, whole_run}
use Rattle.wh_bodies.proofs.Follow.{ok_is}
use Rattle.wh_bodies.proofs.Places.{own_marks, marks_over}
use Rattle.wh_bodies.proofs.Running.{At, part_ends}
use Rattle.wh_bodies.proofs.Sound.{sound}

-- ---- locals and the result of the function change no height and no target

module _ (c : Context) (ls : List ValType) (r : Option ValType) where
  abbrev with_locals : Context
  with_locals = record c { locals = ls; result = r }

  behind_same : (ts : List (Option ValType)) (floor h : ℕ) (op : Op) → height_behind (record with_locals { labels = ts }) floor h op ≡ height_behind (record c { labels = ts }) floor h op
  behind_same ts floor h unreachable = refl
  behind_same ts floor h _ = refl

  pub greatest_same : (ts : List (Option ValType)) (floor h : ℕ) (code : Code) → greatest (record with_locals { labels = ts }) floor h code ≡ greatest (record c { labels = ts }) floor h code
  greatest_same ts floor h nothing = refl
  greatest_same ts floor h (plain op rest) =
      let low = height_behind (record c { labels = ts }) floor h op in
      ap (λ k. max h (greatest (record with_locals { labels = ts }) floor k rest)) (behind_same ts floor h op) ∙ ap (λ k. max h k) (greatest_same ts floor low rest)
  greatest_same ts floor h (block t body rest) =
      ap (λ k. max k (greatest (record with_locals { labels = ts }) floor (h + operands t) rest)) (greatest_same (t ∷ ts) h h body) ∙ ap (λ k. max (greatest (record c { labels = t ∷ ts }) h h body) k) (greatest_same ts floor (h + operands t) rest)
  greatest_same ts floor h (loop t body rest) =
      ap (λ k. max k (greatest (record with_locals { labels = ts }) floor (h + operands t) rest)) (greatest_same (None ∷ ts) h h body) ∙ ap (λ k. max (greatest (record c { labels = None ∷ ts }) h h body) k) (greatest_same ts floor (h + operands t) rest)
  greatest_same ts floor h (if_then t first rest) =
      let low = lowered floor h 1 in
      ap (λ k. max h (max k (greatest (record with_locals { labels = ts }) floor (low + operands t) rest))) (greatest_same (t ∷ ts) low low first) ∙ ap (λ k. max h (max (greatest (record c { labels = t ∷ ts }) low low first) k)) (greatest_same ts floor (low + operands t) rest)
  greatest_same ts floor h (if_else t first second rest) =
      let low = lowered floor h 1 in
      let a = greatest (record c { labels = t ∷ ts }) low low first in
      let b = greatest (record c { labels = t ∷ ts }) low low second in
      ap (λ k. max h (max k (max (greatest (record with_locals { labels = t ∷ ts }) low low second) (greatest (record with_locals { labels = ts }) floor (low + operands t) rest)))) (greatest_same (t ∷ ts) low low first)
      ∙ ap (λ k. max h (max a (max k (greatest (record with_locals { labels = ts }) floor (low + operands t) rest)))) (greatest_same (t ∷ ts) low low second)
      ∙ ap (λ k. max h (max a (max b k))) (greatest_same ts floor (low + operands t) rest)

  abbrev carried_by : List Target → List (Option ValType)
  carried_by ts = map (λ (t : Target). t.carries) ts

  laid_one : (us ts : List Target) (p q h h1 end : ℕ) (body rest : Code) (e : BranchEntry) (t : Option ValType) → laid with_locals us (p + 1) q h1 body ≡ laid c us (p + 1) q h1 body → ((k : ℕ) → laid with_locals ts (end + 1) k (h1 + operands t) rest ≡ laid c ts (end + 1) k (h1 + operands t) rest)
      → beside (beside (one e []) (beside (laid with_locals us (p + 1) q h1 body) (one nowhere []))) (laid with_locals ts (end + 1) (q + length (laid with_locals us (p + 1) q h1 body).pool) (h1 + operands t) rest) ≡ beside (beside (one e []) (beside (laid c us (p + 1) q h1 body) (one nowhere []))) (laid c ts (end + 1) (q + length (laid c us (p + 1) q h1 body).pool) (h1 + operands t) rest)
  laid_one us ts p q h h1 end body rest e t inner behind =
      ap (λ (x : Table). beside (beside (one e []) (beside x (one nowhere []))) (laid with_locals ts (end + 1) (q + length x.pool) (h1 + operands t) rest)) inner
      ∙ ap (λ (x : Table). beside (beside (one e []) (beside (laid c us (p + 1) q h1 body) (one nowhere []))) x) (behind (q + length (laid c us (p + 1) q h1 body).pool))

  laid_same : (ts : List Target) (p q h : ℕ) (code : Code) → laid with_locals ts p q h code ≡ laid c ts p q h code
  laid_same ts p q h nothing = refl
  laid_same ts p q h (plain op rest) =
      let here = one (entry_of ts q op) (run_of ts op) in
      let low = height_behind (within ts c) (base ts) h op in
      ap (λ k. beside here (laid with_locals ts (p + 1) (q + length (run_of ts op)) k rest)) (behind_same (carried_by ts) (base ts) h op) ∙ ap (λ x. beside here x) (laid_same ts (p + 1) (q + length (run_of ts op)) low rest)
  laid_same ts p q h (block t body rest) =
      let m = p + 1 + length (flatten body) in
      let us : List Target = record { place = m + 1; height = h; carries = t } ∷ ts in
      laid_one us ts p q h h m body rest (leads_to m) t (laid_same us (p + 1) q h body) (λ k. laid_same ts (m + 1) k (h + operands t) rest)
  laid_same ts p q h (loop t body rest) =
      let m = p + 1 + length (flatten body) in
      let us : List Target = record { place = p; height = h; carries = None } ∷ ts in
      laid_one us ts p q h h m body rest (leads_to m) t (laid_same us (p + 1) q h body) (λ k. laid_same ts (m + 1) k (h + operands t) rest)
  laid_same ts p q h (if_then t body rest) =
      let low = lowered (base ts) h 1 in
      let m = p + 1 + length (flatten body) in
      let us : List Target = record { place = m + 1; height = low; carries = t } ∷ ts in
      laid_one us ts p q h low m body rest (leads_to m) t (laid_same us (p + 1) q low body) (λ k. laid_same ts (m + 1) k (low + operands t) rest)
  laid_same ts p q h (if_else t first second rest) =
      let low = lowered (base ts) h 1 in
      let x = p + 1 + length (flatten first) in
      let m = x + 1 + length (flatten second) in
      let us : List Target = record { place = m + 1; height = low; carries = t } ∷ ts in
      let a = laid c us (p + 1) q low first in
      let q2 = q + length a.pool in
      let b = laid c us (x + 1) q2 low second in
      ap (λ (a : Table). beside (beside (one (leads_to (x + 1)) []) (beside a (beside (one (leads_to m) []) (beside (laid with_locals us (x + 1) (q + length a.pool) low second) (one nowhere [])))))
      (laid with_locals ts (m + 1) (q + length a.pool + length (laid with_locals us (x + 1) (q + length a.pool) low second).pool) (low + operands t) rest)) (laid_same us (p + 1) q low first)
      ∙ ap (λ (b : Table). beside (beside (one (leads_to (x + 1)) []) (beside a (beside (one (leads_to m) []) (beside b (one nowhere []))))) (laid with_locals ts (m + 1) (q2 + length b.pool) (low + operands t) rest)) (laid_same us (x + 1) q2 low second)
      ∙ ap (λ (r : Table). beside (beside (one (leads_to (x + 1)) []) (beside a (beside (one (leads_to m) []) (beside b (one nowhere []))))) r) (laid_same ts (m + 1) (q2 + length b.pool) (low + operands t) rest)

-- ---- bodies

pub result_is : (rs : List ValType) → length rs ≤ 1 → rs ≡ operand (slice_get rs 0)
result_is [] h = refl
result_is (t ∷ []) h = refl
result_is (t ∷ u ∷ rs) h = absurd (omega arith)

abbrev pub place_of : Context → FuncType → Body → Context
place_of c f b = record c { locals = f.params ++ b.locals; result = slice_get f.results 0 }

pub body_at : (of : Option ValType) (count : ℕ) (ms : List ConstructEnd) → At (started of count ms) (body_label of count ∷ []) 0 0 0
body_at of count ms = record { labels = refl; place = refl; before = refl; height = refl; floor = refl; within = omega arith }

-- what a whole run shows
pub record Shown (c : Context) (f : FuncType) (b : Body) (last : State) : Type 0 where
  pub valid : ValidBody c f b
  pub height : body_height c f b ≤ 256
  pub table : (let t : Table = record { entries = last.entries; pool = last.pool } in t) ≡ table_of c f b

pub own_are : (code : Code) → (all_marks 0 (expression code)).done ≡ own_marks 0 code
own_are code = ap (λ (m : Marks). m.done) (marks_over code (end_mark ∷ []) 0 (0 + length (flatten code)) refl) ∙ append-nil (own_marks 0 code)

pub shown : (c : Context) (f : FuncType) (b : Body) (count : ℕ) (ms : List ConstructEnd) (last : State) → length f.results ≤ 1 → count ≡ length (expression b.code) → ms ≡ (all_marks 0 (expression b.code)).done → run (place_of c f b) 0 (expression b.code) (started (slice_get f.results 0) count ms) ≡ Ok last → Shown c f b last
shown c f b count ms last few size marks e =
    let of = slice_get f.results 0 in
    let d = place_of c f b in
    let n = length (flatten b.code) + 1 in
    let many : count ≡ n = let l = length-append (flatten b.code) (end_mark ∷ []) in omega arith in
    let l = body_label of n in
    let s = started of n ms in
    let here = body_at of n ms in
    let r = sound d b.code (end_mark ∷ []) (l ∷ []) 0 0 0 0 [] s last here (marks ∙ own_are b.code ∙ sym (append-nil (own_marks 0 b.code))) (ap (λ k. run d 0 (expression b.code) (started of k ms)) (sym many) ∙ e) in
    let part = part_ends d b.code [] [] nothing_known Other of of n 0 0 0 r.number [] s r.next last refl (omega arith) refl refl here r.ran r.marks r.runs in
    let same : part.next ≡ last = ok_is {E = BodyFault} part.next last part.runs in
    let ts : List Target = targets_of (l ∷ []) in
    let is : (laid d ts 0 0 0 b.code) ≡ laid c ts 0 0 0 b.code = laid_same c (f.params ++ b.locals) of ts 0 0 0 b.code in
    let made : (let t : Table = record { entries = part.next.entries; pool = part.next.pool } in t) ≡ table_of c f b = search (rules, append-nil) in
    record {
      valid = (of, result_is f.results few, part.typed);
      height = (let h : greatest (record d { labels = of ∷ [] }) 0 0 b.code ≤ 256 = part.height (omega arith) in omega (arith, h, greatest_same c (f.params ++ b.locals) of (of ∷ []) 0 0 b.code));
      table = subst (λ (x : State). (let t : Table = record { entries = x.entries; pool = x.pool } in t) ≡ table_of c f b) same made;
    }

pub around_is : (c : Context) (f : FuncType) (b : Body) (params locals : List ValType) (r : Option ValType) → params ≡ f.params → locals ≡ b.locals → r ≡ slice_get f.results 0 → (let d : Context = record c { locals = params ++ locals; result = r } in d) ≡ place_of c f b
around_is c f b params locals r p l e = search rules

pub body_shown : (c : Context) (f : FuncType) (b : Body) (d : Context) (is : List Instr) (last : State) → length f.results ≤ 1 → d ≡ place_of c f b → is ≡ expression b.code → whole_run d is ≡ Ok last → Shown c f b last
body_shown c f b d is last few place code e = search (rules, shown)
