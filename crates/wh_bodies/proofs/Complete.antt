-- A sequence that is typed, and not too high, is not refused.
use Rattle.std.proofs.Common.{◌≡◌, ℕ, ◌+◌, ◌≤◌, max, List, [], ◌∷◌, ◌++◌, length, Option, Some, None, Ok, true, refl, sym, ap, subst, ◌∙◌, arith, append_assoc, rules}
use Rattle.wh_model.specs.declared.ValType.{ValType}
use Rattle.wh_model.specs.declared.Open.TheVariants.{Then, Other}
use Rattle.wh_model.specs.Format.{Op, Code, nothing, plain, block, loop, if_then, if_else, Instr, single, block_start, loop_start, if_start, else_mark, end_mark, flatten}
use Rattle.wh_model.specs.Validity.{Context, OpType, operand, under, HasType, no_more, then_op, then_block, then_loop, then_if, then_if_else, operands, height_behind, lowered, greatest}
use Rattle.wh_model.proofs.Heights.{begins_within}
use Rattle.wh_bodies.specs.declared.fault.BodyFault.{BodyFault}
use Rattle.wh_bodies.specs.declared.table.BranchEntry.{BranchEntry}
use Rattle.wh_bodies.specs.declared.labels.Label.{Label}
use Rattle.wh_bodies.specs.declared.marks.ConstructEnd.{ConstructEnd}
use Rattle.wh_bodies.specs.Known.{Known, Fit}
use Rattle.wh_bodies.specs.SideTables.{base, laid, run_of}
use Rattle.wh_bodies.specs.Opened.{targets_of, around}
use Rattle.wh_bodies.specs.CheckSteps.{State, may_end, noted, step, run}
use Rattle.wh_bodies.proofs.Follow.{ok_is}
use Rattle.wh_bodies.proofs.OpsForward.{can_step}
use Rattle.wh_bodies.proofs.Places.{mark, own_marks}
use Rattle.wh_bodies.proofs.Running.{At, Ran, plain_at, plain_on, label_at}
use Rattle.wh_bodies.proofs.Sound.{sound}
use Rattle.wh_bodies.proofs.ConstructsForward.{run_on, can_block, can_loop, can_if, can_end, can_turn}

-- The run goes through the sequence, whatever follows it, and these types fit behind it.
pub record Can (c : Context) (code : Code) (s : State) (after : List ValType) : Type 0 where
  pub next : State
  pub runs : (number : ℕ) (rest : List Instr) → (m : ℕ) × (run c number (flatten code ++ rest) s ≡ run c m rest next)
  pub fit : Fit next.known after

-- and shows what it shows
pub can_ran : (c : Context) (code : Code) (ls : List Label) (p q h : ℕ) (ms : List ConstructEnd) (s : State) (after : List ValType) → At s ls p q h → s.marks ≡ own_marks p code ++ ms → (a : Can c code s after) → Ran c code ls p q h s a.next × (a.next.marks ≡ ms)
can_ran c code ls p q h ms s after here marks a =
    let t = sound c code [] ls p q h 0 ms s a.next here marks (a.runs 0 []).1 in
    let same : t.next ≡ a.next = ok_is {E = BodyFault} t.next a.next t.runs in
    (subst (λ (x : State). Ran c code ls p q h s x) same t.ran, ap (λ (x : State). x.marks) (sym same) ∙ t.marks)

-- ---- an instruction without a body

pub record Plainly (c : Context) (op : Op) (ls : List Label) (p q h : ℕ) (ms : List ConstructEnd) (s : State) (after : List ValType) : Type 0 where
  pub next : State
  pub by : step c (single op) s ≡ Ok next
  pub at : At next ls p q h
  pub marks : next.marks ≡ ms
  pub fit : Fit next.known after

abbrev Step : Type 0
Step = BranchEntry × Known × List BranchEntry

can_plain : (c : Context) (op : Op) (ls : List Label) (p q h : ℕ) (ms : List ConstructEnd) (s : State) (a b below : List ValType) → At s ls p q h → s.marks ≡ ms → h ≤ 256 → height_behind (around ls c) (base (targets_of ls)) h op ≤ 256 → OpType (around ls c) op a b → Fit s.known (a ++ below)
    → Plainly c op ls (p + 1) (q + length (run_of (targets_of ls) op)) (height_behind (around ls c) (base (targets_of ls)) h op) ms s (b ++ below)
can_plain c op ls p q h ms s a b below here marks small room t fit =
    let high = here.height in
    let tall : height_behind (around ls c) s.known.floor (length s.known.types) op ≡ height_behind (around ls c) (base (targets_of ls)) h op = ap (λ f. height_behind (around ls c) f (length s.known.types) op) here.floor ∙ ap (λ k. height_behind (around ls c) (base (targets_of ls)) k op) high in
    let g = can_step c ls op s.known s.pool a b below here.within (omega arith) (omega arith) t fit in
    let e : BranchEntry = g.0 in
    let k : Known = g.1 in
    let more : List BranchEntry = g.2 in
    let m : State = record s { known = k; pool = more } in
    let n : State = noted (e, m) in
    let by : step c (single op) s ≡ Ok n = search rules in
    let y = plain_at c op s n ls here.labels here.within by in
    record { next = n; by = by; at = plain_on c op s n ls p q h y.0 here y.1; marks = y.1.marks ∙ marks; fit = g.4 }

-- ---- runs of constructs

run_one : (c : Context) (i : Instr) (body code : Code) (s s1 b s3 n : State) → step c i s ≡ Ok s1 → ((number : ℕ) (rest : List Instr) → (m : ℕ) × (run c number (flatten body ++ rest) s1 ≡ run c m rest b)) → step c end_mark b ≡ Ok s3 → ((number : ℕ) (rest : List Instr) → (m : ℕ) × (run c number (flatten code ++ rest) s3 ≡ run c m rest n))
    → (number : ℕ) (rest : List Instr) → (m : ℕ) × (run c number (((i ∷ flatten body) ++ (end_mark ∷ flatten code)) ++ rest) s ≡ run c m rest n)
run_one c i body code s s1 b s3 n first inner last outer number rest =
    let tail = flatten code ++ rest in
    let r = inner (number + 1) (end_mark ∷ tail) in
    let u = outer (r.0 + 1) rest in
    (u.0, ap (λ is. run c number is s) (append_assoc (i ∷ flatten body) (end_mark ∷ flatten code) rest) ∙ run_on c number i (flatten body ++ end_mark ∷ tail) s s1 first ∙ r.1 ∙ run_on c r.0 end_mark tail b s3 last ∙ u.1)

run_two : (c : Context) (i : Instr) (body second code : Code) (s s1 b s2 d s3 n : State) → step c i s ≡ Ok s1 → ((number : ℕ) (rest : List Instr) → (m : ℕ) × (run c number (flatten body ++ rest) s1 ≡ run c m rest b)) → step c else_mark b ≡ Ok s2 → ((number : ℕ) (rest : List Instr) → (m : ℕ) × (run c number (flatten second ++ rest) s2 ≡ run c m rest d)) → step c end_mark d ≡ Ok s3 → ((number : ℕ) (rest : List Instr) → (m : ℕ) × (run c number (flatten code ++ rest) s3 ≡ run c m rest n))
    → (number : ℕ) (rest : List Instr) → (m : ℕ) × (run c number ((((i ∷ flatten body) ++ (else_mark ∷ flatten second)) ++ (end_mark ∷ flatten code)) ++ rest) s ≡ run c m rest n)
run_two c i body second code s s1 b s2 d s3 n first inner turn other last outer number rest =
    let tail = flatten code ++ rest in
    let r = inner (number + 1) (else_mark ∷ (flatten second ++ end_mark ∷ tail)) in
    let v = other (r.0 + 1) (end_mark ∷ tail) in
    let u = outer (v.0 + 1) rest in (
      u.0,
      ap (λ is. run c number is s) (append_assoc ((i ∷ flatten body) ++ else_mark ∷ flatten second) (end_mark ∷ flatten code) rest ∙ append_assoc (i ∷ flatten body) (else_mark ∷ flatten second) (end_mark ∷ tail))
          ∙ run_on c number i (flatten body ++ else_mark ∷ (flatten second ++ end_mark ∷ tail)) s s1 first ∙ r.1 ∙ run_on c r.0 else_mark (flatten second ++ end_mark ∷ tail) b s2 turn ∙ v.1 ∙ run_on c v.0 end_mark tail d s3 last ∙ u.1,
    )

-- ---- every sequence

below : (a b n : ℕ) → a ≤ b → b ≤ n → a ≤ n
below a b n h k = omega arith

max_two : (a b n : ℕ) → max a b ≤ n → (a ≤ n) × (b ≤ n)
max_two a b n h = (omega arith, omega arith)

max_three : (a b d n : ℕ) → max a (max b d) ≤ n → (a ≤ n) × (b ≤ n) × (d ≤ n)
max_three a b d n h = (omega arith, omega arith, omega arith)

max_four : (a b d e n : ℕ) → max a (max b (max d e)) ≤ n → (a ≤ n) × (b ≤ n) × (d ≤ n) × (e ≤ n)
max_four a b d e n h = (omega arith, omega arith, omega arith, omega arith)

nothing_typed : {C : Context} {ins outs : List ValType} → HasType C nothing ins outs → outs ≡ ins
nothing_typed no_more = refl

may_be_left : (t : Option ValType) → operand t ≡ [] → may_end Then t ≡ true
may_be_left None e = refl
may_be_left (Some t) e = cc

pub can : (c : Context) (code : Code) (ls : List Label) (p q h : ℕ) (ms : List ConstructEnd) (s : State) (before after : List ValType) → At s ls p q h → s.marks ≡ own_marks p code ++ ms → greatest (around ls c) (base (targets_of ls)) h code ≤ 256 → Fit s.known before → HasType (around ls c) code before after → Can c code s after
can c nothing ls p q h ms s before after here marks low fit no_more = record { next = s; runs = λ number rest. (number, refl); fit = fit }
can c (plain op code) ls p q h ms s before after here marks low fit (then_op a b floor t r) =
    let f = base (targets_of ls) in
    let high = height_behind (around ls c) f h op in
    let most = greatest (around ls c) f high code in
    let both = max_two h most 256 low in
    let x = can_plain c op ls p q h (own_marks (p + 1) code ++ ms) s a b floor here marks both.0 (below high most 256 (begins_within (around ls c) f high code) both.1) t fit in
    let y = can c code ls (p + 1) (q + length (run_of (targets_of ls) op)) high ms x.next (b ++ floor) after x.at x.marks both.1 x.fit r in
    record {
      next = y.next;
      runs = λ number rest. let z = y.runs (number + 1) rest in (z.0, run_on c number (single op) (flatten code ++ rest) s x.next x.by ∙ z.1);
      fit = y.fit;
    }
can c (block t body code) ls p q h ms s before after here marks low fit (then_block inner outer) =
    let f = base (targets_of ls) in
    let m = p + 1 + length (flatten body) in
    let ob = own_marks (p + 1) body in
    let oc = own_marks (m + 1) code in
    let l = label_at s.known Other t t (m + 1) h in
    let q2 = q + length (laid c (targets_of (l ∷ ls)) (p + 1) q h body).pool in
    let most = greatest (around (l ∷ ls) c) h h body in
    let rest = greatest (around ls c) f (h + operands t) code in
    let both = max_two most rest 256 low in
    let small = below h most 256 (begins_within (around (l ∷ ls) c) h h body) both.0 in
    let room = below (h + operands t) rest 256 (begins_within (around ls c) f (h + operands t) code) both.1 in
    let o = can_block c ls p q h (mark m m) ((ob ++ oc) ++ ms) t s here marks small in
    let b = can c body (l ∷ ls) (p + 1) q h (oc ++ ms) o.next [] (operand t) o.at (o.marks ∙ append_assoc ob oc ms) both.0 o.fit inner in
    let r = can_ran c body (l ∷ ls) (p + 1) q h (oc ++ ms) o.next (operand t) o.at (o.marks ∙ append_assoc ob oc ms) b in
    let e = can_end c body ls s.known Other t t (m + 1) (p + 1) q h (oc ++ ms) o.next b.next before here.floor here.within here.height o.known o.at r.0 r.1 b.fit refl room fit in
    let y = can c code ls (m + 1) q2 (h + operands t) ms e.next (operand t ++ before) after e.at e.marks both.1 e.fit outer in
    record { next = y.next; runs = run_one c (block_start t) body code s o.next b.next e.next y.next o.is b.runs e.is y.runs; fit = y.fit }
can c (loop t body code) ls p q h ms s before after here marks low fit (then_loop inner outer) =
    let f = base (targets_of ls) in
    let m = p + 1 + length (flatten body) in
    let ob = own_marks (p + 1) body in
    let oc = own_marks (m + 1) code in
    let l = label_at s.known Other t None p h in
    let q2 = q + length (laid c (targets_of (l ∷ ls)) (p + 1) q h body).pool in
    let most = greatest (around (l ∷ ls) c) h h body in
    let rest = greatest (around ls c) f (h + operands t) code in
    let both = max_two most rest 256 low in
    let small = below h most 256 (begins_within (around (l ∷ ls) c) h h body) both.0 in
    let room = below (h + operands t) rest 256 (begins_within (around ls c) f (h + operands t) code) both.1 in
    let o = can_loop c ls p q h (mark m m) ((ob ++ oc) ++ ms) t s here marks small in
    let b = can c body (l ∷ ls) (p + 1) q h (oc ++ ms) o.next [] (operand t) o.at (o.marks ∙ append_assoc ob oc ms) both.0 o.fit inner in
    let r = can_ran c body (l ∷ ls) (p + 1) q h (oc ++ ms) o.next (operand t) o.at (o.marks ∙ append_assoc ob oc ms) b in
    let e = can_end c body ls s.known Other t None p (p + 1) q h (oc ++ ms) o.next b.next before here.floor here.within here.height o.known o.at r.0 r.1 b.fit refl room fit in
    let y = can c code ls (m + 1) q2 (h + operands t) ms e.next (operand t ++ before) after e.at e.marks both.1 e.fit outer in
    record { next = y.next; runs = run_one c (loop_start t) body code s o.next b.next e.next y.next o.is b.runs e.is y.runs; fit = y.fit }
can c (if_then t body code) ls p q h ms s before after here marks low fit (then_if {below = under_it} inner none outer) =
    let f = base (targets_of ls) in
    let h1 = lowered f h 1 in
    let m = p + 1 + length (flatten body) in
    let ob = own_marks (p + 1) body in
    let oc = own_marks (m + 1) code in
    let rest = greatest (around ls c) f (h1 + operands t) code in
    let all = max_three h (greatest (under t (around ls c)) h1 h1 body) rest 256 low in
    let room = below (h1 + operands t) rest 256 (begins_within (around ls c) f (h1 + operands t) code) all.2 in
    let z = can_if c ls p q h (mark m m) ((ob ++ oc) ++ ms) t s under_it here marks all.0 fit in
    let k = z.known in
    let o = z.opening in
    let l = label_at k Then t t (m + 1) h1 in
    let q2 = q + length (laid c (targets_of (l ∷ ls)) (p + 1) q h1 body).pool in
    let b = can c body (l ∷ ls) (p + 1) q h1 (oc ++ ms) o.next [] (operand t) o.at (o.marks ∙ append_assoc ob oc ms) all.1 o.fit inner in
    let r = can_ran c body (l ∷ ls) (p + 1) q h1 (oc ++ ms) o.next (operand t) o.at (o.marks ∙ append_assoc ob oc ms) b in
    let e = can_end c body ls k Then t t (m + 1) (p + 1) q h1 (oc ++ ms) o.next b.next under_it z.floor z.taken.stays.within z.high o.known o.at r.0 r.1 b.fit (may_be_left t (nothing_typed none)) room z.fit in
    let y = can c code ls (m + 1) q2 (h1 + operands t) ms e.next (operand t ++ under_it) after e.at e.marks all.2 e.fit outer in
    record { next = y.next; runs = run_one c (if_start t) body code s o.next b.next e.next y.next o.is b.runs e.is y.runs; fit = y.fit }
can c (if_else t first second code) ls p q h ms s before after here marks low fit (then_if_else {below = under_it} inner other outer) =
    let f = base (targets_of ls) in
    let h1 = lowered f h 1 in
    let x = p + 1 + length (flatten first) in
    let m = x + 1 + length (flatten second) in
    let o1 = own_marks (p + 1) first in
    let o2 = own_marks (x + 1) second in
    let o3 = own_marks (m + 1) code in
    let more = greatest (under t (around ls c)) h1 h1 second in
    let rest = greatest (around ls c) f (h1 + operands t) code in
    let all = max_four h (greatest (under t (around ls c)) h1 h1 first) more rest 256 low in
    let room = below (h1 + operands t) rest 256 (begins_within (around ls c) f (h1 + operands t) code) all.3 in
    let z = can_if c ls p q h (mark m (x + 1)) ((o1 ++ mark m m ∷ (o2 ++ o3)) ++ ms) t s under_it here marks all.0 fit in
    let k = z.known in
    let o = z.opening in
    let l = label_at k Then t t (m + 1) h1 in
    let l2 = label_at k Other t t (m + 1) h1 in
    let q2 = q + length (laid c (targets_of (l ∷ ls)) (p + 1) q h1 first).pool in
    let q3 = q2 + length (laid c (targets_of (l2 ∷ ls)) (x + 1) q2 h1 second).pool in
    let mid = mark m m ∷ ((o2 ++ o3) ++ ms) in
    let b = can c first (l ∷ ls) (p + 1) q h1 mid o.next [] (operand t) o.at (o.marks ∙ append_assoc o1 (mark m m ∷ (o2 ++ o3)) ms) all.1 o.fit inner in
    let r = can_ran c first (l ∷ ls) (p + 1) q h1 mid o.next (operand t) o.at (o.marks ∙ append_assoc o1 (mark m m ∷ (o2 ++ o3)) ms) b in
    let tn = can_turn c first k t ls p q h1 m ((o2 ++ o3) ++ ms) o.next b.next o.known z.high o.at r.0 r.1 b.fit in
    let b2 = can c second (l2 ∷ ls) (x + 1) q2 h1 (o3 ++ ms) tn.next [] (operand t) tn.at (tn.marks ∙ append_assoc o2 o3 ms) all.2 tn.fit other in
    let r2 = can_ran c second (l2 ∷ ls) (x + 1) q2 h1 (o3 ++ ms) tn.next (operand t) tn.at (tn.marks ∙ append_assoc o2 o3 ms) b2 in
    let e = can_end c second ls k Other t t (m + 1) (x + 1) q2 h1 (o3 ++ ms) tn.next b2.next under_it z.floor z.taken.stays.within z.high tn.known tn.at r2.0 r2.1 b2.fit refl room z.fit in
    let y = can c code ls (m + 1) q3 (h1 + operands t) ms e.next (operand t ++ under_it) after e.at e.marks all.3 e.fit outer in
    record { next = y.next; runs = run_two c (if_start t) first second code s o.next b.next tn.next b2.next e.next y.next o.is b.runs tn.is b2.runs e.is y.runs; fit = y.fit }
