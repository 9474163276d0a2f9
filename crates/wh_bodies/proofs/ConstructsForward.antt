-- Constructs whose parts are typed open, turn and close.
use Rattle.std.proofs.Common.{◌≡◌, ℕ, ◌+◌, ◌≤◌, List, [], ◌∷◌, ◌++◌, length, Option, None, Result, Ok, Err, Bool, true, false, cond, refl, ap, subst, ◌∙◌, arith, rules}
use Rattle.std.proofs.lemmas.Bool.{le-leb}
use Rattle.wh_model.specs.declared.ValType.{ValType}
use Rattle.wh_model.specs.declared.ValType.TheVariants.{I32}
use Rattle.wh_model.specs.declared.Open.{Open}
use Rattle.wh_model.specs.declared.Open.TheVariants.{Then, Other}
use Rattle.wh_model.specs.Format.{Code, Instr, block_start, loop_start, if_start, else_mark, end_mark, flatten}
use Rattle.wh_model.specs.Validity.{Context, operand, operands, lowered}
use Rattle.wh_model.specs.declared.faults.ValidKind.{ValidKind}
use Rattle.wh_model.specs.declared.faults.ValidKind.TheVariants.{Arity}
use Rattle.wh_bodies.specs.declared.table.BranchEntry.{BranchEntry}
use Rattle.wh_bodies.specs.declared.labels.Label.{Label}
use Rattle.wh_bodies.specs.declared.marks.ConstructEnd.{ConstructEnd}
use Rattle.wh_bodies.specs.BodyFaults.{follow}
use Rattle.wh_bodies.specs.Known.{Known, Fit, take_one, give_all}
use Rattle.wh_bodies.specs.SideTables.{base, laid, nowhere, leads_to}
use Rattle.wh_bodies.specs.Opened.{targets_of}
use Rattle.wh_bodies.specs.CheckSteps.{State, label_over, known_inside, opened, turned, may_end, closed_construct, with_label, noted, step, at_instr, run}
use Rattle.wh_bodies.proofs.Knowing.{Stays, Passes, takes_one}
use Rattle.wh_bodies.proofs.Forward.{can_take_one, can_give_all, can_finish}
use Rattle.wh_bodies.proofs.Ops.{operand_reversed}
use Rattle.wh_bodies.proofs.Places.{mark}
use Rattle.wh_bodies.proofs.Constructs.{Two, finishes, same_known}
use Rattle.wh_bodies.proofs.Running.{At, Ran, label_at, Part, part_ends}
use Rattle.wh_bodies.proofs.Parts.{Entered, enter_block, enter_loop, Chosen, enter_if, Turned, turn_to}

-- one step of a run
pub run_on : (c : Context) (n : ℕ) (i : Instr) (is : List Instr) (s next : State) → step c i s ≡ Ok next → run c n (i ∷ is) s ≡ run c (n + 1) is next
run_on c n i is s next e = ap (λ (x : Result State ValidKind). follow (at_instr n x) (λ next. run c (n + 1) is next)) e

-- ---- opening

can_open : (kind : Open) (t carries : Option ValType) (place : ℕ) (k : Known) (ls : List Label) → length k.types ≤ 256 → opened kind t carries place k ls ≡ Ok (known_inside k, label_over k kind t carries place ∷ ls)
can_open kind t carries place k ls h = rw (le-leb (length k.types) 256 h) refl

-- a construct opens, and nothing lies above its floor
pub record Opening (c : Context) (i : Instr) (k : Known) (l : Label) (ls : List Label) (p q h1 : ℕ) (ms : List ConstructEnd) (s : State) : Type 0 where
  pub next : State
  pub is : step c i s ≡ Ok next
  pub known : next.known ≡ known_inside k
  pub at : At next (l ∷ ls) (p + 1) q h1
  pub marks : next.marks ≡ ms
  pub fit : Fit next.known []

opening : (c : Context) (i : Instr) (k : Known) (l : Label) (ls : List Label) (p q h1 : ℕ) (e : BranchEntry) (ms : List ConstructEnd) (s n : State) → step c i s ≡ Ok n → Entered c [] k l ls p q h1 e ms s n → Opening c i k l ls p q h1 ms s
opening c i k l ls p q h1 e ms s n is en = search rules

pub can_block : (c : Context) (ls : List Label) (p q h : ℕ) (m : ConstructEnd) (ms : List ConstructEnd) (t : Option ValType) (s : State) → At s ls p q h → s.marks ≡ m ∷ ms → h ≤ 256 → Opening c (block_start t) s.known (label_at s.known Other t t (m.end + 1) h) ls p q h ms s
can_block c ls p q h m ms t s here marks small =
    let two : Two = (known_inside s.known, label_over s.known Other t t (m.end + 1) ∷ s.labels) in
    let n : State = noted (with_label s ms two (leads_to m.end)) in
    let a = here.height in
    let is : step c (block_start t) s ≡ Ok n = search (rules, can_open) in
    opening c (block_start t) s.known (label_at s.known Other t t (m.end + 1) h) ls p q h (leads_to m.end) ms s n is (enter_block c [] ls p q h 0 m ms t s n here marks (run_on c 0 (block_start t) [] s n is))

pub can_loop : (c : Context) (ls : List Label) (p q h : ℕ) (m : ConstructEnd) (ms : List ConstructEnd) (t : Option ValType) (s : State) → At s ls p q h → s.marks ≡ m ∷ ms → h ≤ 256 → Opening c (loop_start t) s.known (label_at s.known Other t None p h) ls p q h ms s
can_loop c ls p q h m ms t s here marks small =
    let two : Two = (known_inside s.known, label_over s.known Other t None (length s.entries) ∷ s.labels) in
    let n : State = noted (with_label s ms two (leads_to m.end)) in
    let a = here.height in
    let is : step c (loop_start t) s ≡ Ok n = search (rules, can_open) in
    opening c (loop_start t) s.known (label_at s.known Other t None p h) ls p q h (leads_to m.end) ms s n is (enter_loop c [] ls p q h 0 m ms t s n here marks (run_on c 0 (loop_start t) [] s n is))

-- an if takes its condition
pub record Choosing (c : Context) (t : Option ValType) (m : ConstructEnd) (ls : List Label) (p q h : ℕ) (ms : List ConstructEnd) (s : State) (below : List ValType) : Type 0 where
  pub known : Known
  pub taken : Passes s.known known (I32 ∷ []) []
  pub floor : known.floor ≡ base (targets_of ls)
  pub high : length known.types ≡ lowered (base (targets_of ls)) h 1
  pub fit : Fit known below
  pub opening : Opening c (if_start t) known (label_at known Then t t (m.end + 1) (lowered (base (targets_of ls)) h 1)) ls p q (lowered (base (targets_of ls)) h 1) ms s

choosing : (c : Context) (t : Option ValType) (m : ConstructEnd) (ls : List Label) (p q h : ℕ) (ms : List ConstructEnd) (s n : State) (below : List ValType) (k : Known) → step c (if_start t) s ≡ Ok n → take_one s.known I32 ≡ Ok k → Fit k below → Chosen c [] t m ls p q h ms s n → Choosing c t m ls p q h ms s below
choosing c t m ls p q h ms s n below k is taken fit z = search rules

pub can_if : (c : Context) (ls : List Label) (p q h : ℕ) (m : ConstructEnd) (ms : List ConstructEnd) (t : Option ValType) (s : State) (below : List ValType) → At s ls p q h → s.marks ≡ m ∷ ms → h ≤ 256 → Fit s.known (I32 ∷ below) → Choosing c t m ls p q h ms s below
can_if c ls p q h m ms t s below here marks small fit =
    let g = can_take_one s.known I32 below fit in
    let k : Known = g.0 in
    let two : Two = (known_inside k, label_over k Then t t (m.end + 1) ∷ s.labels) in
    let n : State = noted (with_label s ms two (leads_to m.other)) in
    let a = here.height in
    let low : length k.types ≤ 256 = (takes_one s.known k I32 here.within g.1).stays.small (omega arith) in
    let is : step c (if_start t) s ≡ Ok n = search (rules, can_open) in
    choosing c t m ls p q h ms s n below k is g.1 g.2 (enter_if c [] ls p q h 0 m ms t s n here marks (run_on c 0 (if_start t) [] s n is))

-- ---- closing

-- a construct closes, and its result lies above what fitted beneath it
pub record Closing (c : Context) (ls : List Label) (p q h : ℕ) (ms : List ConstructEnd) (s : State) (after : List ValType) : Type 0 where
  pub next : State
  pub is : step c end_mark s ≡ Ok next
  pub at : At next ls p q h
  pub marks : next.marks ≡ ms
  pub fit : Fit next.known after

can_close : (k b : Known) (l : Label) (ls : List Label) (below : List ValType) → k.floor ≤ length k.types → l.outer_floor ≡ k.floor → l.outer_dead ≡ k.dead → Stays (known_inside k) b → Fit b (operand l.result) → may_end l.kind l.result ≡ true → length k.types + operands l.result ≤ 256 → Fit k below → (new : Known) × (closed_construct b (l ∷ ls) ≡ Ok (new, ls)) × Fit new (operand l.result ++ below)
can_close k b l ls below w floor dead st fit may room under_it =
    let f = can_finish b l.result st.within fit in
    let left : Known = f.0 in
    let outer : Known = record left { floor = l.outer_floor; dead = l.outer_dead } in
    let back : outer ≡ k = same_known outer k (finishes k b left l.result st f.1).types floor dead in
    let g = can_give_all k (operand l.result) below w room under_it in (
      g.0,
      ap (λ (x : Result Known ValidKind). follow {B = Two} x (λ left. cond (may_end l.kind l.result) (follow {B = Two} (give_all (record left { floor = l.outer_floor; dead = l.outer_dead }) (operand l.result)) (λ new. Ok (new, ls))) (Err Arity))) f.1
          ∙ ap (λ (x : Bool). cond {A = Result Two ValidKind} x (follow {B = Two} (give_all outer (operand l.result)) (λ new. Ok (new, ls))) (Err Arity)) may
          ∙ ap (λ (x : Known). follow {B = Two} (give_all x (operand l.result)) (λ new. Ok (new, ls))) back
          ∙ ap (λ (x : Result Known ValidKind). follow {B = Two} x (λ new. Ok (new, ls))) g.1,
      subst (λ xs. Fit g.0 (xs ++ below)) (operand_reversed l.result) g.2,
    )

closing : (c : Context) (body : Code) (ls : List Label) (l : Label) (p q h1 : ℕ) (t : Option ValType) (k : Known) (ms : List ConstructEnd) (s b n : State) (after : List ValType) → step c end_mark b ≡ Ok n → Fit n.known after → Part c body [] ls l p q h1 t k ms s n → Closing c ls (p + length (flatten body) + 1) (q + length (laid c (targets_of (l ∷ ls)) p q h1 body).pool) (h1 + operands t) ms b after
closing c body ls l p q h1 t k ms s b n after is fit part = search rules

pub can_end : (c : Context) (body : Code) (ls : List Label) (k : Known) (kind : Open) (t carries : Option ValType) (place p q h1 : ℕ) (ms : List ConstructEnd) (s b : State) (below : List ValType)
    → k.floor ≡ base (targets_of ls) → k.floor ≤ length k.types → length k.types ≡ h1 → s.known ≡ known_inside k → At s (label_at k kind t carries place h1 ∷ ls) p q h1 → Ran c body (label_at k kind t carries place h1 ∷ ls) p q h1 s b → b.marks ≡ ms → Fit b.known (operand t) → may_end kind t ≡ true → h1 + operands t ≤ 256 → Fit k below
    → Closing c ls (p + length (flatten body) + 1) (q + length (laid c (targets_of (label_at k kind t carries place h1 ∷ ls)) p q h1 body).pool) (h1 + operands t) ms b (operand t ++ below)
can_end c body ls k kind t carries place p q h1 ms s b below floor w high known here r marks fit may room under_it =
    let l = label_at k kind t carries place h1 in
    let stays : Stays (known_inside k) b.known = subst (λ (v : Known). Stays v b.known) known r.stays in
    let x = can_close k b.known l ls below w refl refl stays fit may (omega arith) under_it in
    let two : Two = (x.0, ls) in
    let n : State = noted (with_label b b.marks two nowhere) in
    let is : step c end_mark b ≡ Ok n = search rules in
    closing c body ls l p q h1 t k ms s b n (operand t ++ below) is x.2 (part_ends c body [] ls k kind t carries place p q h1 0 ms s b n floor w high known here r marks (run_on c 0 end_mark [] b n is))

-- ---- turning

pub record Turning (c : Context) (k : Known) (l : Label) (ls : List Label) (p q low : ℕ) (ms : List ConstructEnd) (s : State) : Type 0 where
  pub next : State
  pub is : step c else_mark s ≡ Ok next
  pub known : next.known ≡ known_inside k
  pub at : At next (l ∷ ls) p q low
  pub marks : next.marks ≡ ms
  pub fit : Fit next.known []

turning : (c : Context) (first : Code) (k : Known) (t : Option ValType) (ls : List Label) (p q low m : ℕ) (ms : List ConstructEnd) (s b n : State) → step c else_mark b ≡ Ok n → Turned c first [] k t ls p q low m ms s n → Turning c k (label_at k Other t t (m + 1) low) ls (p + 1 + length (flatten first) + 1) (q + length (laid c (targets_of (label_at k Then t t (m + 1) low ∷ ls)) (p + 1) q low first).pool) low ms b
turning c first k t ls p q low m ms s b n is tn = search rules

pub can_turn : (c : Context) (first : Code) (k : Known) (t : Option ValType) (ls : List Label) (p q low m : ℕ) (ms : List ConstructEnd) (s b : State) → s.known ≡ known_inside k → length k.types ≡ low → At s (label_at k Then t t (m + 1) low ∷ ls) (p + 1) q low → Ran c first (label_at k Then t t (m + 1) low ∷ ls) (p + 1) q low s b → b.marks ≡ mark m m ∷ ms → Fit b.known (operand t)
    → Turning c k (label_at k Other t t (m + 1) low) ls (p + 1 + length (flatten first) + 1) (q + length (laid c (targets_of (label_at k Then t t (m + 1) low ∷ ls)) (p + 1) q low first).pool) low ms b
can_turn c first k t ls p q low m ms s b known high at r marks fit =
    let l = label_at k Then t t (m + 1) low in
    let stays : Stays (known_inside k) b.known = subst (λ (v : Known). Stays v b.known) known r.stays in
    let f = can_finish b.known t stays.within fit in
    let two : Two = (record f.0 { dead = false }, record l { kind = Other } ∷ ls) in
    let turned_ok : turned b.known (l ∷ ls) ≡ Ok two = ap (λ (x : Result Known ValidKind). follow {B = Two} x (λ left. Ok (record left { dead = false }, record l { kind = Other } ∷ ls))) f.1 in
    let n : State = noted (with_label b ms two (leads_to m)) in
    let is : step c else_mark b ≡ Ok n = search rules in
    turning c first k t ls p q low m ms s b n is (turn_to c first [] k t ls p q low m 0 ms s b n known high at r marks (run_on c 0 else_mark [] b n is))
