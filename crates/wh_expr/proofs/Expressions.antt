-- Reading an expression.
use Rattle.std.proofs.Common.{◌≡◌, ℕ, zero, suc, ◌+◌, ◌-◌, ◌<◌, ◌≤◌, List, [], ◌∷◌, ◌++◌, length, drop, Result, Ok, Err, Option, Some, None, refl, sym, ap, subst, ◌∙◌, append_assoc, inl, inr, ◌⊎◌, arith, length-append, length-drop}
use Rattle.std.proofs.lemmas.List.{append-nil}
use Rattle.wh_model.specs.declared.faults.FaultKind.{FaultKind}
use Rattle.wh_model.specs.declared.faults.FaultKind.TheVariants.{Limit}
use Rattle.wh_model.specs.declared.faults.DecodeError.{DecodeError}
use Rattle.wh_model.specs.declared.Open.{Open}
use Rattle.wh_model.specs.Format.{HeadBreaks, Each, Code, nothing, Instr, end_mark, flatten, expression, depth, most_nested, FewInstructions, instr, next_instr, NextBreaks, Front, in_body, expr}
use Rattle.wh_model.specs.Focus.{nested}
use Rattle.wh_model.proofs.Nesting.{nested-expression}
use Rattle.wh_leb.specs.Reading.{◌>>=◌, ReadsBy, Anything, head_of, with_front}
use Rattle.wh_leb.proofs.Combinators.{bind_ok, bind_err, ok_is, succeed, fails_at, after, inside, head_fault, head_stops, with_front-with_front, with_front-nil}
use Rattle.wh_expr.specs.ReadingCode.{instr_at, after_instr, goes_on, code_from, most_from, code_at}
use Rattle.wh_expr.proofs.Fronts.{Passes, front_more, front_last, passes_flatten, front_passes}
use Rattle.wh_expr.proofs.Next.{reads_next, next_within, next_again, instr_long, each_long}

-- how the rest was read
goes_ok : (o : Option (List Open)) (i : Instr) (at : ℕ) (rest : List Open → Result (List Instr × ℕ) DecodeError) (is : List Instr) (next : ℕ) → goes_on o i at rest ≡ Ok (is, next)
    → ((o ≡ None) × (is ≡ i ∷ []) × (next ≡ at)) ⊎ ((stack : List Open) × (more : List Instr) × (o ≡ Some stack) × (rest stack ≡ Ok (more, next)) × (is ≡ i ∷ more))
goes_ok None i at rest is next e = let q = ok_is (i ∷ [], at) (is, next) e in inl (refl, sym (ap (λ (z : List Instr × ℕ). z.0) q), sym (ap (λ (z : List Instr × ℕ). z.1) q))
goes_ok (Some stack) i at rest is next e =
    let p = bind_ok (rest stack) (λ r. Ok (i ∷ r.0, r.1)) (is, next) e in
    let q = ok_is (i ∷ p.0.0, p.0.1) (is, next) p.2 in
    inr (stack, p.0.0, refl, p.1 ∙ ap (λ (z : List Instr × ℕ). succeed (p.0.0, z.1)) q, sym (ap (λ (z : List Instr × ℕ). z.0) q))

goes_err : (o : Option (List Open)) (i : Instr) (at : ℕ) (rest : List Open → Result (List Instr × ℕ) DecodeError) (d : DecodeError) → goes_on o i at rest ≡ Err d → (stack : List Open) × (o ≡ Some stack) × (rest stack ≡ Err d)
goes_err None i at rest d e = absurd cc
goes_err (Some stack) i at rest d e = elim (bind_err (rest stack) (λ r. Ok (i ∷ r.0, r.1)) d e) [
  | inl h ↦ (stack, refl, h)
  | inr p ↦ absurd cc
]

no_more : (b : List ℕ) (at : ℕ) (x : List Instr × ℕ) → head_of (λ _. Err Limit) b at ≡ Ok x → ⊥
no_more [] at x e = cc
no_more (n ∷ b) at x e = cc

regroup : (front : List Instr) (i : Instr) (more : List Instr) → (front ++ i ∷ []) ++ more ≡ front ++ i ∷ more
regroup front i more = append_assoc front (i ∷ []) more

-- ---- what is found

pub code_found : (n : ℕ) (stack : List Open) (front : List Instr) (b : List ℕ) (at : ℕ) (is : List Instr) (next : ℕ) → Front front stack → at ≤ length b → code_from n stack b at ≡ Ok (is, next)
    → (t : List ℕ) × (drop at b ≡ t ++ drop next b) × (next ≡ at + length t) × Each instr.within is t × (length is ≤ n) × (c : Code) × (front ++ is ≡ expression c) × (depth c ≤ most_nested)
unfolding code_from
code_found zero stack front b at is next f le e = absurd (no_more (drop at b) at (is, next) e)
code_found (suc n) stack front b at is next f le e =
    let p = bind_ok (instr_at stack b at) (λ i. goes_on (after_instr stack i.0) i.0 i.1 (λ inner. code_from n inner b i.1)) (is, next) e in
    let i = p.0.0 in
    let mid = p.0.1 in
    let one = (reads_next stack).found b at i mid le p.1 in
    let le2 = inside b at mid one.0 (drop mid b) le one.1 one.2 in
    let w = next_within stack i one.0 one.3 in
    let G : List Instr → Type 0 = λ js. (t : List ℕ) × (drop at b ≡ t ++ drop next b) × (next ≡ at + length t) × Each instr.within js t × (length js ≤ suc n) × (c : Code) × (front ++ js ≡ expression c) × (depth c ≤ most_nested) in
    elim (goes_ok (after_instr stack i) i mid (λ inner. code_from n inner b mid) is next p.2) [
      | inl h ↦
          let l = front_last front stack i f h.0 in
          subst G (sym h.1) (one.0, one.1 ∙ ap (λ (k : ℕ). one.0 ++ drop k b) (sym h.2), h.2 ∙ one.2, (one.0, [], sym (append-nil one.0), w.0, refl), omega arith, l.0, l.1, l.2)
      | inr h ↦
          let r = code_found n h.0 (front ++ i ∷ []) b mid h.1 next (front_more front stack h.0 i f w.1 h.2) le2 h.3 in
          subst G (sym h.4) (
            one.0 ++ r.0,
            one.1 ∙ ap (λ (u : List ℕ). one.0 ++ u) r.1 ∙ sym (append_assoc one.0 r.0 (drop next b)),
            omega (arith, one.2, r.2, length-append one.0 r.0),
            (one.0, r.0, refl, w.0, r.3),
            omega (arith, r.4),
            r.5,
            sym (regroup front i h.1) ∙ r.6,
            r.7,
          )
    ]

few_from : (most : Option ℕ) (b : List ℕ) (at n : ℕ) → n ≤ most_from most b at → FewInstructions most n
few_from (Some most) b at n le = le
few_from None b at n le = tt

-- ---- what is read through

-- instructions that may come one after the other are read so
code_reads : (n : ℕ) (stack : List Open) (b : List ℕ) (at : ℕ) (is : List Instr) (inner : List Open) (t u : List ℕ) → Passes stack is inner → length is ≤ n → at ≤ length b → drop at b ≡ t ++ u → Each instr.within is t
    → code_from n stack b at ≡ with_front is (code_from (n - length is) inner b (at + length t))
unfolding code_from
code_reads n stack b at [] inner t u p few le e w =
    let same : code_from n stack b at ≡ code_from (n - 0) inner b (at + length t) = (let count : n ≡ n - 0 = omega arith in let place : at ≡ at + length t = omega (arith, ap length w) in
    ap (λ (k : ℕ). code_from k stack b at) count ∙ ap (λ (s : List Open). code_from (n - 0) s b at) p ∙ ap (λ (k : ℕ). code_from (n - 0) inner b k) place) in
    same ∙ sym (with_front-nil (code_from (n - 0) inner b (at + length t)))
code_reads zero stack b at (i ∷ is) inner t u p few le e w = absurd (omega arith)
code_reads (suc n) stack b at (i ∷ is) inner t u p few le e w =
    let parts : drop at b ≡ w.0 ++ (w.1 ++ u) = e ∙ ap (λ (r : List ℕ). r ++ u) w.2 ∙ append_assoc w.0 w.1 u in
    let one = (reads_next stack).only b at i w.0 (w.1 ++ u) le parts tt (next_again stack i w.0 w.3 p.0) in
    let mid = at + length w.0 in
    let le2 = inside b at mid w.0 (w.1 ++ u) le parts refl in
    let rest = code_reads n p.1 b mid is inner w.1 u p.3 (omega arith) le2 (after b at w.0 (w.1 ++ u) parts) w.4 in
    let last = code_from (n - length is) inner b (mid + length w.1) in
    let count : n - length is ≡ suc n - length (i ∷ is) = omega arith in
    let place : mid + length w.1 ≡ at + length t = omega (arith, length-append w.0 w.1, ap length w.2) in
    ap (λ r. r >>= λ j. goes_on (after_instr stack j.0) j.0 j.1 (λ next. code_from n next b j.1)) one
    ∙ ap (λ o. goes_on o i mid (λ next. code_from n next b mid)) p.2
    ∙ ap (with_front (i ∷ [])) rest ∙ with_front-with_front (i ∷ []) is last
    ∙ ap (λ (k : ℕ). with_front (i ∷ is) (code_from k inner b (mid + length w.1))) count
    ∙ ap (λ (k : ℕ). with_front (i ∷ is) (code_from (suc n - length (i ∷ is)) inner b k)) place

each_split : (is js : List Instr) (b : List ℕ) → Each instr.within (is ++ js) b → (t u : List ℕ) × (b ≡ t ++ u) × Each instr.within is t × Each instr.within js u
each_split [] js b w = ([], b, refl, refl, w)
each_split (i ∷ is) js b w =
    let r = each_split is js w.1 w.4 in
    (w.0 ++ r.0, r.1, w.2 ∙ ap (λ (v : List ℕ). w.0 ++ v) r.2 ∙ sym (append_assoc w.0 r.0 r.1), (w.0, r.0, refl, w.3, r.3), r.4)

-- the end, where one more instruction may be read
end_read : (n : ℕ) (b : List ℕ) (at : ℕ) (t u : List ℕ) → 0 < n → at ≤ length b → drop at b ≡ t ++ u → instr.within end_mark t → code_from n [] b at ≡ Ok (end_mark ∷ [], at + length t)
unfolding code_from
end_read zero b at t u some le e w = absurd (omega arith)
end_read (suc n) b at t u some le e w =
    ap (λ r. r >>= λ j. goes_on (after_instr [] j.0) j.0 j.1 (λ next. code_from n next b j.1)) ((reads_next []).only b at end_mark t u le e tt (next_again [] end_mark t w tt))

enough : (most : Option ℕ) (b : List ℕ) (at count : ℕ) (t u : List ℕ) → FewInstructions most count → drop at b ≡ t ++ u → count ≤ length t → count ≤ most_from most b at
enough (Some most) b at count t u few e long = few
enough None b at count t u few e long = omega (arith, length-drop at b, length-append t u, ap length e)

code_only : (most : Option ℕ) (b : List ℕ) (at : ℕ) (c : Code) (t u : List ℕ) → at ≤ length b → drop at b ≡ t ++ u → Each instr.within (expression c) t → FewInstructions most (length (expression c)) → depth c ≤ most_nested
    → code_from (most_from most b at) [] b at ≡ Ok (expression c, at + length t)
code_only most b at c t u le e w few deep =
    let n = most_from most b at in
    let s = each_split (flatten c) (end_mark ∷ []) t w in
    let last = s.4 in
    let only_end : s.1 ≡ last.0 = last.2 ∙ ap (λ (v : List ℕ). last.0 ++ v) last.4 ∙ append-nil last.0 in
    let parts : drop at b ≡ s.0 ++ (s.1 ++ u) = e ∙ ap (λ (v : List ℕ). v ++ u) s.2 ∙ append_assoc s.0 s.1 u in
    let room = enough most b at (length (expression c)) t u few e (each_long (expression c) t w) in
    let total = length-append (flatten c) (end_mark ∷ []) in
    let through = code_reads n [] b at (flatten c) [] s.0 (s.1 ++ u) (passes_flatten c [] (omega arith)) (omega arith) le parts s.3 in
    let mid = at + length s.0 in
    let le2 = inside b at mid s.0 (s.1 ++ u) le parts refl in
    let rest : drop mid b ≡ last.0 ++ u = after b at s.0 (s.1 ++ u) parts ∙ ap (λ (v : List ℕ). v ++ u) only_end in
    let ends = end_read (n - length (flatten c)) b mid last.0 u (omega arith) le2 rest last.3 in
    let place : mid + length last.0 ≡ at + length t = omega (arith, ap length s.2, length-append s.0 s.1, ap length only_end) in
    through ∙ ap (with_front (flatten c)) ends ∙ ap (λ (k : ℕ). succeed (expression c, k)) place

-- ---- how reading fails

abbrev pub BreaksAt : Option ℕ → List Instr → List Open → List ℕ → FaultKind → ℕ → Type 0
BreaksAt most front stack b kind k = (more : List Instr) × (inner : List Open) × (t u : List ℕ) × (j : ℕ) × (b ≡ t ++ u) × (k ≡ length t + j)
    × Front (front ++ more) inner × Each instr.within more t × NextBreaks most (length (front ++ more)) inner u kind j

-- after n instructions there may come n more
abbrev Left : Option ℕ → ℕ → ℕ → List ℕ → ℕ → Type 0
Left (Some most) count n b at = count + n ≡ most
Left None count n b at = length b - at ≤ n

left_first : (most : Option ℕ) (b : List ℕ) (at : ℕ) → Left most 0 (most_from most b at) b at
left_first (Some most) b at = omega arith
left_first None b at = omega arith

left_next : (most : Option ℕ) (count n : ℕ) (b : List ℕ) (at next : ℕ) → at < next → Left most count (suc n) b at → Left most (count + 1) n b next
left_next (Some most) count n b at next lt left = omega arith
left_next None count n b at next lt left = omega arith

abbrev refused : {A : Type 0} → FaultKind → Result A FaultKind
refused kind = Err kind

kind_is : {A : Type 0} (a b : FaultKind) → refused {A = A} a ≡ refused b → a ≡ b
kind_is a b e = cc

one_too_many : (A B : Type 0) (b : List ℕ) (kind : FaultKind) → HeadBreaks {A = A} (λ _. Err Limit) b kind → HeadBreaks {A = B} (λ _. Err Limit) b kind
one_too_many A B [] kind h = h
one_too_many A B (n ∷ b) kind h = ap (λ (k : FaultKind). refused k) (kind_is {A = A} Limit kind h)

nothing_left : (b : List ℕ) (at : ℕ) → length b - at ≤ 0 → at ≤ length b → (d : List ℕ) → drop at b ≡ d → d ≡ []
nothing_left b at none le [] e = refl
nothing_left b at none le (n ∷ d) e = absurd (omega (arith, length-drop at b, ap length e))

none_left : (stack : List Open) (b : List ℕ) (kind : FaultKind) → b ≡ [] → HeadBreaks {A = List Instr} (λ _. Err Limit) b kind → (next_instr stack).breaks b kind 0
none_left stack [] kind e h = inl (refl, h)
none_left stack (n ∷ b) kind e h = absurd cc

left_none : (most : Option ℕ) (count : ℕ) (stack : List Open) (b : List ℕ) (at : ℕ) (kind : FaultKind) → at ≤ length b → Left most count 0 b at → HeadBreaks {A = List Instr} (λ _. Err Limit) (drop at b) kind → NextBreaks most count stack (drop at b) kind 0
left_none (Some most) count stack b at kind le left h = inr (omega arith, (refl, one_too_many (List Instr) Instr (drop at b) kind h))
left_none None count stack b at kind le left h = none_left stack (drop at b) kind (nothing_left b at left le (drop at b) refl) h

left_some : (most : Option ℕ) (count n : ℕ) (stack : List Open) (b : List ℕ) (at : ℕ) (kind : FaultKind) (k : ℕ) → Left most count (suc n) b at → (next_instr stack).breaks (drop at b) kind k → NextBreaks most count stack (drop at b) kind k
left_some (Some most) count n stack b at kind k left h = inl (omega arith, h)
left_some None count n stack b at kind k left h = h

code_fault : (most : Option ℕ) (n : ℕ) (stack : List Open) (front : List Instr) (b : List ℕ) (at : ℕ) (d : DecodeError) → Front front stack → Left most (length front) n b at → at ≤ length b → code_from n stack b at ≡ Err d
    → (k : ℕ) × (d.offset ≡ at + k) × BreaksAt most front stack (drop at b) d.kind k
unfolding code_from
code_fault most zero stack front b at d f left le e =
    let p = head_fault (λ _. Err Limit) (drop at b) at d e in
    let same : front ++ [] ≡ front = append-nil front in
    (0, omega (arith, p.0), ([], stack, [], drop at b, 0, refl, refl, subst (λ (x : List Instr). Front x stack) (sym same) f, refl, subst (λ (x : List Instr). NextBreaks most (length x) stack (drop at b) d.kind 0) (sym same) (left_none most (length front) stack b at d.kind le left p.1)))
code_fault most (suc n) stack front b at d f left le e = elim (bind_err (instr_at stack b at) (λ i. goes_on (after_instr stack i.0) i.0 i.1 (λ inner. code_from n inner b i.1)) d e) [
  | inl h ↦
      let one = (reads_next stack).fault b at d le h in
      let same : front ++ [] ≡ front = append-nil front in
      (one.0, one.1, ([], stack, [], drop at b, one.0, refl, omega arith, subst (λ (x : List Instr). Front x stack) (sym same) f, refl, subst (λ (x : List Instr). NextBreaks most (length x) stack (drop at b) d.kind one.0) (sym same) (left_some most (length front) n stack b at d.kind one.0 left one.2)))
  | inr p ↦
      let i = p.0.0 in
      let mid = p.0.1 in
      let one = (reads_next stack).found b at i mid le p.1 in
      let le2 = inside b at mid one.0 (drop mid b) le one.1 one.2 in
      let w = next_within stack i one.0 one.3 in
      let g = goes_err (after_instr stack i) i mid (λ inner. code_from n inner b mid) d p.2 in
      let long = instr_long i one.0 w.0 in
      let more : length (front ++ i ∷ []) ≡ length front + 1 = length-append front (i ∷ []) in
      let left2 : Left most (length (front ++ i ∷ [])) n b mid = subst (λ (k : ℕ). Left most k n b mid) (sym more) (left_next most (length front) n b at mid (omega (arith, one.2)) left) in
      let r = code_fault most n g.0 (front ++ i ∷ []) b mid d (front_more front stack g.0 i f w.1 g.1) left2 le2 g.2 in
      let x = r.2 in
      let same = regroup front i x.0 in (
        length one.0 + r.0,
        omega (arith, one.2, r.1),
        (
          i ∷ x.0,
          x.1,
          one.0 ++ x.2,
          x.3,
          x.4,
          one.1 ∙ ap (λ (v : List ℕ). one.0 ++ v) x.5 ∙ sym (append_assoc one.0 x.2 x.3),
          omega (arith, x.6, length-append one.0 x.2),
          subst (λ (v : List Instr). Front v x.1) same x.7,
          (one.0, x.2, refl, w.0, x.8),
          subst (λ (v : List Instr). NextBreaks most (length v) x.1 x.3 d.kind x.4) same x.9,
        ),
      )
]

-- ---- a break is that fault

next_stops : (n : ℕ) (stack : List Open) (b : List ℕ) (at : ℕ) (kind : FaultKind) (k : ℕ) → 0 < n → at ≤ length b → (next_instr stack).breaks (drop at b) kind k → code_from n stack b at ≡ Err (record { kind = kind; offset = at + k })
unfolding code_from
next_stops zero stack b at kind k some le h = absurd (omega arith)
next_stops (suc n) stack b at kind k some le h = ap (λ r. r >>= λ j. goes_on (after_instr stack j.0) j.0 j.1 (λ next. code_from n next b j.1)) ((reads_next stack).stops b at kind k le h)

limit_stops : (n : ℕ) (stack : List Open) (b : List ℕ) (at : ℕ) (kind : FaultKind) → n ≡ 0 → HeadBreaks {A = Instr} (λ _. Err Limit) (drop at b) kind → code_from n stack b at ≡ Err (record { kind = kind; offset = at })
unfolding code_from
limit_stops n stack b at kind none h = ap (λ (k : ℕ). code_from k stack b at) none ∙ head_stops (λ _. Err Limit) (drop at b) at kind (one_too_many Instr (List Instr) (drop at b) kind h)

-- where no byte is left, an instruction breaks as one too many does
empty_breaks : (stack : List Open) (b : List ℕ) (kind : FaultKind) (k : ℕ) → b ≡ [] → (next_instr stack).breaks b kind k → (k ≡ 0) × HeadBreaks {A = Instr} (λ _. Err Limit) b kind
empty_breaks stack [] kind k e (inl h) = h
empty_breaks stack [] kind k e (inr h) = absurd (omega (arith, ap length h.4, length-append h.1 h.2, ap length h.6.1))
empty_breaks stack (n ∷ b) kind k e h = absurd cc

code_stops : (most : Option ℕ) (n : ℕ) (count : ℕ) (stack : List Open) (b : List ℕ) (at : ℕ) (kind : FaultKind) (k : ℕ) → Left most count n b at → at ≤ length b → NextBreaks most count stack (drop at b) kind k → code_from n stack b at ≡ Err (record { kind = kind; offset = at + k })
code_stops (Some most) n count stack b at kind k left le (inl h) = next_stops n stack b at kind k (let lt = h.0 in omega arith) le h.1
code_stops (Some most) n count stack b at kind k left le (inr h) = limit_stops n stack b at kind (let all = h.0 in omega arith) h.1.1 ∙ fails_at kind at (at + k) (omega (arith, h.1.0))
code_stops None zero count stack b at kind k left le h =
    let p = empty_breaks stack (drop at b) kind k (nothing_left b at left le (drop at b) refl) h in
    limit_stops 0 stack b at kind refl p.1 ∙ fails_at kind at (at + k) (omega (arith, p.0))
code_stops None (suc n) count stack b at kind k left le h = next_stops (suc n) stack b at kind k (omega arith) le h

-- a front doesn't use up what may come
left_behind : (most : Option ℕ) (b : List ℕ) (at count : ℕ) (t u : List ℕ) (kind : FaultKind) (stack : List Open) (k : ℕ) → drop at b ≡ t ++ u → count ≤ length t → NextBreaks most count stack u kind k
    → (count ≤ most_from most b at) × Left most count (most_from most b at - count) b (at + length t)
left_behind (Some most) b at count t u kind stack k e long (inl h) = (let lt = h.0 in (omega arith, omega arith))
left_behind (Some most) b at count t u kind stack k e long (inr h) = (let all = h.0 in (omega arith, omega arith))
left_behind None b at count t u kind stack k e long h = (omega (arith, length-drop at b, length-append t u, ap length e), omega arith)

pub reads_expr : (most : Option ℕ) → ReadsBy Anything (expr most) (code_at most)
unfolding code_at
reads_expr most = record {
  found = λ b at c next le e.
      let p = bind_ok (code_from (most_from most b at) [] b at) (λ r. Ok (nested r.0, r.1)) (c, next) e in
      let q = ok_is (nested p.0.0, p.0.1) (c, next) p.2 in
      let f = code_found (most_from most b at) [] [] b at p.0.0 p.0.1 (in_body nothing (omega arith)) le p.1 in
      let code-is : f.5 ≡ c = sym (nested-expression f.5) ∙ ap nested (sym f.6) ∙ ap (λ (z : Code × ℕ). z.0) q in
      let next-is : p.0.1 ≡ next = ap (λ (z : Code × ℕ). z.1) q in
      let listed : p.0.0 ≡ expression c = f.6 ∙ ap expression code-is in (
        f.0,
        f.1 ∙ ap (λ (k : ℕ). f.0 ++ drop k b) next-is,
        sym next-is ∙ f.2,
        (
          subst (λ (is : List Instr). Each instr.within is f.0) listed f.3,
          few_from most b at (length (expression c)) (subst (λ (is : List Instr). length is ≤ most_from most b at) listed f.4),
          subst (λ (x : Code). depth x ≤ most_nested) code-is f.7,
        ),
      );
  only = λ b at c t u le e follows w.
      let one = code_only most b at c t u le e w.0 w.1 w.2 in
      ap (λ r. r >>= λ q. succeed (nested q.0, q.1)) one ∙ ap (λ (x : Code). succeed (x, at + length t)) (nested-expression c);
  ends = λ b at x next le e. tt;
  fault = λ b at d le e. elim (bind_err (code_from (most_from most b at) [] b at) (λ r. Ok (nested r.0, r.1)) d e) [
    | inl h ↦ code_fault most (most_from most b at) [] [] b at d (in_body nothing (omega arith)) (left_first most b at) le h
    | inr p ↦ absurd cc
  ];
  stops = λ b at kind k le w.
      let front = w.0 in
      let long = each_long front w.2 w.8 in
      let left = left_behind most b at (length front) w.2 w.3 kind w.1 w.4 w.5 long w.9 in
      let through = code_reads (most_from most b at) [] b at front w.1 w.2 w.3 (front_passes w.7) left.0 le w.5 w.8 in
      let mid = at + length w.2 in
      let le2 = inside b at mid w.2 w.3 le w.5 refl in
      let brk : NextBreaks most (length front) w.1 (drop mid b) kind w.4 = subst (λ (v : List ℕ). NextBreaks most (length front) w.1 v kind w.4) (sym (after b at w.2 w.3 w.5)) w.9 in
      let stopped = code_stops most (most_from most b at - length front) (length front) w.1 b mid kind w.4 left.1 le2 brk in
      ap (λ r. r >>= λ q. succeed (nested q.0, q.1)) (through ∙ ap (with_front front) stopped) ∙ fails_at {A = Code × ℕ} kind (mid + w.4) (at + k) (omega (arith, w.6));
}

-- what is read is the flat form of its nested form
pub well_nested : (n : ℕ) (b : List ℕ) (at : ℕ) (is : List Instr) (next : ℕ) → at ≤ length b → code_from n [] b at ≡ Ok (is, next) → is ≡ expression (nested is)
well_nested n b at is next le e =
    let f = code_found n [] [] b at is next (in_body nothing (omega arith)) le e in
    f.6 ∙ ap expression (sym (nested-expression f.5) ∙ ap nested (sym f.6))
