-- Reading sections, custom ones among them, and whole modules.
use Rattle.std.proofs.Common.{◌≡◌, ℕ, zero, suc, ◌+◌, ◌-◌, ◌<◌, ◌≤◌, Bool, true, false, cond, List, [], ◌∷◌, ◌++◌, length, drop, Result, Ok, Err, refl, sym, ap, subst, ◌∙◌, append_assoc, inl, inr, ◌⊎◌, arith, length-append, length-drop, ltb, eqb, Decides}
use Rattle.std.proofs.Math.ListN.{drop_of_length-le}
use Rattle.std.proofs.lemmas.List.{append-nil}
use Rattle.std.proofs.lemmas.Bool.{eqb-true, eqb-false, eq-eqb, ne_eqb, both_ways, cases_Bool, cond-true, cond-false, false_from_ne_true}
use Rattle.wh_model.specs.declared.faults.FaultKind.{FaultKind}
use Rattle.wh_model.specs.declared.faults.FaultKind.TheVariants.{UnknownByte, CountMismatch, SectionOrder}
use Rattle.wh_model.specs.Format.Grammar.{Grammar, ◌>>=◌ as ◌then◌}
use Rattle.wh_model.specs.Format.{this_byte, exact_byte, Each, exactly, exactly_from, u32, Module, BeginsWith, custom, customs_then, section, section_or, part, EndBreaks, ends_with, name}
use Rattle.wh_model.specs.declared.faults.DecodeError.{DecodeError}
use Rattle.wh_leb.specs.Reading.{◌>>=◌, fail, ReadsBy, Reader, Anything}
use Rattle.wh_leb.proofs.Combinators.{bind_ok, bind_err, ok_is, err_is, succeed, fails_at, chosen, after, inside, reads_then}
use Rattle.wh_decode.specs.ReadingModule.{custom_at, begins_with, skip_from, skip_at, contents_at, present, section_at, part_at, put_or, end_of}
use Rattle.wh_decode.proofs.Productions.{reads_custom, reads_contents}

-- ---- custom sections

abbrev pub AtEnd : List ℕ → Type 0
AtEnd u = u ≡ []

begins_true : (n : ℕ) (b : List ℕ) → begins_with n b ≡ true → BeginsWith n b
begins_true n [] e = absurd cc
begins_true n (m ∷ b) e = eqb-true m n e

begins_false : (n : ℕ) (b : List ℕ) → begins_with n b ≡ false → BeginsWith n b → ⊥
begins_false n [] e h = h
begins_false n (m ∷ b) e h = eqb-false m n e h

begins_again : (n : ℕ) (b : List ℕ) → BeginsWith n b → begins_with n b ≡ true
begins_again n [] h = absurd h
begins_again n (m ∷ b) h = eq-eqb m n h

begins_not : (n : ℕ) (b : List ℕ) → (BeginsWith n b → ⊥) → begins_with n b ≡ false
begins_not n [] h = refl
begins_not n (m ∷ b) h = ne_eqb m n h

byte_is : (kind : FaultKind) (c n : ℕ) (x : Unit {0}) → exact_byte kind c n ≡ Ok x → n ≡ c
byte_is kind c n x e = elim (chosen (eqb n c) (Ok tt) (Err kind) (Ok x) e) [
  | inl h ↦ eqb-true n c h.0
  | inr h ↦ absurd cc
]

-- what begins with this byte
begins_this : {A : Type 0} (kind : FaultKind) (c : ℕ) (g : Unit {0} → Grammar A) (y : A) (b : List ℕ) → ((this_byte kind c) then g).within y b → BeginsWith c b
begins_this kind c g y b w =
    let front : b ≡ w.4.0 ∷ w.2 = w.3 ∙ ap (λ (t : List ℕ). t ++ w.2) w.4.1 in
    subst (λ (v : List ℕ). BeginsWith c v) (sym front) (byte_is kind c w.4.0 w.0 w.4.2)

begins_front : (n : ℕ) (t u : List ℕ) → BeginsWith n t → BeginsWith n (t ++ u)
begins_front n [] u h = absurd h
begins_front n (m ∷ t) u h = h

pub begins_some : (n : ℕ) (t : List ℕ) → BeginsWith n t → 0 < length t
begins_some n [] h = absurd h
begins_some n (m ∷ t) h = omega arith

pub custom_begins : (x : List ℕ) (t : List ℕ) → custom.within x t → BeginsWith 0 t
custom_begins x t w = begins_this UnknownByte 0 (λ _. u32 then λ size. exactly_from size name) x t w

skip_found : (n : ℕ) (b : List ℕ) (at c : ℕ) → at ≤ length b → skip_from n b at ≡ Ok c
    → (names : List (List ℕ)) × (t : List ℕ) × (drop at b ≡ t ++ drop c b) × (c ≡ at + length t) × Each custom.within names t × (length b - at ≤ n → BeginsWith 0 (drop c b) → ⊥)
unfolding skip_from
skip_found zero b at c le e =
    let p : at ≡ c = cc in
    ([], [], ap (λ (k : ℕ). drop k b) p, omega arith, refl, λ few h. (let none : drop at b ≡ [] = drop_of_length-le b (omega arith) in subst (λ (v : List ℕ). BeginsWith 0 v) (ap (λ (k : ℕ). drop k b) (sym p) ∙ none) h))
skip_found (suc n) b at c le e = elim (chosen (begins_with 0 (drop at b)) (custom_at b at >>= λ item. skip_from n b item.1) (Ok at) (Ok c) e) [
  | inl h ↦
      let p = bind_ok (custom_at b at) (λ item. skip_from n b item.1) c h.1 in
      let one = reads_custom.found b at p.0.0 p.0.1 le p.1 in
      let le2 = inside b at p.0.1 one.0 (drop p.0.1 b) le one.1 one.2 in
      let some = begins_some 0 one.0 (custom_begins p.0.0 one.0 one.3) in
      let r = skip_found n b p.0.1 c le2 p.2 in
      (p.0.0 ∷ r.0, one.0 ++ r.1, one.1 ∙ ap (λ (u : List ℕ). one.0 ++ u) r.2 ∙ sym (append_assoc one.0 r.1 (drop c b)), omega (arith, one.2, r.3, length-append one.0 r.1), (one.0, r.1, refl, one.3, r.4), λ few. r.5 (omega (arith, one.2)))
  | inr h ↦
      let p : at ≡ c = cc (h.1) in
      ([], [], ap (λ (k : ℕ). drop k b) p, omega arith, refl, λ few m. begins_false 0 (drop at b) h.0 (subst (λ (k : ℕ). BeginsWith 0 (drop k b)) (sym p) m))
]

skip_fault : (n : ℕ) (b : List ℕ) (at : ℕ) (d : DecodeError) → at ≤ length b → skip_from n b at ≡ Err d
    → (names : List (List ℕ)) × (t u : List ℕ) × (j : ℕ) × (drop at b ≡ t ++ u) × (d.offset ≡ at + (length t + j)) × Each custom.within names t × BeginsWith 0 u × custom.breaks u d.kind j
unfolding skip_from
skip_fault zero b at d le e = absurd cc
skip_fault (suc n) b at d le e = elim (chosen (begins_with 0 (drop at b)) (custom_at b at >>= λ item. skip_from n b item.1) (Ok at) (Err d) e) [
  | inl h ↦ elim (bind_err (custom_at b at) (λ item. skip_from n b item.1) d h.1) [
    | inl k ↦
        let one = reads_custom.fault b at d le k in
        ([], [], drop at b, one.0, refl, omega (arith, one.1), refl, begins_true 0 (drop at b) h.0, one.2)
    | inr p ↦
        let one = reads_custom.found b at p.0.0 p.0.1 le p.1 in
        let le2 = inside b at p.0.1 one.0 (drop p.0.1 b) le one.1 one.2 in
        let r = skip_fault n b p.0.1 d le2 p.2 in
        (p.0.0 ∷ r.0, one.0 ++ r.1, r.2, r.3, one.1 ∙ ap (λ (u : List ℕ). one.0 ++ u) r.4 ∙ sym (append_assoc one.0 r.1 r.2), omega (arith, one.2, r.5, length-append one.0 r.1), (one.0, r.1, refl, one.3, r.6), r.7, r.8)
  ]
  | inr h ↦ absurd cc
]

-- custom sections are skipped, and then it goes on as from behind them
skip_reads : (n : ℕ) (b : List ℕ) (at : ℕ) (names : List (List ℕ)) (t u : List ℕ) → at ≤ length b → drop at b ≡ t ++ u → Each custom.within names t → length t ≤ n → (m : ℕ) × (n ≤ m + length t) × (skip_from n b at ≡ skip_from m b (at + length t))
unfolding skip_from
skip_reads n b at [] t u le e w few = (n, omega arith, ap (λ (k : ℕ). skip_from n b k) (omega (arith, ap length w)))
skip_reads zero b at (x ∷ xs) t u le e w few = (let some = begins_some 0 w.0 (custom_begins x w.0 w.3) in absurd (omega (arith, length-append w.0 w.1, ap length w.2)))
skip_reads (suc n) b at (x ∷ xs) t u le e w few =
    let parts : drop at b ≡ w.0 ++ (w.1 ++ u) = e ∙ ap (λ (r : List ℕ). r ++ u) w.2 ∙ append_assoc w.0 w.1 u in
    let head = custom_begins x w.0 w.3 in
    let more : begins_with 0 (drop at b) ≡ true = begins_again 0 (drop at b) (subst (λ (v : List ℕ). BeginsWith 0 v) (sym parts) (begins_front 0 w.0 (w.1 ++ u) head)) in
    let one = reads_custom.only b at x w.0 (w.1 ++ u) le parts tt w.3 in
    let le2 = inside b at (at + length w.0) w.0 (w.1 ++ u) le parts refl in
    let some = begins_some 0 w.0 head in
    let long : at + length w.0 + length w.1 ≡ at + length t = omega (arith, length-append w.0 w.1, ap length w.2) in
    let total : length t ≡ length w.0 + length w.1 = omega (arith, length-append w.0 w.1, ap length w.2) in
    let rest = skip_reads n b (at + length w.0) xs w.1 u le2 (after b at w.0 (w.1 ++ u) parts) w.4 (omega arith) in
    (rest.0, (let few2 = rest.1 in omega arith), cond-true (begins_with 0 (drop at b)) _ (Ok at) more ∙ ap (λ r. r >>= λ item. skip_from n b item.1) one ∙ rest.2 ∙ ap (λ (k : ℕ). skip_from rest.0 b k) long)

skip_ends : (n : ℕ) (b : List ℕ) (at : ℕ) → (BeginsWith 0 (drop at b) → ⊥) → skip_from n b at ≡ Ok at
unfolding skip_from
skip_ends zero b at none = refl
skip_ends (suc n) b at none = cond-false (begins_with 0 (drop at b)) _ (Ok at) (begins_not 0 (drop at b) none)

skip_stops : (n : ℕ) (b : List ℕ) (at : ℕ) (kind : FaultKind) (k : ℕ) → at ≤ length b → length b - at ≤ n → BeginsWith 0 (drop at b) → custom.breaks (drop at b) kind k → skip_from n b at ≡ Err (record { kind = kind; offset = at + k })
unfolding skip_from
skip_stops zero b at kind k le few begun w = (let none : drop at b ≡ [] = drop_of_length-le b (omega arith) in absurd (subst (λ (v : List ℕ). BeginsWith 0 v) none begun))
skip_stops (suc n) b at kind k le few begun w = cond-true (begins_with 0 (drop at b)) _ (Ok at) (begins_again 0 (drop at b) begun) ∙ ap (λ r. r >>= λ item. skip_from n b item.1) (reads_custom.stops b at kind k le w)

skip_only : (b : List ℕ) (at : ℕ) (names : List (List ℕ)) (t u : List ℕ) → at ≤ length b → drop at b ≡ t ++ u → Each custom.within names t → (BeginsWith 0 u → ⊥) → skip_from (length b - at) b at ≡ Ok (at + length t)
skip_only b at names t u le e w none =
    let r = skip_reads (length b - at) b at names t u le e w (omega (arith, length-drop at b, ap length e, length-append t u)) in
    r.2 ∙ skip_ends r.0 b (at + length t) (λ h. none (subst (λ (v : List ℕ). BeginsWith 0 v) (after b at t u e) h))

-- the custom sections that what is behind begins with are custom sections
abbrev pub Drops : {A : Type 0} → Grammar A → Type 0
Drops {A} g = (y : A) (b : List ℕ) → g.within y b → (names : List (List ℕ)) × (t u : List ℕ) × (b ≡ t ++ u) × Each custom.within names t × g.within y u × (BeginsWith 0 u → ⊥)

each_append : (xs ys : List (List ℕ)) (t u : List ℕ) → Each custom.within xs t → Each custom.within ys u → Each custom.within (xs ++ ys) (t ++ u)
each_append [] ys t u p q = subst (λ (v : List ℕ). Each custom.within ys (v ++ u)) (sym p) q
each_append (x ∷ xs) ys t u p q = (p.0, p.1 ++ u, ap (λ (v : List ℕ). v ++ u) p.2 ∙ append_assoc p.0 p.1 u, p.3, each_append xs ys p.1 u p.4 q)

reads_customs : {A : Type 0} (g : Grammar A) (read : Reader A) → Drops g → ReadsBy AtEnd g read → ReadsBy AtEnd (customs_then g) (λ b at. skip_at b at >>= λ c. read b c)
unfolding skip_at
reads_customs {A} g read drops r = record {
  found = λ b at x next le e.
      let p = bind_ok (skip_from (length b - at) b at) (λ c. read b c) (x, next) e in
      let s = skip_found (length b - at) b at p.0 le p.1 in
      let le2 = inside b at p.0 s.1 (drop p.0 b) le s.2 s.3 in
      let f = r.found b p.0 x next le2 p.2 in
      (s.1 ++ f.0, s.2 ∙ ap (λ (u : List ℕ). s.1 ++ u) f.1 ∙ sym (append_assoc s.1 f.0 (drop next b)), omega (arith, s.3, f.2, length-append s.1 f.0), (s.0, s.1, f.0, refl, s.4, f.3));
  only = λ b at x t u le e follows w.
      let d = drops x w.2 w.5 in
      let customs = w.1 ++ d.1 in
      let parts : drop at b ≡ customs ++ (d.2 ++ u) = e ∙ ap (λ (v : List ℕ). v ++ u) (w.3 ∙ ap (λ (v : List ℕ). w.1 ++ v) d.3 ∙ sym (append_assoc w.1 d.1 d.2)) ∙ append_assoc customs d.2 u in
      let none : BeginsWith 0 (d.2 ++ u) → ⊥ = (λ h. d.6 (subst (λ (v : List ℕ). BeginsWith 0 v) (ap (λ (v : List ℕ). d.2 ++ v) follows ∙ append-nil d.2) h)) in
      let one = skip_only b at (w.0 ++ d.0) customs (d.2 ++ u) le parts (each_append w.0 d.0 w.1 d.1 w.4 d.4) none in
      let le2 = inside b at (at + length customs) customs (d.2 ++ u) le parts refl in
      let two = r.only b (at + length customs) x d.2 u le2 (after b at customs (d.2 ++ u) parts) follows d.5 in
      let long : at + length customs + length d.2 ≡ at + length t = omega (arith, length-append w.1 d.1, length-append w.1 w.2, length-append d.1 d.2, ap length w.3, ap length d.3) in
      ap (λ q. q >>= λ c. read b c) one ∙ two ∙ ap (λ (k : ℕ). succeed (x, k)) long;
  ends = λ b at x next le e.
      let p = bind_ok (skip_from (length b - at) b at) (λ c. read b c) (x, next) e in
      let s = skip_found (length b - at) b at p.0 le p.1 in
      r.ends b p.0 x next (inside b at p.0 s.1 (drop p.0 b) le s.2 s.3) p.2;
  fault = λ b at d le e. elim (bind_err (skip_from (length b - at) b at) (λ c. read b c) d e) [
    | inl h ↦
        let s = skip_fault (length b - at) b at d le h in
        (length s.1 + s.3, s.5, (s.0, s.1, s.2, s.3, s.4, refl, s.6, inl (s.7, s.8)))
    | inr p ↦
        let s = skip_found (length b - at) b at p.0 le p.1 in
        let le2 = inside b at p.0 s.1 (drop p.0 b) le s.2 s.3 in
        let f = r.fault b p.0 d le2 p.2 in
        (length s.1 + f.0, omega (arith, s.3, f.1), (s.0, s.1, drop p.0 b, f.0, s.2, refl, s.4, inr (s.5 (omega arith), f.2)))
  ];
  stops = λ b at kind k le w.
      let rest = after b at w.1 w.2 w.4 in
      let le2 = inside b at (at + length w.1) w.1 w.2 le w.4 refl in
      elim w.7 [
        | inl h ↦
            let s = skip_reads (length b - at) b at w.0 w.1 w.2 le w.4 w.6 (omega (arith, length-drop at b, ap length w.4, length-append w.1 w.2)) in
            let few : length b - (at + length w.1) ≤ s.0 = (let enough = s.1 in omega arith) in
            let stopped = skip_stops s.0 b (at + length w.1) kind w.3 le2 few (subst (λ (v : List ℕ). BeginsWith 0 v) (sym rest) h.0) (subst (λ (v : List ℕ). custom.breaks v kind w.3) (sym rest) h.1) in
            ap (λ q. q >>= λ c. read b c) (s.2 ∙ stopped) ∙ fails_at {A = A × ℕ} kind (at + length w.1 + w.3) (at + k) (omega (arith, w.5))
        | inr h ↦
            let one = skip_only b at w.0 w.1 w.2 le w.4 w.6 h.0 in
            let two = r.stops b (at + length w.1) kind w.3 le2 (subst (λ (v : List ℕ). g.breaks v kind w.3) (sym rest) h.1) in
            ap (λ q. q >>= λ c. read b c) one ∙ two ∙ fails_at kind (at + length w.1 + w.3) (at + k) (omega (arith, w.5))
      ];
}

drops_customs : {A : Type 0} (g : Grammar A) → Drops g → Drops (customs_then g)
drops_customs g drops y b w =
    let d = drops y w.2 w.5 in
    (w.0 ++ d.0, w.1 ++ d.1, d.2, w.3 ∙ ap (λ (v : List ℕ). w.1 ++ v) d.3 ∙ sym (append_assoc w.1 d.1 d.2), each_append w.0 d.0 w.1 d.1 w.4 d.4, ([], [], d.2, refl, refl, d.5), d.6)

-- ---- sections

section_begins : {A B : Type 0} (id : ℕ) (g : Grammar A) (next : A → Grammar B) (y : B) (b : List ℕ) → (section id g then next).within y b → BeginsWith id b
section_begins id g next y b w =
    subst (λ (v : List ℕ). BeginsWith id v) (sym w.3) (begins_front id w.1 w.2 (begins_this UnknownByte id (λ _. u32 then λ size. exactly size g) w.0 w.1 w.4))

begins_one : (m n : ℕ) (b : List ℕ) → BeginsWith m b → BeginsWith n b → m ≡ n
begins_one m n [] p q = absurd p
begins_one m n (k ∷ b) p q = sym p ∙ q

drops_section : {A B : Type 0} (id : ℕ) (g : Grammar A) (next : A → Grammar B) (missing : Grammar B) → 0 < id → Drops missing → Drops (section_or id g next missing)
drops_section id g next missing some drops y b (inl w) = ([], [], b, refl, refl, inl w, λ h. (let e = begins_one id 0 b (section_begins id g next y b w) h in omega arith))
drops_section id g next missing some drops y b (inr w) = let d = drops y b w in (d.0, d.1, d.2, d.3, d.4, inr d.5, d.6)

drops_end : {A : Type 0} (P : Type 0) (x : A) → Drops (ends_with P x)
drops_end P x y b w = ([], [], b, refl, refl, w, λ h. subst (λ (v : List ℕ). BeginsWith 0 v) w.1 h)

-- what may stand first: a custom section, or one with a greater id
abbrev pub HeadAbove : ℕ → List ℕ → Type 0
HeadAbove k [] = Unit {0}
HeadAbove k (n ∷ b) = (n ≡ 0) ⊎ (k < n)

abbrev pub Heads : {A : Type 0} → ℕ → Grammar A → Type 0
Heads {A} k g = (y : A) (b : List ℕ) → g.within y b → HeadAbove k b

head_custom : (k : ℕ) (b : List ℕ) → BeginsWith 0 b → HeadAbove k b
head_custom k [] h = tt
head_custom k (n ∷ b) h = inl h

head_section : (k id : ℕ) (b : List ℕ) → k < id → BeginsWith id b → HeadAbove k b
head_section k id [] lt h = tt
head_section k id (n ∷ b) lt h = inr (omega arith)

heads_customs : {A : Type 0} (k : ℕ) (g : Grammar A) → Heads k g → Heads k (customs_then g)
heads_customs {A} k g heads y b w = go w.0 w.4
  where
    go : (names : List (List ℕ)) → Each custom.within names w.1 → HeadAbove k b
    go [] each = subst (λ (v : List ℕ). HeadAbove k v) (sym (w.3 ∙ ap (λ (v : List ℕ). v ++ w.2) each)) (heads y w.2 w.5)
    go (x ∷ xs) each = head_custom k b (subst (λ (v : List ℕ). BeginsWith 0 v) (sym (w.3 ∙ ap (λ (v : List ℕ). v ++ w.2) each.2)) (begins_front 0 (each.0 ++ each.1) w.2 (begins_front 0 each.0 each.1 (custom_begins x each.0 each.3))))

heads_section : {A B : Type 0} (k id : ℕ) (g : Grammar A) (next : A → Grammar B) (missing : Grammar B) → k < id → Heads k missing → Heads k (section_or id g next missing)
heads_section k id g next missing lt heads y b (inl w) = head_section k id b lt (section_begins id g next y b w)
heads_section k id g next missing lt heads y b (inr w) = heads y b w

heads_end : {A : Type 0} (k : ℕ) (P : Type 0) (x : A) → Heads k (ends_with P x)
heads_end k P x y b w = subst (λ (v : List ℕ). HeadAbove k v) (sym w.1) tt

heads_less : {A : Type 0} (k m : ℕ) (g : Grammar A) → k ≤ m → Heads m g → Heads k g
heads_less {A} k m g le heads y b w = go b (heads y b w)
  where
    go : (v : List ℕ) → HeadAbove m v → HeadAbove k v
    go [] h = tt
    go (n ∷ v) (inl h) = inl h
    go (n ∷ v) (inr h) = inr (omega arith)

head_not : (k : ℕ) (b : List ℕ) → 0 < k → HeadAbove k b → BeginsWith k b → ⊥
head_not k [] some h m = m
head_not k (n ∷ b) some (inl h) m = omega arith
head_not k (n ∷ b) some (inr h) m = omega arith

-- what is read by a section or goes on without it
abbrev pub section_or_at : {A : Type 0} → ℕ → Reader A → (A → Reader Module) → Reader Module → Reader Module
section_or_at id read there missing b at = cond (begins_with id (drop at b)) (contents_at id read b at >>= λ x. there x.0 b x.1) (missing b at)

reads_section : {A : Type 0} (id : ℕ) (g : Grammar A) (read : Reader A) (next : A → Grammar Module) (there_at : A → Reader Module) (missing : Grammar Module) (missing_at : Reader Module) → 0 < id → Heads id missing
    → ReadsBy Anything g read → ((x : A) → ReadsBy AtEnd (next x) (there_at x)) → ReadsBy AtEnd missing missing_at → ReadsBy AtEnd (section_or id g next missing) (section_or_at id read there_at missing_at)
reads_section {A} id g read next there_at missing missing_at some heads r k m =
    let there = reads_then AtEnd (section id g) next (contents_at id read) there_at (reads_contents id g read r) k in
    record {
      found = λ b at y n le e. elim (way b at) [
        | inl h ↦ let f = there.found b at y n le (sym (stands b at h) ∙ e) in (f.0, f.1, f.2, inl f.3)
        | inr h ↦ let f = m.found b at y n le (sym (lacks b at h) ∙ e) in (f.0, f.1, f.2, inr f.3)
      ];
      only = λ b at y t u le e follows w. elim w [
        | inl v ↦
            let h = begins_again id (drop at b) (subst (λ (q : List ℕ). BeginsWith id q) (sym e) (begins_front id t u (section_begins id g next y t v))) in
            stands b at h ∙ there.only b at y t u le e follows v
        | inr v ↦
            let same : drop at b ≡ t = e ∙ ap (λ (q : List ℕ). t ++ q) follows ∙ append-nil t in
            let h = begins_not id (drop at b) (λ begun. head_not id t some (heads y t v) (subst (λ (q : List ℕ). BeginsWith id q) same begun)) in
            lacks b at h ∙ m.only b at y t u le e follows v
      ];
      ends = λ b at y n le e. elim (way b at) [
        | inl h ↦ there.ends b at y n le (sym (stands b at h) ∙ e)
        | inr h ↦ m.ends b at y n le (sym (lacks b at h) ∙ e)
      ];
      fault = λ b at d le e. elim (way b at) [
        | inl h ↦ let f = there.fault b at d le (sym (stands b at h) ∙ e) in (f.0, f.1, inl (begins_true id (drop at b) h, f.2))
        | inr h ↦ let f = m.fault b at d le (sym (lacks b at h) ∙ e) in (f.0, f.1, inr (begins_false id (drop at b) h, f.2))
      ];
      stops = λ b at kind j le w. elim w [
        | inl v ↦ stands b at (begins_again id (drop at b) v.0) ∙ there.stops b at kind j le v.1
        | inr v ↦ lacks b at (begins_not id (drop at b) v.0) ∙ m.stops b at kind j le v.1
      ];
    }
  where
    way : (b : List ℕ) (at : ℕ) → (begins_with id (drop at b) ≡ true) ⊎ (begins_with id (drop at b) ≡ false)
    way b at = cases_Bool (begins_with id (drop at b))

    stands : (b : List ℕ) (at : ℕ) → begins_with id (drop at b) ≡ true → section_or_at id read there_at missing_at b at ≡ (contents_at id read b at >>= λ x. there_at x.0 b x.1)
    stands b at h = cond-true (begins_with id (drop at b)) (contents_at id read b at >>= λ x. there_at x.0 b x.1) (missing_at b at) h

    lacks : (b : List ℕ) (at : ℕ) → begins_with id (drop at b) ≡ false → section_or_at id read there_at missing_at b at ≡ missing_at b at
    lacks b at h = cond-false (begins_with id (drop at b)) (contents_at id read b at >>= λ x. there_at x.0 b x.1) (missing_at b at) h

-- a reader that reads the same
pub reads_as : {A : Type 0} (F : List ℕ → Type 0) (g : Grammar A) (read other : Reader A) → ((b : List ℕ) (at : ℕ) → read b at ≡ other b at) → ReadsBy F g read → ReadsBy F g other
reads_as F g read other same r = record {
  found = λ b at x next le e. r.found b at x next le (same b at ∙ e);
  only = λ b at x t u le e follows w. sym (same b at) ∙ r.only b at x t u le e follows w;
  ends = λ b at x next le e. r.ends b at x next le (same b at ∙ e);
  fault = λ b at d le e. r.fault b at d le (same b at ∙ e);
  stops = λ b at kind k le w. sym (same b at) ∙ r.stops b at kind k le w;
}

-- ---- a part of the module: what all of them have in common

pub record PartLaws (k : ℕ) (g : Grammar Module) (read : Reader Module) : Type 0 where
  pub is_read : ReadsBy AtEnd g read
  pub drops : Drops g
  pub heads : Heads k g

module _ {A : Type 0} (id : ℕ) (g : Grammar A) (read : Reader A) (put : A → Module) (next : Module → Grammar Module) (rest : Module → Reader Module) (m : Module) where
  step : (b : List ℕ) (at : ℕ) → (skip_at b at >>= λ c. section_or_at id read (λ x. rest (put x)) (rest m) b c) ≡ (part_at id read b at >>= λ x. rest (put_or put m x.0) b x.1)
  unfolding part_at
  step b at = go (skip_at b at)
    where
      found : (r : Result (A × ℕ) DecodeError) → (r >>= λ x. rest (put x.0) b x.1) ≡ (present r >>= λ x. rest (put_or put m x.0) b x.1)
      found (Ok x) = refl
      found (Err e) = refl

      there : (c : ℕ) (t : Bool) → begins_with id (drop c b) ≡ t → section_or_at id read (λ x. rest (put x)) (rest m) b c ≡ (section_at id read b c >>= λ x. rest (put_or put m x.0) b x.1)
      there c true e = rw e (found (contents_at id read b c))
      there c false e = rw e refl

      go : (s : Result ℕ DecodeError) → (s >>= λ c. section_or_at id read (λ x. rest (put x)) (rest m) b c) ≡ ((s >>= λ c. section_at id read b c) >>= λ x. rest (put_or put m x.0) b x.1)
      go (Ok c) = there c (begins_with id (drop c b)) refl
      go (Err e) = refl

  pub part_laws : (k j : ℕ) → k < id → id ≤ j → ReadsBy Anything g read → ((x : Module) → PartLaws j (next x) (rest x)) → PartLaws k (part id g put next m) (λ b at. part_at id read b at >>= λ x. rest (put_or put m x.0) b x.1)
  part_laws k j low high r laws =
      let there = reads_section id g read (λ x. next (put x)) (λ x. rest (put x)) (next m) (rest m) (omega arith) (heads_less id j (next m) high (laws m).heads) r (λ x. (laws (put x)).is_read) (laws m).is_read in
      let dropped = drops_section id g (λ x. next (put x)) (next m) (omega arith) (laws m).drops in
      record {
        is_read = reads_as AtEnd (part id g put next m) _ _ step (reads_customs (section_or id g (λ x. next (put x)) (next m)) (section_or_at id read (λ x. rest (put x)) (rest m)) dropped there);
        drops = drops_customs (section_or id g (λ x. next (put x)) (next m)) dropped;
        heads = heads_customs k (section_or id g (λ x. next (put x)) (next m)) (heads_section k id g (λ x. next (put x)) (next m) low (heads_less k j (next m) (omega arith) (laws m).heads));
      }

-- ---- the end

end_found : {A : Type 0} (P : Type 0) (fits : Bool) (x y : A) (b : List ℕ) (at next : ℕ) → Decides fits P → end_of fits x b at ≡ Ok (y, next) → (y ≡ x) × (b ≡ []) × P × (next ≡ at)
end_found {A} P fits x y [] at next d e = elim (chosen fits (Ok (x, at)) (fail CountMismatch at) (Ok (y, next)) e) [
  | inl h ↦ let q = ok_is (x, at) (y, next) h.1 in (sym (ap (λ (z : A × ℕ). z.0) q), refl, d.0 h.0, sym (ap (λ (z : A × ℕ). z.1) q))
  | inr h ↦ absurd cc
]
end_found P fits x y (n ∷ b) at next d e = elim (chosen (ltb 11 n) (fail UnknownByte at) (fail SectionOrder at) (Ok (y, next)) e) [
  | inl h ↦ absurd cc
  | inr h ↦ absurd cc
]

end_fault : {A : Type 0} (P : Type 0) (fits : Bool) (x : A) (b : List ℕ) (at : ℕ) (c : DecodeError) → Decides fits P → end_of fits x b at ≡ Err c → (c.offset ≡ at) × EndBreaks P b c.kind
end_fault {A} P fits x [] at c d e = elim (chosen fits (Ok (x, at)) (fail CountMismatch at) (Err c) e) [
  | inl h ↦ absurd cc
  | inr h ↦ let q = err_is {A = A × ℕ} _ c h.1 in (sym (ap (λ (f : DecodeError). f.offset) q), ((λ p. both_ways fits h.0 (d.1 p)), sym (ap (λ (f : DecodeError). f.kind) q)))
]
end_fault {A} P fits x (n ∷ b) at c d e = elim (chosen (ltb 11 n) (fail UnknownByte at) (fail SectionOrder at) (Err c) e) [
  | inl h ↦ let q = err_is {A = A × ℕ} _ c h.1 in (sym (ap (λ (f : DecodeError). f.offset) q), sym (ap (λ (f : DecodeError). f.kind) q) ∙ sym (cond-true (ltb 11 n) UnknownByte SectionOrder h.0))
  | inr h ↦ let q = err_is {A = A × ℕ} _ c h.1 in (sym (ap (λ (f : DecodeError). f.offset) q), sym (ap (λ (f : DecodeError). f.kind) q) ∙ sym (cond-false (ltb 11 n) UnknownByte SectionOrder h.0))
]

end_stops : {A : Type 0} (P : Type 0) (fits : Bool) (x : A) (b : List ℕ) (at : ℕ) (kind : FaultKind) → Decides fits P → EndBreaks P b kind → end_of fits x b at ≡ Err (record { kind = kind; offset = at })
end_stops P fits x [] at kind d w = cond-false fits (Ok (x, at)) (fail CountMismatch at) (false_from_ne_true fits (λ y. w.0 (d.0 y))) ∙ ap (λ (c : FaultKind). fail c at) (sym w.1)
end_stops {A} P fits x (n ∷ b) at kind d w = go (ltb 11 n) ∙ ap (λ (c : FaultKind). fail c at) (sym w)
  where
    go : (t : Bool) → cond t (fail {A = A × ℕ} UnknownByte at) (fail SectionOrder at) ≡ fail (cond t UnknownByte SectionOrder) at
    go true = refl
    go false = refl

reads_end : {A : Type 0} (P : Type 0) (fits : Bool) (x : A) → Decides fits P → ReadsBy AtEnd (ends_with P x) (λ b at. end_of fits x (drop at b) at)
reads_end {A} P fits x d = record {
  found = λ b at y next le e. let p = end_found P fits x y (drop at b) at next d e in ([], ap (λ (k : ℕ). drop k b) (sym p.3), p.3 ∙ omega arith, (p.0, refl, p.2));
  only = λ b at y t u le e follows w.
      let none : drop at b ≡ [] = e ∙ ap (λ (v : List ℕ). v ++ u) w.1 ∙ follows in
      rw (none, d.1 w.2, w.0, w.1) (ap (λ (k : ℕ). succeed (x, k)) (omega arith));
  ends = λ b at y next le e. let p = end_found P fits x y (drop at b) at next d e in ap (λ (k : ℕ). drop k b) p.3 ∙ p.1;
  fault = λ b at c le e. let p = end_fault P fits x (drop at b) at c d e in (0, p.0 ∙ omega arith, (refl, p.1));
  stops = λ b at kind k le w. end_stops P fits x (drop at b) at kind d w.1 ∙ fails_at kind at (at + k) (omega (arith, w.0));
}

pub end_laws : (k : ℕ) (P : Type 0) (fits : Bool) (x : Module) → Decides fits P → PartLaws k (customs_then (ends_with P x)) (λ b at. skip_at b at >>= λ c. end_of fits x (drop c b) c)
end_laws k P fits x d = record {
  is_read = reads_customs (ends_with P x) (λ b at. end_of fits x (drop at b) at) (drops_end P x) (reads_end P fits x d);
  drops = drops_customs (ends_with P x) (drops_end P x);
  heads = heads_customs k (ends_with P x) (heads_end k P x);
}
