-- Reading a production that is made of others, from reading those.
use Rattle.std.proofs.Common.{◌≡◌, ℕ, zero, suc, ◌+◌, ◌<◌, ◌≤◌, Bool, true, false, cond, List, [], ◌∷◌, ◌++◌, length, take, drop, Result, Ok, Err, refl, sym, ap, subst, ◌∙◌, append_assoc, inl, inr, ◌⊎◌, arith, length-append, length-drop, length-take, take_all, ltb, leb, eqb, ◌&&◌, Decides}
use Rattle.std.proofs.lemmas.Bool.{ltb-true, ltb-false, lt-ltb, le-ltb, leb-true, leb-false, le-leb, eqb-true, eqb-false, eq-eqb, ne_eqb, lt-leb, and_parts, and_cases, both_ways, cases_Bool, cond-true, cond-false, false_from_ne_true}
use Rattle.std.proofs.lemmas.List.{append-nil, take_at, take-append-drop, drop-take}
use Rattle.std.proofs.Math.ListN.{drop_of_length-le}
use Rattle.std.proofs.Math.Seq.{drop-append_seam}
use Rattle.wh_model.specs.declared.faults.FaultKind.{FaultKind}
use Rattle.wh_model.specs.declared.faults.FaultKind.TheVariants.{Truncated, SectionSize, Limit}
use Rattle.wh_model.specs.declared.faults.DecodeError.{DecodeError}
use Rattle.wh_model.specs.Format.Grammar.{Grammar, ◌>>=◌ as ◌then◌}
use Rattle.wh_model.specs.Format.{gives, one_of, bytes, only_if, up_to, times, exactly, exactly_from, EndsAs, HeadBreaks}
use Rattle.wh_leb.specs.Reading.{◌>>=◌, fail, ReadsBy, Anything, with_next, head_of, one_at, read_bytes_at, only_at, limited_at, times_at, is_truncated, outer_fault, closed_window, exactly_at, closed_from, exactly_from_at, with_front}

-- the value of a step that did not fail
pub bind_ok : {A B : Type 0} (r : Result A DecodeError) (f : A → Result B DecodeError) (y : B) → (r >>= f) ≡ Ok y → (x : A) × (r ≡ Ok x) × (f x ≡ Ok y)
bind_ok (Ok x) f y e = (x, refl, e)
bind_ok (Err d) f y e = absurd cc

-- the step that failed
pub bind_err : {A B : Type 0} (r : Result A DecodeError) (f : A → Result B DecodeError) (d : DecodeError) → (r >>= f) ≡ Err d → (r ≡ Err d) ⊎ ((x : A) × (r ≡ Ok x) × (f x ≡ Err d))
bind_err (Ok x) f d e = inr (x, refl, e)
bind_err (Err c) f d e = inl cc

-- which way a test went
pub chosen : {A : Type 0} (b : Bool) (x y z : A) → cond b x y ≡ z → ((b ≡ true) × (x ≡ z)) ⊎ ((b ≡ false) × (y ≡ z))
chosen true x y z e = inl (refl, e)
chosen false x y z e = inr (refl, e)

abbrev pub succeed : {A : Type 0} → A → Result A DecodeError
succeed x = Ok x

abbrev pub stop : {A : Type 0} → DecodeError → Result A DecodeError
stop e = Err e

pub ok_is : {A : Type 0} (x y : A) → succeed x ≡ succeed y → x ≡ y
ok_is x y e = cc

pub err_is : {A : Type 0} (d e : DecodeError) → stop {A = A} d ≡ stop e → d ≡ e
err_is d e h = cc

-- a fault, and the same at another place that is the same
pub fails_at : {A : Type 0} (kind : FaultKind) (m n : ℕ) → m ≡ n → stop {A = A} (record { kind = kind; offset = m }) ≡ stop (record { kind = kind; offset = n })
fails_at {A} kind m n e = ap (λ (k : ℕ). stop {A = A} (record { kind = kind; offset = k })) e

drop_none : {X : Type 0} (i : ℕ) → drop {A = X} i [] ≡ []
drop_none zero = refl
drop_none (suc i) = refl

pub drop_drop : {X : Type 0} (i j : ℕ) (b : List X) → drop (i + j) b ≡ drop j (drop i b)
drop_drop zero j b = let e : 0 + j ≡ j = omega arith in rw e refl
drop_drop (suc i) j [] = drop_none (suc i + j) ∙ sym (drop_none j)
drop_drop (suc i) j (x ∷ b) = let e : suc i + j ≡ suc (i + j) = omega arith in rw e (drop_drop i j b)

pub after : {X : Type 0} (b : List X) (at : ℕ) (t u : List X) → drop at b ≡ t ++ u → drop (at + length t) b ≡ u
after b at t u e = drop_drop at (length t) b ∙ ap (drop (length t)) e ∙ drop-append_seam t u

pub inside : {X : Type 0} (b : List X) (at next : ℕ) (t u : List X) → at ≤ length b → drop at b ≡ t ++ u → next ≡ at + length t → next ≤ length b
inside b at next t u le e n = omega (arith, length-drop at b, length-append t u, ap length e)

pub reads_gives : {A : Type 0} (x : A) → ReadsBy Anything (gives x) (λ b at. Ok (x, at))
reads_gives {A} x = record {
  found = λ b at y next le e. let p = ok_is (x, at) (y, next) e in ([], ap (λ (q : A × ℕ). drop q.1 b) p, (let n : at ≡ next = ap (λ (q : A × ℕ). q.1) p in omega arith), (sym (ap (λ (q : A × ℕ). q.0) p), refl));
  only = λ b at y t u le e follows w. rw (w.0, w.1) (ap (λ (n : ℕ). Ok (x, n)) (omega arith));
  ends = λ b at x next le e. tt;
  fault = λ b at d le e. absurd cc;
  stops = λ b at kind k le w. absurd w;
}

pub reads_then : {A B : Type 0} (F : List ℕ → Type 0) (first : Grammar A) (next : A → Grammar B) (ra : List ℕ → ℕ → Result (A × ℕ) DecodeError) (rb : A → List ℕ → ℕ → Result (B × ℕ) DecodeError)
    → ReadsBy Anything first ra → ((x : A) → ReadsBy F (next x) (rb x)) → ReadsBy F (first then next) (λ b at. ra b at >>= λ x. rb x.0 b x.1)
reads_then F first next ra rb ha hb = record {
  found = λ b at y n le e.
      let p = bind_ok (ra b at) (λ x. rb x.0 b x.1) (y, n) e in
      let f = ha.found b at p.0.0 p.0.1 le p.1 in
      let le2 = inside b at p.0.1 f.0 (drop p.0.1 b) le f.1 f.2 in
      let s = (hb p.0.0).found b p.0.1 y n le2 p.2 in
      (f.0 ++ s.0, f.1 ∙ ap (λ (r : List ℕ). f.0 ++ r) s.1 ∙ sym (append_assoc f.0 s.0 (drop n b)), omega (arith, f.2, s.2, length-append f.0 s.0), (p.0.0, f.0, s.0, refl, f.3, s.3));
  only = λ b at y t u le e follows w.
      let parts : drop at b ≡ w.1 ++ (w.2 ++ u) = e ∙ ap (λ (r : List ℕ). r ++ u) w.3 ∙ append_assoc w.1 w.2 u in
      let one = ha.only b at w.0 w.1 (w.2 ++ u) le parts tt w.4 in
      let le2 = inside b at (at + length w.1) w.1 (w.2 ++ u) le parts refl in
      let two = (hb w.0).only b (at + length w.1) y w.2 u le2 (after b at w.1 (w.2 ++ u) parts) follows w.5 in
      let long : at + length w.1 + length w.2 ≡ at + length t = omega (arith, length-append w.1 w.2, ap length w.3) in
      ap (λ r. r >>= λ x. rb x.0 b x.1) one ∙ two ∙ ap (λ (k : ℕ). Ok (y, k)) long;
  ends = λ b at y n le e.
      let p = bind_ok (ra b at) (λ x. rb x.0 b x.1) (y, n) e in
      let f = ha.found b at p.0.0 p.0.1 le p.1 in
      (hb p.0.0).ends b p.0.1 y n (inside b at p.0.1 f.0 (drop p.0.1 b) le f.1 f.2) p.2;
  fault = λ b at d le e. elim (bind_err (ra b at) (λ x. rb x.0 b x.1) d e) [
    | inl h ↦ let f = ha.fault b at d le h in (f.0, f.1, inl f.2)
    | inr p ↦
        let f = ha.found b at p.0.0 p.0.1 le p.1 in
        let le2 = inside b at p.0.1 f.0 (drop p.0.1 b) le f.1 f.2 in
        let s = (hb p.0.0).fault b p.0.1 d le2 p.2 in
        (length f.0 + s.0, omega (arith, f.2, s.1), inr (p.0.0, f.0, drop p.0.1 b, s.0, f.1, refl, f.3, s.2))
  ];
  stops = λ b at kind k le w. elim w [
    | inl h ↦ ap (λ r. r >>= λ x. rb x.0 b x.1) (ha.stops b at kind k le h)
    | inr h ↦
        let one = ha.only b at h.0 h.1 h.2 le h.4 tt h.6 in
        let le2 = inside b at (at + length h.1) h.1 h.2 le h.4 refl in
        let rest = after b at h.1 h.2 h.4 in
        let two = (hb h.0).stops b (at + length h.1) kind h.3 le2 (subst (λ (v : List ℕ). (next h.0).breaks v kind h.3) (sym rest) h.7) in
        ap (λ r. r >>= λ x. rb x.0 b x.1) one ∙ two ∙ fails_at kind (at + length h.1 + h.3) (at + k) (omega (arith, h.5))
  ];
}

pub head_found : {A : Type 0} (table : ℕ → Result A FaultKind) (b : List ℕ) (at : ℕ) (x : A) (next : ℕ) → head_of table b at ≡ Ok (x, next) → (n : ℕ) × (u : List ℕ) × (b ≡ n ∷ u) × (table n ≡ Ok x) × (next ≡ at + 1)
head_found table [] at x next e = absurd cc
head_found {A} table (n ∷ u) at x next e = go (table n) refl e
  where
    go : (r : Result A FaultKind) → table n ≡ r → with_next r at ≡ Ok (x, next) → (m : ℕ) × (v : List ℕ) × (n ∷ u ≡ m ∷ v) × (table m ≡ Ok x) × (next ≡ at + 1)
    go (Ok y) h k = let p = ok_is (y, at + 1) (x, next) k in (n, u, refl, h ∙ ap (λ (q : A × ℕ). Ok q.0) p, sym (ap (λ (q : A × ℕ). q.1) p))
    go (Err kind) h k = absurd cc

pub head_fault : {A : Type 0} (table : ℕ → Result A FaultKind) (b : List ℕ) (at : ℕ) (d : DecodeError) → head_of table b at ≡ Err d → (d.offset ≡ at) × HeadBreaks table b d.kind
head_fault {A} table [] at d e = let p = err_is {A = A × ℕ} _ d e in (sym (ap (λ (f : DecodeError). f.offset) p), sym (ap (λ (f : DecodeError). f.kind) p))
head_fault {A} table (n ∷ u) at d e = go (table n) refl e
  where
    go : (r : Result A FaultKind) → table n ≡ r → with_next r at ≡ Err d → (d.offset ≡ at) × (table n ≡ Err d.kind)
    go (Ok y) h k = absurd cc
    go (Err kind) h k = let p = err_is {A = A × ℕ} _ d k in (sym (ap (λ (f : DecodeError). f.offset) p), h ∙ ap (λ (f : DecodeError). Err f.kind) p)

pub head_stops : {A : Type 0} (table : ℕ → Result A FaultKind) (b : List ℕ) (at : ℕ) (kind : FaultKind) → HeadBreaks table b kind → head_of table b at ≡ Err (record { kind = kind; offset = at })
head_stops {A} table [] at kind h = ap (λ (k : FaultKind). stop {A = A × ℕ} (record { kind = k; offset = at })) (sym h)
head_stops table (n ∷ u) at kind h = rw h refl

pub reads_one_of : {A : Type 0} (table : ℕ → Result A FaultKind) → ReadsBy Anything (one_of table) (one_at table)
reads_one_of table = record {
  found = λ b at x next le e.
      let p = head_found table (drop at b) at x next e in
      let rest : drop (at + 1) b ≡ p.1 = after b at (p.0 ∷ []) p.1 p.2 in
      (p.0 ∷ [], p.2 ∙ ap (λ (u : List ℕ). p.0 ∷ u) (sym rest) ∙ ap (λ (k : ℕ). p.0 ∷ drop k b) (sym p.4), p.4, (p.0, refl, p.3));
  only = λ b at x t u le e follows w. rw (e, w.1, w.2) refl;
  ends = λ b at x next le e. tt;
  fault = λ b at d le e. let p = head_fault table (drop at b) at d e in (0, omega arith, (refl, p.1));
  stops = λ b at kind k le w. head_stops table (drop at b) at kind w.1 ∙ fails_at kind at (at + k) (omega (arith, w.0));
}

pub reads_bytes : (n : ℕ) → ReadsBy Anything (bytes n) (read_bytes_at n)
reads_bytes n = record {
  found = λ b at x next le e. elim (chosen (ltb (length b) (at + n)) (fail Truncated (length b)) (Ok (take n (drop at b), at + n)) (Ok (x, next)) e) [
    | inl h ↦ absurd cc
    | inr h ↦
        let p = ok_is (take n (drop at b), at + n) (x, next) h.1 in
        let x-is : take n (drop at b) ≡ x = ap (λ (q : List ℕ × ℕ). q.0) p in
        let n-is : at + n ≡ next = ap (λ (q : List ℕ × ℕ). q.1) p in
        let room = ltb-false _ _ h.0 in
        let long : length x ≡ n = omega (arith, ap length x-is, length-take n (drop at b), length-drop at b) in
        (x, sym (take-append-drop n (drop at b)) ∙ rw (← drop_drop, n-is, x-is) refl, omega arith, (refl, long))
  ];
  only = λ b at x t u le e follows w.
      let len : length t ≡ n = ap length w.0 ∙ w.1 in
      let room : ltb (length b) (at + n) ≡ false = le-ltb _ _ (omega (arith, length-drop at b, length-append t u, ap length e)) in
      let front : take n (drop at b) ≡ x = ap (take n) e ∙ take_at t u n len ∙ w.0 in
      rw (room, front) (ap (λ (k : ℕ). Ok (x, at + k)) (sym len));
  ends = λ b at x next le e. tt;
  fault = λ b at d le e. elim (chosen (ltb (length b) (at + n)) (fail Truncated (length b)) (Ok (take n (drop at b), at + n)) (Err d) e) [
    | inl h ↦
        let p = err_is {A = List ℕ × ℕ} _ d h.1 in
        let off : length b ≡ d.offset = ap (λ (f : DecodeError). f.offset) p in
        let short = ltb-true _ _ h.0 in
        (length (drop at b), omega (arith, length-drop at b), (omega (arith, length-drop at b), sym (ap (λ (f : DecodeError). f.kind) p), refl))
    | inr h ↦ absurd cc
  ];
  stops = λ b at kind k le w.
      let short : ltb (length b) (at + n) ≡ true = lt-ltb _ _ (omega (arith, w.0, length-drop at b)) in
      rw (short, w.1) (fails_at Truncated (length b) (at + k) (omega (arith, w.2, length-drop at b)));
}

pub reads_only_if : {A : Type 0} (P : A → Type 0) (test : A → Bool) (kind : FaultKind) (g : Grammar A) (read : List ℕ → ℕ → Result (A × ℕ) DecodeError)
    → ((x : A) → Decides (test x) (P x)) → ReadsBy Anything g read → ReadsBy Anything (only_if P kind g) (only_at test kind read)
reads_only_if {A} P test kind g read decides r = record {
  found = λ b at x next le e.
      let p = bind_ok (read b at) (λ y. cond (test y.0) (Ok y) (fail kind at)) (x, next) e in
      elim (chosen (test p.0.0) (Ok p.0) (fail kind at) (Ok (x, next)) p.2) [
        | inl h ↦
            let q = ok_is p.0 (x, next) h.1 in
            let f = r.found b at x next le (p.1 ∙ ap succeed q) in
            (f.0, f.1, f.2, (f.3, subst (λ (y : A × ℕ). P y.0) q ((decides p.0.0).0 h.0)))
        | inr h ↦ absurd cc
      ];
  only = λ b at x t u le e follows w. rw (r.only b at x t u le e follows w.0, (decides x).1 w.1) refl;
  ends = λ b at x next le e.
      let p = bind_ok (read b at) (λ y. cond (test y.0) (Ok y) (fail kind at)) (x, next) e in
      elim (chosen (test p.0.0) (Ok p.0) (fail kind at) (Ok (x, next)) p.2) [
        | inl h ↦ r.ends b at x next le (p.1 ∙ ap succeed (ok_is p.0 (x, next) h.1))
        | inr h ↦ absurd cc
      ];
  fault = λ b at d le e. elim (bind_err (read b at) (λ y. cond (test y.0) (Ok y) (fail kind at)) d e) [
    | inl h ↦ let f = r.fault b at d le h in (f.0, f.1, inl f.2)
    | inr p ↦ elim (chosen (test p.0.0) (Ok p.0) (fail kind at) (Err d) p.2) [
      | inl h ↦ absurd cc
      | inr h ↦
          let q = err_is {A = A × ℕ} _ d h.1 in
          let f = r.found b at p.0.0 p.0.1 le p.1 in
          (0, sym (ap (λ (c : DecodeError). c.offset) q) ∙ omega arith, inr (p.0.0, f.0, drop p.0.1 b, f.1, f.3, (λ holds. both_ways (test p.0.0) h.0 ((decides p.0.0).1 holds)), sym (ap (λ (c : DecodeError). c.kind) q), refl))
    ]
  ];
  stops = λ b at k j le w. elim w [
    | inl h ↦ ap (λ q. q >>= λ y. cond (test y.0) (Ok y) (fail kind at)) (r.stops b at k j le h)
    | inr h ↦
        let one = r.only b at h.0 h.1 h.2 le h.3 tt h.4 in
        let refused : test h.0 ≡ false = false_from_ne_true (test h.0) (λ y. h.5 ((decides h.0).0 y)) in
        ap (λ q. q >>= λ y. cond (test y.0) (Ok y) (fail kind at)) one
        ∙ cond-false (test h.0) (Ok (h.0, at + length h.1)) (fail kind at) refused
        ∙ ap (λ (c : FaultKind). fail c at) (sym h.6) ∙ fails_at k at (at + j) (omega (arith, h.7))
  ];
}

pub reads_up_to : (limit : ℕ) (g : Grammar ℕ) (read : List ℕ → ℕ → Result (ℕ × ℕ) DecodeError) → ReadsBy Anything g read → ReadsBy Anything (up_to limit g) (limited_at limit read)
reads_up_to limit g read r = record {
  found = λ b at x next le e.
      let p = bind_ok (read b at) (λ y. cond (ltb limit y.0) (fail Limit at) (Ok y)) (x, next) e in
      elim (chosen (ltb limit p.0.0) (fail Limit at) (Ok p.0) (Ok (x, next)) p.2) [
        | inl h ↦ absurd cc
        | inr h ↦
            let q = ok_is p.0 (x, next) h.1 in
            let f = r.found b at x next le (p.1 ∙ ap succeed q) in
            (f.0, f.1, f.2, (f.3, subst (λ (y : ℕ × ℕ). y.0 ≤ limit) q (ltb-false _ _ h.0)))
      ];
  only = λ b at x t u le e follows w. rw (r.only b at x t u le e follows w.0, le-ltb limit x w.1) refl;
  ends = λ b at x next le e.
      let p = bind_ok (read b at) (λ y. cond (ltb limit y.0) (fail Limit at) (Ok y)) (x, next) e in
      elim (chosen (ltb limit p.0.0) (fail Limit at) (Ok p.0) (Ok (x, next)) p.2) [
        | inl h ↦ absurd cc
        | inr h ↦ r.ends b at x next le (p.1 ∙ ap succeed (ok_is p.0 (x, next) h.1))
      ];
  fault = λ b at d le e. elim (bind_err (read b at) (λ y. cond (ltb limit y.0) (fail Limit at) (Ok y)) d e) [
    | inl h ↦ let f = r.fault b at d le h in (f.0, f.1, inl f.2)
    | inr p ↦ elim (chosen (ltb limit p.0.0) (fail Limit at) (Ok p.0) (Err d) p.2) [
      | inl h ↦
          let q = err_is {A = ℕ × ℕ} _ d h.1 in
          let f = r.found b at p.0.0 p.0.1 le p.1 in
          (0, sym (ap (λ (c : DecodeError). c.offset) q) ∙ omega arith, inr (p.0.0, f.0, drop p.0.1 b, f.1, f.3, ltb-true _ _ h.0, sym (ap (λ (c : DecodeError). c.kind) q), refl))
      | inr h ↦ absurd cc
    ]
  ];
  stops = λ b at kind k le w. elim w [
    | inl h ↦ ap (λ q. q >>= λ y. cond (ltb limit y.0) (fail Limit at) (Ok y)) (r.stops b at kind k le h)
    | inr h ↦
        let one = r.only b at h.0 h.1 h.2 le h.3 tt h.4 in
        ap (λ q. q >>= λ y. cond (ltb limit y.0) (fail Limit at) (Ok y)) one
        ∙ cond-true (ltb limit h.0) (fail Limit at) (Ok (h.0, at + length h.1)) (lt-ltb limit h.0 h.5)
        ∙ ap (λ (c : FaultKind). fail c at) (sym h.6) ∙ fails_at kind at (at + k) (omega (arith, h.7))
  ];
}

pub reads_times : {A : Type 0} (n : ℕ) (g : Grammar A) (read : List ℕ → ℕ → Result (A × ℕ) DecodeError) → ReadsBy Anything g read → ReadsBy Anything (times n g) (times_at n read)
reads_times zero g read r = reads_gives []
reads_times (suc n) g read r = reads_then Anything g (λ x. times n g then λ xs. gives (x ∷ xs)) read (λ x b at. times_at n read b at >>= λ xs. Ok (x ∷ xs.0, xs.1)) r (λ x.
    reads_then Anything (times n g) (λ xs. gives (x ∷ xs)) (times_at n read) (λ xs b at. Ok (x ∷ xs, at)) (reads_times n g read r) (λ xs. reads_gives (x ∷ xs)))

-- ---- windows

-- what a window of b from a place holds
window : (b : List ℕ) (at n : ℕ) → drop at (take (at + n) b) ≡ take n (drop at b)
window b at n = drop-take at n b

cut : (b : List ℕ) (at n : ℕ) → drop at b ≡ take n (drop at b) ++ drop (at + n) b
cut b at n = sym (take-append-drop n (drop at b)) ∙ ap (λ (u : List ℕ). take n (drop at b) ++ u) (sym (drop_drop at n b))

window_inside : (b : List ℕ) (at n : ℕ) → at ≤ length b → at ≤ length (take (at + n) b)
window_inside b at n le = omega (arith, length-take (at + n) b)

truncated_is : (kind : FaultKind) → is_truncated kind ≡ true → kind ≡ Truncated
truncated_is Truncated e = refl
truncated_is _ e = absurd cc

truncated_not : (kind : FaultKind) → is_truncated kind ≡ false → kind ≡ Truncated → ⊥
truncated_not kind e h = cc (ap is_truncated h)

-- the fault that a window's fault is outside
ends_as : (b : List ℕ) (at n : ℕ) (inner d : DecodeError) → at ≤ length b → outer_fault (leb (at + n) (length b)) inner ≡ d → (d.offset ≡ inner.offset) × EndsAs n (drop at b) inner.kind d.kind
ends_as b at n inner d le e = elim (chosen (is_truncated inner.kind && leb (at + n) (length b)) (record { kind = SectionSize; offset = inner.offset }) inner d e) [
  | inl h ↦
      let both = and_parts (is_truncated inner.kind) (leb (at + n) (length b)) h.0 in
      let whole = leb-true _ _ both.1 in
      (sym (ap (λ (f : DecodeError). f.offset) h.1), inl (truncated_is inner.kind both.0, omega (arith, length-drop at b), sym (ap (λ (f : DecodeError). f.kind) h.1)))
  | inr h ↦ (
    sym (ap (λ (f : DecodeError). f.offset) h.1),
    inr (
      (λ trunc whole. elim (and_cases (is_truncated inner.kind) (leb (at + n) (length b)) h.0) [
        | inl fails ↦ truncated_not inner.kind fails trunc
        | inr fails ↦ (let past = leb-false _ _ fails in omega (arith, length-drop at b))
      ]),
      sym (ap (λ (f : DecodeError). f.kind) h.1),
    ),
  )
]

-- the same from the break on
ends_again : (b : List ℕ) (at n k : ℕ) (inner kind : FaultKind) → at ≤ length b → EndsAs n (drop at b) inner kind → outer_fault (leb (at + n) (length b)) (record { kind = inner; offset = k }) ≡ record { kind = kind; offset = k }
ends_again b at n k inner kind le (inl h) =
    let whole : leb (at + n) (length b) ≡ true = le-leb _ _ (omega (arith, h.1, length-drop at b)) in
    rw (h.0, whole, h.2) refl
ends_again b at n k inner kind le (inr h) = elim (cases_Bool (is_truncated inner && leb (at + n) (length b))) [
  | inl both ↦
      let p = and_parts (is_truncated inner) (leb (at + n) (length b)) both in
      let whole = leb-true _ _ p.1 in
      absurd (h.0 (truncated_is inner p.0) (omega (arith, length-drop at b)))
  | inr other ↦ cond-false (is_truncated inner && leb (at + n) (length b)) _ (record { kind = inner; offset = k }) other ∙ ap (λ (c : FaultKind). record { kind = c; offset = k }) (sym h.1)
]

-- how a window's reading ended
closed_ok : {A : Type 0} (whole : Bool) (end : ℕ) (r : Result (A × ℕ) DecodeError) (x : A) (next : ℕ) → closed_window whole end r ≡ Ok (x, next) → (r ≡ Ok (x, next)) × (next ≡ end)
closed_ok {A} whole end (Ok y) x next e = elim (chosen (eqb y.1 end) (Ok y) (fail SectionSize y.1) (Ok (x, next)) e) [
  | inl h ↦ let p = ok_is y (x, next) h.1 in (ap succeed p, (let q : y.1 ≡ next = ap (λ (z : A × ℕ). z.1) p in sym q ∙ eqb-true _ _ h.0))
  | inr h ↦ absurd cc
]
closed_ok whole end (Err d) x next e = absurd cc

closed_err : {A : Type 0} (whole : Bool) (end : ℕ) (r : Result (A × ℕ) DecodeError) (d : DecodeError) → closed_window whole end r ≡ Err d
    → ((inner : DecodeError) × (r ≡ Err inner) × (outer_fault whole inner ≡ d)) ⊎ ((x : A) × (next : ℕ) × (r ≡ Ok (x, next)) × (next ≡ end → ⊥) × (d.kind ≡ SectionSize) × (d.offset ≡ next))
closed_err {A} whole end (Ok y) d e = elim (chosen (eqb y.1 end) (Ok y) (fail SectionSize y.1) (Err d) e) [
  | inl h ↦ absurd cc
  | inr h ↦ let q = err_is {A = A × ℕ} _ d h.1 in inr (y.0, y.1, refl, eqb-false _ _ h.0, sym (ap (λ (f : DecodeError). f.kind) q), sym (ap (λ (f : DecodeError). f.offset) q))
]
closed_err {A} whole end (Err inner) d e = inl (inner, refl, err_is {A = A × ℕ} _ d e)

pub reads_exactly : {A : Type 0} (n : ℕ) (g : Grammar A) (read : List ℕ → ℕ → Result (A × ℕ) DecodeError) → ReadsBy Anything g read → ReadsBy Anything (exactly n g) (exactly_at n read)
reads_exactly {A} n g read r = record {
  found = λ b at x next le e.
      let p = closed_ok _ (at + n) (read (take (at + n) b) at) x next e in
      let w = take (at + n) b in
      let f = r.found w at x next (window_inside b at n le) p.0 in
      let over : drop next w ≡ [] = drop_of_length-le w (omega (arith, length-take (at + n) b, p.1)) in
      let front : take n (drop at b) ≡ f.0 = sym (window b at n) ∙ f.1 ∙ ap (λ (u : List ℕ). f.0 ++ u) over ∙ append-nil f.0 in
      let parts : drop at b ≡ f.0 ++ drop next b = cut b at n ∙ ap (λ (v : List ℕ). v ++ drop (at + n) b) front ∙ ap (λ (k : ℕ). f.0 ++ drop k b) (sym p.1) in
      (f.0, parts, f.2, (omega (arith, f.2, p.1), f.3));
  only = λ b at x t u le e follows w.
      let front : drop at (take (at + n) b) ≡ t ++ [] = window b at n ∙ ap (take n) e ∙ take_at t u n w.0 ∙ sym (append-nil t) in
      let one = r.only (take (at + n) b) at x t [] (window_inside b at n le) front tt w.1 in
      let ends : eqb (at + length t) (at + n) ≡ true = eq-eqb _ _ (ap (λ (k : ℕ). at + k) w.0) in
      rw (one, ends) refl;
  ends = λ b at x next le e. tt;
  fault = λ b at d le e.
      let w = take (at + n) b in
      elim (closed_err (leb (at + n) (length b)) (at + n) (read w at) d e) [
        | inl p ↦
            let f = r.fault w at p.0 (window_inside b at n le) p.1 in
            let o = ends_as b at n p.0 d le p.2 in
            (f.0, o.0 ∙ f.1, inl (p.0.kind, subst (λ (v : List ℕ). g.breaks v p.0.kind f.0) (window b at n) f.2, o.1))
        | inr p ↦
            let f = r.found w at p.0 p.1 (window_inside b at n le) p.2 in
            let le2 = inside w at p.1 f.0 (drop p.1 w) (window_inside b at n le) f.1 f.2 in
            let short : p.1 < at + n = omega (arith, p.3, length-take (at + n) b) in
            (length f.0, p.5 ∙ f.2, inr (p.0, f.0, drop p.1 w, sym (window b at n) ∙ f.1, f.3, omega (arith, f.2), p.4, refl))
      ];
  stops = λ b at kind k le h.
      let w = take (at + n) b in
      let inner_le = window_inside b at n le in
      elim h [
        | inl p ↦
            let one = r.stops w at p.0 k inner_le (subst (λ (v : List ℕ). g.breaks v p.0 k) (sym (window b at n)) p.1) in
            ap (closed_window (leb (at + n) (length b)) (at + n)) one ∙ ap (λ (d : DecodeError). stop {A = A × ℕ} d) (ends_again b at n (at + k) p.0 kind le p.2)
        | inr p ↦
            let front : drop at w ≡ p.1 ++ p.2 = window b at n ∙ p.3 in
            let one = r.only w at p.0 p.1 p.2 inner_le front tt p.4 in
            let other : eqb (at + length p.1) (at + n) ≡ false = ne_eqb _ _ (λ same. (let lt = p.5 in omega arith)) in
            ap (closed_window (leb (at + n) (length b)) (at + n)) one
            ∙ cond-false (eqb (at + length p.1) (at + n)) (Ok (p.0, at + length p.1)) (fail SectionSize (at + length p.1)) other
            ∙ ap (λ (c : FaultKind). fail c (at + length p.1)) (sym p.6) ∙ fails_at kind (at + length p.1) (at + k) (omega (arith, p.7))
      ];
}

closed_from_ok : {A : Type 0} (whole : Bool) (end len : ℕ) (r : Result (A × ℕ) DecodeError) (x : A) (next : ℕ) → closed_from whole end len r ≡ Ok (x, next) → (mid : ℕ) × (r ≡ Ok (x, mid)) × (next ≡ end) × (whole ≡ true)
closed_from_ok {A} whole end len (Ok y) x next e = elim (chosen whole (Ok (y.0, end)) (fail Truncated len) (Ok (x, next)) e) [
  | inl h ↦ let p = ok_is (y.0, end) (x, next) h.1 in (y.1, ap (λ (z : A × ℕ). succeed (z.0, y.1)) p, sym (ap (λ (z : A × ℕ). z.1) p), h.0)
  | inr h ↦ absurd cc
]
closed_from_ok whole end len (Err d) x next e = absurd cc

closed_from_err : {A : Type 0} (whole : Bool) (end len : ℕ) (r : Result (A × ℕ) DecodeError) (d : DecodeError) → closed_from whole end len r ≡ Err d
    → ((inner : DecodeError) × (r ≡ Err inner) × (outer_fault whole inner ≡ d)) ⊎ ((x : A) × (next : ℕ) × (r ≡ Ok (x, next)) × (whole ≡ false) × (d.kind ≡ Truncated) × (d.offset ≡ len))
closed_from_err {A} whole end len (Ok y) d e = elim (chosen whole (Ok (y.0, end)) (fail Truncated len) (Err d) e) [
  | inl h ↦ absurd cc
  | inr h ↦ let q = err_is {A = A × ℕ} _ d h.1 in inr (y.0, y.1, refl, h.0, sym (ap (λ (f : DecodeError). f.kind) q), sym (ap (λ (f : DecodeError). f.offset) q))
]
closed_from_err {A} whole end len (Err inner) d e = inl (inner, refl, err_is {A = A × ℕ} _ d e)

pub reads_exactly_from : {A : Type 0} (n : ℕ) (g : Grammar A) (read : List ℕ → ℕ → Result (A × ℕ) DecodeError) → ReadsBy Anything g read → ReadsBy Anything (exactly_from n g) (exactly_from_at n read)
reads_exactly_from {A} n g read r = record {
  found = λ b at x next le e.
      let w = take (at + n) b in
      let p = closed_from_ok (leb (at + n) (length b)) (at + n) (length b) (read w at) x next e in
      let f = r.found w at x p.0 (window_inside b at n le) p.1 in
      let whole = leb-true _ _ p.3 in
      let len : length (take n (drop at b)) ≡ n = omega (arith, length-take n (drop at b), length-drop at b) in
      let parts : drop at b ≡ take n (drop at b) ++ drop next b = cut b at n ∙ ap (λ (k : ℕ). take n (drop at b) ++ drop k b) (sym p.2) in
      (take n (drop at b), parts, p.2 ∙ ap (λ (k : ℕ). at + k) (sym len), (len, f.0, drop p.0 w, sym (window b at n) ∙ f.1, f.3));
  only = λ b at x t u le e follows w.
      let front : drop at (take (at + n) b) ≡ w.1 ++ w.2 = window b at n ∙ ap (take n) e ∙ take_at t u n w.0 ∙ w.3 in
      let one = r.only (take (at + n) b) at x w.1 w.2 (window_inside b at n le) front tt w.4 in
      let whole : leb (at + n) (length b) ≡ true = le-leb _ _ (omega (arith, length-drop at b, length-append t u, ap length e, w.0)) in
      rw (one, whole) (ap (λ (k : ℕ). Ok (x, at + k)) (sym w.0));
  ends = λ b at x next le e. tt;
  fault = λ b at d le e.
      let w = take (at + n) b in
      elim (closed_from_err (leb (at + n) (length b)) (at + n) (length b) (read w at) d e) [
        | inl p ↦
            let f = r.fault w at p.0 (window_inside b at n le) p.1 in
            let o = ends_as b at n p.0 d le p.2 in
            (f.0, o.0 ∙ f.1, inl (p.0.kind, subst (λ (v : List ℕ). g.breaks v p.0.kind f.0) (window b at n) f.2, o.1))
        | inr p ↦
            let f = r.found w at p.0 p.1 (window_inside b at n le) p.2 in
            let past = leb-false _ _ p.3 in
            let all : take n (drop at b) ≡ drop at b = take_all n (drop at b) (omega (arith, length-drop at b)) in
            (length (drop at b), omega (arith, length-drop at b, p.5), inr (omega (arith, length-drop at b), (p.0, f.0, drop p.1 w, sym all ∙ sym (window b at n) ∙ f.1, f.3), p.4, refl))
      ];
  stops = λ b at kind k le h.
      let w = take (at + n) b in
      let inner_le = window_inside b at n le in
      elim h [
        | inl p ↦
            let one = r.stops w at p.0 k inner_le (subst (λ (v : List ℕ). g.breaks v p.0 k) (sym (window b at n)) p.1) in
            ap (closed_from (leb (at + n) (length b)) (at + n) (length b)) one ∙ ap (λ (d : DecodeError). stop {A = A × ℕ} d) (ends_again b at n (at + k) p.0 kind le p.2)
        | inr p ↦
            let all : take n (drop at b) ≡ drop at b = take_all n (drop at b) (let lt = p.0 in omega arith) in
            let front : drop at w ≡ p.1.1 ++ p.1.2 = window b at n ∙ all ∙ p.1.3 in
            let one = r.only w at p.1.0 p.1.1 p.1.2 inner_le front tt p.1.4 in
            let cut_off : leb (at + n) (length b) ≡ false = lt-leb _ _ (let lt = p.0 in omega (arith, length-drop at b)) in
            ap (closed_from (leb (at + n) (length b)) (at + n) (length b)) one
            ∙ cond-false (leb (at + n) (length b)) (Ok (p.1.0, at + n)) (fail Truncated (length b)) cut_off
            ∙ ap (λ (c : FaultKind). fail c (length b)) (sym p.2) ∙ fails_at kind (length b) (at + k) (omega (arith, p.3, length-drop at b))
      ];
}

-- ---- what was read before

pub with_front-with_front : {A : Type 0} (front more : List A) (read : Result (List A × ℕ) DecodeError) → with_front front (with_front more read) ≡ with_front (front ++ more) read
with_front-with_front front more (Ok r) = ap (λ (xs : List _). succeed (xs, r.1)) (sym (append_assoc front more r.0))
with_front-with_front front more (Err e) = refl

pub with_front-nil : {A : Type 0} (read : Result (List A × ℕ) DecodeError) → with_front [] read ≡ read
with_front-nil (Ok r) = refl
with_front-nil (Err e) = refl
