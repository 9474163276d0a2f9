-- Reading a number.
use Rattle.std.proofs.Common.{◌≡◌, ℕ, ◌+◌, ◌-◌, ◌*◌, ◌^◌, ◌<◌, ◌≤◌, min, true, false, cond, List, [], ◌∷◌, ◌++◌, length, drop, Ok, Err, refl, sym, ap, ◌∙◌, inl, inr, ◌⊎◌, arith, ltb, leb, ◌&&◌, ℤ, pos, ◌+ℤ◌, ◌-ℤ◌, ◌*ℤ◌}
use Rattle.std.proofs.Math.Pow.{pow_mono}
use Rattle.std.proofs.lemmas.Bool.{ltb-true, ltb-false, lt-ltb, le-ltb, leb-true, leb-false, le-leb, lt-leb, and_parts, and_cases, and_from, and_left, and_right, cases_lt, cond-true, cond-false}
use Rattle.std.proofs.lemmas.Int.{ints}
use Rattle.wh_model.specs.declared.faults.FaultKind.{FaultKind}
use Rattle.wh_model.specs.declared.faults.FaultKind.TheVariants.{Leb}
use Rattle.wh_model.specs.declared.faults.DecodeError.{DecodeError}
use Rattle.wh_model.specs.Format.Grammar.{Grammar}
use Rattle.wh_model.specs.Format.{up_to, times, this_byte, exact_byte, IsUnsigned, BreaksUnsigned, IsSigned, BreaksSigned, unsigned, signed, u32, s32, s64, vec, vec_up_to}
use Rattle.wh_leb.specs.Reading.{fail, ReadsBy, Reader, Anything, unsigned_of, signed_of, u32_at, s32_at, s64_at, one_at, limited_at, times_at, vec_at, vec_up_to_at}
use Rattle.wh_leb.proofs.Combinators.{bind_ok, bind_err, chosen, ok_is, err_is, after, fails_at, reads_then, reads_one_of, reads_up_to, reads_times}

-- ---- unsigned

unsigned_cons : (bits b : ℕ) (t : List ℕ) (m n : ℕ) → IsUnsigned (bits - 7) t m → 128 ≤ b → 7 < bits → n + 128 ≡ b + 128 * m → IsUnsigned bits (b ∷ t) n
unsigned_cons bits b [] m n h big more e = absurd h
unsigned_cons bits b (c ∷ cs) m n h big more e = (big, more, m, e, h)

unsigned_found : (bits : ℕ) (b : List ℕ) (at n next : ℕ) → unsigned_of bits b at ≡ Ok (n, next) → (t u : List ℕ) × (b ≡ t ++ u) × (next ≡ at + length t) × IsUnsigned bits t n
unsigned_found bits [] at n next e = absurd cc
unsigned_found bits (b ∷ bs) at n next e = elim (chosen (ltb 127 b && ltb 7 bits) _ (cond (ltb b (2 ^ min bits 7)) (Ok (b, at + 1)) (fail Leb at)) (Ok (n, next)) e) [
  | inl h ↦
      let both = and_parts (ltb 127 b) (ltb 7 bits) h.0 in
      let big = ltb-true _ _ both.0 in
      let more = ltb-true _ _ both.1 in
      let p = bind_ok (unsigned_of (bits - 7) bs (at + 1)) (λ high. Ok (b - 128 + 128 * high.0, high.1)) (n, next) h.1 in
      let q = ok_is (b - 128 + 128 * p.0.0, p.0.1) (n, next) p.2 in
      let value : b - 128 + 128 * p.0.0 ≡ n = ap (λ (z : ℕ × ℕ). z.0) q in
      let place : p.0.1 ≡ next = ap (λ (z : ℕ × ℕ). z.1) q in
      let f = unsigned_found (bits - 7) bs (at + 1) p.0.0 p.0.1 p.1 in
      (b ∷ f.0, f.1, ap (λ (v : List ℕ). b ∷ v) f.2, omega (arith, f.3), unsigned_cons bits b f.0 p.0.0 n f.4 (omega arith) more (omega arith))
  | inr h ↦ elim (chosen (ltb b (2 ^ min bits 7)) (Ok (b, at + 1)) (fail Leb at) (Ok (n, next)) h.1) [
    | inl k ↦
        let q = ok_is (b, at + 1) (n, next) k.1 in
        let small = ltb-true _ _ k.0 in
        (b ∷ [], bs, refl, sym (ap (λ (z : ℕ × ℕ). z.1) q), (omega (arith, pow_mono {i = min bits 7} {j = 7} (omega arith)), omega (arith, pow_mono {i = min bits 7} {j = bits} (omega arith)), sym (ap (λ (z : ℕ × ℕ). z.0) q)))
    | inr k ↦ absurd cc
  ]
]

unsigned_only : (bits : ℕ) (t u : List ℕ) (at n : ℕ) → IsUnsigned bits t n → unsigned_of bits (t ++ u) at ≡ Ok (n, at + length t)
unsigned_only bits [] u at n h = absurd h
unsigned_only bits (b ∷ []) u at n h =
    let last : (ltb 127 b && ltb 7 bits) ≡ false = and_left (ltb 127 b) (ltb 7 bits) (le-ltb 127 b (let s = h.0 in omega arith)) in
    let small : b < 2 ^ min bits 7 = elim (cases_lt 7 bits) [
      | inl lt ↦ (let e : min bits 7 ≡ 7 = omega arith in rw e h.0)
      | inr le ↦ (let e : min bits 7 ≡ bits = omega arith in rw e h.1)
    ] in
    rw (last, lt-ltb b (2 ^ min bits 7) small, h.2) refl
unsigned_only bits (b ∷ c ∷ cs) u at n h =
    let goes : (ltb 127 b && ltb 7 bits) ≡ true = and_from (ltb 127 b) (ltb 7 bits) (lt-ltb 127 b (let s = h.0 in omega arith)) (lt-ltb 7 bits h.1) in
    let rest = unsigned_only (bits - 7) (c ∷ cs) u (at + 1) h.2 h.4 in
    let value : b - 128 + 128 * h.2 ≡ n = (let s = h.0 in omega (arith, h.3)) in
    let place : at + 1 + length (c ∷ cs) ≡ at + length (b ∷ c ∷ cs) = omega arith in
    rw (goes, rest, value) (ap (λ (k : ℕ). Ok (n, k)) place)

unsigned_fault : (bits : ℕ) (b : List ℕ) (at : ℕ) (d : DecodeError) → unsigned_of bits b at ≡ Err d → (k : ℕ) × (d.offset ≡ at + k) × BreaksUnsigned bits b d.kind k
unsigned_fault bits [] at d e = let q = err_is {A = ℕ × ℕ} _ d e in (0, (let o : at ≡ d.offset = ap (λ (f : DecodeError). f.offset) q in omega arith), (sym (ap (λ (f : DecodeError). f.kind) q), refl))
unsigned_fault bits (b ∷ bs) at d e = elim (chosen (ltb 127 b && ltb 7 bits) _ (cond (ltb b (2 ^ min bits 7)) (Ok (b, at + 1)) (fail Leb at)) (Err d) e) [
  | inl h ↦
      let both = and_parts (ltb 127 b) (ltb 7 bits) h.0 in
      elim (bind_err (unsigned_of (bits - 7) bs (at + 1)) (λ high. Ok (b - 128 + 128 * high.0, high.1)) d h.1) [
        | inl k ↦
            let f = unsigned_fault (bits - 7) bs (at + 1) d k in
            let big = ltb-true _ _ both.0 in
            (1 + f.0, omega (arith, f.1), inr (omega arith, ltb-true _ _ both.1, f.0, refl, f.2))
        | inr k ↦ absurd cc
      ]
  | inr h ↦ elim (chosen (ltb b (2 ^ min bits 7)) (Ok (b, at + 1)) (fail Leb at) (Err d) h.1) [
    | inl k ↦ absurd cc
    | inr k ↦
        let q = err_is {A = ℕ × ℕ} _ d k.1 in
        let o : at ≡ d.offset = ap (λ (f : DecodeError). f.offset) q in
        let over = ltb-false _ _ k.0 in
        let few : bits ≤ 7 = elim (cases_lt 7 bits) [
          | inl lt ↦ (let m : min bits 7 ≡ 7 = omega arith in let past : 128 ≤ b = rw m at over in elim (and_cases (ltb 127 b) (ltb 7 bits) h.0) [
            | inl w ↦ (let s = ltb-false _ _ w in absurd (omega arith))
            | inr w ↦ (let s = ltb-false _ _ w in absurd (omega arith))
          ])
          | inr le ↦ le
        ] in
        let m : min bits 7 ≡ bits = omega arith in
        (0, omega arith, inl (few, (rw m at over), sym (ap (λ (f : DecodeError). f.kind) q), refl))
  ]
]

unsigned_stops : (bits : ℕ) (b : List ℕ) (at : ℕ) (kind : FaultKind) (k : ℕ) → BreaksUnsigned bits b kind k → unsigned_of bits b at ≡ Err (record { kind = kind; offset = at + k })
unsigned_stops bits [] at kind k h = ap (λ (c : FaultKind). fail c at) (sym h.0) ∙ fails_at kind at (at + k) (omega (arith, h.1))
unsigned_stops bits (b ∷ bs) at kind k (inl h) =
    let last : (ltb 127 b && ltb 7 bits) ≡ false = and_right (ltb 127 b) (ltb 7 bits) (le-ltb 7 bits h.0) in
    let m : min bits 7 ≡ bits = (let few = h.0 in omega arith) in
    let over : ltb b (2 ^ min bits 7) ≡ false = le-ltb b _ (rw m h.1) in
    rw (last, over, h.2) (fails_at Leb at (at + k) (omega (arith, h.3)))
unsigned_stops bits (b ∷ bs) at kind k (inr h) =
    let goes : (ltb 127 b && ltb 7 bits) ≡ true = and_from (ltb 127 b) (ltb 7 bits) (lt-ltb 127 b (let s = h.0 in omega arith)) (lt-ltb 7 bits h.1) in
    rw (goes, unsigned_stops (bits - 7) bs (at + 1) kind h.2 h.4) (fails_at kind (at + 1 + h.2) (at + k) (omega (arith, h.3)))

pub reads_unsigned : (bits : ℕ) → ReadsBy Anything (unsigned bits) (λ b at. unsigned_of bits (drop at b) at)
reads_unsigned bits = record {
  found = λ b at n next le e.
      let f = unsigned_found bits (drop at b) at n next e in
      let rest : drop next b ≡ f.1 = ap (λ (k : ℕ). drop k b) f.3 ∙ after b at f.0 f.1 f.2 in
      (f.0, f.2 ∙ ap (λ (u : List ℕ). f.0 ++ u) (sym rest), f.3, f.4);
  only = λ b at n t u le e follows w. ap (λ (v : List ℕ). unsigned_of bits v at) e ∙ unsigned_only bits t u at n w;
  ends = λ b at x next le e. tt;
  fault = λ b at d le e. unsigned_fault bits (drop at b) at d e;
  stops = λ b at kind k le w. unsigned_stops bits (drop at b) at kind k w;
}

pub reads_u32 : ReadsBy Anything u32 u32_at
unfolding u32_at
reads_u32 = reads_unsigned 32

-- ---- signed

signed_cons : (bits b : ℕ) (t : List ℕ) (m n : ℤ) → IsSigned (bits - 7) t m → 128 ≤ b → 7 < bits → n +ℤ pos 128 ≡ pos b +ℤ pos 128 *ℤ m → IsSigned bits (b ∷ t) n
signed_cons bits b [] m n h big more e = absurd h
signed_cons bits b (c ∷ cs) m n h big more e = (big, more, m, e, h)

half_of : (bits : ℕ) → 2 ^ (min bits 7 - 1) ≤ 64
half_of bits = pow_mono {i = min bits 7 - 1} {j = 6} (omega arith)

half_le : (bits : ℕ) → 2 ^ (min bits 7 - 1) ≤ 2 ^ (bits - 1)
half_le bits = pow_mono {i = min bits 7 - 1} {j = bits - 1} (omega arith)

signed_found : (bits : ℕ) (b : List ℕ) (at : ℕ) (n : ℤ) (next : ℕ) → signed_of bits b at ≡ Ok (n, next) → (t u : List ℕ) × (b ≡ t ++ u) × (next ≡ at + length t) × IsSigned bits t n
signed_found bits [] at n next e = absurd cc
signed_found bits (b ∷ bs) at n next e =
    let half = 2 ^ (min bits 7 - 1) in
    elim (chosen (ltb 127 b && ltb 7 bits) _ (cond (ltb b half) (Ok (pos b, at + 1)) (cond (leb (128 - half) b && ltb b 128) (Ok (pos b -ℤ pos 128, at + 1)) (fail Leb at))) (Ok (n, next)) e) [
      | inl h ↦
          let both = and_parts (ltb 127 b) (ltb 7 bits) h.0 in
          let big = ltb-true _ _ both.0 in
          let more = ltb-true _ _ both.1 in
          let p = bind_ok (signed_of (bits - 7) bs (at + 1)) (λ high. Ok (pos (b - 128) +ℤ pos 128 *ℤ high.0, high.1)) (n, next) h.1 in
          let q = ok_is (pos (b - 128) +ℤ pos 128 *ℤ p.0.0, p.0.1) (n, next) p.2 in
          let value : pos (b - 128) +ℤ pos 128 *ℤ p.0.0 ≡ n = ap (λ (z : ℤ × ℕ). z.0) q in
          let place : p.0.1 ≡ next = ap (λ (z : ℤ × ℕ). z.1) q in
          let f = signed_found (bits - 7) bs (at + 1) p.0.0 p.0.1 p.1 in
          (b ∷ f.0, f.1, ap (λ (v : List ℕ). b ∷ v) f.2, omega (arith, f.3), signed_cons bits b f.0 p.0.0 n f.4 (omega arith) more (omega (arith, ints)))
      | inr h ↦ elim (chosen (ltb b half) (Ok (pos b, at + 1)) (cond (leb (128 - half) b && ltb b 128) (Ok (pos b -ℤ pos 128, at + 1)) (fail Leb at)) (Ok (n, next)) h.1) [
        | inl k ↦
            let q = ok_is (pos b, at + 1) (n, next) k.1 in
            let small = ltb-true _ _ k.0 in
            (b ∷ [], bs, refl, sym (ap (λ (z : ℤ × ℕ). z.1) q), inl (omega (arith, half_of bits), omega (arith, half_le bits), sym (ap (λ (z : ℤ × ℕ). z.0) q)))
        | inr k ↦ elim (chosen (leb (128 - half) b && ltb b 128) (Ok (pos b -ℤ pos 128, at + 1)) (fail Leb at) (Ok (n, next)) k.1) [
          | inl j ↦
              let q = ok_is (pos b -ℤ pos 128, at + 1) (n, next) j.1 in
              let both = and_parts (leb (128 - half) b) (ltb b 128) j.0 in
              let low = leb-true _ _ both.0 in
              let high = ltb-true _ _ both.1 in
              let value : pos b -ℤ pos 128 ≡ n = ap (λ (z : ℤ × ℕ). z.0) q in
              (b ∷ [], bs, refl, sym (ap (λ (z : ℤ × ℕ). z.1) q), inr (omega (arith, half_of bits), high, omega (arith, half_le bits), omega (arith, ints)))
          | inr j ↦ absurd cc
        ]
      ]
    ]

signed_only : (bits : ℕ) (t u : List ℕ) (at : ℕ) (n : ℤ) → IsSigned bits t n → signed_of bits (t ++ u) at ≡ Ok (n, at + length t)
signed_only bits [] u at n h = absurd h
signed_only bits (b ∷ []) u at n (inl h) =
    let half = 2 ^ (min bits 7 - 1) in
    let last : (ltb 127 b && ltb 7 bits) ≡ false = and_left (ltb 127 b) (ltb 7 bits) (le-ltb 127 b (let s = h.0 in omega arith)) in
    let small : b < half = elim (cases_lt 7 bits) [
      | inl lt ↦ (let e : min bits 7 ≡ 7 = omega arith in rw e h.0)
      | inr le ↦ (let e : min bits 7 ≡ bits = omega arith in rw e h.1)
    ] in
    rw (last, lt-ltb b half small, h.2) refl
signed_only bits (b ∷ []) u at n (inr h) =
    let half = 2 ^ (min bits 7 - 1) in
    let last : (ltb 127 b && ltb 7 bits) ≡ false = and_left (ltb 127 b) (ltb 7 bits) (le-ltb 127 b (let s = h.1 in omega arith)) in
    let above : 128 - half ≤ b = elim (cases_lt 7 bits) [
      | inl lt ↦ (let e : min bits 7 ≡ 7 = omega arith in rw e h.0)
      | inr le ↦ (let e : min bits 7 ≡ bits = omega arith in rw e (omega (arith, h.2)))
    ] in
    let past : half ≤ b = omega (arith, half_of bits, h.0) in
    let value : pos b -ℤ pos 128 ≡ n = (let v = h.3 in omega (arith, ints)) in
    let within : (leb (128 - half) b && ltb b 128) ≡ true = and_from (leb (128 - half) b) (ltb b 128) (le-leb (128 - half) b above) (lt-ltb b 128 h.1) in
    cond-false (ltb 127 b && ltb 7 bits) _ (cond (ltb b half) (Ok (pos b, at + 1)) (cond (leb (128 - half) b && ltb b 128) (Ok (pos b -ℤ pos 128, at + 1)) (fail Leb at))) last
    ∙ cond-false (ltb b half) (Ok (pos b, at + 1)) (cond (leb (128 - half) b && ltb b 128) (Ok (pos b -ℤ pos 128, at + 1)) (fail Leb at)) (le-ltb b half past)
    ∙ cond-true (leb (128 - half) b && ltb b 128) (Ok (pos b -ℤ pos 128, at + 1)) (fail Leb at) within
    ∙ ap (λ (m : ℤ). Ok (m, at + 1)) value
signed_only bits (b ∷ c ∷ cs) u at n h =
    let goes : (ltb 127 b && ltb 7 bits) ≡ true = and_from (ltb 127 b) (ltb 7 bits) (lt-ltb 127 b (let s = h.0 in omega arith)) (lt-ltb 7 bits h.1) in
    let rest = signed_only (bits - 7) (c ∷ cs) u (at + 1) h.2 h.4 in
    let value : pos (b - 128) +ℤ pos 128 *ℤ h.2 ≡ n = (let s = h.0 in let v = h.3 in omega (arith, ints)) in
    let place : at + 1 + length (c ∷ cs) ≡ at + length (b ∷ c ∷ cs) = omega arith in
    rw (goes, rest, value) (ap (λ (k : ℕ). Ok (n, k)) place)

signed_fault : (bits : ℕ) (b : List ℕ) (at : ℕ) (d : DecodeError) → signed_of bits b at ≡ Err d → (k : ℕ) × (d.offset ≡ at + k) × BreaksSigned bits b d.kind k
signed_fault bits [] at d e = let q = err_is {A = ℤ × ℕ} _ d e in (0, (let o : at ≡ d.offset = ap (λ (f : DecodeError). f.offset) q in omega arith), (sym (ap (λ (f : DecodeError). f.kind) q), refl))
signed_fault bits (b ∷ bs) at d e =
    let half = 2 ^ (min bits 7 - 1) in
    elim (chosen (ltb 127 b && ltb 7 bits) _ (cond (ltb b half) (Ok (pos b, at + 1)) (cond (leb (128 - half) b && ltb b 128) (Ok (pos b -ℤ pos 128, at + 1)) (fail Leb at))) (Err d) e) [
      | inl h ↦
          let both = and_parts (ltb 127 b) (ltb 7 bits) h.0 in
          elim (bind_err (signed_of (bits - 7) bs (at + 1)) (λ high. Ok (pos (b - 128) +ℤ pos 128 *ℤ high.0, high.1)) d h.1) [
            | inl k ↦
                let f = signed_fault (bits - 7) bs (at + 1) d k in
                let big = ltb-true _ _ both.0 in
                (1 + f.0, omega (arith, f.1), inr (omega arith, ltb-true _ _ both.1, f.0, refl, f.2))
            | inr k ↦ absurd cc
          ]
      | inr h ↦ elim (chosen (ltb b half) (Ok (pos b, at + 1)) (cond (leb (128 - half) b && ltb b 128) (Ok (pos b -ℤ pos 128, at + 1)) (fail Leb at)) (Err d) h.1) [
        | inl k ↦ absurd cc
        | inr k ↦ elim (chosen (leb (128 - half) b && ltb b 128) (Ok (pos b -ℤ pos 128, at + 1)) (fail Leb at) (Err d) k.1) [
          | inl j ↦ absurd cc
          | inr j ↦
              let q = err_is {A = ℤ × ℕ} _ d j.1 in
              let o : at ≡ d.offset = ap (λ (f : DecodeError). f.offset) q in
              let over : half ≤ b = ltb-false _ _ k.0 in
              let way : (b < 128 - half) ⊎ (128 ≤ b) = elim (and_cases (leb (128 - half) b) (ltb b 128) j.0) [
                | inl w ↦ inl (leb-false _ _ w)
                | inr w ↦ inr (ltb-false _ _ w)
              ] in
              let few : bits ≤ 7 = elim (cases_lt 7 bits) [
                | inl lt ↦ (let m : min bits 7 ≡ 7 = omega arith in let over64 : 64 ≤ b = rw m at over in elim way [
                  | inl w ↦ (let w64 : b < 64 = rw m at w in absurd (omega arith))
                  | inr w ↦ elim (and_cases (ltb 127 b) (ltb 7 bits) h.0) [
                    | inl v ↦ (let s = ltb-false _ _ v in absurd (omega arith))
                    | inr v ↦ (let s = ltb-false _ _ v in absurd (omega arith))
                  ]
                ])
                | inr le ↦ le
              ] in
              let m : min bits 7 ≡ bits = omega arith in (
                0,
                omega arith,
                inl (
                  few,
                  (rw m at over),
                  elim way [
                    | inl w ↦ inr (let v : b < 128 - 2 ^ (bits - 1) = rw m at w in omega arith)
                    | inr w ↦ inl w
                  ],
                  sym (ap (λ (f : DecodeError). f.kind) q),
                  refl,
                ),
              )
        ]
      ]
    ]

signed_stops : (bits : ℕ) (b : List ℕ) (at : ℕ) (kind : FaultKind) (k : ℕ) → BreaksSigned bits b kind k → signed_of bits b at ≡ Err (record { kind = kind; offset = at + k })
signed_stops bits [] at kind k h = ap (λ (c : FaultKind). fail c at) (sym h.0) ∙ fails_at kind at (at + k) (omega (arith, h.1))
signed_stops bits (b ∷ bs) at kind k (inl h) =
    let half = 2 ^ (min bits 7 - 1) in
    let last : (ltb 127 b && ltb 7 bits) ≡ false = and_right (ltb 127 b) (ltb 7 bits) (le-ltb 7 bits h.0) in
    let m : min bits 7 ≡ bits = (let few = h.0 in omega arith) in
    let over : ltb b half ≡ false = le-ltb b _ (rw m h.1) in
    let outside : (leb (128 - half) b && ltb b 128) ≡ false = elim h.2 [
      | inl big ↦ and_right (leb (128 - half) b) (ltb b 128) (le-ltb b 128 big)
      | inr low ↦ and_left (leb (128 - half) b) (ltb b 128) (lt-leb (128 - half) b (rw m (omega arith)))
    ] in
    cond-false (ltb 127 b && ltb 7 bits) _ (cond (ltb b half) (Ok (pos b, at + 1)) (cond (leb (128 - half) b && ltb b 128) (Ok (pos b -ℤ pos 128, at + 1)) (fail Leb at))) last
    ∙ cond-false (ltb b half) (Ok (pos b, at + 1)) (cond (leb (128 - half) b && ltb b 128) (Ok (pos b -ℤ pos 128, at + 1)) (fail Leb at)) over
    ∙ cond-false (leb (128 - half) b && ltb b 128) (Ok (pos b -ℤ pos 128, at + 1)) (fail Leb at) outside
    ∙ ap (λ (c : FaultKind). fail c at) (sym h.3) ∙ fails_at kind at (at + k) (omega (arith, h.4))
signed_stops bits (b ∷ bs) at kind k (inr h) =
    let goes : (ltb 127 b && ltb 7 bits) ≡ true = and_from (ltb 127 b) (ltb 7 bits) (lt-ltb 127 b (let s = h.0 in omega arith)) (lt-ltb 7 bits h.1) in
    rw (goes, signed_stops (bits - 7) bs (at + 1) kind h.2 h.4) (fails_at kind (at + 1 + h.2) (at + k) (omega (arith, h.3)))

pub reads_signed : (bits : ℕ) → ReadsBy Anything (signed bits) (λ b at. signed_of bits (drop at b) at)
reads_signed bits = record {
  found = λ b at n next le e.
      let f = signed_found bits (drop at b) at n next e in
      let rest : drop next b ≡ f.1 = ap (λ (k : ℕ). drop k b) f.3 ∙ after b at f.0 f.1 f.2 in
      (f.0, f.2 ∙ ap (λ (u : List ℕ). f.0 ++ u) (sym rest), f.3, f.4);
  only = λ b at n t u le e follows w. ap (λ (v : List ℕ). signed_of bits v at) e ∙ signed_only bits t u at n w;
  ends = λ b at x next le e. tt;
  fault = λ b at d le e. signed_fault bits (drop at b) at d e;
  stops = λ b at kind k le w. signed_stops bits (drop at b) at kind k w;
}

pub reads_s32 : ReadsBy Anything s32 s32_at
unfolding s32_at
reads_s32 = reads_signed 32

pub reads_s64 : ReadsBy Anything s64 s64_at
unfolding s64_at
reads_s64 = reads_signed 64

-- ---- vectors, and a byte that is known

pub reads_vec : {A : Type 0} (g : Grammar A) (read : Reader A) → ReadsBy Anything g read → ReadsBy Anything (vec g) (vec_at read)
reads_vec g read r = reads_then Anything u32 (λ n. times n g) u32_at (λ n. times_at n read) reads_u32 (λ n. reads_times n g read r)

pub reads_vec_up_to : {A : Type 0} (limit : ℕ) (g : Grammar A) (read : Reader A) → ReadsBy Anything g read → ReadsBy Anything (vec_up_to limit g) (vec_up_to_at limit read)
reads_vec_up_to limit g read r = reads_then Anything (up_to limit u32) (λ n. times n g) (limited_at limit u32_at) (λ n. times_at n read) (reads_up_to limit u32 u32_at reads_u32) (λ n. reads_times n g read r)

pub reads_byte : (kind : FaultKind) (c : ℕ) → ReadsBy Anything (this_byte kind c) (one_at (exact_byte kind c))
reads_byte kind c = reads_one_of (exact_byte kind c)
