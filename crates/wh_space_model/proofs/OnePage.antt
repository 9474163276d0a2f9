-- The page that must leave is one page.
use Rattle.std.proofs.Common.{◌≡◌, ◌∙◌, ℕ, ◌<◌, ◌≤◌, ◌⊎◌, inl, inr, Option, Some, None, sym, subst, arith, rules}
use Rattle.wh_model.specs.declared.memory.Need.{Need}
use Rattle.wh_space_model.specs.{one_if, occupant_number, IsBeside, IsFirstIdle, IsPayer, IsShed, IsTakenFrom, OnePageMustLeave, Space, Occupant, occupant_at, IsSound, at, page_at, shares}
use Rattle.wh_space_model.specs.declared.states.Page.{Page}
use Rattle.wh_space_model.specs.declared.states.Page.TheVariants.{Untouched, Private, Shared, Leaving, LeavingShared, Coming, Swapped}

three : (m n : ℕ) → (m < n) ⊎ ((n < m) ⊎ (m ≡ n))
three m n = grind arith

first_idle : (can busy : ℕ → Type 0) (p q : ℕ) → IsFirstIdle can busy p → IsFirstIdle can busy q → p ≡ q
first_idle can busy p q a b = search rules

-- who stands at a place is one occupant
one_occupant : (s : Space) (i : ℕ) (t u : Occupant) → occupant_at s i t → occupant_at s i u → t ≡ u
one_occupant s i t u a b = let e : Some (Some t) ≡ Some (Some u) = sym a ∙ b in cc e

earlier : (s : Space) (i j : ℕ) (t u : Occupant) → occupant_at s i t → occupant_at s j u → t.number < u.number → (v w : Occupant) → occupant_at s i v → occupant_at s j w → v.number < w.number
earlier s i j t u ti uj less v w vi wj = rw (one_occupant s i v t vi ti, one_occupant s j w u wj uj) less

payer : (s : Space) (i j : ℕ) → IsSound s → IsPayer s i → IsPayer s j → i ≡ j
payer s i j sound a b =
    let t = a.may_pay.0.0 in
    let ti = a.may_pay.0.1 in
    let u = b.may_pay.0.0 in
    let uj = b.may_pay.0.1 in
    elim (three t.number u.number) [
      | inl less ↦ absurd (a.least j b.may_pay (b.first i a.may_pay (earlier s i j t u ti uj less)))
      | inr other ↦ elim other [
        | inl more ↦ absurd (b.least i a.may_pay (a.first j b.may_pay (earlier s j i u t uj ti more)))
        | inr same ↦ sound.occupants.numbers i j t u ti uj same
      ]
    ]

same_frame : (f g n : ℕ) → one_if f n ≡ 1 → one_if g n ≡ 1 → f ≡ g
same_frame f g n a b = grind (arith, a, b)

-- a page shares one frame
one_frame : (f g : ℕ) (x : Option Page) → at (shares f) x ≡ 1 → at (shares g) x ≡ 1 → f ≡ g
one_frame f g None a b = absurd (omega (arith, a))
one_frame f g (Some Untouched) a b = absurd (omega (arith, a))
one_frame f g (Some (Private n)) a b = absurd (omega (arith, a))
one_frame f g (Some (Shared n)) a b = same_frame f g n a b
one_frame f g (Some (Leaving n)) a b = absurd (omega (arith, a))
one_frame f g (Some (LeavingShared n)) a b = same_frame f g n a b
one_frame f g (Some (Coming k)) a b = absurd (omega (arith, a))
one_frame f g (Some (Swapped k)) a b = absurd (omega (arith, a))

-- of the greatest there is one
abbrev IsAbove : Space → ℕ → ℕ → ℕ → ℕ → Type 0
IsAbove s j p k q = (occupant_number s k < occupant_number s j) ⊎ ((k ≡ j) × (q ≤ p))

greatest : (s : Space) (j p k q : ℕ) → IsAbove s j p k q → IsAbove s k q j p → (j ≡ k) × (p ≡ q)
greatest s j p k q a b = search rules

shed : (s : Space) (i j p k q : ℕ) (need : Need) → IsShed s i need j p → IsShed s i need k q → (j ≡ k) × (p ≡ q)
shed s i j p k q need a b =
    let page : a.page ≡ b.page = (let m = a.lower b.page b.frame b.sheds in let n = b.lower a.page a.frame a.sheds in omega (arith, m, n)) in
    let there : at (shares a.frame) (page_at s.tables i b.page) ≡ 1 = subst (λ r. at (shares a.frame) (page_at s.tables i r) ≡ 1) page a.sheds.on in
    let frame = one_frame a.frame b.frame (page_at s.tables i b.page) there b.sheds.on in
    greatest s j p k q
    (a.greatest k q (subst (λ f. IsBeside s i need f k q) (sym frame) b.beside))
    (b.greatest j p (subst (λ f. IsBeside s i need f j p) frame a.beside))

pub one_page_must_leave : OnePageMustLeave
one_page_must_leave s i j p k q need sound a b = elim a [
  | inl x ↦ elim b [
    | inl y ↦
        (let same = payer s j k sound x.0 y.0 in
        (same, first_idle _ _ p q (subst (λ n. IsTakenFrom s n p) same x.1) y.1))
    | inr y ↦ elim y [ inl z ↦ absurd (z.0 j x.0.may_pay) | inr z ↦ absurd (z.0.0 j x.0.may_pay) ]
  ]
  | inr x ↦ elim b [
    | inl y ↦ elim x [ inl z ↦ absurd (z.0 k y.0.may_pay) | inr z ↦ absurd (z.0.0 k y.0.may_pay) ]
    | inr y ↦ elim x [
      | inl z ↦ elim y [
        | inl w ↦ shed s i j p k q need z.1 w.1
        | inr w ↦ absurd (w.0.1 z.1.page z.1.frame z.1.sheds)
      ]
      | inr z ↦ elim y [
        | inl w ↦ absurd (z.0.1 w.1.page w.1.frame w.1.sheds)
        | inr w ↦ (z.1 ∙ sym w.1, first_idle _ _ p q z.2 w.2)
      ]
    ]
  ]
]
