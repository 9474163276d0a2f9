-- Runners of a round, one after the other.
use Rattle.std.proofs.Common.{◌≡◌, ◌≢◌, ◌∙◌, ◌⊎◌, inl, inr, ℕ, ◌+◌, ◌<◌, ◌≤◌, cond, Bool, true, false, List, [], ◌∷◌, Option, Some, None, length, slice_get, slice_index_or, slice_set, zero, suc, refl, sym, ap, subst, arith}
use Rattle.std.proofs.lemmas.Bool.{cases_eq, cases_lt}
use Rattle.wh_overlay.proofs.Marks.{set_there}
use Rattle.wh_space_model.proofs.Putting.{set_other, there_of}
use Rattle.wh_instance.specs.OwnerRequests.{OfAnyTenant}
use Rattle.wh_instance.specs.Seen.{IsAtTerm}
use Rattle.wh_space_model.specs.declared.plain.InstId.{InstId}
use Rattle.wh_host.specs.declared.parts.InstanceEntry.{InstanceEntry}
use Rattle.wh_host.specs.declared.rounds.Runner.{Runner}
use Rattle.wh_host.specs.Hosting.{entry_at}
use Rattle.wh_overlay.specs.LaidPages.{OverlayPagesState}
use Rattle.wh_space_model.proofs.Sums.{set_tally}
use Rattle.wh_host.specs.Rounds.{AllAreFree, AreTakenOut, RunnersStay, IsFree, IsOut, SitsThere, lent_in, lent_to, lent_to_all}
use Rattle.wh_host.specs.Joining.{IsLeftOut, IsTakenOut, TakesOut, with_lent}
use Rattle.wh_host.proofs.Hosts.{one_value, seat_set}

-- ---- a list of which one after the other changes

pub one_runner : (y z : Runner) → Some y ≡ Some z → y ≡ z
one_runner y z e = cc e

-- those before this one have changed so, and the others haven't
pub record EachSoFar (R : Runner → Runner → Type 0) (xs ys : List Runner) (i : ℕ) : Type 0 where
  pub done : (k : ℕ) (z : Runner) → k < i → slice_get ys k ≡ Some z → (y : Runner) × (slice_get xs k ≡ Some y) × R y z
  pub rest : (k : ℕ) (z : Runner) → i ≤ k → slice_get ys k ≡ Some z → slice_get xs k ≡ Some z

pub each_next : (R : Runner → Runner → Type 0) (xs ys : List Runner) (i : ℕ) (y z : Runner) → EachSoFar R xs ys i → slice_get ys i ≡ Some y → R y z → EachSoFar R xs (slice_set ys i z) (i + 1)
each_next R xs ys i y z h there so = record {
  done = λ k a less at. elim (cases_eq k i) [
    | inl same ↦ (
        let is : z ≡ a = one_runner z a (sym (set_there ys i z y there) ∙ ap (slice_get (slice_set ys i z)) (sym same) ∙ at) in
        (y, ap (slice_get xs) same ∙ h.rest i y (omega arith) there, subst (R y) is so))
    | inr other ↦ h.done k a (not_last k i less other) (sym (set_other ys i k z other) ∙ at)
  ];
  rest = λ k a least at. h.rest k a (omega (arith, least)) (sym (set_other ys i k z (λ e. absurd (omega (arith, e, least)))) ∙ at);
}
  where
    not_last : (k i : ℕ) → k < i + 1 → k ≢ i → k < i
    not_last k i less other = elim (cases_lt k i) [
      | inl before ↦ before
      | inr behind ↦ absurd (other (omega (arith, less, behind)))
    ]

pub each_all : (R : Runner → Runner → Type 0) (xs ys : List Runner) (i : ℕ) → EachSoFar R xs ys i → length ys ≤ i → (k : ℕ) (z : Runner) → slice_get ys k ≡ Some z → (y : Runner) × (slice_get xs k ≡ Some y) × R y z
each_all R xs ys i h all k z there = h.done k z (let less = there_of ys k z there in omega (arith, less, all)) there

-- ---- out

pub taken_or : (y : Runner) → (y.taken ≡ true) ⊎ (y.taken ≡ false)
taken_or y = go y.taken
  where
    go : (b : Bool) → (b ≡ true) ⊎ (b ≡ false)
    go true = inl refl
    go false = inr refl

pub not_both : (y : Runner) → y.taken ≡ true → y.taken ≡ false → ⊥
not_both y sits gone = let bad = sym sits ∙ gone in cc bad

-- a runner that nobody has is another runner that nobody has
pub free_out : (E F : List (Option InstanceEntry)) (ys : List Runner) (P : InstanceEntry → Runner → Type 0) (i : ℕ) (y y2 : Runner) → AreTakenOut E F ys P → slice_get ys i ≡ Some y → y.taken ≡ false → y2.taken ≡ false → AreTakenOut E F (slice_set ys i y2) P
free_out E F ys P i y y2 out there free free2 = record {
  elsewhere = λ p none. out.elsewhere p (λ k a at sits. none k a (set_other ys i k y2 (away k a at sits) ∙ at) sits);
  each = λ k a at sits. out.each k a (back k a at sits) sits;
  apart = λ j k a b at at2 sits sits2 same. out.apart j k a b (back j a at sits) (back k b at2 sits2) sits sits2 same;
}
  where
    away : (k : ℕ) (a : Runner) → slice_get ys k ≡ Some a → a.taken ≡ true → k ≢ i
    away k a at sits same = not_both a sits (subst (λ (z : Runner). z.taken ≡ false) (one_runner y a (sym there ∙ ap (slice_get ys) (sym same) ∙ at)) free)

    other : (k : ℕ) (a : Runner) → slice_get (slice_set ys i y2) k ≡ Some a → a.taken ≡ true → k ≢ i
    other k a at sits same = not_both a sits (subst (λ (z : Runner). z.taken ≡ false) (one_runner y2 a (sym (set_there ys i y2 y there) ∙ ap (slice_get (slice_set ys i y2)) (sym same) ∙ at)) free2)

    back : (k : ℕ) (a : Runner) → slice_get (slice_set ys i y2) k ≡ Some a → a.taken ≡ true → slice_get ys k ≡ Some a
    back k a at sits = sym (set_other ys i k y2 (other k a at sits)) ∙ at

-- one more goes out
more_out : (E F : List (Option InstanceEntry)) (ys : List Runner) (i : ℕ) (y : Runner) (n : ℕ) (F2 : List (Option InstanceEntry)) (y2 : Runner) → AreTakenOut E F ys SitsThere → slice_get ys i ≡ Some y → IsFree y → IsTakenOut F y n F2 y2 → AreTakenOut E F2 (slice_set ys i y2) SitsThere
more_out E F ys i y n F2 y2 out there free t = record {
  elsewhere = λ p none.
      (let far : p ≢ y.id.place = λ e. none i y2 here taken (place ∙ sym e) in
      others p far ∙ out.elsewhere p (λ k a at sits. none k a (set_other ys i k y2 (away k a at sits) ∙ at) sits));
  each = λ k a at sits. elim (cases_eq k i) [
    | inl same ↦ subst (λ z. IsOut E F2 z SitsThere) (is k a same at) mine
    | inr other ↦ (
        let had = out.each k a (sym (set_other ys i k y2 other) ∙ at) sits in
        let far : a.id.place ≢ y.id.place = λ e. apart_from a had e in
        record { entry = had.entry; was = had.was; number = had.number; module_place = had.module_place; page_limit = had.page_limit; spare = had.spare; is = others a.id.place far ∙ had.is; so = had.so })
  ];
  apart = λ j k a b at at2 sits sits2 same. elim (cases_eq j i) [
    | inl one ↦ elim (cases_eq k i) [
      | inl two ↦ one ∙ sym two
      | inr two ↦ absurd (
          let had = out.each k b (sym (set_other ys i k y2 two) ∙ at2) sits2 in
          apart_from b had (sym same ∙ ap (λ (z : Runner). z.id.place) (sym (is j a one at)) ∙ place))
    ]
    | inr one ↦ elim (cases_eq k i) [
      | inl two ↦ absurd (
          let had = out.each j a (sym (set_other ys i j y2 one) ∙ at) sits in
          apart_from a had (same ∙ ap (λ (z : Runner). z.id.place) (sym (is k b two at2)) ∙ place))
      | inr two ↦ out.apart j k a b (sym (set_other ys i j y2 one) ∙ at) (sym (set_other ys i k y2 two) ∙ at2) sits sits2 same
    ]
  ];
}
  where
    x : InstanceEntry
    x = t.entry

    here : slice_get (slice_set ys i y2) i ≡ Some y2
    here = set_there ys i y2 y there

    taken : y2.taken ≡ true
    taken = ap (λ (z : Runner). z.taken) t.runner

    place : y2.id.place ≡ y.id.place
    place = ap (λ (z : Runner). z.id.place) t.runner

    is : (k : ℕ) (a : Runner) → k ≡ i → slice_get (slice_set ys i y2) k ≡ Some a → y2 ≡ a
    is k a same at = one_runner y2 a (sym here ∙ ap (slice_get (slice_set ys i y2)) (sym same) ∙ at)

    away : (k : ℕ) (a : Runner) → slice_get ys k ≡ Some a → a.taken ≡ true → k ≢ i
    away k a at sits same = not_both a sits (subst (λ (z : Runner). z.taken ≡ false) (one_runner y a (sym there ∙ ap (slice_get ys) (sym same) ∙ at)) free.0)

    put : (entry_at F2 y.id.place ≡ Some (record t.entry { number = None; tenant = y.tenant })) × ((p : ℕ) → p ≢ y.id.place → entry_at F2 p ≡ entry_at F p)
    put =
        let s = seat_set F y.id.place t.entry (Some (record t.entry { number = None; tenant = y.tenant })) t.was in
        subst (λ rs. (entry_at rs y.id.place ≡ Some (record t.entry { number = None; tenant = y.tenant })) × ((p : ℕ) → p ≢ y.id.place → entry_at rs p ≡ entry_at F p)) (sym t.entries) (s.0, s.1)

    others : (p : ℕ) → p ≢ y.id.place → entry_at F2 p ≡ entry_at F p
    others = put.1

    -- who is out has no number there
    apart_from : (a : Runner) → IsOut E F a SitsThere → a.id.place ≢ y.id.place
    apart_from a had same =
        let one = ap (λ (z : InstanceEntry). z.number) (one_value _ t.entry (sym had.is ∙ ap (entry_at F) same ∙ t.was)) in
        let bad : None ≡ Some y.id.number = one ∙ t.number in
        cc bad

    before : entry_at E y.id.place ≡ Some t.entry
    before = sym (out.elsewhere y.id.place (λ k a at sits. apart_from a (out.each k a at sits))) ∙ t.was

    room_then : (u : OverlayPagesState) × (with_lent n y.upper ≡ Some u) × (u.pages ≡ []) × (u.grown ≡ 0) × (u.taken ≡ 0) × (u.reads ≡ [])
    room_then = let r = free.1 in let u = r.0 in (record u { lent = n; taken = 0 }, ap (with_lent n) r.1, r.2, r.3, refl, r.5)

    mine : IsOut E F2 y2 SitsThere
    mine = subst (λ z. IsOut E F2 z SitsThere) (sym t.runner) (record {
      entry = t.entry;
      was = before;
      number = t.number;
      module_place = refl;
      page_limit = refl;
      spare = y.tenant;
      is = put.0;
      so = (refl, t.computes, room_then, refl);
    })

-- ---- who is left out

same_parts : (a b : InstId) → a.place ≡ b.place → a.number ≡ b.number → a ≡ b
same_parts a b place number = rw (place, number) refl

-- some runner has an instance of this place, or none has
find_runner : (ys : List Runner) (p : ℕ) → ((j : ℕ) × (z : Runner) × (slice_get ys j ≡ Some z) × (z.taken ≡ true) × (z.id.place ≡ p)) ⊎ ((k : ℕ) (a : Runner) → slice_get ys k ≡ Some a → a.taken ≡ true → a.id.place ≢ p)
find_runner [] p = inr (λ k a at. absurd (cc at))
find_runner (x ∷ xs) p = go (find_runner xs p) (taken_or x) (cases_eq x.id.place p)
  where
    nobody : ((k : ℕ) (a : Runner) → slice_get xs k ≡ Some a → a.taken ≡ true → a.id.place ≢ p) → (x.taken ≡ true → x.id.place ≢ p) → (k : ℕ) (a : Runner) → slice_get (x ∷ xs) k ≡ Some a → a.taken ≡ true → a.id.place ≢ p
    nobody none first zero a at = subst (λ (z : Runner). z.taken ≡ true → z.id.place ≢ p) (one_runner x a at) first
    nobody none first (suc k) a at = none k a at

    go : ((j : ℕ) × (z : Runner) × (slice_get xs j ≡ Some z) × (z.taken ≡ true) × (z.id.place ≡ p)) ⊎ ((k : ℕ) (a : Runner) → slice_get xs k ≡ Some a → a.taken ≡ true → a.id.place ≢ p) → (x.taken ≡ true) ⊎ (x.taken ≡ false) → (x.id.place ≡ p) ⊎ (x.id.place ≢ p)
        → ((j : ℕ) × (z : Runner) × (slice_get (x ∷ xs) j ≡ Some z) × (z.taken ≡ true) × (z.id.place ≡ p)) ⊎ ((k : ℕ) (a : Runner) → slice_get (x ∷ xs) k ≡ Some a → a.taken ≡ true → a.id.place ≢ p)
    go (inl (j, z, at, sits, same)) taken place = inl (suc j, z, at, sits, same)
    go (inr none) (inl sits) (inl same) = inl (0, x, refl, sits, same)
    go (inr none) (inl sits) (inr other) = inr (nobody none (λ z. other))
    go (inr none) (inr gone) place = inr (nobody none (λ sits. absurd (not_both x sits gone)))

-- ---- all are taken out

pub record TakenSoFar (E : List (Option InstanceEntry)) (xs : List Runner) (F : List (Option InstanceEntry)) (ys : List Runner) (i : ℕ) : Type 0 where
  pub out : AreTakenOut E F ys SitsThere
  pub free : (k : ℕ) (y : Runner) → slice_get ys k ≡ Some y → y.taken ≡ false → IsFree y
  pub later : (k : ℕ) (y : Runner) → i ≤ k → slice_get ys k ≡ Some y → y.taken ≡ false
  pub none : (k : ℕ) (y : Runner) → k < i → slice_get ys k ≡ Some y → y.taken ≡ false → y.answer ≡ None
  pub left : (k : ℕ) (y : Runner) → k < i → slice_get ys k ≡ Some y → y.taken ≡ false → IsLeftOut E ys y
  pub same : RunnersStay xs ys

pub taken_none : (E : List (Option InstanceEntry)) (xs : List Runner) → AllAreFree xs → TakenSoFar E xs E xs 0
taken_none E xs free = record {
  out = record {
    elsewhere = λ p none. refl;
    each = λ k y there sits. absurd (not_both y sits (let f = free k y there in f.0));
    apart = λ j k y z there there2 sits sits2 same. absurd (not_both y sits (let f = free j y there in f.0));
  };
  free = λ k y there gone. free k y there;
  later = λ k y least there. (let f = free k y there in f.0);
  none = λ k y less there gone. absurd (omega (arith, less));
  left = λ k y less there gone. absurd (omega (arith, less));
  same = λ k y there. (y, there, refl);
}

pub taken_next : (E : List (Option InstanceEntry)) (xs : List Runner) (F : List (Option InstanceEntry)) (ys : List Runner) (i : ℕ) (y : Runner) (n : ℕ) (F2 : List (Option InstanceEntry)) (y2 : Runner) → TakenSoFar E xs F ys i → slice_get ys i ≡ Some y → TakesOut F y n F2 y2 → TakenSoFar E xs F2 (slice_set ys i y2) (i + 1)
taken_next E xs F ys i y n F2 y2 h there takes = record {
  out = out takes;
  free = λ k a at gone. elim (cases_eq k i) [
    | inl same ↦ (let e = is k a same at in subst IsFree e (room takes (subst (λ (z : Runner). z.taken ≡ false) (sym e) gone)))
    | inr other ↦ h.free k a (sym (set_other ys i k y2 other) ∙ at) gone
  ];
  later = λ k a least at. h.later k a (omega (arith, least)) (sym (set_other ys i k y2 (λ e. absurd (omega (arith, e, least)))) ∙ at);
  none = λ k a less at gone. elim (cases_eq k i) [
    | inl same ↦ (let e = is k a same at in subst (λ (z : Runner). z.answer ≡ None) e (no_answer takes))
    | inr other ↦ h.none k a (before k less other) (sym (set_other ys i k y2 other) ∙ at) gone
  ];
  left = λ k a less at gone. elim (cases_eq k i) [
    | inl same ↦ (let e = is k a same at in subst (IsLeftOut E (slice_set ys i y2)) e (left_now takes (subst (λ (z : Runner). z.taken ≡ false) (sym e) gone)))
    | inr other ↦ still a (h.left k a (before k less other) (sym (set_other ys i k y2 other) ∙ at) gone)
  ];
  same = λ k a at. elim (cases_eq k i) [
    | inl same ↦ (
        let had = h.same i y there in
        (had.0, ap (slice_get xs) same ∙ had.1, ap (λ (z : Runner). z.id) (sym (is k a same at)) ∙ same_id takes ∙ had.2))
    | inr other ↦ h.same k a (sym (set_other ys i k y2 other) ∙ at)
  ];
}
  where
    free : IsFree y
    free = h.free i y there (h.later i y (omega arith) there)

    is : (k : ℕ) (a : Runner) → k ≡ i → slice_get (slice_set ys i y2) k ≡ Some a → y2 ≡ a
    is k a same at = one_runner y2 a (sym (set_there ys i y2 y there) ∙ ap (slice_get (slice_set ys i y2)) (sym same) ∙ at)

    before : (k : ℕ) → k < i + 1 → k ≢ i → k < i
    before k less other = elim (cases_lt k i) [
      | inl less2 ↦ less2
      | inr behind ↦ absurd (other (omega (arith, less, behind)))
    ]

    out : TakesOut F y n F2 y2 → AreTakenOut E F2 (slice_set ys i y2) SitsThere
    out (inl s) = subst (λ rs. AreTakenOut E rs (slice_set ys i y2) SitsThere) (sym s.entries) (free_out E F ys SitsThere i y y2 h.out there free.0 (ap (λ (z : Runner). z.taken) s.runner))
    out (inr t) = more_out E F ys i y n F2 y2 h.out there free t

    room : TakesOut F y n F2 y2 → y2.taken ≡ false → IsFree y2
    room (inl s) gone = subst IsFree (sym s.runner) (refl, free.1)
    room (inr t) gone = absurd (not_both y2 (ap (λ (z : Runner). z.taken) t.runner) gone)

    away : (k : ℕ) (a : Runner) → slice_get ys k ≡ Some a → a.taken ≡ true → k ≢ i
    away k a at sits same = not_both a sits (subst (λ (z : Runner). z.taken ≡ false) (one_runner y a (sym there ∙ ap (slice_get ys) (sym same) ∙ at)) free.0)

    -- who was left out is
    still : (a : Runner) → IsLeftOut E ys a → IsLeftOut E (slice_set ys i y2) a
    still a was x at number = still_so (was x at number)
      where
        still_so : OfAnyTenant x.tenant (λ l limit bytes t. ¬ (IsAtTerm t)) ⊎ ((j : ℕ) × (z : Runner) × (slice_get ys j ≡ Some z) × (z.taken ≡ true) × (z.id ≡ a.id))
            → OfAnyTenant x.tenant (λ l limit bytes t. ¬ (IsAtTerm t)) ⊎ ((j : ℕ) × (z : Runner) × (slice_get (slice_set ys i y2) j ≡ Some z) × (z.taken ≡ true) × (z.id ≡ a.id))
        still_so (inl never) = inl never
        still_so (inr (j, z, at2, sits, same)) = inr (j, z, set_other ys i j y2 (away j z at2 sits) ∙ at2, sits, same)

    left_now : TakesOut F y n F2 y2 → y2.taken ≡ false → IsLeftOut E (slice_set ys i y2) y2
    left_now (inr t) gone x at number = absurd (not_both y2 (ap (λ (z : Runner). z.taken) t.runner) gone)
    left_now (inl s) gone x at number = elim (find_runner ys y.id.place) [
      | inl (j, z, at2, sits, place) ↦ (
          let o = h.out.each j z at2 sits in
          let one = one_value o.entry x (sym o.was ∙ ap (entry_at E) place ∙ here) in
          let both : Some z.id.number ≡ Some y.id.number = sym o.number ∙ ap (λ (e : InstanceEntry). e.number) one ∙ number2 in
          let of_one : z.id.number ≡ y.id.number = cc both in
          inr (j, z, set_other ys i j y2 (away j z at2 sits) ∙ at2, sits, same_parts z.id y.id place of_one ∙ sym same_runner))
      | inr none ↦ inl (s.why x (h.out.elsewhere y.id.place none ∙ here) number2)
    ]
      where
        same_runner : y2.id ≡ y.id
        same_runner = ap (λ (z : Runner). z.id) s.runner

        here : entry_at E y.id.place ≡ Some x
        here = ap (λ (n : InstId). entry_at E n.place) (sym same_runner) ∙ at

        number2 : x.number ≡ Some y.id.number
        number2 = number ∙ ap (λ (n : InstId). Some n.number) same_runner

    no_answer : TakesOut F y n F2 y2 → y2.answer ≡ None
    no_answer (inl s) = ap (λ (z : Runner). z.answer) s.runner
    no_answer (inr t) = ap (λ (z : Runner). z.answer) t.runner

    same_id : TakesOut F y n F2 y2 → y2.id ≡ y.id
    same_id (inl s) = ap (λ (z : Runner). z.id) s.runner
    same_id (inr t) = ap (λ (z : Runner). z.id) t.runner

-- ---- frames that are lent

pub lent_if : (y : Runner) → y.taken ≡ true → cond y.taken (lent_to y) 0 ≡ lent_to y
lent_if y taken = ap (λ b. cond b (lent_to y) 0) taken

pub lent_none : (y : Runner) → y.taken ≡ false → cond y.taken (lent_to y) 0 ≡ 0
lent_none y free = ap (λ b. cond b (lent_to y) 0) free

pub none_lent : (ys : List Runner) → AllAreFree ys → lent_to_all ys ≡ 0
none_lent [] free = refl
none_lent (y ∷ ys) free =
    let first = lent_none y (let f = free 0 y refl in f.0) in
    let rest = none_lent ys (λ k z there. free (suc k) z there) in
    omega (arith, first, rest)

pub lent_to_one : (ys : List Runner) (k : ℕ) (y : Runner) → slice_get ys k ≡ Some y → y.taken ≡ true → lent_to y ≤ lent_to_all ys
lent_to_one [] k y there taken = absurd (cc there)
lent_to_one (x ∷ ys) zero y there taken =
    let now = ap (λ (z : Runner). cond z.taken (lent_to z) 0) (one_runner x y there) ∙ lent_if y taken in
    omega (arith, now)
lent_to_one (x ∷ ys) (suc k) y there taken = let rest = lent_to_one ys k y there taken in omega (arith, rest)

-- one changes
pub lent_set : (ys : List Runner) (i : ℕ) (y y2 : Runner) → slice_get ys i ≡ Some y → lent_to_all (slice_set ys i y2) + cond y.taken (lent_to y) 0 ≡ lent_to_all ys + cond y2.taken (lent_to y2) 0
lent_set ys i y y2 there = set_tally (λ (z : Runner). cond z.taken (lent_to z) 0) ys i y y2 there

lent_most : (n : ℕ) (o : Option OverlayPagesState) → lent_in (with_lent n o) ≤ n
lent_most n None = omega arith
lent_most n (Some u) = omega arith

-- one more has n at most
pub lent_next : (rs : List (Option InstanceEntry)) (ys : List Runner) (i : ℕ) (y : Runner) (n : ℕ) (rs2 : List (Option InstanceEntry)) (y2 : Runner) → slice_get ys i ≡ Some y → TakesOut rs y n rs2 y2 → lent_to_all (slice_set ys i y2) ≤ lent_to_all ys + n
lent_next rs ys i y n rs2 y2 there (inl s) =
    let now = lent_none y2 (ap (λ (z : Runner). z.taken) s.runner) in
    omega (arith, lent_set ys i y y2 there, now)
lent_next rs ys i y n rs2 y2 there (inr t) =
    let now = lent_if y2 (ap (λ (z : Runner). z.taken) t.runner) in
    omega (arith, lent_set ys i y y2 there, now, ap lent_to t.runner, lent_most n y.upper)

-- each has no more than before
pub lent_all : (xs ys : List Runner) → ((k : ℕ) (y : Runner) → slice_get ys k ≡ Some y → (x : Runner) × (slice_get xs k ≡ Some x) × (cond y.taken (lent_to y) 0 ≡ cond x.taken (lent_to x) 0)) → lent_to_all ys ≤ lent_to_all xs
lent_all xs [] same = omega arith
lent_all [] (y ∷ ys) same = absurd (let x = same 0 y refl in cc x.1)
lent_all (x ∷ xs) (y ∷ ys) same =
    let first = same 0 y refl in
    let one = ap (λ (z : Runner). cond z.taken (lent_to z) 0) (one_runner x first.0 first.1) in
    let rest = lent_all xs ys (λ k z there. same (suc k) z there) in
    omega (arith, one, first.2, rest)

pub at_index : (xs : List Runner) (i : ℕ) (d : Runner) → i < length xs → slice_get xs i ≡ Some (slice_index_or xs i d)
at_index [] i d less = absurd (omega (arith, less))
at_index (x ∷ xs) zero d less = refl
at_index (x ∷ xs) (suc i) d less = at_index xs i d (omega (arith, less))

pub index_there : (xs : List Runner) (i : ℕ) (y : Runner) → slice_get xs i ≡ Some y → i < length xs
index_there xs i y there = there_of xs i y there
