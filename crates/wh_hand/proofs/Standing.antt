-- The line, as one is taken out of it and put at its end.
use Rattle.std.proofs.Common.{◌≡◌, ◌≢◌, ◌≤◌, ℕ, ◌⊎◌, inl, inr, ⊎_elim, Bool, true, false, List, [], ◌∷◌, ◌++◌, length, get_or, slice_set, Option, Some, None, refl, sym, ap, subst, ◌∙◌, arith, rules}
use Rattle.std.proofs.lemmas.List.{get_or-set_other}
use Rattle.std.specs.List.{filter}
use Rattle.wh_space_model.specs.declared.plain.InstId.{InstId}
use Rattle.wh_host_model.specs.Host.{Tenant, live_count}
use Rattle.wh_host.proofs.Hosts.{one_fewer, one_value, same_or_not}
use Rattle.wh_hand.specs.Lining.{StandOnce, StandsIn, differs}

-- ---- ids

-- by its parts
pub id_is : (a b : InstId) → a.place ≡ b.place → a.number ≡ b.number → a ≡ b
id_is a b place number =
    ap (λ (p : ℕ). (let z : InstId = record { place = p; number = a.number } in z)) place
    ∙ ap (λ (n : ℕ). (let z : InstId = record { place = b.place; number = n } in z)) number

pub same_id : (a b : InstId) → (a ≡ b) ⊎ (a ≢ b)
same_id a b =
    ⊎_elim
    (λ (place : a.place ≡ b.place). ⊎_elim
    (λ (number : a.number ≡ b.number). inl (id_is a b place number))
    (λ (other : a.number ≢ b.number). inr (λ (is : a ≡ b). other (ap (λ (z : InstId). z.number) is)))
    (same_or_not a.number b.number))
    (λ (other : a.place ≢ b.place). inr (λ (is : a ≡ b). other (ap (λ (z : InstId). z.place) is)))
    (same_or_not a.place b.place)

-- ---- one more at the end

pub stands_before : (ids : List InstId) (last id : InstId) → StandsIn ids id → StandsIn (ids ++ last ∷ []) id
stands_before [] last id is = absurd is
stands_before (x ∷ ids) last id (inl is) = inl is
stands_before (x ∷ ids) last id (inr is) = inr (stands_before ids last id is)

pub stands_last : (ids : List InstId) (last : InstId) → StandsIn (ids ++ last ∷ []) last
stands_last [] last = inl refl
stands_last (x ∷ ids) last = inr (stands_last ids last)

pub stands_either : (ids : List InstId) (last id : InstId) → StandsIn (ids ++ last ∷ []) id → StandsIn ids id ⊎ (last ≡ id)
stands_either [] last id (inl is) = inr is
stands_either [] last id (inr is) = absurd is
stands_either (x ∷ ids) last id (inl is) = inl (inl is)
stands_either (x ∷ ids) last id (inr is) = ⊎_elim (λ a. inl (inr a)) (λ a. inr a) (stands_either ids last id is)

pub once_more : (ids : List InstId) (last : InstId) → StandOnce ids → ¬ (StandsIn ids last) → StandOnce (ids ++ last ∷ [])
once_more [] last once new = (λ is. is, tt)
once_more (x ∷ ids) last once new = (
  λ (is : StandsIn (ids ++ last ∷ []) x). ⊎_elim (λ a. once.0 a) (λ (a : last ≡ x). new (inl (sym a))) (stands_either ids last x is),
  once_more ids last once.1 (λ is. new (inr is)),
)

-- ---- one is taken out

-- the line without one of them
pub record IsWithout (line : List InstId) (id : InstId) (line2 : List InstId) : Type 0 where
  pub gone : ¬ (StandsIn line2 id)
  pub others : (other : InstId) → other ≢ id → StandsIn line other → StandsIn line2 other
  pub no_more : (other : InstId) → StandsIn line2 other → StandsIn line other
  pub once : StandOnce line → StandOnce line2

module _ (id : InstId) where
  abbrev others_of : List InstId → List InstId
  others_of ids = filter (differs id) ids

  -- by what the test says of the first one
  kept_first : (x : InstId) (ids : List InstId) → differs id x ≡ true → others_of (x ∷ ids) ≡ x ∷ others_of ids
  kept_first x ids e = simp e refl

  gone_first : (x : InstId) (ids : List InstId) → differs id x ≡ false → others_of (x ∷ ids) ≡ others_of ids
  gone_first x ids e = simp e refl

  differs_itself : differs id id ≡ false
  differs_itself = grind rules

  differs_other : (x : InstId) → differs id x ≡ false → x ≡ id
  differs_other x e = id_is x id (grind rules) (grind rules)

  record Out (ids kept : List InstId) : Type 0 where
    gone : ¬ (StandsIn kept id)
    others : (other : InstId) → other ≢ id → StandsIn ids other → StandsIn kept other
    no_more : (other : InstId) → StandsIn kept other → StandsIn ids other

  out_of : (ids : List InstId) → Out ids (others_of ids)
  out_of [] = record { gone = λ is. is; others = λ other ne is. is; no_more = λ other is. is }
  out_of (x ∷ ids) = by_test (differs id x) refl (out_of ids) where
    by_test : (b : Bool) → differs id x ≡ b → Out ids (others_of ids) → Out (x ∷ ids) (others_of (x ∷ ids))
    by_test true e rest = subst (Out (x ∷ ids)) (sym (kept_first x ids e)) (record {
      gone = λ is. ⊎_elim (λ (same : x ≡ id). (let bad : true ≡ false = sym e ∙ ap (differs id) same ∙ differs_itself in cc bad)) rest.gone is;
      others = λ other ne is. ⊎_elim (λ (a : x ≡ other). inl a) (λ a. inr (rest.others other ne a)) is;
      no_more = λ other is. ⊎_elim (λ (a : x ≡ other). inl a) (λ a. inr (rest.no_more other a)) is;
    })
    by_test false e rest = subst (Out (x ∷ ids)) (sym (gone_first x ids e)) (record {
      gone = rest.gone;
      others = λ other ne is. ⊎_elim (λ (a : x ≡ other). absurd (ne (sym a ∙ differs_other x e))) (λ a. rest.others other ne a) is;
      no_more = λ other is. inr (rest.no_more other is);
    })

  once_out : (ids : List InstId) → StandOnce ids → StandOnce (others_of ids)
  once_out [] once = tt
  once_out (x ∷ ids) once = by_test (differs id x) refl (once_out ids once.1) where
    by_test : (b : Bool) → differs id x ≡ b → StandOnce (others_of ids) → StandOnce (others_of (x ∷ ids))
    by_test true e rest = subst StandOnce (sym (kept_first x ids e)) (λ is. once.0 ((out_of ids).no_more x is), rest)
    by_test false e rest = subst StandOnce (sym (gone_first x ids e)) (rest)

  pub without : (ids : List InstId) → IsWithout ids id (filter (differs id) ids)
  without ids = record {
    gone = (out_of ids).gone;
    others = (out_of ids).others;
    no_more = (out_of ids).no_more;
    once = once_out ids;
  }

-- ---- how many there are

-- an instance lies there
pub record LiesAt (ts : List (Option Tenant)) (id : InstId) : Type 0 where
  pub t : Tenant
  pub live : get_or ts id.number None ≡ Some t
  pub place : t.place ≡ id.place

-- no more stand there than are live
pub few_stand : (ts : List (Option Tenant)) (ids : List InstId) → StandOnce ids → ((id : InstId) → StandsIn ids id → LiesAt ts id) → length ids ≤ live_count ts
few_stand ts [] once all = omega arith
few_stand ts (x ∷ ids) once all =
    let a = all x (inl refl) in
    let rest : (id : InstId) → StandsIn ids id → LiesAt (slice_set ts x.number None) id = (λ id is.
    (let b = all id (inr is) in
    let other : id.number ≢ x.number = (λ (e : id.number ≡ x.number).
    (let same : b.t ≡ a.t = one_value b.t a.t (sym b.live ∙ ap (λ (n : ℕ). get_or ts n None) e ∙ a.live) in
    let place : id.place ≡ x.place = sym b.place ∙ ap (λ (t : Tenant). t.place) same ∙ a.place in
    once.0 (subst (λ z. StandsIn ids z) (id_is id x place e) is))) in
    record { t = b.t; live = get_or-set_other ts x.number id.number None None other ∙ b.live; place = b.place })) in
    let few = few_stand (slice_set ts x.number None) ids once.1 rest in
    let fewer = one_fewer ts x.number a.t a.live in
    omega (arith, few, fewer)
