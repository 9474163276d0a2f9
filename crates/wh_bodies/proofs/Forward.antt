-- The other direction: what fits can be taken, and what is given fits.
use Rattle.std.proofs.Common.{◌≡◌, ℕ, ◌+◌, ◌-◌, ◌<◌, ◌≤◌, max, List, [], ◌∷◌, ◌++◌, length, reverse, Option, Some, None, Result, Ok, Err, Bool, true, false, cond, refl, sym, ap, subst, ◌∙◌, arith, append_assoc, append-nil, rules}
use Rattle.std.specs.Prelude.{nat_lt, nat_eq}
use Rattle.std.proofs.lemmas.Bool.{ltb-true, lt-ltb, eq-eqb}
use Rattle.std.proofs.lemmas.Bool.Decides.{nat_tests}
use Rattle.std.proofs.lemmas.List.{reverse-append, length-take}
use Rattle.wh_model.specs.declared.ValType.{ValType}
use Rattle.wh_model.specs.declared.ValType.TheVariants.{I32, I64}
use Rattle.wh_model.specs.Validity.{operand}
use Rattle.wh_model.specs.declared.faults.ValidKind.{ValidKind}
use Rattle.wh_model.specs.declared.faults.ValidKind.TheVariants.{Arity}
use Rattle.wh_bodies.specs.BodyFaults.{follow}
use Rattle.wh_bodies.specs.Known.{Known, above, Admits, AgreeWithKnown, Fit, same_type, topmost, take_any, is_wanted, take_one, give_one, fall, take_all, give_all, pass, agreed, selected}
use Rattle.wh_bodies.specs.CheckSteps.{finished}
use Rattle.wh_bodies.proofs.Follow.{by_test}
use Rattle.wh_bodies.proofs.Knowing.{above-front, above_none, popped, takes_one, takes_all, gives_one, falls}

-- what was taken, and that the rest fits
pub record Taken (k : Known) (t : ValType) (after : List ValType) : Type 0 where
  pub was : Option ValType
  pub left : Known
  pub is : take_any k ≡ Ok (was, left)
  pub admits : Admits was t
  pub fit : Fit left after

taken_top : (types : List (Option ValType)) (floor : ℕ) (dead : Bool) (t : ValType) (after : List ValType) → floor < length types → AgreeWithKnown (above floor types) dead (t ∷ after)
    → (o : Option ValType) × (left : Known) × (topmost (record { types = types; floor = floor; dead = dead }) types ≡ Ok (o, left)) × Admits o t × Fit left after
taken_top [] floor dead t after h fit = absurd (omega arith)
taken_top (o ∷ os) floor dead t after h fit =
    let f : AgreeWithKnown (o ∷ above floor os) dead (t ∷ after) = subst (λ xs. AgreeWithKnown xs dead (t ∷ after)) (above-front floor o os (omega arith)) fit in
    (o, record { types = os; floor = floor; dead = dead }, refl, f.0, f.1)

agree_none : (dead : Bool) (t : ValType) (after : List ValType) → AgreeWithKnown [] dead (t ∷ after) → dead ≡ true
agree_none true t after f = refl
agree_none false t after f = cc

fit_dead : (k : Known) (after : List ValType) → length k.types ≤ k.floor → k.dead ≡ true → Fit k after
fit_dead k after h dead = subst (λ d. AgreeWithKnown (above k.floor k.types) d after) (sym dead) (subst (λ xs. AgreeWithKnown xs true after) (sym (above_none k.floor k.types h)) tt)

pub can_take : (k : Known) (t : ValType) (after : List ValType) → Fit k (t ∷ after) → Taken k t after
can_take k t after fit = by_test (nat_lt k.floor (length k.types))
    (λ h.
    let q = taken_top k.types k.floor k.dead t after (ltb-true k.floor (length k.types) h) fit in
    record { was = q.0; left = q.1; is = rw h q.2; admits = q.3; fit = q.4 })
    (λ h.
    let low : length k.types ≤ k.floor = grind (arith, nat_tests, h) in
    let dead = agree_none k.dead t after (subst (λ xs. AgreeWithKnown xs k.dead (t ∷ after)) (above_none k.floor k.types low) fit) in
    record { was = None; left = k; is = rw (h, dead) refl; admits = tt; fit = fit_dead k after low dead })

pub same_true : (t : ValType) → same_type t t ≡ true
same_true I32 = refl
same_true I64 = refl

wanted_ok : (o : Option ValType) (t : ValType) (n : Known) → Admits o t → is_wanted t o n ≡ Ok n
wanted_ok None t n a = refl
wanted_ok (Some u) t n a = rw (ap (λ v. same_type v t) a ∙ same_true t) refl

-- a step passes, and these types fit behind it
abbrev pub Goes : Result Known ValidKind → List ValType → Type 0
Goes r after = (n : Known) × (r ≡ Ok n) × Fit n after

pub can_take_one : (k : Known) (t : ValType) (after : List ValType) → Fit k (t ∷ after) → Goes (take_one k t) after
can_take_one k t after fit = search (rules, can_take, wanted_ok)

pub can_take_all : (k : Known) (ts after : List ValType) → Fit k (ts ++ after) → Goes (take_all k ts) after
can_take_all k [] after fit = (k, refl, fit)
can_take_all k (t ∷ ts) after fit =
    let p = can_take_one k t (ts ++ after) fit in
    let q = can_take_all p.0 ts after p.2 in
    (q.0, ap (λ (r : Result Known ValidKind). follow r (λ left. take_all left ts)) p.1 ∙ q.1, q.2)

pub can_give : (k : Known) (o : Option ValType) (t : ValType) (after : List ValType) → k.floor ≤ length k.types → length k.types < 256 → Admits o t → Fit k after → Goes (give_one k o) (t ∷ after)
can_give k o t after w room a fit =
    (record k { types = o ∷ k.types }, rw (lt-ltb (length k.types) 256 room) refl, subst (λ xs. AgreeWithKnown xs k.dead (t ∷ after)) (sym (above-front k.floor o k.types w)) (a, fit))

pub can_give_all : (k : Known) (ts after : List ValType) → k.floor ≤ length k.types → length k.types + length ts ≤ 256 → Fit k after → Goes (give_all k ts) (reverse ts ++ after)
can_give_all k [] after w room fit = (k, refl, fit)
can_give_all k (t ∷ ts) after w room fit =
    let p = can_give k (Some t) t after w (omega arith) refl fit in
    let g = gives_one k p.0 t w p.1 in
    let high = g.height in
    let q = can_give_all p.0 ts (t ∷ after) g.stays.within (omega arith) p.2 in (
      q.0,
      ap (λ (r : Result Known ValidKind). follow r (λ more. give_all more ts)) p.1 ∙ q.1,
      subst (λ xs. Fit q.0 xs) (sym (append_assoc (reverse ts) (t ∷ []) after) ∙ ap (λ xs. xs ++ after) (sym (reverse-append (t ∷ []) ts))) q.2,
    )

pub can_pass : (k : Known) (params results after : List ValType) → k.floor ≤ length k.types → max k.floor (length k.types - length (reverse params)) + length results ≤ 256 → Fit k (reverse params ++ after) → Goes (pass k params results) (reverse results ++ after)
can_pass k params results after w room fit =
    let p = can_take_all k (reverse params) after fit in
    let t = takes_all k p.0 (reverse params) w p.1 in
    let high = t.height in
    let q = can_give_all p.0 results after t.stays.within (omega arith) p.2 in
    (q.0, ap (λ (r : Result Known ValidKind). follow r (λ left. give_all left results)) p.1 ∙ q.1, q.2)

pub agreed_ok : (o p : Option ValType) (t : ValType) → Admits o t → Admits p t → (r : Option ValType) × (agreed o p ≡ Ok r) × Admits r t
agreed_ok None p t a b = (p, refl, b)
agreed_ok (Some u) None t a b = (Some u, refl, a)
agreed_ok (Some u) (Some v) t a b = (Some u, rw (ap (λ x. same_type x v) (a ∙ sym b) ∙ same_true v) refl, a)

pub can_select : (k : Known) (t : ValType) (after : List ValType) → k.floor ≤ length k.types → length k.types ≤ 256 → max k.floor (length k.types - 3) + 1 ≤ 256 → Fit k (I32 ∷ t ∷ t ∷ after) → Goes (selected k) (t ∷ after)
can_select k t after w small room fit =
    let a = can_take_one k I32 (t ∷ t ∷ after) fit in
    let b = can_take a.0 t (t ∷ after) a.2 in
    let d = can_take b.left t after b.fit in
    let r = agreed_ok b.was d.was t b.admits d.admits in
    let pa = takes_one k a.0 I32 w a.1 in
    let pb = popped a.0 b.was b.left pa.stays.within b.is in
    let pd = popped b.left d.was d.left pb.stays.within d.is in
    let h1 = pa.height in
    let h2 = pb.height in
    let h3 = pd.height in
    let f1 = pa.stays.floor in
    let f2 = pb.stays.floor in
    let g = can_give d.left r.0 t after pd.stays.within (omega arith) r.2 d.fit in (
      g.0,
      ap (λ (x : Result Known ValidKind). follow x (λ a. follow (take_any a) (λ b. follow (take_any b.1) (λ d. follow (agreed b.0 d.0) (λ of. give_one d.1 of))))) a.1
          ∙ ap (λ (x : Result (Option ValType × Known) ValidKind). follow x (λ b. follow (take_any b.1) (λ d. follow (agreed b.0 d.0) (λ of. give_one d.1 of)))) b.is
          ∙ ap (λ (x : Result (Option ValType × Known) ValidKind). follow x (λ d. follow (agreed b.was d.0) (λ of. give_one d.1 of))) d.is
          ∙ ap (λ (x : Result (Option ValType) ValidKind). follow x (λ of. give_one d.left of)) r.1 ∙ g.1,
      g.2,
    )

pub can_fall : (k : Known) (after : List ValType) → k.floor ≤ length k.types → Fit (fall k) after
can_fall k after w = (falls k w).back after

-- ---- the end of a sequence

agree_nothing : (os : List (Option ValType)) (dead : Bool) → AgreeWithKnown os dead [] → length os ≡ 0
agree_nothing [] dead f = refl
agree_nothing (o ∷ os) dead f = absurd f

pub can_finish : (k : Known) (t : Option ValType) → k.floor ≤ length k.types → Fit k (operand t) → (left : Known) × (finished k t ≡ Ok left)
can_finish k t w fit =
    let p = can_take_all k (operand t) [] (subst (λ xs. Fit k xs) (sym (append-nil (operand t))) fit) in
    let none = agree_nothing (above p.0.floor p.0.types) p.0.dead p.2 in
    let l = length-take (length p.0.types - p.0.floor) p.0.types in
    let v = (takes_all k p.0 (operand t) w p.1).stays.within in
    let level : length p.0.types ≡ p.0.floor = omega arith in
    (p.0, ap (λ (r : Result Known ValidKind). follow r (λ left. cond (nat_eq (length left.types) left.floor) (Ok left) (Err Arity))) p.1 ∙ rw (eq-eqb (length p.0.types) p.0.floor level) refl)
