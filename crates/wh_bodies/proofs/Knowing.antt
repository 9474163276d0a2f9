-- What is known of operands before and after they are taken and given.
use Rattle.std.proofs.Common.{◌≡◌, ℕ, suc, ◌+◌, ◌-◌, ◌<◌, ◌≤◌, max, List, [], ◌∷◌, ◌++◌, length, take, drop, reverse, Option, Some, None, Result, Ok, Err, Bool, true, false, cond, refl, sym, ap, subst, ◌∙◌, arith, append_assoc, length-drop, length-append, rules}
use Rattle.std.specs.Prelude.{nat_lt}
use Rattle.std.proofs.lemmas.List.{reverse-append}
use Rattle.std.proofs.lemmas.Bool.{ltb-true}
use Rattle.std.proofs.lemmas.Bool.Decides.{nat_tests}
use Rattle.wh_model.specs.declared.ValType.{ValType}
use Rattle.wh_model.specs.declared.ValType.TheVariants.{I32, I64}
use Rattle.wh_model.specs.declared.faults.ValidKind.{ValidKind}
use Rattle.wh_model.specs.declared.faults.ValidKind.TheVariants.{BadType, Arity}
use Rattle.wh_bodies.specs.Known.{Known, above, known_beneath, Admits, AgreeWithKnown, Fit, same_type, topmost, take_any, is_wanted, take_one, give_one, fall, take_all, give_all}
use Rattle.wh_bodies.proofs.Follow.{ok_is, follow_ok, cond_ok, by_test}

-- ---- the operands above the floor

take_front : {A : Type 0} (n m : ℕ) (x : A) (xs : List A) → n ≡ suc m → take n (x ∷ xs) ≡ x ∷ take m xs
take_front n m x xs e = rw e refl

drop_front : {A : Type 0} (n m : ℕ) (x : A) (xs : List A) → n ≡ suc m → drop n (x ∷ xs) ≡ drop m xs
drop_front n m x xs e = rw e refl

take_none : {A : Type 0} (n : ℕ) (xs : List A) → n ≡ 0 → take n xs ≡ []
take_none n xs e = rw e refl

drop_none : {A : Type 0} (n : ℕ) (xs : List A) → n ≡ 0 → drop n xs ≡ xs
drop_none n xs e = rw e refl

pub above-front : (floor : ℕ) (o : Option ValType) (os : List (Option ValType)) → floor ≤ length os → above floor (o ∷ os) ≡ o ∷ above floor os
above-front floor o os h = take_front (length (o ∷ os) - floor) (length os - floor) o os (omega arith)

pub beneath-front : (floor : ℕ) (o : Option ValType) (os : List (Option ValType)) → floor ≤ length os → known_beneath floor (o ∷ os) ≡ known_beneath floor os
beneath-front floor o os h = drop_front (length (o ∷ os) - floor) (length os - floor) o os (omega arith)

pub above_none : (floor : ℕ) (os : List (Option ValType)) → length os ≤ floor → above floor os ≡ []
above_none floor os h = take_none (length os - floor) os (omega arith)

pub beneath_all : (floor : ℕ) (os : List (Option ValType)) → length os ≤ floor → known_beneath floor os ≡ os
beneath_all floor os h = drop_none (length os - floor) os (omega arith)

-- ---- what stays the same in the innermost sequence

pub record Stays (k n : Known) : Type 0 where
  pub floor : n.floor ≡ k.floor
  pub within : n.floor ≤ length n.types
  pub beneath : known_beneath n.floor n.types ≡ known_beneath k.floor k.types
  pub small : length k.types ≤ 256 → length n.types ≤ 256

pub stay : (k : Known) → k.floor ≤ length k.types → Stays k k
stay k w = record { floor = refl; within = w; beneath = refl; small = λ h. h }

pub stays_on : (a b d : Known) → Stays a b → Stays b d → Stays a d
stays_on a b d p q = record { floor = q.floor ∙ p.floor; within = q.within; beneath = q.beneath ∙ p.beneath; small = λ h. q.small (p.small h) }

-- ---- one operand

-- one operand was taken, of which this was known
pub record Popped (k : Known) (o : Option ValType) (n : Known) : Type 0 where
  pub stays : Stays k n
  pub height : length n.types ≡ max k.floor (length k.types - 1)
  pub back : (after : List ValType) → Fit n after → (t : ValType) → Admits o t → Fit k (t ∷ after)

pop_known : (o : Option ValType) (os : List (Option ValType)) (floor : ℕ) (dead : Bool) → floor ≤ length os → Popped (record { types = o ∷ os; floor = floor; dead = dead }) o (record { types = os; floor = floor; dead = dead })
pop_known o os floor dead w = search (rules, beneath-front, above-front)

pop_top : (types : List (Option ValType)) (floor : ℕ) (dead : Bool) (o : Option ValType) (n : Known) → floor < length types → topmost (record { types = types; floor = floor; dead = dead }) types ≡ Ok (o, n) → Popped (record { types = types; floor = floor; dead = dead }) o n
pop_top [] floor dead o n w e = cc
pop_top (x ∷ os) floor dead o n w e =
    let k : Known = record { types = x ∷ os; floor = floor; dead = dead } in
    let m : Known = record { types = os; floor = floor; dead = dead } in
    let same = ok_is {E = ValidKind} (x, m) (o, n) e in
    let first : x ≡ o = ap (λ (r : Option ValType × Known). r.0) same in
    let second : m ≡ n = ap (λ (r : Option ValType × Known). r.1) same in
    subst (λ u. Popped k o u) second (subst (λ u. Popped k u m) first (pop_known x os floor dead (omega arith)))

pop_floor : (k : Known) (o : Option ValType) (n : Known) → k.floor ≤ length k.types → length k.types ≤ k.floor → cond {A = Result (Option ValType × Known) ValidKind} k.dead (Ok (None, k)) (Err Arity) ≡ Ok (o, n) → Popped k o n
pop_floor k o n w h e = search rules

pub popped : (k : Known) (o : Option ValType) (n : Known) → k.floor ≤ length k.types → take_any k ≡ Ok (o, n) → Popped k o n
popped k o n w e = by_test (nat_lt k.floor (length k.types))
    (λ h. pop_top k.types k.floor k.dead o n (ltb-true k.floor (length k.types) h) (rw h at e))
    (λ h. pop_floor k o n w (grind (arith, nat_tests, h)) (rw h at e))

-- ---- operands of known types

-- an instruction takes and gives operands of these types, the topmost first
pub record Passes (k n : Known) (ins outs : List ValType) : Type 0 where
  pub stays : Stays k n
  pub height : length n.types ≡ max k.floor (length k.types - length ins) + length outs
  pub back : (after : List ValType) → Fit n after → (rest : List ValType) × (after ≡ outs ++ rest) × Fit k (ins ++ rest)

pub same_types : (a b : ValType) → same_type a b ≡ true → a ≡ b
same_types I32 I32 e = refl
same_types I64 I64 e = refl
same_types I32 I64 e = cc
same_types I64 I32 e = cc

admits_wanted : (o : Option ValType) (t : ValType) (n m : Known) → is_wanted t o n ≡ Ok m → Admits o t × (n ≡ m)
admits_wanted None t n m e = (tt, ok_is {E = ValidKind} n m e)
admits_wanted (Some u) t n m e = let p = cond_ok (same_type u t) (Ok n) BadType m e in (same_types u t p.0, ok_is {E = ValidKind} n m p.1)

pub takes_one : (k n : Known) (t : ValType) → k.floor ≤ length k.types → take_one k t ≡ Ok n → Passes k n (t ∷ []) []
takes_one k n t w e = search (rules, follow_ok, popped, admits_wanted, max)

-- an operand of which this is known was given
pub record Pushed (k : Known) (o : Option ValType) (n : Known) : Type 0 where
  pub stays : Stays k n
  pub height : length n.types ≡ length k.types + 1
  pub back : (after : List ValType) → Fit n after → (t : ValType) × (rest : List ValType) × (after ≡ t ∷ rest) × Admits o t × Fit k rest

pub pushed : (k n : Known) (o : Option ValType) → k.floor ≤ length k.types → give_one k o ≡ Ok n → Pushed k o n
pushed k n o w e = search rules

pub gives_one : (k n : Known) (t : ValType) → k.floor ≤ length k.types → give_one k (Some t) ≡ Ok n → Passes k n [] (t ∷ [])
gives_one k n t w e = search rules

-- ---- one behind the other

pub take_then : (a b d : Known) (xs ys : List ValType) → Passes a b xs [] → Passes b d ys [] → Passes a d (xs ++ ys) []
take_then a b d xs ys p q = search (rules, stays_on, length-append, append_assoc)

pub take_then_give : (a b d : Known) (xs ys : List ValType) → Passes a b xs [] → Passes b d [] ys → Passes a d xs ys
take_then_give a b d xs ys p q = search rules

pub give_then : (a b d : Known) (xs ys : List ValType) → a.floor ≤ length a.types → Passes a b [] xs → Passes b d [] ys → Passes a d [] (ys ++ xs)
give_then a b d xs ys w p q = search (rules, stays_on, length-append, append_assoc)

pub passes_none : (k : Known) → k.floor ≤ length k.types → Passes k k [] []
passes_none k w = record { stays = stay k w; height = omega arith; back = λ after fit. (after, refl, fit) }

pub takes_all : (k n : Known) (ts : List ValType) → k.floor ≤ length k.types → take_all k ts ≡ Ok n → Passes k n ts []
takes_all k n [] w e = subst (λ u. Passes k u [] []) (ok_is {E = ValidKind} k n e) (passes_none k w)
takes_all k n (t ∷ ts) w e =
    let q = follow_ok (take_one k t) (λ left. take_all left ts) n e in
    let p = takes_one k q.0 t w q.1 in
    take_then k q.0 n (t ∷ []) ts p (takes_all q.0 n ts p.stays.within q.2)

pub gives_all : (k n : Known) (ts : List ValType) → k.floor ≤ length k.types → give_all k ts ≡ Ok n → Passes k n [] (reverse ts)
gives_all k n [] w e = subst (λ u. Passes k u [] []) (ok_is {E = ValidKind} k n e) (passes_none k w)
gives_all k n (t ∷ ts) w e =
    let q = follow_ok (give_one k (Some t)) (λ more. give_all more ts) n e in
    let p = gives_one k q.0 t w q.1 in
    subst (λ xs. Passes k n [] xs) (sym (reverse-append (t ∷ []) ts)) (give_then k q.0 n (t ∷ []) (reverse ts) w p (gives_all q.0 n ts p.stays.within q.2))

-- ---- what follows isn't reached

pub record Falls (k n : Known) : Type 0 where
  pub stays : Stays k n
  pub height : length n.types ≡ k.floor
  pub back : (after : List ValType) → Fit n after

pub falls : (k : Known) → k.floor ≤ length k.types → Falls k (fall k)
falls k w = search (rules, length-drop, beneath_all, above_none)

-- something fits whatever is known
some_type : (o : Option ValType) → (t : ValType) × Admits o t
some_type None = (I32, tt)
some_type (Some t) = (t, refl)

some_agree : (os : List (Option ValType)) (dead : Bool) → (ts : List ValType) × AgreeWithKnown os dead ts
some_agree [] true = ([], tt)
some_agree [] false = ([], refl)
some_agree (o ∷ os) dead = let t = some_type o in let r = some_agree os dead in (t.0 ∷ r.0, (t.1, r.1))

pub some_fit : (k : Known) → (ts : List ValType) × Fit k ts
some_fit k = some_agree (above k.floor k.types) k.dead
