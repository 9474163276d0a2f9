-- Lists of values with their types.
use Rattle.std.proofs.Common.{◌≡◌, ℕ, zero, suc, ◌^◌, ◌<◌, List, [], ◌∷◌, ◌++◌, length, map, reverse, Some, slice_get, slice_set, refl, ap, subst, arith}
use Rattle.std.proofs.lemmas.Grind.{reverse_onto}
use Rattle.std.specs.List.{AllByRecursion}
use Rattle.wh_model.specs.declared.ValType.{ValType}
use Rattle.wh_model.specs.declared.ValType.TheVariants.{I32, I64}
use Rattle.wh_model.specs.Execution.{bits, Value, value, type_of, InRange, zero_of}
use Rattle.wh_model.specs.Soundness.{IsOfType, AreOfTypes}

-- a value of a type is a number of its bits
pub value_of_type : (t : ValType) (v : Value) → IsOfType t v → (n : ℕ) × (v ≡ value t n) × (n < 2 ^ bits t)
value_of_type t (value u n) h = (n, ap (λ w. value w n) h.0, subst (λ w. n < 2 ^ bits w) h.0 h.1)

-- an operand of a known type is on top
pub top_of_type : (t : ValType) (ts : List ValType) (vs : List Value) → AreOfTypes vs (t ∷ ts)
    → (n : ℕ) × (rest : List Value) × (vs ≡ value t n ∷ rest) × (n < 2 ^ bits t) × AreOfTypes rest ts
top_of_type t ts [] h = absurd h
top_of_type t ts (v ∷ vs) h = let x = value_of_type t v h.0 in (x.0, vs, ap (λ w. w ∷ vs) x.1, x.2, h.1)

-- and some value of a type is on top
pub some_top : (t : ValType) (ts : List ValType) (vs : List Value) → AreOfTypes vs (t ∷ ts)
    → (v : Value) × (rest : List Value) × (vs ≡ v ∷ rest) × IsOfType t v × AreOfTypes rest ts
some_top t ts [] h = absurd h
some_top t ts (v ∷ vs) h = (v, vs, refl, h.0, h.1)

pub types_length : (vs : List Value) (ts : List ValType) → AreOfTypes vs ts → length vs ≡ length ts
types_length [] [] h = refl
types_length [] (t ∷ ts) h = absurd h
types_length (v ∷ vs) [] h = absurd h
types_length (v ∷ vs) (t ∷ ts) h = ap suc (types_length vs ts h.1)

pub types_append : (us vs : List Value) (ts rs : List ValType) → AreOfTypes us ts → AreOfTypes vs rs
    → AreOfTypes (us ++ vs) (ts ++ rs)
types_append [] vs [] rs g h = h
types_append [] vs (t ∷ ts) rs g h = absurd g
types_append (u ∷ us) vs [] rs g h = absurd g
types_append (u ∷ us) vs (t ∷ ts) rs g h = (g.0, types_append us vs ts rs g.1 h)

-- operands parted where their types are
pub types_split : (ts rs : List ValType) (vs : List Value) → AreOfTypes vs (ts ++ rs)
    → (us ws : List Value) × (vs ≡ us ++ ws) × AreOfTypes us ts × AreOfTypes ws rs
types_split [] rs vs h = ([], vs, refl, tt, h)
types_split (t ∷ ts) rs [] h = absurd h
types_split (t ∷ ts) rs (v ∷ vs) h =
    let x = types_split ts rs vs h.1 in (v ∷ x.0, x.1, ap (λ w. v ∷ w) x.2, (h.0, x.3), x.4)

pub types_parted : (us ws : List Value) (ts rs : List ValType) → length us ≡ length ts
    → AreOfTypes (us ++ ws) (ts ++ rs)
    → AreOfTypes us ts × AreOfTypes ws rs
types_parted [] ws [] rs e h = (tt, h)
types_parted [] ws (t ∷ ts) rs e h = absurd (omega arith)
types_parted (u ∷ us) ws [] rs e h = absurd (omega arith)
types_parted (u ∷ us) ws (t ∷ ts) rs e h = let x = types_parted us ws ts rs (omega arith) h.1 in ((h.0, x.0), x.1)

pub types_get : (ts : List ValType) (vs : List Value) (x : ℕ) (t : ValType) → slice_get ts x ≡ Some t → AreOfTypes vs ts
    → (v : Value) × (slice_get vs x ≡ Some v) × IsOfType t v
types_get [] vs x t e h = absurd (cc e)
types_get (r ∷ ts) [] x t e h = absurd h
types_get (r ∷ ts) (v ∷ vs) zero t e h = let same : r ≡ t = cc e in (v, refl, subst (λ w. IsOfType w v) same h.0)
types_get (r ∷ ts) (v ∷ vs) (suc x) t e h = types_get ts vs x t e h.1

pub types_set : (ts : List ValType) (vs : List Value) (x : ℕ) (t : ValType) (v : Value) → slice_get ts x ≡ Some t
    → IsOfType t v
    → AreOfTypes vs ts → AreOfTypes (slice_set vs x v) ts
types_set [] vs x t v e i h = absurd (cc e)
types_set (r ∷ ts) [] x t v e i h = absurd h
types_set (r ∷ ts) (u ∷ vs) zero t v e i h = let same : t ≡ r = cc e in (subst (λ w. IsOfType w v) same i, h.1)
types_set (r ∷ ts) (u ∷ vs) (suc x) t v e i h = (h.0, types_set ts vs x t v e i h.1)

pub types_zeros : (ts : List ValType) → AreOfTypes (map zero_of ts) ts
types_zeros [] = tt
types_zeros (I32 ∷ ts) = ((refl, omega arith), types_zeros ts)
types_zeros (I64 ∷ ts) = ((refl, omega arith), types_zeros ts)

pub types_reverse : (vs : List Value) (ts : List ValType) → AreOfTypes vs ts → AreOfTypes (reverse vs) (reverse ts)
types_reverse [] [] h = tt
types_reverse [] (t ∷ ts) h = absurd h
types_reverse (v ∷ vs) [] h = absurd h
types_reverse (v ∷ vs) (t ∷ ts) h =
    rw (reverse_onto vs v [], reverse_onto ts t [])
    (types_append (reverse vs) (v ∷ []) (reverse ts) (t ∷ []) (types_reverse vs ts h.1) (h.0, tt))

-- values of given types, as calls from outside say it
pub types_given : (vs : List Value) (ts : List ValType) → map type_of vs ≡ ts → AllByRecursion InRange vs
    → AreOfTypes vs ts
types_given [] [] e h = tt
types_given [] (t ∷ ts) e h = absurd (cc e)
types_given (v ∷ vs) [] e h = absurd (cc e)
types_given (v ∷ vs) (t ∷ ts) e h = ((cc e, h.0), types_given vs ts (cc e) h.1)
