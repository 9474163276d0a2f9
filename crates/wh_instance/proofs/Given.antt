-- Numbers that are given as arguments, and the values that they are.
use Rattle.std.proofs.Common.{◌≡◌, ℕ, suc, ℤ, pos, negsuc, ◌≤ℤ◌, int_le, nat_abs, ◌+◌, ◌^◌, ◌<◌, ◌≤◌, List, [], ◌∷◌, ◌++◌, drop, length, map, Some, slice_get, Bool, true, false, refl, sym, ap, subst, ◌∙◌, arith, append_assoc, append-nil, rules}
use Rattle.std.specs.Bool.{MatchBool}
use Rattle.std.specs.List.{AllByRecursion}
use Rattle.std.specs.Int.{int_rem_euclid}
use Rattle.std.proofs.lemmas.Int.{ints}
use Rattle.wh_model.specs.declared.ValType.{ValType}
use Rattle.wh_model.specs.declared.ValType.TheVariants.{I32, I64}
use Rattle.wh_model.specs.Format.{FuncType, Body}
use Rattle.wh_model.specs.Validity.{Context}
use Rattle.wh_model.specs.Execution.{bits, unsigned, Value, value, type_of, InRange, bits_of, own}
use Rattle.wh_model.specs.Execution.Store.{Instance}
use Rattle.wh_host_model.specs.{IsArgument, AreArguments}
use Rattle.wh_call.specs.Arguments.{IsOwnType, HasNoOwn, LacksOwn}
use Rattle.wh_call.proofs.Lists.{drop_at, drop_all}
use Rattle.wh_instance.specs.CallsByName.{CanTake, AreWords, WordsAre}
use Rattle.wh_machine.specs.MachineRuns.{IsInstanceOf}
use Rattle.wh_imports.specs.LinkedState.{LinkedState}

-- ---- one number

below_32 : (z : ℤ) → unsigned 32 z < 2 ^ 32
unfolding unsigned
below_32 (pos n) = omega arith
below_32 (negsuc n) = omega arith

below_64 : (z : ℤ) → unsigned 64 z < 2 ^ 64
unfolding unsigned
below_64 (pos n) = omega arith
below_64 (negsuc n) = omega arith

below : (t : ValType) (z : ℤ) → unsigned (bits t) z < 2 ^ bits t
below I32 z = below_32 z
below I64 z = below_64 z

pub value_is : (t : ValType) (n : ℤ) (v : Value) → IsArgument t n v → v ≡ value t (unsigned (bits t) n)
value_is I32 n v h = h.2
value_is I64 n v h = h.2

-- it may be given for a parameter of the type
abbrev pub IsGiven : ValType → ℤ → Type 0
IsGiven t n = (v : Value) × IsArgument t n v

pub given_32 : (n : ℤ) → negsuc 2147483647 ≤ℤ n → n ≤ℤ pos 4294967295 → IsGiven I32 n
given_32 n low high = (value I32 (unsigned 32 n), (low, high, refl))

pub given_64 : (n : ℤ) → negsuc 9223372036854775807 ≤ℤ n → n ≤ℤ pos 18446744073709551615 → IsGiven I64 n
given_64 n low high = (value I64 (unsigned 64 n), (low, high, refl))

-- whether it may, by its bounds
decides_32 : (n : ℤ) → int_le (negsuc 2147483647) n ≡ true → (b : Bool) → int_le n (pos 4294967295) ≡ b
    → MatchBool b (IsGiven I32 n) ((v : Value) → ¬ (IsArgument I32 n v))
decides_32 n low true high = given_32 n (grind (arith, ints)) (grind (arith, ints))
decides_32 n low false high = λ v h. let most = h.1 in grind (arith, ints)

decides_64 : (n : ℤ) → int_le (negsuc 9223372036854775807) n ≡ true → (b : Bool)
    → int_le n (pos 18446744073709551615) ≡ b → MatchBool b (IsGiven I64 n) ((v : Value) → ¬ (IsArgument I64 n v))
decides_64 n low true high = given_64 n (grind (arith, ints)) (grind (arith, ints))
decides_64 n low false high = λ v h. let most = h.1 in grind (arith, ints)

pub fits_32 : (t : ValType) (n m : ℤ) → t ≡ I32 → m ≡ n → int_le (negsuc 2147483647) m ≡ true
    → MatchBool (int_le m (pos 4294967295)) (IsGiven t n) ((v : Value) → ¬ (IsArgument t n v))
fits_32 t n m is same low =
    subst (λ z. MatchBool (int_le m (pos 4294967295)) (IsGiven z n) ((v : Value) → ¬ (IsArgument z n v))) (sym is)
    (subst (λ z. MatchBool (int_le m (pos 4294967295)) (IsGiven I32 z) ((v : Value) → ¬ (IsArgument I32 z v))) same
    (decides_32 m low (int_le m (pos 4294967295)) refl))

pub fits_64 : (t : ValType) (n m : ℤ) → t ≡ I64 → m ≡ n → int_le (negsuc 9223372036854775807) m ≡ true
    → MatchBool (int_le m (pos 18446744073709551615)) (IsGiven t n) ((v : Value) → ¬ (IsArgument t n v))
fits_64 t n m is same low =
    subst (λ z. MatchBool (int_le m (pos 18446744073709551615)) (IsGiven z n) ((v : Value) → ¬ (IsArgument z n v)))
    (sym is)
    (subst (λ z. MatchBool (int_le m (pos 18446744073709551615)) (IsGiven I64 z)
    ((v : Value) → ¬ (IsArgument I64 z v))) same (decides_64 m low (int_le m (pos 18446744073709551615)) refl))

-- the remainder is the value's integer
abs_32 : (n : ℤ) → nat_abs (int_rem_euclid n (pos 4294967296)) ≡ unsigned 32 n
unfolding unsigned
abs_32 (pos n) = refl
abs_32 (negsuc n) = refl

abs_64 : (n : ℤ) → nat_abs (int_rem_euclid n (pos 18446744073709551616)) ≡ unsigned 64 n
unfolding unsigned
abs_64 (pos n) = refl
abs_64 (negsuc n) = refl

pub word_32 : (t : ValType) (n m r s : ℤ) → t ≡ I32 → m ≡ n → s ≡ r → r ≡ int_rem_euclid m (pos 4294967296)
    → nat_abs s ≡ unsigned (bits t) n
word_32 t n m r s is same seen e = search (rules, nat_abs, pos, abs_32)

pub word_64 : (t : ValType) (n m r s : ℤ) → t ≡ I64 → m ≡ n → s ≡ r → r ≡ int_rem_euclid m (pos 18446744073709551616)
    → nat_abs s ≡ unsigned (bits t) n
word_64 t n m r s is same seen e = search (rules, nat_abs, pos, abs_64)

-- ---- one for each parameter

-- the values have the parameters' types
pub types_of : (ts : List ValType) (ns : List ℤ) (vs : List Value) → AreArguments ts ns vs → map type_of vs ≡ ts
types_of [] [] vs h = ap (map type_of) h
types_of [] (n ∷ ns) vs h = absurd h
types_of (t ∷ ts) [] vs h = absurd h
types_of (t ∷ ts) (n ∷ ns) vs (v, rest, is, e, more) =
    ap (map type_of) e ∙ (ap (λ z. type_of z ∷ map type_of rest) (value_is t n v is) ∙ ap (λ zs. t ∷ zs)
    (types_of ts ns rest more))

-- and are in their range
pub all_fit : (ts : List ValType) (ns : List ℤ) (vs : List Value) → AreArguments ts ns vs → AllByRecursion InRange vs
all_fit [] [] vs h = subst (AllByRecursion InRange) (sym h) tt
all_fit [] (n ∷ ns) vs h = absurd h
all_fit (t ∷ ts) [] vs h = absurd h
all_fit (t ∷ ts) (n ∷ ns) vs (v, rest, is, e, more) =
    subst (AllByRecursion InRange) (sym e)
    (subst InRange (sym (value_is t n v is)) (below t n), all_fit ts ns rest more)

pub same_count : (ts : List ValType) (ns : List ℤ) (vs : List Value) → AreArguments ts ns vs → length ts ≡ length ns
same_count [] [] vs h = refl
same_count [] (n ∷ ns) vs h = absurd h
same_count (t ∷ ts) [] vs h = absurd h
same_count (t ∷ ts) (n ∷ ns) vs (v, rest, is, e, more) = ap suc (same_count ts ns rest more)

-- each may be given for its parameter
abbrev pub AreGiven : List ValType → List ℤ → Type 0
AreGiven ts ns = (vs : List Value) × AreArguments ts ns vs

-- from a place on they may where they may from the next one on, and this one may
pub one_more : (ts : List ValType) (ns : List ℤ) (i : ℕ) (t : ValType) (n : ℤ) → slice_get ts i ≡ Some t
    → slice_get ns i ≡ Some n → IsGiven t n → AreGiven (drop (i + 1) ts) (drop (i + 1) ns)
    → AreGiven (drop i ts) (drop i ns)
one_more ts ns i t n at_t at_n (v, is) (vs, all) =
    subst (λ z. AreGiven z (drop i ns)) (sym (drop_at ts i t at_t))
    (subst (AreGiven (t ∷ drop (i + 1) ts)) (sym (drop_at ns i n at_n)) (v ∷ vs, (v, vs, is, refl, all)))

split : (ts : List ValType) (ns : List ℤ) (t : ValType) (n : ℤ) → AreGiven (t ∷ ts) (n ∷ ns)
    → IsGiven t n × AreGiven ts ns
split ts ns t n (vs, (v, rest, is, e, more)) = ((v, is), (rest, more))

pub one_less : (ts : List ValType) (ns : List ℤ) (i : ℕ) (t : ValType) (n : ℤ) → slice_get ts i ≡ Some t
    → slice_get ns i ≡ Some n → AreGiven (drop i ts) (drop i ns)
    → IsGiven t n × AreGiven (drop (i + 1) ts) (drop (i + 1) ns)
one_less ts ns i t n at_t at_n h = search (rules, split, drop_at)

-- ---- their words

abbrev pub words_in : List ValType → List ℤ → List ℕ
words_in (t ∷ ts) (n ∷ ns) = unsigned (bits t) n ∷ words_in ts ns
words_in ts ns = []

pub words_are : (ts : List ValType) (ns : List ℤ) (vs : List Value) → AreArguments ts ns vs
    → map bits_of vs ≡ words_in ts ns
words_are [] [] vs h = ap (map bits_of) h
words_are [] (n ∷ ns) vs h = absurd h
words_are (t ∷ ts) [] vs h = absurd h
words_are (t ∷ ts) (n ∷ ns) vs (v, rest, is, e, more) =
    ap (map bits_of) e ∙ (ap (λ z. bits_of z ∷ map bits_of rest) (value_is t n v is) ∙ ap (λ zs. unsigned
    (bits t) n ∷ zs) (words_are ts ns rest more))

pub next_word : (ts : List ValType) (ns : List ℤ) (i : ℕ) (t : ValType) (n : ℤ) → slice_get ts i ≡ Some t
    → slice_get ns i ≡ Some n → words_in (drop i ts) (drop i ns) ≡ unsigned (bits t) n ∷ words_in (drop (i + 1) ts)
    (drop (i + 1) ns)
next_word ts ns i t n at_t at_n = search (rules, drop_at)

pub word_pushed : (ts : List ValType) (ns : List ℤ) (i : ℕ) (t : ValType) (n : ℤ) (old words : List ℕ) (w : ℕ)
    → slice_get ts i ≡ Some t → slice_get ns i ≡ Some n → w ≡ unsigned (bits t) n → words ≡ old ++ w ∷ []
    → old ++ words_in (drop i ts) (drop i ns) ≡ words_in ts ns
    → words ++ words_in (drop (i + 1) ts) (drop (i + 1) ns) ≡ words_in ts ns
word_pushed ts ns i t n old words w at_t at_n is pushed h = search (rules, append_assoc, next_word)

pub words_done : (ts : List ValType) (ns : List ℤ) (i : ℕ) (words : List ℕ) → length ts ≤ i
    → words ++ words_in (drop i ts) (drop i ns) ≡ words_in ts ns → AreWords ts ns words
words_done ts ns i words all h vs given = search (rules, words_are, drop_all, append-nil)

-- ---- of a function of an instance's own

some_same : {A : Type 0} {x y : A} → Some x ≡ Some y → x ≡ y
some_same e = cc

own_same : {t u : FuncType} {b d : Body} → own t b ≡ own u d → t ≡ u
own_same e = cc

pub type_is : (l : LinkedState) (func : ℕ) (type other : FuncType) (body : Body) (c : Context) (inst : Instance)
    → IsOwnType l func type → IsInstanceOf l c inst → slice_get inst.funcs func ≡ Some (own other body) → type ≡ other
type_is l func type other body c inst owned is at = own_same (some_same (sym (owned c inst is).1 ∙ at))

abbrev pub Decides : Bool → List ValType → List ℤ → Type 0
Decides b ts ns = MatchBool b ((vs : List Value) × AreArguments ts ns vs)
    ((vs : List Value) → ¬ (AreArguments ts ns vs))

pub decided : (l : LinkedState) (func : ℕ) (type : FuncType) (given : List ℤ) (b : Bool) → IsOwnType l func type
    → Decides b type.params given
    → (c : Context) (inst : Instance) (other : FuncType) (body : Body) → IsInstanceOf l c inst
    → slice_get inst.funcs func ≡ Some (own other body) → Decides b other.params given
decided l func type given b owned h c inst other body is at = subst (λ (t : FuncType). Decides b t.params given)
    (type_is l func type other body c inst owned is at) h

pub has_own : (l : LinkedState) (func : ℕ) (type : FuncType) → IsOwnType l func type
    → (c : Context) (inst : Instance) → IsInstanceOf l c inst → HasNoOwn inst func → ⊥
has_own l func type owned c inst is lacks = let o = owned c inst is in lacks type o.0 o.1

pub none_taken : (l : LinkedState) (func : ℕ) (given : List ℤ) → LacksOwn l func → CanTake l func given → ⊥
none_taken l func given lacks r = lacks r.context r.inst r.is r.type r.body r.is_own

pub as_many : (l : LinkedState) (func : ℕ) (type : FuncType) (given : List ℤ) → IsOwnType l func type
    → CanTake l func given → length type.params ≡ length given
as_many l func type given owned r =
    ap (λ (t : FuncType). length t.params) (type_is l func type r.type r.body r.context r.inst owned r.is r.is_own)
    ∙ same_count r.type.params given r.vs r.fits

pub words_by : (l : LinkedState) (func : ℕ) (type : FuncType) (given : List ℤ) (words : List ℕ)
    → IsOwnType l func type → AreWords type.params given words → WordsAre l func given words
words_by l func type given words owned h c inst other body vs is at fits =
    h vs (subst (λ (t : FuncType). AreArguments t.params given vs)
    (sym (type_is l func type other body c inst owned is at)) fits)
