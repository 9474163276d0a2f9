-- Lists: what is left of them, what they are mapped to, and arguments.
use Rattle.std.proofs.Common.{◌≡◌, ℕ, zero, suc, ◌+◌, ◌^◌, ◌<◌, ◌≤◌, List, [], ◌∷◌, length, map, drop, Some, slice_get, refl, sym, ap, subst, ◌∙◌, arith}
use Rattle.std.specs.List.{AllByRecursion}
use Rattle.wh_model.specs.declared.ValType.{ValType}
use Rattle.wh_model.specs.Execution.{bits, Value, value, type_of}
use Rattle.wh_control.specs.Represents.{bits_of, InRange}
use Rattle.wh_call.specs.Arguments.{Arguments}

drop_next : {A : Type 0} (xs : List A) (i : ℕ) (x : A) → slice_get xs i ≡ Some x → drop i xs ≡ x ∷ drop (suc i) xs
drop_next [] i x e = cc
drop_next (y ∷ xs) zero x e = let same : y ≡ x = cc in ap (λ z. z ∷ xs) same
drop_next (y ∷ xs) (suc i) x e = drop_next xs i x e

pub drop_at : {A : Type 0} (xs : List A) (i : ℕ) (x : A) → slice_get xs i ≡ Some x → drop i xs ≡ x ∷ drop (i + 1) xs
drop_at xs i x e = drop_next xs i x e ∙ ap (λ j. x ∷ drop j xs) (let same : suc i ≡ i + 1 = omega arith in same)

pub drop_all : {A : Type 0} (xs : List A) (i : ℕ) → length xs ≤ i → drop i xs ≡ []
drop_all [] zero h = refl
drop_all [] (suc i) h = refl
drop_all (y ∷ xs) zero h = absurd (omega (arith, h))
drop_all (y ∷ xs) (suc i) h = drop_all xs i (omega (arith, h))

-- an element of a mapped list comes from one
pub mapped_from : {A B : Type 0} (f : A → B) (xs : List A) (i : ℕ) (y : B) → slice_get (map f xs) i ≡ Some y → (x : A) × (slice_get xs i ≡ Some x) × (f x ≡ y)
mapped_from f [] i y e = cc
mapped_from f (x ∷ xs) zero y e = (x, refl, cc)
mapped_from f (x ∷ xs) (suc i) y e = mapped_from f xs i y e

pub mapped_to : {A B : Type 0} (f : A → B) (xs : List A) (i : ℕ) (x : A) → slice_get xs i ≡ Some x → slice_get (map f xs) i ≡ Some (f x)
mapped_to f [] i x e = cc
mapped_to f (y ∷ xs) zero x e = cc
mapped_to f (y ∷ xs) (suc i) x e = mapped_to f xs i x e

-- ---- arguments

pub same_length : (ts : List ValType) (ns : List ℕ) → Arguments ts ns → length ts ≡ length ns
same_length [] [] h = refl
same_length [] (n ∷ ns) h = absurd h
same_length (t ∷ ts) [] h = absurd h
same_length (t ∷ ts) (n ∷ ns) h = ap suc (same_length ts ns h.1)

-- from a place on they are arguments where they are from the next one on, and this one fits
pub one_more : (ts : List ValType) (ns : List ℕ) (i : ℕ) (t : ValType) (n : ℕ) → slice_get ts i ≡ Some t → slice_get ns i ≡ Some n → (n < 2 ^ bits t) × Arguments (drop (i + 1) ts) (drop (i + 1) ns) → Arguments (drop i ts) (drop i ns)
one_more ts ns i t n at_t at_n h = subst (λ z. Arguments z (drop i ns)) (sym (drop_at ts i t at_t)) (subst (λ z. Arguments (t ∷ drop (i + 1) ts) z) (sym (drop_at ns i n at_n)) h)

pub one_less : (ts : List ValType) (ns : List ℕ) (i : ℕ) (t : ValType) (n : ℕ) → slice_get ts i ≡ Some t → slice_get ns i ≡ Some n → Arguments (drop i ts) (drop i ns) → (n < 2 ^ bits t) × Arguments (drop (i + 1) ts) (drop (i + 1) ns)
one_less ts ns i t n at_t at_n h = subst (λ z. Arguments (t ∷ drop (i + 1) ts) z) (drop_at ns i n at_n) (subst (λ z. Arguments z (drop i ns)) (drop_at ts i t at_t) h)

pub none_left : (ts : List ValType) (ns : List ℕ) (i : ℕ) → length ts ≤ i → length ts ≡ length ns → Arguments (drop i ts) (drop i ns)
none_left ts ns i h e = subst (λ z. Arguments z (drop i ns)) (sym (drop_all ts i h)) (subst (λ z. Arguments [] z) (sym (drop_all ns i (omega (arith, h, e)))) tt)

-- arguments are the words of values
pub values_of : (ts : List ValType) (ns : List ℕ) → Arguments ts ns → (vs : List Value) × (map type_of vs ≡ ts) × AllByRecursion InRange vs × (map bits_of vs ≡ ns)
values_of [] [] h = ([], refl, tt, refl)
values_of [] (n ∷ ns) h = absurd h
values_of (t ∷ ts) [] h = absurd h
values_of (t ∷ ts) (n ∷ ns) h = let r = values_of ts ns h.1 in (value t n ∷ r.0, ap (λ z. t ∷ z) r.1, (h.0, r.2), ap (λ z. n ∷ z) r.3)

arguments_by : (vs : List Value) → AllByRecursion InRange vs → Arguments (map type_of vs) (map bits_of vs)
arguments_by [] h = tt
arguments_by (value t n ∷ vs) h = (h.0, arguments_by vs h.1)

pub arguments_of : (vs : List Value) (ts : List ValType) (ns : List ℕ) → map type_of vs ≡ ts → AllByRecursion InRange vs → map bits_of vs ≡ ns → Arguments ts ns
arguments_of vs ts ns types fit words = subst (λ z. Arguments z ns) types (subst (λ z. Arguments (map type_of vs) z) words (arguments_by vs fit))
