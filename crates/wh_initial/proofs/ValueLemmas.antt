-- The values of constant expressions, of globals and of offsets: their words, with the types that validation gives them.
use Rattle.std.proofs.Common.{◌≡◌, ◌∙◌, ℕ, zero, suc, ◌^◌, ◌<◌, List, [], ◌∷◌, length, map, slice_index, slice_get, Some, ⊎_elim, inl, inr, refl, sym, ap, subst, arith, ℤ}
use Rattle.std.specs.List.{AllByRecursion}
use Rattle.wh_model.specs.declared.ValType.{ValType}
use Rattle.wh_model.specs.declared.ValType.TheVariants.{I32, I64}
use Rattle.wh_model.specs.declared.Mutability.TheVariants.{Const}
use Rattle.wh_model.specs.Execution.Numbers as numbers
use Rattle.wh_model.specs.Execution.{unsigned, Value, value, type_of, FuncInst, Parameters, Imported, Evaluates, Begun}
use Rattle.wh_model.proofs.Numbers.{unsigned-lt}
use Rattle.wh_model.specs.Format.{i32_const, i64_const, global_get, Code, nothing, plain, GlobalType, FuncType, Import}
use Rattle.wh_model.specs.Format.Syntax as model
use Rattle.wh_model.specs.Validity.{ConstantOf, imported_globals, global_first}
use Rattle.wh_model.specs.declared.host.HostGlobal.{HostGlobal}
use Rattle.wh_model.specs.declared.host.HostGlobal.TheVariants.{Base, Salt}
use Rattle.wh_model.specs.Linking.{value_of}
use Rattle.wh_control.specs.Represents.{bits_of, InRange}
use Rattle.wh_syntax.specs.declared.module.Global.{Global}
use Rattle.wh_syntax.specs.View.{view_global}
use Rattle.wh_initial.specs.ConstantWords.{word_in, IsSeen, host_word}

-- ---- constant expressions

-- values of these types, each a number of its type
pub record AreTyped (types : List ValType) (values : List Value) : Type 0 where
  pub types_are : map type_of values ≡ types
  pub in_range : AllByRecursion InRange values

-- what is read at an index
pub record ReadAt (values : List Value) (x : ℕ) (t : ValType) : Type 0 where
  pub at : slice_get values x ≡ Some (value t (slice_index (map bits_of values) x))
  pub fits : slice_index (map bits_of values) x < 2 ^ numbers.bits t
  pub there : x < length values

read_first : (v : Value) (t : ValType) → InRange v → type_of v ≡ t → (v ≡ value t (bits_of v)) × (bits_of v < 2 ^ numbers.bits t)
read_first (value u n) t fits e = (ap (λ w. value w n) e, subst (λ w. n < 2 ^ numbers.bits w) e fits)

read_at : (gs : List GlobalType) (values : List Value) (x : ℕ) (g : GlobalType) → map type_of values ≡ map (λ g. g.value) gs → AllByRecursion InRange values → slice_get gs x ≡ Some g → ReadAt values x g.value
read_at [] values x g types range at = absurd (cc at)
read_at (h ∷ gs) [] x g types range at = absurd (cc types)
read_at (h ∷ gs) (v ∷ values) zero g types range at =
    let first : type_of v ≡ h.value = cc types in
    let same : h ≡ g = cc at in
    let r = read_first v g.value range.0 (first ∙ ap (λ (w : GlobalType). w.value) same) in
    record { at = ap (λ w. Some w) r.0; fits = r.1; there = omega arith }
read_at (h ∷ gs) (v ∷ values) (suc x) g types range at =
    let others : map type_of values ≡ map (λ g. g.value) gs = cc types in
    let r = read_at gs values x g others range.1 at in
    record { at = r.at; fits = r.fits; there = omega (arith, r.there) }

-- a constant expression of a type has a value of that type
pub record HasValue (values : List Value) (e : Code) (t : ValType) : Type 0 where
  pub evaluates : Evaluates values e (value t (word_in (map bits_of values) e))
  pub fits : word_in (map bits_of values) e < 2 ^ numbers.bits t
  pub seen : IsSeen (length values) e

value_i32 : (values : List Value) (e : Code) (t : ValType) (n : ℤ) → e ≡ plain (i32_const n) nothing → t ≡ I32 → HasValue values e t
unfolding word_in IsSeen
value_i32 values e t n is typed =
    let word = ap (word_in (map bits_of values)) is in
    record {
      evaluates = inl (n, is, ap (λ w. value w (word_in (map bits_of values) e)) typed ∙ ap (value I32) word);
      fits = subst (λ w. w < 2 ^ numbers.bits t) (sym word) (subst (λ u. unsigned 32 n < 2 ^ numbers.bits u) (sym typed) (unsigned-lt 32 n));
      seen = inl (n, is);
    }

value_i64 : (values : List Value) (e : Code) (t : ValType) (n : ℤ) → e ≡ plain (i64_const n) nothing → t ≡ I64 → HasValue values e t
unfolding word_in IsSeen
value_i64 values e t n is typed =
    let word = ap (word_in (map bits_of values)) is in
    record {
      evaluates = inr (inl (n, is, ap (λ w. value w (word_in (map bits_of values) e)) typed ∙ ap (value I64) word));
      fits = subst (λ w. w < 2 ^ numbers.bits t) (sym word) (subst (λ u. unsigned 64 n < 2 ^ numbers.bits u) (sym typed) (unsigned-lt 64 n));
      seen = inr (inl (n, is));
    }

value_global : (values : List Value) (e : Code) (t : ValType) (x : ℕ) → e ≡ plain (global_get x) nothing → ReadAt values x t → HasValue values e t
unfolding word_in IsSeen
value_global values e t x is r =
    let word = ap (word_in (map bits_of values)) is in
    record {
      evaluates = inr (inr (x, is, r.at ∙ ap (λ w. Some (value t w)) (sym word)));
      fits = subst (λ w. w < 2 ^ numbers.bits t) (sym word) r.fits;
      seen = inr (inr (x, is, r.there));
    }

pub has_value : (gs : List GlobalType) (values : List Value) (e : Code) (t : ValType) → AreTyped (map (λ g. g.value) gs) values → ConstantOf gs e t → HasValue values e t
has_value gs values e t typed constant =
    ⊎_elim
    (λ (n, is, same). value_i32 values e t n is same)
    (λ w. ⊎_elim
    (λ (n, is, same). value_i64 values e t n is same)
    (λ (x, is, at). value_global values e t x is (read_at gs values x (record { value = t; mutability = Const }) typed.types_are typed.in_range at)) w) constant

-- ---- imported globals

first_type : (i : Import) (t : ValType) (is : List Import) → i.desc ≡ model.of_global t → map (λ g. g.value) (imported_globals (i ∷ is)) ≡ t ∷ map (λ g. g.value) (imported_globals is)
first_type i t is e = ap (λ d. map (λ g. g.value) (global_first d (imported_globals is))) e

pub imported_types : (types : List FuncType) (p : Parameters) (is : List Import) (fs : List FuncInst) (vs : List Value) → Imported types p is fs vs → map type_of vs ≡ map (λ g. g.value) (imported_globals is)
imported_types types p [] fs vs (_, none) = ap (map type_of) none
imported_types types p (i ∷ is) fs vs (inl (h, rest, (from, name, x, desc, typed), e, others)) =
    imported_types types p is rest vs others ∙ sym (ap (λ d. map (λ g. g.value) (global_first d (imported_globals is))) desc)
imported_types types p (i ∷ is) fs vs (inr (v, rest, (from, inl (name, desc, is_base)), e, others)) =
    ap (map type_of) e ∙ ap (λ w. type_of w ∷ map type_of rest) is_base ∙ ap (λ w. I32 ∷ w) (imported_types types p is fs rest others) ∙ sym (first_type i I32 is desc)
imported_types types p (i ∷ is) fs vs (inr (v, rest, (from, inr (name, desc, is_salt)), e, others)) =
    ap (map type_of) e ∙ ap (λ w. type_of w ∷ map type_of rest) is_salt ∙ ap (λ w. I64 ∷ w) (imported_types types p is fs rest others) ∙ sym (first_type i I64 is desc)

pub hosts_in_range : (p : Parameters) (gs : List HostGlobal) → p.base < 2 ^ 32 → p.salt < 2 ^ 64 → AllByRecursion InRange (map (value_of p) gs)
hosts_in_range p [] base salt = tt
hosts_in_range p (Base ∷ gs) base salt = (base, hosts_in_range p gs base salt)
hosts_in_range p (Salt ∷ gs) base salt = (salt, hosts_in_range p gs base salt)

pub host_words : (p : Parameters) (gs : List HostGlobal) → map bits_of (map (value_of p) gs) ≡ map (host_word p) gs
host_words p [] = refl
host_words p (g ∷ gs) = ap (λ w. host_word p g ∷ w) (host_words p gs)

-- ---- the module's own globals

-- a global's own value, where the globals that it sees have these words
abbrev pub own_value : List ℕ → Global → Value
own_value words g = value g.global_type.value (word_in words g.init)

-- each has a value of its type
abbrev pub AreValued : List Value → List Global → Type 0
AreValued values gs = AllByRecursion (λ g. HasValue values g.init g.global_type.value) gs

pub are_valued : (gs : List GlobalType) (values : List Value) (own : List Global) → AreTyped (map (λ g. g.value) gs) values → AllByRecursion (λ g. ConstantOf gs g.init g.type.value) (map view_global own) → AreValued values own
are_valued gs values [] typed valid = tt
are_valued gs values (g ∷ own) typed valid = (has_value gs values g.init g.global_type.value typed valid.0, are_valued gs values own typed valid.1)

pub own_begun : (values : List Value) (own : List Global) → AreValued values own → Begun values (map view_global own) (map (own_value (map bits_of values)) own)
own_begun values [] valued = refl
own_begun values (g ∷ own) valued = (own_value (map bits_of values) g, map (own_value (map bits_of values)) own, valued.0.evaluates, refl, own_begun values own valued.1)

pub own_in_range : (values : List Value) (own : List Global) → AreValued values own → AllByRecursion InRange (map (own_value (map bits_of values)) own)
own_in_range values [] valued = tt
own_in_range values (g ∷ own) valued = (valued.0.fits, own_in_range values own valued.1)

pub own_types : (words : List ℕ) (own : List Global) → map type_of (map (own_value words) own) ≡ map (λ g. g.value) (map (λ g. g.type) (map view_global own))
own_types words [] = refl
own_types words (g ∷ own) = ap (λ w. g.global_type.value ∷ w) (own_types words own)

pub own_words : (words : List ℕ) (own : List Global) → map bits_of (map (own_value words) own) ≡ map (λ g. word_in words g.init) own
own_words words [] = refl
own_words words (g ∷ own) = ap (λ w. word_in words g.init ∷ w) (own_words words own)
