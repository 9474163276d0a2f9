-- The functions of a module instance, and that elements name them.
use Rattle.std.proofs.Common.{◌≡◌, ◌∙◌, ℕ, zero, suc, ◌+◌, ◌<◌, List, [], ◌∷◌, ◌++◌, length, map, take, drop, replicate, slice_get, Option, Some, None, inl, inr, refl, sym, ap, subst, arith}
use Rattle.std.specs.List.{AllByRecursion}
use Rattle.std.proofs.lemmas.Option.{slice_get_within}
use Rattle.wh_model.specs.Format.{FuncType, Body, Import}
use Rattle.wh_model.specs.Validity.{Context, Name, HasFunc, imported_funcs, func_first}
use Rattle.wh_model.specs.Execution.{Value, FuncInst, own, written, Parameters, Imported, Defined, Piece, filled}
use Rattle.wh_bodies.specs.SideTables.{Table}
use Rattle.wh_validate.specs.CheckedBodies.{Checked}

-- ---- functions

-- the functions that bodies make
pub record AreDefined (types : List FuncType) (xs : List ℕ) (bs : List Body) : Type 0 where
  pub owns : List FuncInst
  pub defined : Defined types xs bs owns
  pub count : length owns ≡ length xs

pub are_defined : (c : Context) (xs : List ℕ) (bs : List Body) (ts : List Table) → Checked c xs bs ts → AreDefined c.types xs bs
are_defined c [] bs ts checked = record { owns = []; defined = (checked.0, refl); count = refl }
are_defined c (x ∷ xs) bs ts (b, rest, f, more, is, tables, typed, valid, fits, others) =
    let r = are_defined c xs rest more others in
    record { owns = own f b ∷ r.owns; defined = (f, b, rest, r.owns, typed, is, refl, r.defined); count = ap suc r.count }

pub imported_count : (types : List FuncType) (p : Parameters) (is : List Import) (fs : List FuncInst) (vs : List Value) → Imported types p is fs vs → length fs ≡ length (imported_funcs is)
imported_count types p [] fs vs (none, _) = ap length none
imported_count types p (i ∷ is) fs vs (inl (h, rest, (from, name, x, desc, typed), e, others)) =
    ap length e ∙ ap suc (imported_count types p is rest vs others) ∙ sym (ap (λ d. length (func_first d (imported_funcs is))) desc)
imported_count types p (i ∷ is) fs vs (inr (v, rest, (from, inl (name, desc, is_base)), e, others)) =
    imported_count types p is fs rest others ∙ sym (ap (λ d. length (func_first d (imported_funcs is))) desc)
imported_count types p (i ∷ is) fs vs (inr (v, rest, (from, inr (name, desc, is_salt)), e, others)) =
    imported_count types p is fs rest others ∙ sym (ap (λ d. length (func_first d (imported_funcs is))) desc)

pub named_count : (types : List FuncType) (xs : List ℕ) (fs : List FuncType) → Name types xs fs → length fs ≡ length xs
named_count types [] fs none = ap length none
named_count types (x ∷ xs) fs (f, rest, e, at, others) = ap length e ∙ ap suc (named_count types xs rest others)

-- ---- elements

-- an entry that has a function names one of n
abbrev pub NamesBelow : ℕ → Option ℕ → Type 0
NamesBelow n None = Unit {0}
NamesBelow n (Some x) = x < n

all_taken : {A : Type 0} (P : A → Type 0) (xs : List A) (k : ℕ) → AllByRecursion P xs → AllByRecursion P (take k xs)
all_taken P [] zero all = tt
all_taken P [] (suc k) all = tt
all_taken P (x ∷ xs) zero all = tt
all_taken P (x ∷ xs) (suc k) all = (all.0, all_taken P xs k all.1)

all_dropped : {A : Type 0} (P : A → Type 0) (xs : List A) (k : ℕ) → AllByRecursion P xs → AllByRecursion P (drop k xs)
all_dropped P xs zero all = all
all_dropped P [] (suc k) all = tt
all_dropped P (x ∷ xs) (suc k) all = all_dropped P xs k all.1

pub all_joined : {A : Type 0} (P : A → Type 0) (xs ys : List A) → AllByRecursion P xs → AllByRecursion P ys → AllByRecursion P (xs ++ ys)
all_joined P [] ys a b = b
all_joined P (x ∷ xs) ys a b = (a.0, all_joined P xs ys a.1 b)

entries_below : (n : ℕ) (xs : List ℕ) → AllByRecursion (λ x. x < n) xs → AllByRecursion (NamesBelow n) (map (λ x. Some x) xs)
entries_below n [] all = tt
entries_below n (x ∷ xs) all = (all.0, entries_below n xs all.1)

-- a table into which functions are written that there are
pub filled_below : (n : ℕ) (table : List (Option ℕ)) (ps : List Piece) → AllByRecursion (NamesBelow n) table → AllByRecursion (λ p. AllByRecursion (λ x. x < n) p.items) ps → AllByRecursion (NamesBelow n) (filled table ps)
filled_below n table [] below all = below
filled_below n table (p ∷ ps) below all =
    let entries = map (λ x. Some x) p.items in
    filled_below n (written table p.at entries) ps
    (all_joined (NamesBelow n) (take p.at table) (entries ++ drop (p.at + length entries) table) (all_taken (NamesBelow n) table p.at below)
    (all_joined (NamesBelow n) entries (drop (p.at + length entries) table) (entries_below n p.items all.0) (all_dropped (NamesBelow n) table (p.at + length entries) below))) all.1

pub none_below : (n k : ℕ) → AllByRecursion (NamesBelow n) (replicate k None)
none_below n zero = tt
none_below n (suc k) = (tt, none_below n k)

pub below_at : (n : ℕ) (table : List (Option ℕ)) (i x : ℕ) → AllByRecursion (NamesBelow n) table → slice_get table i ≡ Some (Some x) → x < n
below_at n [] i x all e = absurd (cc e)
below_at n (o ∷ table) zero x all e = let same : o ≡ Some x = cc e in subst (NamesBelow n) same all.0
below_at n (o ∷ table) (suc i) x all e = below_at n table i x all.1 e

pub funcs_below : (c : Context) (n : ℕ) (xs : List ℕ) → length c.funcs ≡ n → AllByRecursion (HasFunc c) xs → AllByRecursion (λ x. x < n) xs
funcs_below c n [] count all = tt
funcs_below c n (x ∷ xs) count all = let lt = slice_get_within c.funcs x all.0.0 all.0.1 in (omega (arith, lt, count), funcs_below c n xs count all.1)
