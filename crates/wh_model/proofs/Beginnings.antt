-- Every valid module that links begins.
use Rattle.std.proofs.Common.{◌≡◌, ◌⊎◌, inl, inr, ⊎_elim, ℕ, ◌+◌, ◌*◌, List, [], ◌∷◌, ◌++◌, length, map, Option, Some, None, option_map, slice_get, refl, sym, ap, subst, ◌∙◌, arith, rules}
use Rattle.std.proofs.lemmas.Bool.{cases_lt}
use Rattle.std.proofs.lemmas.List.{map-append}
use Rattle.std.proofs.lemmas.Option.{slice_get-map}
use Rattle.std.specs.List.{AllByRecursion}
use Rattle.wh_model.specs.declared.ValType.{ValType}
use Rattle.wh_model.specs.declared.ValType.TheVariants.{I32, I64}
use Rattle.wh_model.specs.Format.{Code, FuncType, GlobalType, Import, of_global, Global, Element, Data, Body}
use Rattle.wh_model.specs.Execution.{unsigned, Value, value, type_of, FuncInst, own, host, Parameters, ImportsGlobal, Imported, Defined, Evaluates, Begun, Piece, Placed, Within, first_size, last_size, Prepares, memory_min, segment_bounds, needs_more, out_of_bounds, in_bounds}
use Rattle.wh_model.specs.Validity.{Context, ConstantOf, ValidGlobal, ValidElement, ValidData, ValidBodies, global_first, imported_globals}
use Rattle.wh_model.specs.Validity.Valid.{Valid}
use Rattle.wh_model.specs.Execution.Store.{Instance}
use Rattle.wh_model.specs.declared.host.HostItem.TheVariants.{Func, Global as GlobalItem}
use Rattle.wh_model.specs.Linking.{value_of, HasItem}
use Rattle.wh_model.specs.Laws.{SomeBeginning}

-- ---- imports

-- the values are of these globals
abbrev AreOf : List Value → List GlobalType → Type 0
AreOf vs gs = map type_of vs ≡ map (λ g. g.value) gs

pub record Imports (types : List FuncType) (p : Parameters) (is : List Import) : Type 0 where
  pub funcs : List FuncInst
  pub values : List Value
  pub imported : Imported types p is funcs values
  pub are_of : AreOf values (imported_globals is)

global_desc : (p : Parameters) (i : Import) (v : Value) → ImportsGlobal p i v → i.desc ≡ of_global (type_of v)
global_desc p i v (from, inl is) = is.1 ∙ ap (λ (w : Value). of_global (type_of w)) (sym is.2)
global_desc p i v (from, inr is) = is.1 ∙ ap (λ (w : Value). of_global (type_of w)) (sym is.2)

imports_of : (types : List FuncType) (p : Parameters) (is : List Import) → AllByRecursion (HasItem types) is → Imports types p is
imports_of types p [] all = record { funcs = []; values = []; imported = (refl, refl); are_of = refl }
imports_of types p (i ∷ is) ((Func h, is_func), all) =
    let rest = imports_of types p is all in
    record {
      funcs = host h ∷ rest.funcs;
      values = rest.values;
      imported = inl (h, rest.funcs, is_func, refl, rest.imported);
      are_of = rest.are_of ∙ ap (λ d. map (λ (g : GlobalType). g.value) (global_first d (imported_globals is))) (sym is_func.3);
    }
imports_of types p (i ∷ is) ((GlobalItem g, is_global), all) =
    let rest = imports_of types p is all in
    let v = value_of p g in
    record {
      funcs = rest.funcs;
      values = v ∷ rest.values;
      imported = inr (v, rest.values, is_global p, refl, rest.imported);
      are_of = ap (λ ts. type_of v ∷ ts) rest.are_of ∙ ap (λ d. map (λ (g : GlobalType). g.value) (global_first d (imported_globals is))) (sym (global_desc p i v (is_global p)));
    }

-- ---- functions

defined_of : (c : Context) (types : List FuncType) (xs : List ℕ) (bs : List Body) → c.types ≡ types → ValidBodies c xs bs → (fs : List FuncInst) × Defined types xs bs fs
defined_of c types [] bs e valid = ([], (valid, refl))
defined_of c types (x ∷ xs) bs e (b, more, is, f, at, body, rest) =
    let others = defined_of c types xs more e rest in
    (own f b ∷ others.0, (f, b, more, others.0, subst (λ ts. slice_get ts x ≡ Some f) e at, is, refl, others.1))

-- ---- constant expressions

-- an option that a function leads to some value has a value that it leads there
pub some_in : {A B : Type 0} (v : A → B) (o : Option A) (y : B) → option_map v o ≡ Some y → (x : A) × (o ≡ Some x) × (v x ≡ y)
some_in v None y e = absurd (cc e)
some_in v (Some x) y e = (x, refl, cc e)

value_at : (vs : List Value) (gs : List GlobalType) (x : ℕ) (g : GlobalType) → AreOf vs gs → slice_get gs x ≡ Some g → (v : Value) × (slice_get vs x ≡ Some v) × (type_of v ≡ g.value)
value_at vs gs x g are at =
    some_in type_of (slice_get vs x) g.value
    (sym (slice_get-map type_of vs x) ∙ ap (λ ts. slice_get ts x) are ∙ slice_get-map (λ (k : GlobalType). k.value) gs x ∙ ap (λ o. option_map (λ (k : GlobalType). k.value) o) at)

evaluates_of : (vs : List Value) (gs : List GlobalType) (e : Code) (t : ValType) → AreOf vs gs → ConstantOf gs e t → (v : Value) × Evaluates vs e v × (type_of v ≡ t)
evaluates_of vs gs e t are (inl (n, is, type)) = (value I32 (unsigned 32 n), inl (n, is, refl), sym type)
evaluates_of vs gs e t are (inr (inl (n, is, type))) = (value I64 (unsigned 64 n), inr (inl (n, is, refl)), sym type)
evaluates_of vs gs e t are (inr (inr (x, is, at))) = search (rules, value_at)

begun_of : (imports : List Import) (vs : List Value) (gs : List Global) → AreOf vs (imported_globals imports) → AllByRecursion (ValidGlobal imports) gs → (ws : List Value) × Begun vs gs ws × AreOf ws (map (λ g. g.type) gs)
begun_of imports vs [] are all = ([], refl, refl)
begun_of imports vs (g ∷ gs) are all =
    let v = evaluates_of vs (imported_globals imports) g.init g.type.value are all.0 in
    let rest = begun_of imports vs gs are all.1 in
    (v.0 ∷ rest.0, (v.0, rest.0, v.1, refl, rest.1), ap (λ t. t ∷ map type_of rest.0) v.2 ∙ ap (λ ts. g.type.value ∷ ts) rest.2)

-- ---- segments

i32_of : (v : Value) → type_of v ≡ I32 → (n : ℕ) × (v ≡ value I32 n)
i32_of (value t n) e = (n, ap (λ u. value u n) e)

placed_of : (vs : List Value) (gs : List GlobalType) (ss : List (Code × List ℕ)) → AreOf vs gs → AllByRecursion (λ (s : Code × List ℕ). ConstantOf gs s.0 I32) ss → (ps : List Piece) × Placed vs ss ps
placed_of vs gs [] are all = ([], refl)
placed_of vs gs (s ∷ ss) are all =
    let v = evaluates_of vs gs s.0 I32 are all.0 in
    let n = i32_of v.0 v.2 in
    let rest = placed_of vs gs ss are all.1 in
    (record { at = n.0; items = s.1 } ∷ rest.0, (n.0, rest.0, subst (Evaluates vs s.0) n.1 v.1, refl, rest.1))

element_offsets : (c : Context) (es : List Element) → AllByRecursion (ValidElement c) es → AllByRecursion (λ (s : Code × List ℕ). ConstantOf c.globals s.0 I32) (map (λ e. (e.offset, e.init)) es)
element_offsets c [] all = tt
element_offsets c (e ∷ es) all = (all.0.1, element_offsets c es all.1)

data_offsets : (c : Context) (ds : List Data) → AllByRecursion (ValidData c) ds → AllByRecursion (λ (s : Code × List ℕ). ConstantOf c.globals s.0 I32) (map (λ d. (d.offset, d.init)) ds)
data_offsets c [] all = tt
data_offsets c (d ∷ ds) all = (all.0.1, data_offsets c ds all.1)

within_or_not : (size : ℕ) (ps : List Piece) → Within size ps ⊎ ¬ (Within size ps)
within_or_not size [] = inl tt
within_or_not size (p ∷ ps) =
    ⊎_elim
    (λ beyond. inr (λ (all : Within size (p ∷ ps)). let low = all.0 in absurd (omega (arith, beyond, low))))
    (λ low. ⊎_elim (λ rest. inl (low, rest)) (λ never. inr (λ (all : Within size (p ∷ ps)). never all.1)) (within_or_not size ps))
    (cases_lt size (p.at + length p.items))

-- ---- instantiation

both_or_not : {A B : Type 0} → A ⊎ ¬ A → B ⊎ ¬ B → (A × B) ⊎ ¬ (A × B)
both_or_not (inl a) (inl b) = inl (a, b)
both_or_not (inl a) (inr never) = inr (λ both. never both.1)
both_or_not (inr never) b = inr (λ both. never both.0)

pub some_beginning : SomeBeginning
unfolding Valid
some_beginning m p (c, valid) links =
    let imports = imports_of m.types p m.imports links in
    let owns = defined_of c m.types m.funcs m.bodies valid.context.types valid.bodies in
    let globals = imports.values ++ (begun_of m.imports imports.values m.globals imports.are_of valid.globals).0 in
    let are : AreOf globals c.globals = search (rules, map-append) in
    let elements = placed_of globals c.globals (map (λ e. (e.offset, e.init)) m.elements) are (element_offsets c m.elements valid.elements) in
    let segments = placed_of globals c.globals (map (λ d. (d.offset, d.init)) m.segments) are (data_offsets c m.segments valid.segments) in
    let inst : Instance = record { types = m.types; funcs = imports.funcs ++ owns.0; page_limit = last_size m.memories p.page_limit } in
    let prepares : Prepares m p inst globals elements.0 segments.0 = search rules in
    ⊎_elim
    (λ few. (memory_min, needs_more few))
    (λ enough. ⊎_elim
    (λ within. (_, in_bounds enough prepares within.0 within.1))
    (λ never. (segment_bounds, out_of_bounds enough prepares never))
    (both_or_not (within_or_not (first_size m.tables) elements.0) (within_or_not (first_size m.memories * 65536) segments.0)))
    (cases_lt p.page_limit (first_size m.memories))
