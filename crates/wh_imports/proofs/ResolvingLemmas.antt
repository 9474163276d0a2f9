-- Imports that are resolved, one after the other.
use Rattle.std.proofs.Common.{◌≡◌, ℕ, zero, suc, ◌+◌, ◌<◌, inl, inr, List, [], ◌∷◌, ◌++◌, length, map, take, get_or, Some, slice_get, refl, sym, ap, subst, ◌∙◌, arith}
use Rattle.std.specs.List.{AllByRecursion}
use Rattle.wh_model.specs.declared.host.HostFunc.{HostFunc}
use Rattle.wh_model.specs.Format.{FuncType, Import, Module}
use Rattle.wh_model.specs.Execution.{host, Value, FuncInst, Parameters, ImportsFunc, ImportsGlobal, Imported}
use Rattle.wh_model.specs.declared.host.HostGlobal.{HostGlobal}
use Rattle.wh_model.specs.declared.host.HostItem.{HostItem}
use Rattle.wh_model.specs.declared.host.HostItem.TheVariants.{Func, Global}
use Rattle.wh_model.specs.declared.faults.ImportFault.{ImportFault}
use Rattle.wh_model.specs.Linking.{value_of, ImportsItem, HasItem, LacksItem}
use Rattle.wh_syntax.specs.View.{view_import}
use Rattle.wh_syntax.specs.declared.module.Import.{Import as Given}
use Rattle.wh_imports.specs.Resolving.{AreResolved, Adds}
use Rattle.wh_imports.specs.LinkRefusals.{RefusesLink}
use Rattle.wh_imports.specs.declared.error.LinkError.TheVariants.{NoItem}

one_func_more : (types : List FuncType) (p : Parameters) (is : List Import) (fs : List FuncInst) (vs : List Value) (i : Import) (h : HostFunc) → Imported types p is fs vs → ImportsFunc types i h
    → Imported types p (is ++ i ∷ []) (fs ++ host h ∷ []) vs
one_func_more types p [] fs vs i h (none, nothing) is = inl (h, [], is, ap (λ w. w ++ host h ∷ []) none, (refl, nothing))
one_func_more types p (j ∷ js) fs vs i h (inl (g, rest, first, e, others)) is = inl (g, rest ++ host h ∷ [], first, ap (λ w. w ++ host h ∷ []) e, one_func_more types p js rest vs i h others is)
one_func_more types p (j ∷ js) fs vs i h (inr (v, rest, first, e, others)) is = inr (v, rest, first, e, one_func_more types p js fs rest i h others is)

one_global_more : (types : List FuncType) (p : Parameters) (is : List Import) (fs : List FuncInst) (vs : List Value) (i : Import) (v : Value) → Imported types p is fs vs → ImportsGlobal p i v
    → Imported types p (is ++ i ∷ []) fs (vs ++ v ∷ [])
one_global_more types p [] fs vs i v (nothing, none) is = inr (v, [], is, ap (λ w. w ++ v ∷ []) none, (nothing, refl))
one_global_more types p (j ∷ js) fs vs i v (inl (g, rest, first, e, others)) is = inl (g, rest, first, e, one_global_more types p js rest vs i v others is)
one_global_more types p (j ∷ js) fs vs i v (inr (w, rest, first, e, others)) is = inr (w, rest ++ v ∷ [], first, ap (λ u. u ++ v ∷ []) e, one_global_more types p js fs rest i v others is)

map_more : {X Y : Type 0} (f : X → Y) (xs : List X) (x : X) → map f (xs ++ x ∷ []) ≡ map f xs ++ f x ∷ []
map_more f [] x = refl
map_more f (y ∷ ys) x = ap (λ w. f y ∷ w) (map_more f ys x)

pub one_more : (types : List FuncType) (is : List Import) (fs more : List HostFunc) (gs others : List HostGlobal) (i : Import) (item : HostItem) → AreResolved types is fs gs → ImportsItem types i item → Adds item fs gs more others
    → AreResolved types (is ++ i ∷ []) more others
one_more types is fs more gs others i (Func h) so_far new adds = λ p.
    subst (λ w. Imported types p (is ++ i ∷ []) w (map (value_of p) others)) (sym (ap (map (λ h. host h)) adds.0 ∙ map_more (λ h. host h) fs h))
    (subst (λ w. Imported types p (is ++ i ∷ []) (map (λ h. host h) fs ++ host h ∷ []) (map (value_of p) w)) (sym adds.1)
    (one_func_more types p is (map (λ h. host h) fs) (map (value_of p) gs) i h (so_far p) new))
one_more types is fs more gs others i (Global g) so_far new adds = λ p.
    subst (λ w. Imported types p (is ++ i ∷ []) (map (λ h. host h) w) (map (value_of p) others)) (sym adds.0)
    (subst (λ w. Imported types p (is ++ i ∷ []) (map (λ h. host h) fs) w) (sym (ap (map (value_of p)) adds.1 ∙ map_more (value_of p) gs g))
    (one_global_more types p is (map (λ h. host h) fs) (map (value_of p) gs) i (value_of p g) (so_far p) (new p)))

all_more : {X : Type 0} (P : X → Type 0) (xs : List X) (x : X) → AllByRecursion P xs → P x → AllByRecursion P (xs ++ x ∷ [])
all_more P [] x all p = (p, tt)
all_more P (y ∷ ys) x all p = (all.0, all_more P ys x all.1 p)

-- ---- the import at a place, as it was read

pub stands_at : {X Y : Type 0} (f : X → Y) (xs : List X) (k : ℕ) (x : X) → k < length xs → x ≡ get_or xs k x → slice_get (map f xs) k ≡ Some (f x)
stands_at f [] k x lt e = absurd (omega (arith, lt))
stands_at f (y ∷ ys) zero x lt e = ap (λ w. Some (f w)) (sym e)
stands_at f (y ∷ ys) (suc k) x lt e = stands_at f ys k x (omega (arith, lt)) e

pub take_mapped : {X Y : Type 0} (f : X → Y) (xs : List X) (k : ℕ) (x : X) → k < length xs → x ≡ get_or xs k x → take (k + 1) (map f xs) ≡ take k (map f xs) ++ f x ∷ []
take_mapped f [] k x lt e = absurd (omega (arith, lt))
take_mapped f (y ∷ ys) zero x lt e = ap (λ w. f w ∷ []) (sym e)
take_mapped f (y ∷ ys) (suc k) x lt e =
    let same : suc k + 1 ≡ suc (k + 1) = omega arith in
    ap (λ n. take n (f y ∷ map f ys)) same ∙ ap (λ w. f y ∷ w) (take_mapped f ys k x (omega (arith, lt)) e)

pub refuses : (m : Module) (i : Import) (fault : ImportFault) (at : ℕ) → slice_get m.imports at ≡ Some i → LacksItem m.types i fault → AllByRecursion (HasItem m.types) (take at m.imports) → RefusesLink m (NoItem fault at)
refuses m i fault at stands lacks before = record { at = i; stands = stands; lacks = lacks; before = before }

-- ---- one import more that was read

pub has_more : (types : List FuncType) (imports : List Given) (k : ℕ) (x : Given) → k < length imports → x ≡ get_or imports k x → AllByRecursion (HasItem types) (take k (map view_import imports)) → HasItem types (view_import x)
    → AllByRecursion (HasItem types) (take (k + 1) (map view_import imports))
has_more types imports k x lt at before has =
    subst (AllByRecursion (HasItem types)) (sym (take_mapped view_import imports k x lt at)) (all_more (HasItem types) (take k (map view_import imports)) (view_import x) before has)

pub resolved_more : (types : List FuncType) (imports : List Given) (k : ℕ) (x : Given) (fs more : List HostFunc) (gs others : List HostGlobal) (item : HostItem) → k < length imports → x ≡ get_or imports k x
    → AreResolved types (take k (map view_import imports)) fs gs → ImportsItem types (view_import x) item → Adds item fs gs more others → AreResolved types (take (k + 1) (map view_import imports)) more others
resolved_more types imports k x fs more gs others item lt at so_far new adds =
    subst (λ w. AreResolved types w more others) (sym (take_mapped view_import imports k x lt at)) (one_more types (take k (map view_import imports)) fs more gs others (view_import x) item so_far new adds)
