-- An instance of a linked module is one of its program.
use Rattle.std.proofs.Common.{◌≡◌, ℕ, ◌<◌, List, [], ◌∷◌, ◌++◌, length, map, Some, slice_get, sym, ap, subst, ◌∙◌, ⊎_elim, unwrap_or}
use Rattle.std.proofs.lemmas.Option.{slice_get_within}
use Rattle.std.proofs.lemmas.List.{length-map, map-append}
use Rattle.std.specs.List.{AllByRecursion}
use Rattle.wh_model.specs.Format.{of_func, FuncType, Import, ImportDesc, Body}
use Rattle.wh_model.specs.Validity.{Context, no_type, Name, imported_funcs, func_first}
use Rattle.wh_model.specs.Execution.Store.{Instance}
use Rattle.wh_model.specs.Execution.{Value, FuncInst, own, host, signature, Parameters, Piece, Imported, Defined, Prepares}
use Rattle.wh_model.proofs.Instance.{imported_same}
use Rattle.wh_model.specs.Linking.{value_of}
use Rattle.wh_syntax.specs.View.{view_module}
use Rattle.wh_bodies.specs.SideTables.{Table, table_of}
use Rattle.wh_bodies.specs.View.{view_side, type_at}
use Rattle.wh_validate.specs.CheckedBodies.{Checked, IsChecked}
use Rattle.wh_imports.specs.LinkedState.{LinkedState}
use Rattle.wh_imports.specs.Resolving.{IsResolved}
use Rattle.wh_control.specs.Represents.{Func, func_of, IsFunc}
use Rattle.wh_control.proofs.Places.{same_at}
use Rattle.wh_control.proofs.Standing.{is_func}
use Rattle.wh_control.specs.Parts.{funcs_of, IsInstance}

-- ---- signatures

first_func : (d : ImportDesc) (x : ℕ) (xs : List ℕ) → d ≡ of_func x → func_first d xs ≡ x ∷ xs
first_func d x xs e = ap (λ z. func_first z xs) e

-- the imported functions have the first types of the context, and those behind them are the others
imported_types : (types : List FuncType) (p : Parameters) (is : List Import) (fs : List FuncInst) (vs : List Value) (ys : List ℕ) (gs : List FuncType) → Imported types p is fs vs → Name types (imported_funcs is ++ ys) gs
    → (rest : List FuncType) × (gs ≡ map signature fs ++ rest) × Name types ys rest
imported_types types p [] fs vs ys gs x n = (gs, ap (λ z. map signature z ++ gs) (sym x.0), n)
imported_types types p (i ∷ is) fs vs ys gs x n =
    ⊎_elim
    (λ (h, rest, (from, name, k, desc, at), e, more).
    let named : Name types (k ∷ (imported_funcs is ++ ys)) gs = subst (λ z. Name types (z ++ ys) gs) (first_func i.desc k (imported_funcs is) desc) n in
    let later = imported_types types p is rest vs ys named.1 more named.4 in
    let first : named.0 ≡ signature (host h) = same_at named.3 at in
    (later.0, named.2 ∙ ap (λ z. z ∷ named.1) first ∙ ap (λ z. signature (host h) ∷ z) later.1 ∙ ap (λ z. map signature z ++ later.0) (sym e), later.2))
    (λ (v, rest, (from, which), e, more).
    let plain : Name types (imported_funcs is ++ ys) gs =
    ⊎_elim (λ (a, desc, b). subst (λ z. Name types (func_first z (imported_funcs is) ++ ys) gs) desc n) (λ (a, desc, b). subst (λ z. Name types (func_first z (imported_funcs is) ++ ys) gs) desc n) which in
    imported_types types p is fs rest ys gs more plain)
    x

defined_types : (types : List FuncType) (xs : List ℕ) (bs : List Body) (os : List FuncInst) (gs : List FuncType) → Defined types xs bs os → Name types xs gs → gs ≡ map signature os
defined_types types [] bs os gs d n = n ∙ ap (map signature) (sym d.1)
defined_types types (x ∷ xs) bs os gs (type, b, more, rest, at, e, f, later) (g, others, is, there, names) =
    let first : g ≡ type = same_at there at in
    is ∙ ap (λ z. z ∷ others) first ∙ ap (λ z. type ∷ z) (defined_types types xs more rest others later names) ∙ ap (map signature) (sym f)

-- ---- the module's own functions

-- what is known of the functions that a module defines
pub record Owned (c : Context) (types : List FuncType) (xs : List ℕ) (os : List FuncInst) (funcs : List Func) : Type 0 where
  pub are : os ≡ map (λ g. own g.type g.body) funcs
  pub each : AllByRecursion (IsFunc c) funcs
  pub named : AllByRecursion (λ x. x < length types) xs

type_of_at : (types : List FuncType) (x : ℕ) (f : FuncType) → slice_get types x ≡ Some f → type_at types x ≡ f
type_of_at types x f e = ap (λ o. unwrap_or o no_type) e

own_funcs : (c : Context) (types : List FuncType) → c.types ≡ types → (xs : List ℕ) (bs : List Body) (ts : List Table) (os : List FuncInst) → Checked c xs bs ts → Defined types xs bs os → Owned c types xs os (funcs_of types xs bs ts)
own_funcs c types same [] bs ts os k d = record { are = d.1; each = tt; named = tt }
own_funcs c types same (x ∷ xs) bs ts os (b, rest, f, more, eb, et, at, valid, fits, later) (type, b2, bs2, os2, at2, eb2, eo, others) =
    let at_types : slice_get types x ≡ Some f = subst (λ z. slice_get z x ≡ Some f) same at in
    let typed : type ≡ f = same_at at2 at_types in
    let bodies : b2 ∷ bs2 ≡ b ∷ rest = sym eb2 ∙ eb in
    let body : b2 ≡ b = cc bodies in
    let tail : bs2 ≡ rest = cc bodies in
    let o = own_funcs c types same xs rest more os2 later (subst (λ z. Defined types xs z os2) tail others) in
    let is : type_at types x ≡ f = type_of_at types x f at_types in
    subst (λ z. Owned c types (x ∷ xs) os (funcs_of types (x ∷ xs) z ts)) (sym eb) (subst (λ z. Owned c types (x ∷ xs) os (funcs_of types (x ∷ xs) (b ∷ rest) z)) (sym et) (record {
      are = eo ∙ ap (λ t. own t b2 ∷ os2) (typed ∙ sym is) ∙ ap (λ z. own (type_at types x) z ∷ os2) body ∙ ap (λ z. own (type_at types x) b ∷ z) o.are;
      each = (subst (λ t. IsFunc c (func_of t b (table_of c f b))) (sym is) (is_func c f b valid fits), o.each);
      named = (slice_get_within types x f at_types, o.named);
    }))

-- ---- instances

pub instance_of : (l : LinkedState) (sound : IsChecked (view_module l.valid.decoded) (map view_side l.valid.tables)) → IsResolved (view_module l.valid.decoded) l.funcs l.globals
    → (p : Parameters) (inst : Instance) (globals : List Value) (elements segments : List Piece) → Prepares (view_module l.valid.decoded) p inst globals elements segments → IsInstance (record { decoded = l.valid.decoded; tables = l.valid.tables; hosts = l.funcs }) sound.context inst
instance_of l sound resolved p inst globals elements segments pre =
    let m = view_module l.valid.decoded in
    let c = sound.context in
    let is_context = sound.valid.context in
    let hosts : pre.hosts ≡ map (λ h. host h) l.funcs = (imported_same m.types p m.imports pre.hosts (map (λ h. host h) l.funcs) pre.imported (map (value_of p) l.globals) pre.imports (resolved p)).0 in
    let owned = own_funcs c m.types is_context.types m.funcs m.bodies (map view_side l.valid.tables) pre.owns sound.checked pre.defines in
    let first = imported_types m.types p m.imports pre.hosts pre.imported m.funcs c.funcs pre.imports is_context.funcs in
    let others = defined_types m.types m.funcs m.bodies pre.owns first.0 pre.defines first.2 in
    record {
      program = record {
        types = is_context.types ∙ sym pre.types;
        signatures = first.1 ∙ ap (λ z. map signature pre.hosts ++ z) others ∙ sym (map-append signature pre.hosts pre.owns) ∙ ap (map signature) (sym pre.funcs);
        funcs_are = pre.funcs ∙ ap (λ z. z ++ pre.owns) hosts ∙ ap (λ z. map (λ h. host h) l.funcs ++ z) owned.are;
        each = owned.each;
      };
      types = pre.types;
      named = subst (λ n. AllByRecursion (λ x. x < n) l.valid.decoded.funcs.items) (length-map l.valid.decoded.types.items _) owned.named;
    }
