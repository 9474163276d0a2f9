-- The functions among exports, and their types.
use Rattle.std.proofs.Common.{◌≡◌, ◌≤◌, ◌+◌, ℕ, zero, suc, Bool, true, false, cond, List, [], ◌∷◌, ◌++◌, length, filter, map, slice_get, option_map, option_copied, Bor, IfSome, IfNone, Option, Some, None, refl, sym, ap, subst, ◌∙◌, arith}
use Rattle.std.specs.List.{AllByRecursion}
use Rattle.std.specs.String.{string_bytes}
use Rattle.std.proofs.lemmas.List.{length-map}
use Rattle.std.proofs.lemmas.Option.{slice_get-map}
use Rattle.wh_model.specs.declared.ExternKind.{ExternKind}
use Rattle.wh_model.specs.declared.ExternKind.TheVariants.{Func, Table, Memory, Global}
use Rattle.wh_model.specs.Format.Syntax.{FuncType, Module, ImportDesc, of_func, of_global}
use Rattle.wh_model.specs.Format.Syntax as model
use Rattle.wh_model.specs.Validity.Typing.{Context}
use Rattle.wh_model.specs.Validity.Valid.{Exported, HasFunc, IsValidIn, Name, imported_funcs}
use Rattle.wh_model.specs.declared.ValType.{ValType}
use Rattle.wh_syntax.specs.declared.module.Export.{Export}
use Rattle.wh_syntax.specs.declared.module.FuncType as code
use Rattle.wh_syntax.specs.declared.module.Import.{Import}
use Rattle.wh_syntax.specs.declared.module.Module.{Module as Decoded}
use Rattle.wh_syntax.specs.View.{view_export, view_import, view_module, view_type}
use Rattle.wh_imports.specs.LinkedState.{LinkedState}
use Rattle.wh_load.specs.Refusing.{view_linked}
use Rattle.wh_host.specs.ModuleExports.{ExportsAt, IsTypeOfFunc, exported_funcs, is_func}

-- ---- of a list, those that pass

-- the code's exports of functions are the module's
pub funcs_viewed : (es : List Export) → filter (λ (e : model.Export). is_func e.kind) (map view_export es) ≡ map view_export (filter (λ (e : Export). is_func e.kind) es)
funcs_viewed [] = refl
funcs_viewed (e ∷ es) =
    let rest = funcs_viewed es in
    elim (is_func e.kind) as (λ b. cond b (view_export e ∷ filter (λ (z : model.Export). is_func z.kind) (map view_export es)) (filter (λ (z : model.Export). is_func z.kind) (map view_export es)) ≡ map view_export (cond b (e ∷ filter (λ (z : Export). is_func z.kind) es) (filter (λ (z : Export). is_func z.kind) es)))
    [ true ↦ ap (λ zs. view_export e ∷ zs) rest | false ↦ rest ]

-- ---- what is exported is there, and has its type

named_type : (types : List FuncType) (xs : List ℕ) (fs : List FuncType) (x : ℕ) (f : FuncType) → Name types xs fs → slice_get fs x ≡ Some f → (k : ℕ) × (slice_get xs x ≡ Some k) × (slice_get types k ≡ Some f)
named_type types [] fs x f named at = absurd (let bad : None ≡ Some f = ap (λ zs. slice_get zs x) (sym named) ∙ at in cc bad)
named_type types (k ∷ xs) fs zero f (g, rest, is, first, more) at =
    let same : g ≡ f = (let e : Some g ≡ Some f = ap (λ zs. slice_get zs 0) (sym is) ∙ at in cc e) in
    (k, refl, first ∙ ap Some same)
named_type types (k ∷ xs) fs (suc x) f (g, rest, is, first, more) at = named_type types xs rest x f more (ap (λ zs. slice_get zs (suc x)) (sym is) ∙ at)

func_kind : (kind : ExternKind) → is_func kind ≡ true → kind ≡ Func
func_kind Func is = refl
func_kind Table is = absurd (cc is)
func_kind Memory is = absurd (cc is)
func_kind Global is = absurd (cc is)

-- each that passes a test passes it, and is one of all
by_test : {A : Type 0} (p : A → Bool) (P : A → Type 0) (y : A) (ys : List A) (i : ℕ) (x : A) → ((j : ℕ) → slice_get ys j ≡ Some x → (p x ≡ true) × P x) → P y → (b : Bool) → p y ≡ b → slice_get (cond b (y ∷ ys) ys) i ≡ Some x → (p x ≡ true) × P x
by_test p P y ys i x rest first false is at = rest i at
by_test p P y ys zero x rest first true is at = let same : y ≡ x = cc at in (ap p (sym same) ∙ is, subst P same first)
by_test p P y ys (suc i) x rest first true is at = rest i at

passes : {A : Type 0} (p : A → Bool) (P : A → Type 0) (xs : List A) (i : ℕ) (x : A) → AllByRecursion P xs → slice_get (filter p xs) i ≡ Some x → (p x ≡ true) × P x
passes p P [] i x all at = absurd (cc at)
passes p P (y ∷ xs) i x all at = by_test p P y (filter p xs) i x (λ j there. passes p P xs j x all.1 there) all.0 (p y) refl at

-- a valid module's export of a function has the type of one
pub export_typed : (m : Module) (c : Context) (at : ℕ) (e : model.Export) → IsValidIn m c → slice_get (exported_funcs m) at ≡ Some e → (e.kind ≡ Func) × ((type : FuncType) × IsTypeOfFunc m e.index type)
export_typed m c at e valid is =
    let p = passes (λ (z : model.Export). is_func z.kind) (λ (z : model.Export). Exported c z.kind z.index) m.exports at e valid.exports is in
    let kind = func_kind e.kind p.0 in
    let has : HasFunc c e.index = subst (λ k. Exported c k e.index) kind p.1 in
    (kind, (has.0, named_type m.types (imported_funcs m.imports ++ m.funcs) c.funcs e.index has.0 valid.context.funcs has.1))

-- ---- the type of a function

-- the index of its type
abbrev index_in : Decoded → ℕ → Option ℕ
index_in m x = slice_get (imported_funcs (view_module m).imports ++ (view_module m).funcs) x

pub index_by : (m : Decoded) (is : List Import) (fs : List ℕ) (x : ℕ) (o : Option ℕ) → is ≡ m.imports.items → fs ≡ m.funcs.items → o ≡ slice_get (imported_funcs (map view_import is) ++ fs) x → index_in m x ≡ o
index_by m is fs x o first second at = sym (at ∙ ap (λ (zs : List Import). slice_get (imported_funcs (map view_import zs) ++ fs) x) first ∙ ap (λ zs. slice_get (imported_funcs (view_module m).imports ++ zs) x) second)

pub no_type : (m : Decoded) (x : ℕ) → index_in m x ≡ None → (of : FuncType) → ¬ (IsTypeOfFunc (view_module m) x of)
no_type m x none of has = absurd (let bad : None ≡ Some has.0 = sym none ∙ has.1 in cc bad)

-- the type that was looked up is its
pub type_found : (m : Decoded) (ts : List code.FuncType) (x k : ℕ) (r : Option (Bor code.FuncType)) → index_in m x ≡ Some k → ts ≡ m.types.items → option_copied r ≡ slice_get ts k → IfSome r (λ f. IsTypeOfFunc (view_module m) x (view_type f.now))
type_found m ts x k None at same is = tt
type_found m ts x k (Some f) at same is = (k, at, slice_get-map view_type m.types.items k ∙ ap (option_map view_type) (sym (is ∙ ap (λ zs. slice_get zs k) same)))

pub none_found : (m : Decoded) (ts : List code.FuncType) (x k : ℕ) (r : Option (Bor code.FuncType)) → index_in m x ≡ Some k → ts ≡ m.types.items → option_copied r ≡ slice_get ts k → IfNone r ((of : FuncType) → ¬ (IsTypeOfFunc (view_module m) x of))
none_found m ts x k (Some f) at same is = tt
none_found m ts x k None at same is = λ of has.
    let one : k ≡ has.0 = (let e : Some k ≡ Some has.0 = sym at ∙ has.1 in cc e) in
    let none : slice_get (map view_type m.types.items) k ≡ None = slice_get-map view_type m.types.items k ∙ ap (option_map view_type) (sym (is ∙ ap (λ zs. slice_get zs k) same)) in
    absurd (let bad : None ≡ Some of = sym none ∙ ap (slice_get (map view_type m.types.items)) one ∙ has.2 in cc bad)

-- ---- of a linked module

-- the code's exports of functions
abbrev pub code_funcs : List Export → List Export
code_funcs es = filter (λ (e : Export). is_func e.kind) es

funcs_of : (l : LinkedState) (es : List Export) → es ≡ l.valid.decoded.exports.items → exported_funcs (view_linked l) ≡ map view_export (code_funcs es)
funcs_of l es same = funcs_viewed l.valid.decoded.exports.items ∙ ap (λ zs. map view_export (code_funcs zs)) (sym same)

pub export_there : (l : LinkedState) (es : List Export) (at : ℕ) (e : Option Export) → es ≡ l.valid.decoded.exports.items → e ≡ slice_get (code_funcs es) at → slice_get (exported_funcs (view_linked l)) at ≡ option_map view_export e
export_there l es at e same is = ap (λ zs. slice_get zs at) (funcs_of l es same) ∙ slice_get-map view_export (code_funcs es) at ∙ ap (option_map view_export) (sym is)

pub count_there : (l : LinkedState) (es : List Export) (count : ℕ) → es ≡ l.valid.decoded.exports.items → count ≡ length (code_funcs es) → count ≡ length (exported_funcs (view_linked l))
count_there l es count same is = is ∙ sym (ap length (funcs_of l es same) ∙ length-map (code_funcs es) view_export)

typed_there : (l : LinkedState) (m : Decoded) (at : ℕ) (e : Export) (c : Context) → m ≡ l.valid.decoded → IsValidIn (view_module m) c → slice_get (exported_funcs (view_linked l)) at ≡ Some (view_export e)
    → (e.kind ≡ Func) × ((type : FuncType) × IsTypeOfFunc (view_linked l) e.index type)
typed_there l m at e c same valid is =
    export_typed (view_linked l) c at (view_export e) (subst (λ (z : Decoded). IsValidIn (view_module z) c) same valid) is

pub has_some_type : (l : LinkedState) (m : Decoded) (es : List Export) (at : ℕ) (e : Export) (c : Context) → m ≡ l.valid.decoded → es ≡ m.exports.items → IsValidIn (view_module m) c → Some e ≡ slice_get (code_funcs es) at
    → ((of : FuncType) → ¬ (IsTypeOfFunc (view_module m) e.index of)) → ⊥
has_some_type l m es at e c same its valid is none =
    let there = export_there l es at (Some e) (its ∙ ap (λ (z : Decoded). z.exports.items) same) is in
    let typed = (typed_there l m at e c same valid there).1 in
    none typed.0 (subst (λ (z : Decoded). IsTypeOfFunc (view_module z) e.index typed.0) (sym same) typed.1)

pub shown_export : (l : LinkedState) (m : Decoded) (es : List Export) (at : ℕ) (e : Export) (f : code.FuncType) (name : List ℕ) (params results : List ValType) (c : Context) → m ≡ l.valid.decoded → es ≡ m.exports.items → IsValidIn (view_module m) c
    → Some e ≡ slice_get (code_funcs es) at → IsTypeOfFunc (view_module m) e.index (view_type f) → name ≡ string_bytes e.name → params ≡ f.params.items → results ≡ f.results.items
    → ExportsAt (view_linked l) at name (record { params = params; results = results })
shown_export l m es at e f name params results c same its valid is typed named first last =
    let there = export_there l es at (Some e) (its ∙ ap (λ (z : Decoded). z.exports.items) same) is in
    let kind = (typed_there l m at e c same valid there).0 in
    let by_name : view_export e ≡ record { name = name; kind = Func; index = e.index } = rw kind (rw named refl) in
    let type : view_type f ≡ record { params = params; results = results } = rw first (rw last refl) in
    record {
      index = e.index;
      exported = there ∙ ap Some by_name;
      typed = subst (λ t. IsTypeOfFunc (view_linked l) e.index t) type (subst (λ (z : Decoded). IsTypeOfFunc (view_module z) e.index (view_type f)) same typed);
    }

-- ---- a name by which nothing is exported

-- all their names in a row have so many bytes
name_bytes : List model.Export → ℕ
name_bytes [] = 0
name_bytes (e ∷ es) = length e.name + name_bytes es

zeros : ℕ → List ℕ
zeros zero = []
zeros (suc n) = 0 ∷ zeros n

length-zeros : (n : ℕ) → length (zeros n) ≡ n
unfolding zeros
length-zeros zero = refl
length-zeros (suc n) = ap suc (length-zeros n)

names_short : (es : List model.Export) (i : ℕ) (e : model.Export) → slice_get es i ≡ Some e → length e.name ≤ name_bytes es
unfolding name_bytes
names_short [] i e at = absurd (cc at)
names_short (d ∷ es) zero e at = let same : d ≡ e = cc at in subst (λ (z : model.Export). length z.name ≤ length d.name + name_bytes es) same (omega arith)
names_short (d ∷ es) (suc i) e at = let n = names_short es i e at in omega (arith, n)

pub unused_name : (es : List model.Export) → (name : List ℕ) × ((i : ℕ) (e : model.Export) → slice_get es i ≡ Some e → ¬ (e.name ≡ name))
unused_name es =
    let most = name_bytes es in
    (zeros (suc most), λ i e at same. let n = names_short es i e at in let m : length e.name ≡ suc most = ap length same ∙ length-zeros (suc most) in absurd (omega (arith, n, m)))
