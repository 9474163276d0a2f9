-- What is valid and fits passes each part's check.
use Rattle.std.proofs.Common.{◌≡◌, ℕ, zero, suc, ◌<◌, ◌≤◌, List, [], ◌∷◌, ◌++◌, length, map, Some, slice_get, sym, ap, subst, arith, ◌∙◌, All}
use Rattle.std.specs.List.{AllByRecursion}
use Rattle.std.proofs.lemmas.List.{length-map}
use Rattle.wh_model.specs.Format.Syntax as model
use Rattle.wh_model.specs.Validity.{Context, func_first, ValidType, WithinBound, most_entries, most_pages, imported_funcs, imported_globals, Name, IsContext, ValidGlobal, ValidElement, ValidData, Exported, IsValidIn, ValidBodies, FitsTable, FitsIn, Fits, FitBodies}
use Rattle.wh_model.specs.Validity.Valid.{Valid}
use Rattle.wh_syntax.specs.declared.module.Module.{Module}
use Rattle.wh_syntax.specs.declared.module.Import.{Import}
use Rattle.wh_syntax.specs.declared.module.ImportDesc.{ImportDesc}
use Rattle.wh_syntax.specs.declared.module.ImportDesc.TheVariants.{Func, Global as GlobalOf}
use Rattle.wh_syntax.specs.View.{view_module, view_import, view_desc, view_type, view_table, view_limits, view_global, view_element, view_data, view_export, view_body}
use Rattle.wh_validate.specs.Blaming.{with_bodies}
use Rattle.wh_validate.specs.Gathering.{HasValidOutline, IsAround}
use Rattle.wh_validate.specs.Sizing.{IsTable}
use Rattle.wh_validate.specs.Naming.{NamesTypeOf, NamesType}
use Rattle.wh_validate.specs.Parts.{IsGlobal, IsExport, IsValidElement, IsSegment}
use Rattle.wh_validate.proofs.Lists.{recursion_each}

-- ---- one context

one_list : (types : List model.FuncType) (xs : List ℕ) (fs gs : List model.FuncType) → Name types xs fs → Name types xs gs → fs ≡ gs
one_list types [] fs gs p q = p ∙ sym q
one_list types (x ∷ xs) fs gs (f, rest, ef, at, more) (g, others, eg, there, further) =
    let same : f ≡ g = cc (at, there) in
    ef ∙ ap (λ w. w ∷ rest) same ∙ ap (λ w. g ∷ w) (one_list types xs rest others more further) ∙ sym eg

pub one_context : (m : model.Module) (c d : Context) → IsContext m c → IsContext m d → c ≡ d
one_context m c d p q =
    let types = p.types ∙ sym q.types in
    let funcs = one_list m.types (imported_funcs m.imports ++ m.funcs) c.funcs d.funcs p.funcs q.funcs in
    let tables = p.tables ∙ sym q.tables in
    let memories = p.memories ∙ sym q.memories in
    let globals = p.globals ∙ sym q.globals in
    let locals = p.no_locals.0 ∙ sym q.no_locals.0 in
    let labels = p.no_locals.1 ∙ sym q.no_locals.1 in
    let result = p.no_locals.2 ∙ sym q.no_locals.2 in
    ap (λ w. record c { types = w }) types ∙ ap (λ w. record c { types = d.types; funcs = w }) funcs ∙ ap (λ w. record c { types = d.types; funcs = d.funcs; tables = w }) tables
    ∙ ap (λ w. record d { memories = w; globals = c.globals; locals = c.locals; labels = c.labels; result = c.result }) memories
    ∙ ap (λ w. record d { globals = w; locals = c.locals; labels = c.labels; result = c.result }) globals
    ∙ ap (λ w. record d { locals = w; labels = c.labels; result = c.result }) locals
    ∙ ap (λ w. record d { labels = w; result = c.result }) labels
    ∙ ap (λ w. record d { result = w }) result

-- valid and fitting in the same context
abbrev pub IsRight : model.Module → Context → Type 0
IsRight m c = IsValidIn m c × FitsIn m c

pub right_in : (m : model.Module) → Valid m × Fits m → (c : Context) × IsRight m c
unfolding Valid Fits
right_in m ((c, valid), (d, fits)) = (c, (valid, subst (λ w. FitsIn m w) (one_context m d c fits.context valid.context) fits))

-- ---- lists

from_mapped : {X Y : Type 0} (P : X → Type 0) (Q : Y → Type 0) (f : X → Y) → ((x : X) → Q (f x) → P x) → (xs : List X) → AllByRecursion Q (map f xs) → All P xs
from_mapped P Q f turn xs all = recursion_each P (λ x. Q (f x)) turn xs (unmapped xs all)
  where
    unmapped : (xs : List _) → AllByRecursion Q (map f xs) → AllByRecursion (λ x. Q (f x)) xs
    unmapped [] a = tt
    unmapped (x ∷ xs) a = (a.0, unmapped xs a.1)

both_mapped : {X Y : Type 0} (P : X → Type 0) (Q R : Y → Type 0) (f : X → Y) → ((x : X) → Q (f x) → R (f x) → P x) → (xs : List X) → AllByRecursion Q (map f xs) → AllByRecursion R (map f xs) → All P xs
both_mapped P Q R f turn xs all also = from_mapped P (λ y. Q y × R y) f (λ x h. turn x h.0 h.1) xs (paired (map f xs) all also)
  where
    paired : (ys : List _) → AllByRecursion Q ys → AllByRecursion R ys → AllByRecursion (λ y. Q y × R y) ys
    paired [] a b = tt
    paired (y ∷ ys) a b = ((a.0, b.0), paired ys a.1 b.1)

-- ---- indices name types

there_below : {X : Type 0} (xs : List X) (i : ℕ) (x : X) → slice_get xs i ≡ Some x → i < length xs
there_below [] i x e = absurd (cc e)
there_below (y ∷ ys) zero x e = omega arith
there_below (y ∷ ys) (suc i) x e = let h = there_below ys i x e in omega (arith, h)

named_below : (types : List model.FuncType) (xs : List ℕ) (fs : List model.FuncType) → Name types xs fs → AllByRecursion (λ x. x < length types) xs
named_below types [] fs n = tt
named_below types (x ∷ xs) fs (f, rest, e, at, more) = (there_below types x f at, named_below types xs rest more)

split_below : (P : ℕ → Type 0) (xs ys : List ℕ) → AllByRecursion P (xs ++ ys) → AllByRecursion P xs × AllByRecursion P ys
split_below P [] ys a = (tt, a)
split_below P (x ∷ xs) ys a = let h = split_below P xs ys a.1 in ((a.0, h.0), h.1)

imports_name : (n : ℕ) (is : List Import) → AllByRecursion (λ x. x < n) (imported_funcs (map view_import is)) → AllByRecursion (NamesType n) is
imports_name n [] a = tt
imports_name n (i ∷ is) a = let h = first i.desc a in (h.0, imports_name n is h.1)
  where
    first : (d : ImportDesc) → AllByRecursion (λ x. x < n) (func_first (view_desc d) (imported_funcs (map view_import is))) → NamesTypeOf n d × AllByRecursion (λ x. x < n) (imported_funcs (map view_import is))
    first (Func x) h = h
    first (GlobalOf t) h = (tt, h)

-- ---- parts

-- bodies are no part of the context
context_with : (m : model.Module) (bs : List model.Body) (c : Context) → IsContext m c → IsContext (with_bodies m bs) c
context_with m bs c h = record { types = h.types; funcs = h.funcs; tables = h.tables; memories = h.memories; globals = h.globals; no_locals = h.no_locals }

-- with these bodies in place of its own, the module is valid and fits
abbrev pub IsRightWith : Module → List model.Body → Type 0
IsRightWith m bs = Valid (with_bodies (view_module m) bs) × Fits (with_bodies (view_module m) bs)

pub outline_of : (m : Module) (bs : List model.Body) → IsRightWith m bs → HasValidOutline m
outline_of m bs both =
    let (c, (valid, fits)) = right_in (with_bodies (view_module m) bs) both in
    let below = split_below (λ x. x < length m.types.items) (imported_funcs (map view_import m.imports.items)) m.funcs.items
    (subst (λ n. AllByRecursion (λ x. x < n) (imported_funcs (map view_import m.imports.items) ++ m.funcs.items)) (length-map m.types.items view_type)
    (named_below (map view_type m.types.items) (imported_funcs (map view_import m.imports.items) ++ m.funcs.items) c.funcs valid.context.funcs)) in
    record {
      types = from_mapped (λ t. ValidType (view_type t)) ValidType view_type (λ t p. p) m.types.items valid.types;
      imports = recursion_each (NamesType (length m.types.items)) (NamesType (length m.types.items)) (λ i p. p) m.imports.items (imports_name (length m.types.items) m.imports.items below.0);
      own = recursion_each (λ x. x < length m.types.items) (λ x. x < length m.types.items) (λ x p. p) m.funcs.items below.1;
      one_table = subst (λ n. n ≤ 1) (length-map m.tables.items view_table) valid.one_table;
      tables = both_mapped (λ t. IsTable (view_table t)) FitsTable (WithinBound most_entries) view_table (λ t p q. (p, q)) m.tables.items fits.tables valid.tables;
      one_memory = subst (λ n. n ≤ 1) (length-map m.memories.items view_limits) valid.one_memory;
      memories = from_mapped (λ l. WithinBound most_pages (view_limits l)) (WithinBound most_pages) view_limits (λ l p. p) m.memories.items valid.memories;
    }

around_of : (m : Module) (bs : List model.Body) (c : Context) → IsValidIn (with_bodies (view_module m) bs) c → IsAround m c (imported_globals (map view_import m.imports.items))
unfolding IsGlobal IsValidElement IsSegment IsExport
around_of m bs c valid =
    let seen = imported_globals (map view_import m.imports.items) in
    record {
      globals = from_mapped (IsGlobal seen) (ValidGlobal (map view_import m.imports.items)) view_global (λ x p. p) m.globals.items valid.globals;
      exports = from_mapped (IsExport c) (λ e. Exported c e.kind e.index) view_export (λ e p. p) m.exports.items valid.exports;
      names = valid.names;
      start = valid.start;
      elements = from_mapped (IsValidElement c) (ValidElement c) view_element (λ e p. p) m.elements.items valid.elements;
      segments = from_mapped (IsSegment c) (ValidData c) view_data (λ d p. p) m.segments.items valid.segments;
    }

-- in a context of the module
pub around_in : (m : Module) (bs : List model.Body) (c : Context) (seen : List model.GlobalType) → IsContext (view_module m) c → seen ≡ imported_globals (map view_import m.imports.items) → IsRightWith m bs → IsAround m c seen
around_in m bs c seen context same both =
    let n = with_bodies (view_module m) bs in
    let (d, (valid, fits)) = right_in n both in
    subst (λ w. IsAround m c w) (sym same) (around_of m bs c (subst (λ w. IsValidIn n w) (one_context n d c valid.context (context_with (view_module m) bs c context)) valid))

pub bodies_in : (m : Module) (c : Context) → IsContext (view_module m) c → Valid (view_module m) × Fits (view_module m) → ValidBodies c m.funcs.items (map view_body m.bodies.items) × FitBodies c m.funcs.items (map view_body m.bodies.items)
bodies_in m c context both =
    let (d, (valid, fits)) = right_in (view_module m) both in
    let same = one_context (view_module m) d c valid.context context in
    subst (λ w. ValidBodies w m.funcs.items (map view_body m.bodies.items) × FitBodies w m.funcs.items (map view_body m.bodies.items)) same (valid.bodies, fits.bodies)

-- ---- as many bodies as functions

same_count : (c : Context) (fs : List ℕ) (bs : List model.Body) → ValidBodies c fs bs → length bs ≡ length fs
same_count c [] bs e = ap length e
same_count c (x ∷ fs) bs (b, rest, e, f, at, valid, more) = ap length e ∙ ap suc (same_count c fs rest more)

pub count_of : (m : Module) (bs : List model.Body) → length bs ≡ length (map view_body m.bodies.items) → IsRightWith m bs → length m.bodies.items ≡ length m.funcs.items
count_of m bs many both =
    let (c, (valid, fits)) = right_in (with_bodies (view_module m) bs) both in
    sym (many ∙ length-map m.bodies.items view_body) ∙ same_count c m.funcs.items bs valid.bodies
