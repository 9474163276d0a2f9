-- From the parts of a module to the whole.
use Rattle.std.proofs.Common.{◌≡◌, ℕ, zero, suc, ◌<◌, ◌≤◌, List, [], ◌∷◌, ◌++◌, length, map, take, Option, None, Some, slice_get, Result, Ok, Err, IfOk, IfErr, ◌≢◌, refl, sym, ap, subst, arith, ◌∙◌, All}
use Rattle.std.specs.List.{AllByRecursion}
use Rattle.std.proofs.lemmas.List.{map-append, length-map}
use Rattle.std.proofs.Math.Seq.{take-append_seam}
use Rattle.wh_model.specs.Format.Syntax as model
use Rattle.wh_model.specs.Validity.Valid.{Valid}
use Rattle.wh_model.specs.Validity.{func_first, ValidType, WithinBound, most_entries, most_pages, imported_funcs, imported_globals, Name, IsContext, ValidGlobal, ValidElement, ValidData, Exported, IsValidIn, ConstantOf, ValidBodies, FitsTable, FitsIn, Fits, FitBodies}
use Rattle.wh_syntax.specs.declared.module.Module.{Module}
use Rattle.wh_syntax.specs.declared.module.Import.{Import}
use Rattle.wh_syntax.specs.declared.module.ImportDesc.{ImportDesc}
use Rattle.wh_syntax.specs.declared.module.ImportDesc.TheVariants.{Func, Global as GlobalOf}
use Rattle.wh_syntax.specs.declared.module.Global.{Global}
use Rattle.wh_syntax.specs.View.{view_module, view_import, view_desc, view_type, view_table, view_limits, view_global, view_global_type, view_element, view_data, view_export, view_body}
use Rattle.wh_bodies.specs.declared.context.Context.{Context as Given}
use Rattle.wh_bodies.specs.SideTables.{Table}
use Rattle.wh_syntax.specs.declared.module.Body.{Body}
use Rattle.wh_bodies.specs.View.{view_context, type_at}
use Rattle.wh_validate.specs.declared.whole.Gathered.{Gathered}
use Rattle.wh_validate.specs.Gathering.{HasValidOutline, IsGathered, IsAround}
use Rattle.wh_validate.specs.Sizing.{IsTable}
use Rattle.wh_validate.specs.Naming.{NamesTypeOf, NamesType}
use Rattle.wh_validate.specs.Parts.{IsGlobal, IsExport, IsValidElement, IsSegment}
use Rattle.wh_validate.specs.CheckedBodies.{Checked, IsChecked}
use Rattle.wh_validate.proofs.Lists.{each_recursion}
use Rattle.wh_validate.specs.declared.error.ValidError.{ValidError}
use Rattle.wh_model.specs.declared.faults.ValidKind.TheVariants.{Memory}
use Rattle.wh_model.specs.declared.faults.ValidKind.{ValidKind}
use Rattle.wh_validate.specs.Blaming.{Blames, HasRightBodies, BlamesRightly}
use Rattle.wh_validate.proofs.CompleteLemmas.{IsRightWith, around_in, bodies_in}
use Rattle.wh_validate.proofs.BodyLemmas.{valid_checked, fit_checked}

-- ---- lists

each_mapped : {X Y : Type 0} (P : X → Type 0) (Q : Y → Type 0) (f : X → Y) → ((x : X) → P x → Q (f x)) → (xs : List X) → All P xs → AllByRecursion Q (map f xs)
each_mapped P Q f turn [] all = tt
each_mapped P Q f turn (x ∷ xs) all = (turn x (all 0 x (omega arith)), each_mapped P Q f turn xs (λ k d lt. all (suc k) d (omega (arith, lt))))

few_mapped : {X Y : Type 0} (f : X → Y) (xs : List X) (n : ℕ) → length xs ≤ n → length (map f xs) ≤ n
few_mapped f xs n h = let e = length-map xs f in omega (arith, e, h)

all_joined : (P : ℕ → Type 0) (xs ys : List ℕ) → AllByRecursion P xs → AllByRecursion P ys → AllByRecursion P (xs ++ ys)
all_joined P [] ys a b = b
all_joined P (x ∷ xs) ys a b = (a.0, all_joined P xs ys a.1 b)

-- ---- indices

imports_below : (n : ℕ) (is : List Import) → AllByRecursion (NamesType n) is → AllByRecursion (λ x. x < n) (imported_funcs (map view_import is))
imports_below n [] a = tt
imports_below n (i ∷ is) a = first i.desc a.0 (imports_below n is a.1)
  where
    first : (d : ImportDesc) → NamesTypeOf n d → AllByRecursion (λ x. x < n) (imported_funcs (map view_import is)) → AllByRecursion (λ x. x < n) (func_first (view_desc d) (imported_funcs (map view_import is)))
    first (Func x) h rest = (h, rest)
    first (GlobalOf t) h rest = rest

same_list : {X : Type 0} (xs : List X) (P : X → Type 0) → All P xs → AllByRecursion P xs
same_list xs P all = each_recursion P P (λ x p. p) xs all

pub all_named : (m : Module) (g : Gathered) (n : ℕ) (funcs : List ℕ) → n ≡ length m.types.items → funcs ≡ g.indices.funcs.items → HasValidOutline m → IsGathered m g → AllByRecursion (λ x. x < n) funcs
all_named m g n funcs en ef outline gathered =
    let below = all_joined (λ x. x < length m.types.items) (imported_funcs (map view_import m.imports.items)) m.funcs.items (imports_below (length m.types.items) m.imports.items (same_list m.imports.items (NamesType (length m.types.items)) outline.imports)) (same_list m.funcs.items (λ x. x < length m.types.items) outline.own) in
    subst (λ w. AllByRecursion (λ x. x < w) funcs) (sym en) (subst (λ w. AllByRecursion (λ x. x < length m.types.items) w) (sym (ef ∙ gathered.funcs)) below)

named_types : (types : List model.FuncType) (xs : List ℕ) → AllByRecursion (λ x. x < length types) xs → Name types xs (map (type_at types) xs)
named_types types [] a = refl
named_types types (x ∷ xs) a = (type_at types x, map (type_at types) xs, refl, type_there types x a.0, named_types types xs a.1)
  where
    type_there : (types : List model.FuncType) (x : ℕ) → x < length types → slice_get types x ≡ Some (type_at types x)
    type_there [] x lt = absurd (omega (arith, lt))
    type_there (t ∷ ts) zero lt = refl
    type_there (t ∷ ts) (suc x) lt = type_there ts x (omega (arith, lt))

global_types : (gs : List Global) → map view_global_type (map (λ x. x.global_type) gs) ≡ map (λ g. g.type) (map view_global gs)
global_types [] = refl
global_types (g ∷ gs) = ap (λ w. view_global_type g.global_type ∷ w) (global_types gs)

-- ---- parts in a context

module _ (m : Module) (g : Gathered) (c : Given) (outline : HasValidOutline m) (gathered : IsGathered m g) (types : c.types.now ≡ m.types.items) (funcs : c.funcs.now ≡ g.indices.funcs.items) (tables : c.tables.now ≡ m.tables.items)
    (memories : c.memories.now ≡ m.memories.items) (globals : c.globals.now ≡ g.indices.globals.items) where
  pub is_context : IsContext (view_module m) (view_context c)
  is_context =
      let own = all_named m g (length (map view_type c.types.now)) c.funcs.now (length-map c.types.now view_type ∙ ap length types) funcs outline gathered in
      let named = named_types (map view_type c.types.now) c.funcs.now own in
      let (imported, brought, count, all) = gathered.globals in
      record {
        types = ap (map view_type) types;
        funcs = subst (λ w. Name w (imported_funcs (map view_import m.imports.items) ++ m.funcs.items) (view_context c).funcs) (ap (map view_type) types)
            (subst (λ w. Name (map view_type c.types.now) w (view_context c).funcs) (funcs ∙ gathered.funcs) named);
        tables = ap (map view_table) tables;
        memories = ap (map view_limits) memories;
        globals = ap (map view_global_type) (globals ∙ all) ∙ map-append view_global_type imported (map (λ x. x.global_type) m.globals.items)
            ∙ ap (λ w. w ++ map view_global_type (map (λ x. x.global_type) m.globals.items)) brought ∙ ap (λ w. imported_globals (map view_import m.imports.items) ++ w) (global_types m.globals.items);
        no_locals = (refl, refl, refl);
      }

  pub seen_imported : map view_global_type (take g.imported_globals c.globals.now) ≡ imported_globals (map view_import m.imports.items)
  seen_imported =
      let (imported, brought, count, all) = gathered.globals in
      ap (λ n. map view_global_type (take n c.globals.now)) (sym count) ∙ ap (λ w. map view_global_type (take (length imported) w)) (globals ∙ all)
      ∙ ap (map view_global_type) (take-append_seam imported (map (λ x. x.global_type) m.globals.items)) ∙ brought

  is_valid : (ts : List Table) → IsAround m (view_context c) (map view_global_type (take g.imported_globals c.globals.now)) → Checked (view_context c) m.funcs.items (map view_body m.bodies.items) ts → IsValidIn (view_module m) (view_context c)
  unfolding IsGlobal IsValidElement IsSegment IsExport
  is_valid ts around checked = record {
    context = is_context;
    types = each_mapped (λ t. ValidType (view_type t)) ValidType view_type (λ t p. p) m.types.items outline.types;
    bodies = valid_checked (view_context c) m.funcs.items (map view_body m.bodies.items) ts checked;
    tables = each_mapped (λ t. IsTable (view_table t)) (WithinBound most_entries) view_table (λ t p. p.1) m.tables.items outline.tables;
    one_table = few_mapped view_table m.tables.items 1 outline.one_table;
    memories = each_mapped (λ l. WithinBound most_pages (view_limits l)) (WithinBound most_pages) view_limits (λ l p. p) m.memories.items outline.memories;
    one_memory = few_mapped view_limits m.memories.items 1 outline.one_memory;
    globals = each_mapped (IsGlobal (map view_global_type (take g.imported_globals c.globals.now))) (ValidGlobal (map view_import m.imports.items)) view_global (λ x p. subst (λ w. ConstantOf w x.init x.global_type.value) seen_imported p) m.globals.items around.globals;
    elements = each_mapped (IsValidElement (view_context c)) (ValidElement (view_context c)) view_element (λ e p. p) m.elements.items around.elements;
    segments = each_mapped (IsSegment (view_context c)) (ValidData (view_context c)) view_data (λ d p. p) m.segments.items around.segments;
    start = around.start;
    exports = each_mapped (IsExport (view_context c)) (λ e. Exported (view_context c) e.kind e.index) view_export (λ e p. p) m.exports.items around.exports;
    names = around.names;
  }

  does_fit : (ts : List Table) → Checked (view_context c) m.funcs.items (map view_body m.bodies.items) ts → FitsIn (view_module m) (view_context c)
  does_fit ts checked = record {
    context = is_context;
    types = each_mapped (λ t. ValidType (view_type t)) ValidType view_type (λ t p. p) m.types.items outline.types;
    bodies = fit_checked (view_context c) m.funcs.items (map view_body m.bodies.items) ts checked;
    tables = each_mapped (λ t. IsTable (view_table t)) FitsTable view_table (λ t p. p.0) m.tables.items outline.tables;
    one_table = few_mapped view_table m.tables.items 1 outline.one_table;
    memories = each_mapped (λ l. WithinBound most_pages (view_limits l)) (WithinBound most_pages) view_limits (λ l p. p) m.memories.items outline.memories;
    one_memory = few_mapped view_limits m.memories.items 1 outline.one_memory;
  }

  pub is_sound : (ts : List Table) → IsAround m (view_context c) (map view_global_type (take g.imported_globals c.globals.now)) → Checked (view_context c) m.funcs.items (map view_body m.bodies.items) ts → IsChecked (view_module m) ts
  is_sound ts around checked = record { context = view_context c; valid = is_valid ts around checked; fits = does_fit ts checked; checked = checked }

-- the same of bodies that were checked, if they were; and if they were refused, the module isn't valid, or doesn't fit
module _ {V : Type 0} (tables_of : V → List Table) (m : Module) (g : Gathered) (c : Given) (fs : List ℕ) (bs : List Body) (outline : HasValidOutline m) (gathered : IsGathered m g) (types : c.types.now ≡ m.types.items) (funcs : c.funcs.now ≡ g.indices.funcs.items)
    (tables : c.tables.now ≡ m.tables.items) (memories : c.memories.now ≡ m.memories.items) (globals : c.globals.now ≡ g.indices.globals.items) (ef : fs ≡ m.funcs.items) (eb : bs ≡ m.bodies.items) where
  pub ok_turned : (r : Result V ValidError) → IsAround m (view_context c) (map view_global_type (take g.imported_globals c.globals.now)) → IfOk r (λ v. Checked (view_context c) fs (map view_body bs) (tables_of v)) → IfOk r (λ v. IsChecked (view_module m) (tables_of v))
  ok_turned (Ok v) around checked =
      is_sound m g c outline gathered types funcs tables memories globals (tables_of v) around
      (subst (λ w. Checked (view_context c) m.funcs.items (map view_body w) (tables_of v)) eb (subst (λ w. Checked (view_context c) w (map view_body bs) (tables_of v)) ef checked))
  ok_turned (Err e) around checked = tt

  pub err_turned : (r : Result V ValidError) → IfErr r (λ e. e.kind ≢ Memory → ¬ (ValidBodies (view_context c) fs (map view_body bs) × FitBodies (view_context c) fs (map view_body bs)))
      → IfErr r (λ e. e.kind ≢ Memory → ¬ (Valid (view_module m) × Fits (view_module m)))
  err_turned (Ok v) refused = tt
  err_turned (Err e) refused = λ other both.
      refused other (subst (λ w. ValidBodies (view_context c) fs (map view_body w) × FitBodies (view_context c) fs (map view_body w)) (sym eb)
      (subst (λ w. ValidBodies (view_context c) w (map view_body m.bodies.items) × FitBodies (view_context c) w (map view_body m.bodies.items)) (sym ef)
      (bodies_in m (view_context c) (is_context m g c outline gathered types funcs tables memories globals) both)))

  pub blame_turned : (r : Result V ValidError) → IfErr r (λ e. e.kind ≢ Memory → Blames (view_context c) g.imported_funcs fs (map view_body bs) e.func e.instr e.kind) → IfErr r (λ e. e.kind ≢ Memory → BlamesRightly (view_module m) e.func e.instr e.kind)
  blame_turned (Ok v) blames = tt
  blame_turned (Err e) blames = λ other. named e.func (blames other)
    where
      named : (func : Option ℕ) → Blames (view_context c) g.imported_funcs fs (map view_body bs) func e.instr e.kind → BlamesRightly (view_module m) func e.instr e.kind
      named None h = absurd h
      named (Some func) h = (
        view_context c,
        is_context m g c outline gathered types funcs tables memories globals,
        subst (λ n. Blames (view_context c) n m.funcs.items (map view_body m.bodies.items) (Some func) e.instr e.kind) gathered.count
            (subst (λ w. Blames (view_context c) g.imported_funcs m.funcs.items (map view_body w) (Some func) e.instr e.kind) eb (subst (λ w. Blames (view_context c) g.imported_funcs w (map view_body bs) (Some func) e.instr e.kind) ef h)),
      )

-- a fault that names no function
pub no_function : (m : model.Module) (kind : ValidKind) (e : ValidError) → e ≡ record { func = None; instr = 0; kind = kind } → ¬ (HasRightBodies m) → BlamesRightly m e.func e.instr e.kind
no_function m kind e is none = subst (λ (w : ValidError). BlamesRightly m w.func w.instr w.kind) (sym is) none

-- what is valid and fits, with these bodies in place of its own, is so around its bodies
pub around_given : (m : Module) (g : Gathered) (c : Given) → HasValidOutline m → IsGathered m g → c.types.now ≡ m.types.items → c.funcs.now ≡ g.indices.funcs.items → c.tables.now ≡ m.tables.items → c.memories.now ≡ m.memories.items → c.globals.now ≡ g.indices.globals.items
    → (bs : List model.Body) → IsRightWith m bs → IsAround m (view_context c) (map view_global_type (take g.imported_globals c.globals.now))
around_given m g c outline gathered types funcs tables memories globals bs both =
    around_in m bs (view_context c) (map view_global_type (take g.imported_globals c.globals.now)) (is_context m g c outline gathered types funcs tables memories globals) (seen_imported m g c outline gathered types funcs tables memories globals) both
