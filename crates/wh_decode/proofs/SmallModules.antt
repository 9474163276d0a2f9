-- What is derived within the limits is what is derived and small: the whole module, section by section.
use Rattle.std.proofs.Common.{◌≡◌, ℕ, ◌≤◌, List, length, Some, refl, sym, subst, inl, inr, arith}
use Rattle.std.specs.List.{AllByRecursion}
use Rattle.wh_model.specs.Format.Grammar.{Grammar}
use Rattle.wh_model.specs.Format.{u32, vec, vec_up_to, FuncType, Import, Global, Export, Element, Data, Body, Module, empty_module, most_types, most_params, most_imports, most_functions, most_globals, most_exports, most_elements, most_segments, SmallBody, SmallModule, customs_then, section_or, part, ends_with, custom, from_end, from_data, from_code, from_elements, from_start, from_exports, from_globals, from_memories, from_tables, from_functions, from_imports, from_types, preamble, functype, tabletype, limits, global, export, element, codes, segment}
use Rattle.wh_model.specs.Format.Modules.{«module»}
use Rattle.wh_model.specs.Format.Parts.{«import»}
use Rattle.wh_decode.proofs.SmallParts.{IsLimited, Free, FewAll, Few, SmallGlobal, SmallElement, SmallSegment, all_free, each_loose, each_tight, limited_plain, limited_unsigned, limited_vec_up_to, limited_count, limited_list, limited_section, limited_custom, limited_functype, limited_import, limited_tabletype, limited_limits, limited_global, limited_export, limited_element, limited_codes, limited_segment}

-- From a section on: what is spelled keeps the parts that were read before (Kept), and is within the limits where the
-- parts that come are small (Rest).
pub record PartIsLimited (Kept Rest : Module → Type 0) (g : Grammar Module) (m : Module) : Type 0 where
  pub keeps : (y : Module) (b : List ℕ) → g.spells y b → Kept y
  pub loose : (y : Module) (b : List ℕ) → Rest m → g.within y b → g.spells y b × Rest y
  pub tight : (y : Module) (b : List ℕ) → g.spells y b → Rest y → g.within y b

-- custom sections in front change nothing
customs_limited : (Kept Rest : Module → Type 0) (g : Grammar Module) (m : Module) → PartIsLimited Kept Rest g m → PartIsLimited Kept Rest (customs_then g) m
customs_limited Kept Rest g m l = record {
  keeps = λ y b w. l.keeps y w.2 w.5;
  loose = λ y b r w. let p = l.loose y w.2 r w.5 in ((w.0, w.1, w.2, w.3, (each_loose custom Free limited_custom w.0 w.1 w.4).0, p.0), p.1);
  tight = λ y b w r. (w.0, w.1, w.2, w.3, each_tight custom Free limited_custom w.0 w.1 w.4 (all_free w.0), l.tight y w.2 w.5 r);
}

module _ {A : Type 0} (id : ℕ) (g : Grammar A) (S : A → Type 0) (l : IsLimited g S) (put : A → Module) (next : Module → Grammar Module) (m : Module)
    (Kept Small Rest : Module → Type 0) (KeptNext : Module → Module → Type 0)
    (kept_put : (x : A) (y : Module) → KeptNext (put x) y → Kept y) (kept : (y : Module) → KeptNext m y → Kept y)
    (from : (x : A) (y : Module) → KeptNext (put x) y → Small y → S x) (into : (x : A) (y : Module) → KeptNext (put x) y → S x → Small y)
    (same : (y : Module) → KeptNext m y → Small m → Small y) (rest_put : (x : A) → Rest m → Rest (put x))
    (laws : (n : Module) → PartIsLimited (KeptNext n) Rest (next n) n) where
  abbrev SmallRest : Module → Type 0
  SmallRest y = Small y × Rest y

  section_limited : PartIsLimited Kept SmallRest (section_or id g (λ x. next (put x)) (next m)) m
  section_limited = record {
    keeps = λ y b w. elim w [
      | inl v ↦ kept_put v.0 y ((laws (put v.0)).keeps y v.2 v.5)
      | inr v ↦ kept y ((laws m).keeps y b v)
    ];
    loose = λ y b r w. elim w [
      | inl v ↦
          let p = (limited_section id g S l).loose v.0 v.1 v.4 in
          let q = (laws (put v.0)).loose y v.2 (rest_put v.0 r.1) v.5 in
          (inl (v.0, v.1, v.2, v.3, p.0, q.0), (into v.0 y ((laws (put v.0)).keeps y v.2 q.0) p.1, q.1))
      | inr v ↦ let q = (laws m).loose y b r.1 v in (inr q.0, (same y ((laws m).keeps y b q.0) r.0, q.1))
    ];
    tight = λ y b w r. elim w [
      | inl v ↦ inl (v.0, v.1, v.2, v.3, (limited_section id g S l).tight v.0 v.1 v.4 (from v.0 y ((laws (put v.0)).keeps y v.2 v.5) r.0), (laws (put v.0)).tight y v.2 v.5 r.1)
      | inr v ↦ inr ((laws m).tight y b v r.1)
    ];
  }

  pub part_limited : PartIsLimited Kept SmallRest (part id g put next m) m
  part_limited = customs_limited Kept SmallRest (section_or id g (λ x. next (put x)) (next m)) m section_limited

-- ---- the parts that were read before each section

abbrev KeptTypes : Module → Module → Type 0
KeptTypes m y = y.types ≡ m.types

abbrev KeptImports : Module → Module → Type 0
KeptImports m y = KeptTypes m y × (y.imports ≡ m.imports)

abbrev KeptFunctions : Module → Module → Type 0
KeptFunctions m y = KeptImports m y × (y.funcs ≡ m.funcs)

abbrev KeptGlobals : Module → Module → Type 0
KeptGlobals m y = KeptFunctions m y × (y.globals ≡ m.globals)

abbrev KeptExports : Module → Module → Type 0
KeptExports m y = KeptGlobals m y × (y.exports ≡ m.exports)

abbrev KeptElements : Module → Module → Type 0
KeptElements m y = KeptExports m y × (y.elements ≡ m.elements)

abbrev KeptCode : Module → Module → Type 0
KeptCode m y = KeptElements m y × (y.bodies ≡ m.bodies)

abbrev KeptAll : Module → Module → Type 0
KeptAll m y = KeptCode m y × (y.segments ≡ m.segments)

-- ---- the parts that come, each with its limit

abbrev Nothing : Module → Type 0
Nothing m = Unit {0}

abbrev SmallData : Module → Type 0
SmallData m = FewAll most_segments SmallSegment m.segments

abbrev SmallCodes : Module → Type 0
SmallCodes m = AllByRecursion SmallBody m.bodies

abbrev SmallElements : Module → Type 0
SmallElements m = FewAll most_elements SmallElement m.elements

abbrev FewExports : Module → Type 0
FewExports m = Few most_exports m.exports

abbrev SmallGlobals : Module → Type 0
SmallGlobals m = FewAll most_globals SmallGlobal m.globals

abbrev FewFunctions : Module → Type 0
FewFunctions m = Few most_functions m.funcs

abbrev FewImports : Module → Type 0
FewImports m = Few most_imports m.imports

abbrev SmallTypes : Module → Type 0
SmallTypes m = FewAll most_types (λ t. length t.params ≤ most_params) m.types

abbrev RestData : Module → Type 0
RestData m = SmallData m × Nothing m

abbrev RestCode : Module → Type 0
RestCode m = SmallCodes m × RestData m

abbrev RestElements : Module → Type 0
RestElements m = SmallElements m × RestCode m

abbrev RestStart : Module → Type 0
RestStart m = Nothing m × RestElements m

abbrev RestExports : Module → Type 0
RestExports m = FewExports m × RestStart m

abbrev RestGlobals : Module → Type 0
RestGlobals m = SmallGlobals m × RestExports m

abbrev RestMemories : Module → Type 0
RestMemories m = Nothing m × RestGlobals m

abbrev RestTables : Module → Type 0
RestTables m = Nothing m × RestMemories m

abbrev RestFunctions : Module → Type 0
RestFunctions m = FewFunctions m × RestTables m

abbrev RestImports : Module → Type 0
RestImports m = FewImports m × RestFunctions m

abbrev RestTypes : Module → Type 0
RestTypes m = SmallTypes m × RestImports m

end_limited : (m : Module) → PartIsLimited (KeptAll m) Nothing (from_end m) m
unfolding from_end
end_limited m = customs_limited (KeptAll m) Nothing (ends_with (length m.bodies ≡ length m.funcs) m) m (record {
  keeps = λ y b w. subst (λ (z : Module). KeptAll m z) (sym w.0) (((((((refl, refl), refl), refl), refl), refl), refl), refl);
  loose = λ y b r w. (w, tt);
  tight = λ y b w r. w;
})

data_limited : (m : Module) → PartIsLimited (KeptCode m) RestData (from_data m) m
unfolding from_data
data_limited m = part_limited 11 (vec_up_to most_segments segment) (FewAll most_segments SmallSegment) (limited_vec_up_to most_segments segment SmallSegment limited_segment) (λ ds. record m { segments = ds }) from_end m
    (KeptCode m) SmallData Nothing KeptAll (λ x y k. k.0) (λ y k. k.0)
    (λ x y k s. subst (λ (v : List Data). FewAll most_segments SmallSegment v) k.1 s) (λ x y k s. subst (λ (v : List Data). FewAll most_segments SmallSegment v) (sym k.1) s)
    (λ y k s. subst (λ (v : List Data). FewAll most_segments SmallSegment v) (sym k.1) s) (λ x r. r) end_limited

code_limited : (m : Module) → PartIsLimited (KeptElements m) RestCode (from_code m) m
unfolding from_code
code_limited m = part_limited 10 (codes (length m.funcs)) (AllByRecursion SmallBody) (limited_codes (length m.funcs)) (λ fs. record m { bodies = fs }) from_data m
    (KeptElements m) SmallCodes RestData KeptCode (λ x y k. k.0) (λ y k. k.0)
    (λ x y k s. subst (λ (v : List Body). AllByRecursion SmallBody v) k.1 s) (λ x y k s. subst (λ (v : List Body). AllByRecursion SmallBody v) (sym k.1) s)
    (λ y k s. subst (λ (v : List Body). AllByRecursion SmallBody v) (sym k.1) s) (λ x r. r) data_limited

elements_limited : (m : Module) → PartIsLimited (KeptExports m) RestElements (from_elements m) m
unfolding from_elements
elements_limited m = part_limited 9 (vec_up_to most_elements element) (FewAll most_elements SmallElement) (limited_vec_up_to most_elements element SmallElement limited_element) (λ es. record m { elements = es }) from_code m
    (KeptExports m) SmallElements RestCode KeptElements (λ x y k. k.0) (λ y k. k.0)
    (λ x y k s. subst (λ (v : List Element). FewAll most_elements SmallElement v) k.1 s) (λ x y k s. subst (λ (v : List Element). FewAll most_elements SmallElement v) (sym k.1) s)
    (λ y k s. subst (λ (v : List Element). FewAll most_elements SmallElement v) (sym k.1) s) (λ x r. r) code_limited

start_limited : (m : Module) → PartIsLimited (KeptExports m) RestStart (from_start m) m
unfolding from_start
start_limited m = part_limited 8 u32 Free (limited_unsigned 32) (λ f. record m { start = Some f }) from_elements m
    (KeptExports m) Nothing RestElements KeptExports (λ x y k. k) (λ y k. k) (λ x y k s. tt) (λ x y k s. tt) (λ y k s. tt) (λ x r. r) elements_limited

exports_limited : (m : Module) → PartIsLimited (KeptGlobals m) RestExports (from_exports m) m
unfolding from_exports
exports_limited m = part_limited 7 (vec_up_to most_exports export) (Few most_exports) (limited_count most_exports export limited_export) (λ es. record m { exports = es }) from_start m
    (KeptGlobals m) FewExports RestStart KeptExports (λ x y k. k.0) (λ y k. k.0)
    (λ x y k s. subst (λ (v : List Export). Few most_exports v) k.1 s) (λ x y k s. subst (λ (v : List Export). Few most_exports v) (sym k.1) s)
    (λ y k s. subst (λ (v : List Export). Few most_exports v) (sym k.1) s) (λ x r. r) start_limited

globals_limited : (m : Module) → PartIsLimited (KeptFunctions m) RestGlobals (from_globals m) m
unfolding from_globals
globals_limited m = part_limited 6 (vec_up_to most_globals global) (FewAll most_globals SmallGlobal) (limited_vec_up_to most_globals global SmallGlobal limited_global) (λ gs. record m { globals = gs }) from_exports m
    (KeptFunctions m) SmallGlobals RestExports KeptGlobals (λ x y k. k.0) (λ y k. k.0)
    (λ x y k s. subst (λ (v : List Global). FewAll most_globals SmallGlobal v) k.1 s) (λ x y k s. subst (λ (v : List Global). FewAll most_globals SmallGlobal v) (sym k.1) s)
    (λ y k s. subst (λ (v : List Global). FewAll most_globals SmallGlobal v) (sym k.1) s) (λ x r. r) exports_limited

memories_limited : (m : Module) → PartIsLimited (KeptFunctions m) RestMemories (from_memories m) m
unfolding from_memories
memories_limited m = part_limited 5 (vec limits) Free (limited_list limits limited_limits) (λ ls. record m { memories = ls }) from_globals m
    (KeptFunctions m) Nothing RestGlobals KeptFunctions (λ x y k. k) (λ y k. k) (λ x y k s. tt) (λ x y k s. tt) (λ y k s. tt) (λ x r. r) globals_limited

tables_limited : (m : Module) → PartIsLimited (KeptFunctions m) RestTables (from_tables m) m
unfolding from_tables
tables_limited m = part_limited 4 (vec tabletype) Free (limited_list tabletype limited_tabletype) (λ ls. record m { tables = ls }) from_memories m
    (KeptFunctions m) Nothing RestMemories KeptFunctions (λ x y k. k) (λ y k. k) (λ x y k s. tt) (λ x y k s. tt) (λ y k s. tt) (λ x r. r) memories_limited

functions_limited : (m : Module) → PartIsLimited (KeptImports m) RestFunctions (from_functions m) m
unfolding from_functions
functions_limited m = part_limited 3 (vec_up_to most_functions u32) (Few most_functions) (limited_count most_functions u32 (limited_unsigned 32)) (λ xs. record m { funcs = xs }) from_tables m
    (KeptImports m) FewFunctions RestTables KeptFunctions (λ x y k. k.0) (λ y k. k.0)
    (λ x y k s. subst (λ (v : List ℕ). Few most_functions v) k.1 s) (λ x y k s. subst (λ (v : List ℕ). Few most_functions v) (sym k.1) s)
    (λ y k s. subst (λ (v : List ℕ). Few most_functions v) (sym k.1) s) (λ x r. r) tables_limited

imports_limited : (m : Module) → PartIsLimited (KeptTypes m) RestImports (from_imports m) m
unfolding from_imports
imports_limited m = part_limited 2 (vec_up_to most_imports «import») (Few most_imports) (limited_count most_imports «import» limited_import) (λ is. record m { imports = is }) from_functions m
    (KeptTypes m) FewImports RestFunctions KeptImports (λ x y k. k.0) (λ y k. k.0)
    (λ x y k s. subst (λ (v : List Import). Few most_imports v) k.1 s) (λ x y k s. subst (λ (v : List Import). Few most_imports v) (sym k.1) s)
    (λ y k s. subst (λ (v : List Import). Few most_imports v) (sym k.1) s) (λ x r. r) functions_limited

types_limited : (m : Module) → PartIsLimited Nothing RestTypes (from_types m) m
unfolding from_types
types_limited m = part_limited 1 (vec_up_to most_types functype) (FewAll most_types (λ t. length t.params ≤ most_params)) (limited_vec_up_to most_types functype (λ t. length t.params ≤ most_params) limited_functype) (λ ts. record m { types = ts }) from_imports m
    Nothing SmallTypes RestImports KeptTypes (λ x y k. tt) (λ y k. tt)
    (λ x y k s. subst (λ (v : List FuncType). FewAll most_types (λ t. length t.params ≤ most_params) v) k s) (λ x y k s. subst (λ (v : List FuncType). FewAll most_types (λ t. length t.params ≤ most_params) v) (sym k) s)
    (λ y k s. subst (λ (v : List FuncType). FewAll most_types (λ t. length t.params ≤ most_params) v) (sym k) s) (λ x r. r) imports_limited

-- ---- the whole

module _ (m : Module) where
  is_small : RestTypes m → SmallModule m
  is_small r =
      let funcs = r.1.1 in
      let globals = funcs.1.1.1 in
      let elements = globals.1.1.1 in
      record {
        types = r.0.0;
        params = r.0.1;
        imports = r.1.0;
        funcs = funcs.0;
        globals = globals.0.0;
        inits = globals.0.1;
        exports = globals.1.0;
        elements = elements.0.0;
        offsets = elements.0.1;
        bodies = elements.1.0;
        segments = elements.1.1.0.0;
        places = elements.1.1.0.1;
      }

  small_is : SmallModule m → RestTypes m
  small_is s = ((s.types, s.params), (s.imports, (s.funcs, (tt, (tt, ((s.globals, s.inits), (s.exports, (tt, ((s.elements, s.offsets), (s.bodies, ((s.segments, s.places), tt)))))))))))

nothing_small : RestTypes empty_module
nothing_small = ((omega arith, tt), (omega arith, (omega arith, (tt, (tt, ((omega arith, tt), (omega arith, (tt, ((omega arith, tt), (tt, ((omega arith, tt), tt)))))))))))

types_small : IsLimited (from_types empty_module) SmallModule
types_small = record {
  loose = λ y b w. let p = (types_limited empty_module).loose y b nothing_small w in (p.0, is_small y p.1);
  tight = λ y b w s. (types_limited empty_module).tight y b w (small_is y s);
}

limited_preamble : IsLimited preamble Free
limited_preamble = record { loose = λ x b w. (w, tt); tight = λ x b w s. w }

pub limited_module : IsLimited «module» SmallModule
unfolding «module»
limited_module = limited_plain preamble (λ _. from_types empty_module) SmallModule limited_preamble (λ _. types_small)
