-- From words to what instantiation says of a linked module.
use Rattle.std.proofs.Common.{◌≡◌, ◌∙◌, ◌*◌, ◌^◌, ◌<◌, List, ◌++◌, length, map, replicate, None, Result, Ok, Err, IfOk, IfErr, refl, sym, ap, subst, arith, length-append, All}
use Rattle.std.specs.List.{AllByRecursion}
use Rattle.std.proofs.lemmas.List.{map-append, length-map}
use Rattle.wh_model.specs.declared.host.HostFunc.{HostFunc}
use Rattle.wh_model.specs.declared.ValType.TheVariants.{I32}
use Rattle.wh_model.specs.Validity.{Context, imported_globals, imported_funcs, IsContext}
use Rattle.wh_model.specs.Execution.Store.{Instance}
use Rattle.wh_model.specs.Execution.{Value, type_of, host, Parameters, Defined, Placed, Piece, Within, filled, fragments, last_size, Prepares, needs_more, out_of_bounds, in_bounds}
use Rattle.wh_model.specs.declared.host.HostGlobal.{HostGlobal}
use Rattle.wh_model.specs.Linking.{value_of}
use Rattle.wh_control.specs.Represents.{bits_of, InRange}
use Rattle.wh_syntax.specs.declared.module.Module.{Module}
use Rattle.wh_syntax.specs.View.{view_module}
use Rattle.wh_bodies.specs.SideTables.{Table}
use Rattle.wh_validate.proofs.Lists.{recursion_each}
use Rattle.wh_validate.specs.CheckedBodies.{IsChecked}
use Rattle.wh_imports.specs.Resolving.{IsResolved}
use Rattle.wh_initial.specs.declared.outcome.Instantiated.{Instantiated}
use Rattle.wh_initial.specs.declared.error.InstantiateError.{InstantiateError}
use Rattle.wh_initial.specs.declared.error.InstantiateError.TheVariants.{MemoryMin, SegmentBounds, Memory}
use Rattle.wh_initial.specs.ConstantWords.{word_in, IsSeen, IsOffset, element_piece, data_piece}
use Rattle.wh_initial.specs.InWords.{AllFit, words_of_globals, first_entries, first_pages, IsPrepared, BeginsInWords, RefusesInWords}
use Rattle.wh_initial.specs.Begins.{first_store, RepresentsFirstStore, Instantiates, RefusesInstance}
use Rattle.wh_initial.proofs.ValueLemmas.{AreTyped, HasValue, imported_types, hosts_in_range, host_words, own_value, AreValued, are_valued, own_begun, own_in_range, own_types, own_words}
use Rattle.wh_initial.proofs.FuncLemmas.{AreDefined, are_defined, imported_count, named_count, NamesBelow, all_joined, filled_below, none_below, below_at}
use Rattle.wh_initial.proofs.SegmentLemmas.{all_offsets, elements_valued, segments_valued, elements_placed, segments_placed, all_within, within_all, elements_name, places_mapped, bytes_mapped}

module _ (m : Module) (imported : List HostGlobal) (hosts : List HostFunc) (tables : List Table) (p : Parameters) (sound : IsChecked (view_module m) tables) (resolved : IsResolved (view_module m) hosts imported) (base : p.base < 2 ^ 32) (salt : p.salt < 2 ^ 64) where
  -- ---- globals

  abbrev host_values : List Value
  host_values = map (value_of p) imported

  abbrev own_values : List Value
  own_values = map (own_value (map bits_of host_values)) m.globals.items

  abbrev values : List Value
  values = host_values ++ own_values

  typed_hosts : AreTyped (map (λ g. g.value) (imported_globals (view_module m).imports)) host_values
  typed_hosts = record { types_are = imported_types (view_module m).types p (view_module m).imports (map (λ h. host h) hosts) host_values (resolved p); in_range = hosts_in_range p imported base salt }

  valued : AreValued host_values m.globals.items
  valued = are_valued (imported_globals (view_module m).imports) host_values m.globals.items typed_hosts sound.valid.globals

  typed : (c : Context) → IsContext (view_module m) c → AreTyped (map (λ g. g.value) c.globals) values
  typed c context = record {
    types_are = map-append type_of host_values own_values
        ∙ ap (λ w. w ++ map type_of own_values) typed_hosts.types_are
        ∙ ap (λ w. map (λ g. g.value) (imported_globals (view_module m).imports) ++ w) (own_types (map bits_of host_values) m.globals.items)
        ∙ sym (map-append (λ g. g.value) (imported_globals (view_module m).imports) (map (λ g. g.type) (view_module m).globals))
        ∙ sym (ap (map (λ g. g.value)) context.globals);
    in_range = all_joined InRange host_values own_values typed_hosts.in_range (own_in_range host_values m.globals.items valued);
  }

  words : map bits_of values ≡ words_of_globals m imported p
  unfolding words_of_globals
  words =
      map-append bits_of host_values own_values
      ∙ ap (λ w. map bits_of host_values ++ w) (own_words (map bits_of host_values) m.globals.items)
      ∙ ap (λ ws. ws ++ map (λ g. word_in ws g.init) m.globals.items) (host_words p imported)

  -- ---- segments

  elements_have : AllByRecursion (λ e. HasValue values e.offset I32) m.elements.items
  elements_have = elements_valued sound.context values m.elements.items (typed sound.context sound.valid.context) sound.valid.elements

  segments_have : AllByRecursion (λ s. HasValue values s.offset I32) m.segments.items
  segments_have = segments_valued sound.context values m.segments.items (typed sound.context sound.valid.context) sound.valid.segments

  pub prepared : IsPrepared m imported p
  prepared = record {
    globals = recursion_each (λ g. IsSeen (length imported) g.init) (λ g. HasValue host_values g.init g.global_type.value) (λ g h. subst (λ n. IsSeen n g.init) (length-map imported (value_of p)) h.seen) m.globals.items valued;
    elements = subst (λ ws. All (λ e. IsOffset ws e.offset) m.elements.items) words (all_offsets (λ e. e.offset) values m.elements.items elements_have);
    segments = subst (λ ws. All (λ s. IsOffset ws s.offset) m.segments.items) words (all_offsets (λ s. s.offset) values m.segments.items segments_have);
  }

  abbrev elements : List Piece
  elements = map (element_piece (words_of_globals m imported p)) m.elements.items

  abbrev segments : List Piece
  segments = map (data_piece (words_of_globals m imported p)) m.segments.items

  -- ---- the instance

  defined : AreDefined sound.context.types (view_module m).funcs (view_module m).bodies
  defined = are_defined sound.context (view_module m).funcs (view_module m).bodies tables sound.checked

  abbrev inst : Instance
  inst = record { types = (view_module m).types; funcs = map (λ h. host h) hosts ++ defined.owns; page_limit = last_size (view_module m).memories p.page_limit }

  prepares : Prepares (view_module m) p inst values elements segments
  prepares = record {
    types = refl;
    page_limit = refl;
    hosts = map (λ h. host h) hosts;
    owns = defined.owns;
    imported = host_values;
    begun = own_values;
    imports = resolved p;
    defines = subst (λ t. Defined t (view_module m).funcs (view_module m).bodies defined.owns) sound.valid.context.types defined.defined;
    funcs = refl;
    begins = own_begun host_values m.globals.items valued;
    globals_are = refl;
    elements_at = subst (λ ws. Placed values (map (λ e. (e.offset, e.init)) (view_module m).elements) (map (element_piece ws) m.elements.items)) words (elements_placed values m.elements.items elements_have);
    segments_at = subst (λ ws. Placed values (map (λ d. (d.offset, d.init)) (view_module m).segments) (map (data_piece ws) m.segments.items)) words (segments_placed values m.segments.items segments_have);
  }

  -- all functions are counted
  counted : length sound.context.funcs ≡ length inst.funcs
  counted =
      let named = named_count (view_module m).types (imported_funcs (view_module m).imports ++ (view_module m).funcs) sound.context.funcs sound.valid.context.funcs in
      let first = imported_count (view_module m).types p (view_module m).imports (map (λ h. host h) hosts) host_values (resolved p) in
      let both = length-append (imported_funcs (view_module m).imports) (view_module m).funcs in
      let all = length-append (map (λ h. host h) hosts) defined.owns in
      omega (arith, named, first, both, all, defined.count)

  named : AllByRecursion (NamesBelow (length inst.funcs)) (filled (replicate (first_entries m) None) elements)
  named = filled_below (length inst.funcs) (replicate (first_entries m) None) elements (none_below (length inst.funcs) (first_entries m)) (elements_name sound.context (length inst.funcs) (words_of_globals m imported p) m.elements.items counted sound.valid.elements)

  -- ---- what is handed out

  elements_in : AllFit m (words_of_globals m imported p) → Within (first_entries m) elements
  unfolding AllFit
  elements_in fit = all_within (element_piece (words_of_globals m imported p)) (first_entries m) m.elements.items fit.0

  segments_in : AllFit m (words_of_globals m imported p) → Within (first_pages m * 65536) segments
  unfolding AllFit
  segments_in fit = all_within (data_piece (words_of_globals m imported p)) (first_pages m * 65536) m.segments.items fit.1

  all_in : Within (first_entries m) elements → Within (first_pages m * 65536) segments → AllFit m (words_of_globals m imported p)
  unfolding AllFit
  all_in es ss = (within_all (element_piece (words_of_globals m imported p)) (first_entries m) m.elements.items es, within_all (data_piece (words_of_globals m imported p)) (first_pages m * 65536) m.segments.items ss)

  module _ (i : Instantiated) (b : BeginsInWords m imported p i) where
    represents : RepresentsFirstStore (view_module m) inst (first_store (view_module m) p values elements) i
    represents c context = record {
      bytes = ap (λ n. replicate (n * 65536) 0) (sym b.pages);
      limit = b.page_limit;
      globals = words ∙ sym b.globals;
      global_types = (typed c context).types_are;
      globals_fit = (typed c context).in_range;
      table = sym b.table;
      named = λ k x e. below_at (length inst.funcs) (filled (replicate (first_entries m) None) elements) k x named e;
      inputs = sym b.inputs;
      output = sym b.output;
      small = let none = ap length b.output in omega (arith, none);
      room = b.room;
    }

    begins_with : Instantiates (view_module m) p i
    begins_with = record {
      inst = inst;
      globals = values;
      elements = elements;
      segments = segments;
      few_pages = b.few_pages;
      prepares = prepares;
      elements_within = elements_in b.all_fit;
      segments_within = segments_in b.all_fit;
      is_initial = in_bounds b.few_pages prepares (elements_in b.all_fit) (segments_in b.all_fit);
      pages = b.pages;
      page_limit = b.page_limit;
      words = words ∙ sym b.globals;
      in_range = (typed sound.context sound.valid.context).in_range;
      table = sym b.table;
      no_output = b.output;
      room = b.room;
      places = places_mapped (words_of_globals m imported p) m.segments.items ∙ sym b.places;
      bytes = bytes_mapped (words_of_globals m imported p) m.segments.items;
      represents = represents;
    }

  refuses : (e : InstantiateError) → RefusesInWords m imported p e → RefusesInstance (view_module m) p e
  refuses MemoryMin more = needs_more more
  refuses SegmentBounds out = out_of_bounds out.0 prepares (λ both. out.1 (all_in both.0 both.1))
  refuses Memory (few, fit) =
      let is = in_bounds few prepares (elements_in fit) (segments_in fit) in
      (inst, first_store (view_module m) p values elements, fragments segments, is)

  pub ok_turned : (r : Result Instantiated InstantiateError) → IfOk r (BeginsInWords m imported p) → IfOk r (Instantiates (view_module m) p)
  ok_turned (Ok i) b = begins_with i b
  ok_turned (Err e) b = tt

  pub err_turned : (r : Result Instantiated InstantiateError) → IfErr r (RefusesInWords m imported p) → IfErr r (RefusesInstance (view_module m) p)
  err_turned (Ok i) h = tt
  err_turned (Err e) h = refuses e h
