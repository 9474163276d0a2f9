-- A valid module begins with an instance and a store of its types.
use Rattle.std.proofs.Common.{◌≡◌, ℕ, suc, ◌+◌, ◌*◌, ◌%◌, ◌==◌, ◌≤◌, inl, inr, Bool, true, false, List, [], ◌∷◌, ◌++◌, length, map, replicate, Option, Some, None, slice_get, refl, sym, ap, subst, arith, ◌∙◌, if◌then◌else◌, length-append, length-take, length-drop, rules}
use Rattle.std.proofs.lemmas.List.{length-replicate, map-append}
use Rattle.std.proofs.lemmas.Option.{slice_get-map}
use Rattle.std.specs.List.{AllByRecursion}
use Rattle.std.specs.Prelude.{option_map, unwrap_or, min}
use Rattle.wh_model.specs.declared.ValType.{ValType}
use Rattle.wh_model.specs.declared.ValType.TheVariants.{I32, I64}
use Rattle.wh_model.specs.Format.Syntax.{Limits}
use Rattle.wh_model.specs.Format.{Code, FuncType, GlobalType, Import, Global, Element, Data, Body, Module}
use Rattle.wh_model.specs.Validity.{Context, WithinBound, func_first, global_first, imported_funcs, imported_globals, Name, ConstantOf, ValidBodies, ValidGlobal, ValidElement, HasFunc, most_pages, IsValidIn}
use Rattle.wh_model.specs.Execution.Store.{Instance, Store}
use Rattle.wh_model.specs.Execution.{Value, FuncInst, own, host, signature, written, Parameters, AreGiven, Imported, Defined, Evaluates, Begun, Piece, Placed, Within, filled, onto_piece, cut_up, fragments, first_size, last_size, begins, IsInitial, in_bounds}
use Rattle.wh_model.specs.Soundness.{IsOfType, AreOfTypes, IsByte, FuncInstType, InstanceType, EntryType, StoreType, PieceType, HasBytes}
use Rattle.wh_model.specs.Laws.{BeginsTyped}
use Rattle.wh_model.proofs.Fragments.{fragments_within}
use Rattle.wh_model.proofs.Numbers.{unsigned-lt}
use Rattle.wh_model.proofs.StoreTypingLemmas.{types_append, types_get}
use Rattle.wh_model.proofs.MemoryTypingLemmas.{each_append, each_replicate, each_written}

-- ---- functions

named_owns : (types : List FuncType) (xs : List ℕ) (fs : List FuncType) (bs : List Body) (owns : List FuncInst)
    → Name types xs fs → Defined types xs bs owns → map signature owns ≡ fs
named_owns types [] fs bs owns n d = ap (map signature) d.1 ∙ sym n
named_owns types (x ∷ xs) fs bs owns (f, rest, is, at, more)
    (type, b, bodies, others, type_at, bodies_are, owns_are, defined) =
    let same : type ≡ f = let there = sym type_at ∙ at in cc there in
    ap (map signature) owns_are ∙ ap (λ t. t ∷ map signature others) same
    ∙ ap (λ ts. f ∷ ts) (named_owns types xs rest bodies others more defined) ∙ sym is

named_all : (types : List FuncType) (p : Parameters) (is : List Import) (xs : List ℕ) (fs : List FuncType)
    (bs : List Body) (hosts owns : List FuncInst) (vs : List Value)
    → Name types (imported_funcs is ++ xs) fs → Imported types p is hosts vs → Defined types xs bs owns
    → map signature (hosts ++ owns) ≡ fs
named_all types p [] xs fs bs hosts owns vs n i d = search (rules, named_owns)
named_all types p (i ∷ is) xs fs bs hosts owns vs n (inl (h, rest, imports, hosts_are, more)) d =
    let found : Name types (imports.2 ∷ imported_funcs is ++ xs) fs = search rules in
    let same : signature (host h) ≡ found.0 = let there = sym imports.4 ∙ found.3 in cc there in
    ap (λ hs. map signature (hs ++ owns)) hosts_are ∙ ap (λ t. t ∷ map signature (rest ++ owns)) same
    ∙ ap (λ ts. found.0 ∷ ts) (named_all types p is xs found.1 bs rest owns vs found.4 more d) ∙ sym found.2
named_all types p (i ∷ is) xs fs bs hosts owns vs n (inr (v, rest, (from, inl imports), values_are, more)) d =
    named_all types p is xs fs bs hosts owns rest
    (subst (λ w. Name types (func_first w (imported_funcs is) ++ xs) fs) imports.1 n) more d
named_all types p (i ∷ is) xs fs bs hosts owns vs n (inr (v, rest, (from, inr imports), values_are, more)) d =
    named_all types p is xs fs bs hosts owns rest
    (subst (λ w. Name types (func_first w (imported_funcs is) ++ xs) fs) imports.1 n) more d

hosts_typed : (c : Context) (types : List FuncType) (p : Parameters) (is : List Import) (hosts : List FuncInst)
    (vs : List Value) → Imported types p is hosts vs → AllByRecursion (FuncInstType c) hosts
hosts_typed c types p [] hosts vs i = subst (AllByRecursion (FuncInstType c)) (sym i.0) tt
hosts_typed c types p (i ∷ is) hosts vs (inl (h, rest, imports, hosts_are, more)) =
    subst (AllByRecursion (FuncInstType c)) (sym hosts_are) (tt, hosts_typed c types p is rest vs more)
hosts_typed c types p (i ∷ is) hosts vs (inr (v, rest, imports, values_are, more)) =
    hosts_typed c types p is hosts rest more

owns_typed : (c : Context) (types : List FuncType) (xs : List ℕ) (bs : List Body) (owns : List FuncInst)
    → c.types ≡ types → ValidBodies c xs bs → Defined types xs bs owns → AllByRecursion (FuncInstType c) owns
owns_typed c types [] bs owns e v d = subst (AllByRecursion (FuncInstType c)) (sym d.1) tt
owns_typed c types (x ∷ xs) bs owns e (b, rest, is, f, at, body, more)
    (type, b2, bodies, others, type_at, bodies_are, owns_are, defined) =
    let same : f ≡ type = let there = sym at ∙ ap (λ ts. slice_get ts x) e ∙ type_at in cc there in
    let is_body : b ≡ b2 = let there = sym is ∙ bodies_are in cc there in
    let is_rest : rest ≡ bodies = let there = sym is ∙ bodies_are in cc there in
    subst (AllByRecursion (FuncInstType c)) (sym owns_are) (
      subst (λ w. FuncInstType c (own w b2)) same
          (subst (λ w. FuncInstType c (own f w)) is_body body),
      owns_typed c types xs bodies others e
          (subst (ValidBodies c xs) is_rest more) defined,
    )

-- ---- globals

evaluates_typed : (vs : List Value) (gs : List GlobalType) (e : Code) (t : ValType) (v : Value)
    → AreOfTypes vs (map (λ g. g.value) gs) → ConstantOf gs e t → Evaluates vs e v → IsOfType t v
evaluates_typed vs gs e t v h (inl (n, is, type)) (inl (k, at, same)) = search (rules, unsigned-lt)
evaluates_typed vs gs e t v h (inl (n, is, type)) (inr (inl (k, at, same))) = absurd (cc (is, at))
evaluates_typed vs gs e t v h (inl (n, is, type)) (inr (inr (k, at, same))) = absurd (cc (is, at))
evaluates_typed vs gs e t v h (inr (inl (n, is, type))) (inl (k, at, same)) = absurd (cc (is, at))
evaluates_typed vs gs e t v h (inr (inl (n, is, type))) (inr (inl (k, at, same))) = search (rules, unsigned-lt)
evaluates_typed vs gs e t v h (inr (inl (n, is, type))) (inr (inr (k, at, same))) = absurd (cc (is, at))
evaluates_typed vs gs e t v h (inr (inr (n, is, type))) (inl (k, at, same)) = absurd (cc (is, at))
evaluates_typed vs gs e t v h (inr (inr (n, is, type))) (inr (inl (k, at, same))) = absurd (cc (is, at))
evaluates_typed vs gs e t v h (inr (inr (n, is, type))) (inr (inr (k, at, same))) =
    let index : n ≡ k = cc (is, at) in
    let there = slice_get-map (λ (g : GlobalType). g.value) gs n
    ∙ ap (λ o. option_map (λ (g : GlobalType). g.value) o) type in
    let x = types_get (map (λ g. g.value) gs) vs n t there h in
    let v_is : x.0 ≡ v = let both = sym x.1 ∙ ap (λ w. slice_get vs w) index ∙ same in cc both in
    subst (IsOfType t) v_is x.2

imported_typed : (types : List FuncType) (p : Parameters) (is : List Import) (hosts : List FuncInst) (vs : List Value)
    → AreGiven p → Imported types p is hosts vs → AreOfTypes vs (map (λ g. g.value) (imported_globals is))
imported_typed types p [] hosts vs given i = subst (λ w. AreOfTypes w []) (sym i.1) tt
imported_typed types p (i ∷ is) hosts vs given (inl (h, rest, imports, hosts_are, more)) =
    subst (λ w. AreOfTypes vs (map (λ g. g.value) (global_first w (imported_globals is)))) (sym imports.3)
    (imported_typed types p is rest vs given more)
imported_typed types p (i ∷ is) hosts vs given (inr (v, rest, (from, inl imports), values_are, more)) =
    subst (λ w. AreOfTypes vs (map (λ g. g.value) (global_first w (imported_globals is)))) (sym imports.1)
    (subst (λ w. AreOfTypes w (I32 ∷ map (λ g. g.value) (imported_globals is))) (sym values_are)
    (subst (IsOfType I32) (sym imports.2) (refl, given.base), imported_typed types p is hosts rest given more))
imported_typed types p (i ∷ is) hosts vs given (inr (v, rest, (from, inr imports), values_are, more)) =
    subst (λ w. AreOfTypes vs (map (λ g. g.value) (global_first w (imported_globals is)))) (sym imports.1)
    (subst (λ w. AreOfTypes w (I64 ∷ map (λ g. g.value) (imported_globals is))) (sym values_are)
    (subst (IsOfType I64) (sym imports.2) (refl, given.salt), imported_typed types p is hosts rest given more))

begun_typed : (imports : List Import) (vs : List Value) (gs : List Global) (ws : List Value)
    → AreOfTypes vs (map (λ g. g.value) (imported_globals imports)) → AllByRecursion (ValidGlobal imports) gs
    → Begun vs gs ws
    → AreOfTypes ws (map (λ g. g.value) (map (λ g. g.type) gs))
begun_typed imports vs [] ws h all b = subst (λ w. AreOfTypes w []) (sym b) tt
begun_typed imports vs (g ∷ gs) ws h all (v, rest, evaluates, is, more) =
    subst (λ w. AreOfTypes w (g.type.value ∷ map (λ g. g.value) (map (λ g. g.type) gs))) (sym is) (
      evaluates_typed vs (imported_globals imports) g.init g.type.value v h all.0 evaluates,
      begun_typed imports vs gs
          rest h all.1 more,
    )

-- ---- segments

placed_items : (P : List ℕ → Type 0) (globals : List Value) (ss : List (Code × List ℕ)) (ps : List Piece)
    → Placed globals ss ps → AllByRecursion (λ (s : Code × List ℕ). P s.1) ss
    → AllByRecursion (λ (q : Piece). P q.items) ps
placed_items P globals [] ps at all = subst (AllByRecursion (λ (q : Piece). P q.items)) (sym at) tt
placed_items P globals (s ∷ ss) ps (n, rest, evaluates, is, more) all =
    subst (AllByRecursion (λ (q : Piece). P q.items)) (sym is) (all.0, placed_items P globals ss rest more all.1)

element_items : (c : Context) (es : List Element) → AllByRecursion (ValidElement c) es
    → AllByRecursion (λ (s : Code × List ℕ). AllByRecursion (HasFunc c) s.1) (map (λ e. (e.offset, e.init)) es)
element_items c [] all = tt
element_items c (e ∷ es) all = (all.0.2, element_items c es all.1)

data_items : (ds : List Data) → AllByRecursion (λ (d : Data). AllByRecursion IsByte d.init) ds
    → AllByRecursion (λ (s : Code × List ℕ). AllByRecursion IsByte s.1) (map (λ d. (d.offset, d.init)) ds)
data_items [] all = tt
data_items (d ∷ ds) all = (all.0, data_items ds all.1)

-- ---- the table

pub length_written : {X : Type 0} (old given : List X) (at : ℕ) → at + length given ≤ length old
    → length (written old at given) ≡ length old
length_written old given at h = simp (length-append, length-take, length-drop) (omega arith)

length_map : (xs : List ℕ) → length (map (λ x. Some x) xs) ≡ length xs
length_map [] = refl
length_map (x ∷ xs) = ap suc (length_map xs)

filled_length : (table : List (Option ℕ)) (ps : List Piece) → Within (length table) ps
    → length (filled table ps) ≡ length table
filled_length table [] h = refl
filled_length table (q ∷ ps) h =
    let count = length_map q.items in
    let same = length_written table (map (λ x. Some x) q.items) q.at (omega (arith, count, h.0)) in
    filled_length (written table q.at (map (λ x. Some x) q.items)) ps (subst (λ n. Within n ps) (sym same) h.1) ∙ same

entries_typed : (c : Context) (xs : List ℕ) → AllByRecursion (HasFunc c) xs
    → AllByRecursion (EntryType c) (map (λ x. Some x) xs)
entries_typed c [] all = tt
entries_typed c (x ∷ xs) all = (all.0, entries_typed c xs all.1)

filled_typed : (c : Context) (table : List (Option ℕ)) (ps : List Piece) → AllByRecursion (EntryType c) table
    → AllByRecursion (λ (q : Piece). AllByRecursion (HasFunc c) q.items) ps
    → AllByRecursion (EntryType c) (filled table ps)
filled_typed c table [] h all = h
filled_typed c table (q ∷ ps) h all =
    filled_typed c (written table q.at (map (λ x. Some x) q.items)) ps
    (each_written (EntryType c) table q.at (map (λ x. Some x) q.items) h (entries_typed c q.items all.0)) all.1

-- ---- what is to be written

abbrev HasByteItems : Piece → Type 0
HasByteItems q = AllByRecursion IsByte q.items

onto_bytes : (at b : ℕ) (ps : List Piece) → IsByte b → AllByRecursion HasByteItems ps
    → AllByRecursion HasByteItems (onto_piece at b ps)
onto_bytes at b [] h all = ((h, tt), tt)
onto_bytes at b (q ∷ ps) h all = search rules

cut_bytes : (at : ℕ) (items : List ℕ) → AllByRecursion IsByte items → AllByRecursion HasByteItems (cut_up at items)
cut_bytes at [] all = tt
cut_bytes at (b ∷ bs) all = onto_bytes at b (cut_up (at + 1) bs) all.0 (cut_bytes (at + 1) bs all.1)

fragments_bytes : (ps : List Piece) → AllByRecursion HasByteItems ps → AllByRecursion HasByteItems (fragments ps)
fragments_bytes [] all = tt
fragments_bytes (q ∷ ps) all =
    each_append HasByteItems (cut_up q.at q.items) (fragments ps) (cut_bytes q.at q.items all.0)
    (fragments_bytes ps all.1)

pieces_typed : (s : Store) (ps : List Piece) → Within (length s.bytes) ps → AllByRecursion HasByteItems ps
    → AllByRecursion (PieceType s) ps
pieces_typed s [] within all = tt
pieces_typed s (q ∷ ps) within all = ((within.0, all.0), pieces_typed s ps within.1 all.1)

-- ---- sizes

limit_of : (o : Option ℕ) (least limit : ℕ) → least ≤ 65536
    → ((most : ℕ) → o ≡ Some most → (most ≤ 65536) × (least ≤ most)) → least ≤ limit
    → (least ≤ min (unwrap_or o 65536) limit) × (min (unwrap_or o 65536) limit ≤ min (unwrap_or o 65536) 65536)
limit_of None least limit low max within = (omega (arith, low, within), omega arith)
limit_of (Some most) least limit low max within =
    let h = max most refl in let fits = h.0 in let above = h.1 in (omega (arith, above, within), omega (arith, fits))

limits_typed : (ls : List Limits) (limit : ℕ) → AllByRecursion (WithinBound most_pages) ls → first_size ls ≤ limit
    → (first_size ls ≤ last_size ls limit) × (last_size ls limit ≤ last_size ls most_pages)
limits_typed [] limit all within = (omega arith, omega arith)
limits_typed (l ∷ ls) limit all within = limit_of l.max l.min limit all.0.0 all.0.1 within

-- ---- instantiation

begins_in : {m : Module} {p : Parameters} {inst : Instance} {s : Store} {ps : List Piece}
    → IsInitial m p (begins inst s ps) → (c : Context) → IsValidIn m c → HasBytes m → AreGiven p
    → InstanceType c inst × StoreType c inst s × AllByRecursion (PieceType s) ps
begins_in {m = m} {p = p} {inst = inst}
    (in_bounds {globals = globals} {elements = elements} {segments = segments} enough r in_table in_memory) c valid
    bytes given =
    let context = valid.context in
    let sizes = limits_typed m.memories p.page_limit valid.memories enough in
    let limit = r.page_limit in
    let memories = context.memories in
    let low : inst.page_limit ≤ last_size c.memories most_pages = rw (limit, memories) sizes.1 in
    let room : first_size m.memories ≤ inst.page_limit = rw limit sizes.0 in
    let count = length-replicate {A = ℕ} (first_size m.memories * 65536) 0 in
    let entries = length-replicate {A = Option ℕ} (first_size m.tables) None in
    let imported = imported_typed m.types p m.imports r.hosts r.imported given r.imports in
    let values : AreOfTypes globals (map (λ g. g.value) c.globals) = search (rules, map-append, types_append, begun_typed) in
    let written_entries = placed_items (AllByRecursion (HasFunc c)) globals _ elements r.elements_at
    (element_items c m.elements valid.elements) in
    let items = placed_items (AllByRecursion IsByte) globals _ segments r.segments_at (data_items m.segments bytes) in
    let store : Store = record {
      bytes = replicate (first_size m.memories * 65536) 0;
      globals = globals;
      table = filled (replicate (first_size m.tables) None) elements;
      inputs = p.inputs;
      output = [];
    } in (
      record {
        types = r.types ∙ sym context.types;
        signatures = search (rules, named_all);
        funcs = subst (AllByRecursion (FuncInstType c)) (sym r.funcs)
            (each_append (FuncInstType c) r.hosts r.owns
            (hosts_typed c m.types p m.imports r.hosts r.imported r.imports)
            (owns_typed c m.types m.funcs m.bodies r.owns context.types valid.bodies r.defines));
        page_limit = low;
      },
      record {
        memory = (
          (first_size m.memories, count, let same = ap first_size memories in omega (arith, same), room),
          each_replicate IsByte (first_size m.memories * 65536) 0 (omega arith),
        );
        globals = values;
        entries = search (rules, filled_length, replicate);
        table = search (rules, filled_typed, replicate, each_replicate);
        inputs = given.inputs;
        output = (omega arith, tt);
      },
      pieces_typed store (fragments segments)
          (subst (λ n. Within n (fragments segments)) (sym count)
          (fragments_within (first_size m.memories * 65536) segments in_memory)) (fragments_bytes segments items),
    )

pub begins_typed : BeginsTyped
begins_typed m c p inst s ps valid bytes given x = begins_in x c valid bytes given
