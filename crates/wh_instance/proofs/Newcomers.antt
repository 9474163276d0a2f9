-- What an instance begins with.
use Rattle.std.proofs.Common.{◌≡◌, ◌≢◌, Bool, true, false, cond, ℕ, ◌*◌, ◌<◌, ◌≤◌, ◌^◌, List, [], ◌∷◌, ◌++◌, Option, Some, None, length, map, replicate, refl, sym, ap, subst, ◌∙◌, arith, rules}
use Rattle.std.proofs.lemmas.List.{length-replicate}
use Rattle.std.specs.Bool.{MatchBool}
use Rattle.std.specs.List.{AllByRecursion}
use Rattle.wh_model.specs.Format.Syntax as model
use Rattle.wh_model.specs.Format.{nothing, FuncType, Body, Module}
use Rattle.wh_model.specs.Validity.{WithinBound, most_pages}
use Rattle.wh_model.specs.Execution.Store.{Store}
use Rattle.wh_model.specs.Execution.{called, config, Parameters, Piece, Within, fragments, first_size, returned, pending, Invocation}
use Rattle.wh_model.proofs.Fragments.{fragments_within, fragments_in_pages}
use Rattle.wh_host_model.specs.Host.{Doing, resting, has_left, computing, Tenant, store_with, StartsAs, writes as start_writes, runs, rest_of}
use Rattle.wh_host_model.specs.{Entry, start_entry}
use Rattle.wh_host_model.specs.Host.Admission.{ends}
use Rattle.wh_syntax.specs.declared.module.Data.{Data}
use Rattle.wh_syntax.specs.View.{view_module, view_data}
use Rattle.wh_bodies.specs.View.{view_side}
use Rattle.wh_validate.specs.CheckedBodies.{IsChecked}
use Rattle.wh_imports.specs.LinkedState.{LinkedState}
use Rattle.wh_imports.specs.Resolving.{IsResolved}
use Rattle.wh_initial.proofs.Instances.{instance_of}
use Rattle.wh_initial.specs.declared.outcome.Instantiated.{Instantiated}
use Rattle.wh_initial.specs.Begins.{Instantiates, first_store}
use Rattle.wh_journal.specs.Calls.{JournalCallState, JournalState, with_end}
use Rattle.wh_journal.specs.declared.calls.CallEnd.TheVariants as end
use Rattle.wh_machine.specs.declared.machine.Machine.{Machine}
use Rattle.wh_machine.specs.Opening.{IsOwnCall}
use Rattle.wh_machine.specs.MachineRuns.{linked_parts, RepresentsInstance}
use Rattle.wh_call.proofs.Starting.{start_called}
use Rattle.wh_instance.specs.declared.writing.Cursor.{Cursor}
use Rattle.wh_instance.specs.declared.stages.CallStage.{CallStage}
use Rattle.wh_instance.specs.declared.stages.CallStage.TheVariants.{Writing, Faced}
use Rattle.wh_instance.specs.Pieces.{placed_data, pieces_left}
use Rattle.wh_instance.specs.Turned.{HasRest}
use Rattle.wh_instance.specs.Tenancy.{HostInstanceState, state_over, rests, writes, is_faced, byte_setting, IsTenant}
use Rattle.wh_instance.specs.Beginning.{has_nothing, start_call, journal_at_first, IsBegun}

-- ---- where the data segments belong

placed_none : (segments : List Data) → placed_data segments [] ≡ []
placed_none [] = refl
placed_none (d ∷ segments) = refl

placed_are : (ps : List Piece) (segments : List Data) (places : List ℕ) → map (λ p. p.at) ps ≡ places → map (λ p. p.items) ps ≡ map (λ (d : Data). d.init.items) segments → placed_data segments places ≡ ps
placed_are [] segments [] at items = placed_none segments
placed_are [] segments (n ∷ places) at items = absurd (cc at)
placed_are (p ∷ ps) [] places at items = absurd (cc items)
placed_are (p ∷ ps) (d ∷ segments) [] at items = absurd (cc at)
placed_are (p ∷ ps) (d ∷ segments) (n ∷ places) at items =
    let first_at : p.at ≡ n = cc at in
    let first_items : p.items ≡ d.init.items = cc items in
    let rest_at : map (λ (q : Piece). q.at) ps ≡ places = cc at in
    let rest_items : map (λ (q : Piece). q.items) ps ≡ map (λ (q : Data). q.init.items) segments = cc items in
    rw (sym first_at, sym first_items, placed_are ps segments places rest_at rest_items) refl

inits_of : (segments : List Data) → map (λ (d : model.Data). d.init) (map view_data segments) ≡ map (λ (d : Data). d.init.items) segments
inits_of [] = refl
inits_of (d ∷ segments) = ap (λ z. d.init.items ∷ z) (inits_of segments)

pub segments_are : (l : LinkedState) (p : Parameters) (begun : Instantiated) (i : Instantiates (view_module l.valid.decoded) p begun) → placed_data l.valid.decoded.segments.items begun.places.items ≡ i.segments
segments_are l p begun i = placed_are i.segments l.valid.decoded.segments.items begun.places.items i.places (i.bytes ∙ inits_of l.valid.decoded.segments.items)

pub few_pieces : (m : Module) (n pieces : ℕ) → AllByRecursion (WithinBound most_pages) m.memories → n ≤ 1024 → pieces ≤ first_size m.memories * 65536 * n → pieces < 2 ^ 64
few_pieces m n pieces memories few within = search rules

-- ---- the store

-- what is known of a linked module
pub record Known (l : LinkedState) : Type 0 where
  pub sound : IsChecked (view_module l.valid.decoded) (map view_side l.valid.tables)
  pub resolved : IsResolved (view_module l.valid.decoded) l.funcs l.globals

pub begins_with : (l : LinkedState) (k : Known l) (p : Parameters) (begun : Instantiated) (i : Instantiates (view_module l.valid.decoded) p begun) (x : HostInstanceState) → x.store ≡ begun.store
    → HasRest (byte_setting l begun.page_limit) (state_over x (replicate (begun.pages * 65536) 0)) i.inst (rest_of (first_store (view_module l.valid.decoded) p i.globals i.elements))
begins_with l k p begun i x same =
    let sound = k.sound in
    let zeros = replicate (begun.pages * 65536) 0 in
    let first = first_store (view_module l.valid.decoded) p i.globals i.elements in
    let same_bytes : first.bytes ≡ zeros = ap (λ n. replicate (n * 65536) 0) (sym i.pages) in
    let whole : first ≡ store_with zeros (rest_of first) = ap (λ z. store_with z (rest_of first)) same_bytes in
    let valid = sound.valid in
    let around : RepresentsInstance (linked_parts l) begun.store zeros begun.page_limit sound.context i.inst first = record { instance = instance_of l sound k.resolved p i.inst i.globals i.elements i.segments i.prepares; store = i.represents sound.context valid.context } in
    (sound.context, rw same (subst (λ z. RepresentsInstance (linked_parts l) begun.store zeros begun.page_limit sound.context i.inst z) whole around))

-- ---- the instance

-- what a start of a linked module has before it
pub record Start (l : LinkedState) (p : Parameters) (begun : Instantiated) (i : Instantiates (view_module l.valid.decoded) p begun) (fuel : ℕ) (cursor : Cursor) : Type 0 where
  pub known : Known l
  pub left : pieces_left l.valid.decoded.segments.items begun.places.items cursor ≡ fragments i.segments
  pub few : length (fragments i.segments) < 2 ^ 64
  pub counted : fuel < 2 ^ 64

-- the code's instance at first
abbrev pub first_tenant : Instantiated → Machine → Cursor → CallStage → JournalState → HostInstanceState
first_tenant begun machine cursor progress journal = record { store = begun.store; machine = machine; places = begun.places.items; cursor = cursor; progress = progress; journal = journal; waiting_for = None; dead = false }

-- it begins so
abbrev pub BeginsBy : (l : LinkedState) (p : Parameters) (begun : Instantiated) → Instantiates (view_module l.valid.decoded) p begun → ℕ → HostInstanceState → Type 0
BeginsBy l p begun i fuel x =
    (d : Doing) × (ended : List Entry) × (open_calls : List Entry)
    × StartsAs i.inst (first_store (view_module l.valid.decoded) p i.globals i.elements) (fragments i.segments) (view_module l.valid.decoded).start fuel d ended open_calls
    × ((t : Tenant) → IsBegun t i.inst (rest_of (first_store (view_module l.valid.decoded) p i.globals i.elements)) d ended open_calls → IsTenant l begun.page_limit x (replicate (begun.pages * 65536) 0) t)

own_call : (l : LinkedState) (p : Parameters) (begun : Instantiated) (i : Instantiates (view_module l.valid.decoded) p begun) (k : Known l) (x : ℕ) → (view_module l.valid.decoded).start ≡ Some x → (type : FuncType) × (body : Body) × IsOwnCall i.inst x [] type body []
own_call l p begun i k x e =
    let sound = k.sound in
    let h = start_called (view_module l.valid.decoded) (linked_parts l) sound.context i.inst x sound.valid (instance_of l sound k.resolved p i.inst i.globals i.elements i.segments i.prepares) e in
    (h.0, h.1, h.3)

-- with pieces to write
begins_writing : (l : LinkedState) (p : Parameters) (begun : Instantiated) (i : Instantiates (view_module l.valid.decoded) p begun) (fuel : ℕ) (machine : Machine) (cursor : Cursor) → Start l p begun i fuel cursor → fragments i.segments ≢ []
    → BeginsBy l p begun i fuel (first_tenant begun machine cursor Writing (record { ended = []; open_calls = start_call (view_module l.valid.decoded).start fuel end.Open ∷ [] }))
begins_writing l p begun i fuel machine cursor k some =
    let m = view_module l.valid.decoded in
    let x = first_tenant begun machine cursor Writing (record { ended = []; open_calls = start_call m.start fuel end.Open ∷ [] }) in
    let ps = fragments i.segments in
    let store = begins_with l k.known p begun i x refl in
    let size = sym (length-replicate (begun.pages * 65536) 0) in
    let few = k.few in (
      has_left ps,
      [],
      start_entry m.start fuel pending ∷ [],
      start_writes some,
      λ t b. record {
        store = rw (b.inst_is, b.rest) store;
        ended = rw b.ended_are tt;
        open_calls = rw b.open_are (record { func = refl; given = refl; words = refl; fuel = refl; pieces = refl; charges = refl; end = tt }, tt);
        is_where = rw (b.inst_is, b.rest, b.doing, b.open_are) (writes {e = start_entry m.start fuel pending} refl some refl (record {
          store = store;
          within = subst (λ n. Within n ps) (ap (λ n. n * 65536) (sym i.pages) ∙ size) (fragments_within (first_size m.memories * 65536) i.segments i.segments_within);
          in_pages = fragments_in_pages i.segments;
          few = few;
          no_args = refl;
          no_charges = refl;
          calls_own = own_call l p begun i k.known;
        }) (sym k.left) (omega (arith, few)));
        waiting = rw b.open_are tt;
        counted = rw b.open_are (record { pieces = omega arith; fuel = k.counted }, tt);
        waiting_for = b.waiting_for;
        fresh = λ at. refl;
        dead = sym b.dead;
      },
    )

-- with nothing but a function
begins_faced : (l : LinkedState) (p : Parameters) (begun : Instantiated) (i : Instantiates (view_module l.valid.decoded) p begun) (fuel : ℕ) (machine : Machine) (cursor : Cursor) → Start l p begun i fuel cursor → fragments i.segments ≡ [] → (y : ℕ) → (view_module l.valid.decoded).start ≡ Some y
    → BeginsBy l p begun i fuel (first_tenant begun machine cursor Faced (record { ended = []; open_calls = start_call (view_module l.valid.decoded).start fuel end.Open ∷ [] }))
begins_faced l p begun i fuel machine cursor k none y calls =
    let m = view_module l.valid.decoded in
    let x = first_tenant begun machine cursor Faced (record { ended = []; open_calls = start_call m.start fuel end.Open ∷ [] }) in
    let (type, body, suits) = own_call l p begun i k.known y calls in
    let store = begins_with l k.known p begun i x refl in
    let e = start_entry m.start fuel pending in
    let invocation : (s : Store) → Invocation i.inst s e.call (config s [] (called type body [] [] nothing)) = λ s. record { index = y; type = type; body = body; calls = calls; is_own = suits.is_own; types = suits.types; fit = tt; begins = refl } in
    let first = first_store m p i.globals i.elements in (
      computing (called type body [] [] nothing),
      [],
      e ∷ [],
      runs none calls (called type body [] [] nothing, refl, invocation first),
      λ t b. record {
        store = rw (b.inst_is, b.rest) store;
        ended = rw b.ended_are tt;
        open_calls = rw b.open_are (record { func = refl; given = refl; words = refl; fuel = refl; pieces = refl; charges = refl; end = tt }, tt);
        is_where = rw (b.inst_is, b.rest, b.doing, b.open_are) (is_faced {func = y} refl (record { store = store; invocation = invocation (store_with (replicate (begun.pages * 65536) 0) (rest_of first)); calls = calls; words = refl; no_charges = refl }));
        waiting = rw b.open_are tt;
        counted = rw b.open_are (record { pieces = omega arith; fuel = k.counted }, tt);
        waiting_for = b.waiting_for;
        fresh = λ at. refl;
        dead = sym b.dead;
      },
    )

-- with nothing at all
begins_ended : (l : LinkedState) (p : Parameters) (begun : Instantiated) (i : Instantiates (view_module l.valid.decoded) p begun) (fuel : ℕ) (machine : Machine) (cursor : Cursor) → Start l p begun i fuel cursor → fragments i.segments ≡ [] → (view_module l.valid.decoded).start ≡ None
    → BeginsBy l p begun i fuel (first_tenant begun machine cursor Faced (record { ended = start_call (view_module l.valid.decoded).start fuel (end.Returned None) ∷ []; open_calls = [] }))
begins_ended l p begun i fuel machine cursor k none calls =
    let m = view_module l.valid.decoded in
    let x = first_tenant begun machine cursor Faced (record { ended = start_call m.start fuel (end.Returned None) ∷ []; open_calls = [] }) in
    let store = begins_with l k.known p begun i x refl in (
      resting,
      start_entry None fuel (returned []) ∷ [],
      [],
      ends none calls,
      λ t b. record {
        store = rw (b.inst_is, b.rest) store;
        ended = rw b.ended_are (record { func = sym calls; given = refl; words = refl; fuel = refl; pieces = refl; charges = refl; end = refl }, tt);
        open_calls = rw b.open_are tt;
        is_where = rw (b.inst_is, b.rest, b.doing, b.open_are) (rests refl);
        waiting = rw b.open_are tt;
        counted = rw b.open_are tt;
        waiting_for = b.waiting_for;
        fresh = λ at. refl;
        dead = sym b.dead;
      },
    )

-- by what there is to do
pub begins_tenant : (l : LinkedState) (p : Parameters) (begun : Instantiated) (i : Instantiates (view_module l.valid.decoded) p begun) (fuel : ℕ) (machine : Machine) (cursor : Cursor) → Start l p begun i fuel cursor → (start : Option ℕ) → (view_module l.valid.decoded).start ≡ start → (has : Bool) → MatchBool has (fragments i.segments ≢ []) (fragments i.segments ≡ [])
    → BeginsBy l p begun i fuel (first_tenant begun machine cursor (cond has Writing Faced) (journal_at_first start fuel (has_nothing has start)))
begins_tenant l p begun i fuel machine cursor k None calls true some = subst (λ z. BeginsBy l p begun i fuel (first_tenant begun machine cursor Writing (record { ended = []; open_calls = start_call z fuel end.Open ∷ [] }))) calls (begins_writing l p begun i fuel machine cursor k some)
begins_tenant l p begun i fuel machine cursor k (Some y) calls true some = subst (λ z. BeginsBy l p begun i fuel (first_tenant begun machine cursor Writing (record { ended = []; open_calls = start_call z fuel end.Open ∷ [] }))) calls (begins_writing l p begun i fuel machine cursor k some)
begins_tenant l p begun i fuel machine cursor k None calls false none = subst (λ z. BeginsBy l p begun i fuel (first_tenant begun machine cursor Faced (record { ended = start_call z fuel (end.Returned None) ∷ []; open_calls = [] }))) calls (begins_ended l p begun i fuel machine cursor k none calls)
begins_tenant l p begun i fuel machine cursor k (Some y) calls false none = subst (λ z. BeginsBy l p begun i fuel (first_tenant begun machine cursor Faced (record { ended = []; open_calls = start_call z fuel end.Open ∷ [] }))) calls (begins_faced l p begun i fuel machine cursor k none y calls)

-- ---- the first journal, of a start that has ended

pub ended_at_first : (j0 j1 j2 : JournalState) (c : JournalCallState) (start : Option ℕ) (fuel : ℕ) (over : Bool) → over ≡ true → j0 ≡ record { ended = []; open_calls = [] } → j1 ≡ record j0 { open_calls = j0.open_calls ++ c ∷ [] } → c ≡ start_call start fuel end.Open
    → ((d : JournalCallState) (ds : List JournalCallState) → j1.open_calls ≡ d ∷ ds → j2 ≡ record { ended = j1.ended ++ with_end d (end.Returned None) ∷ []; open_calls = ds }) → j2 ≡ journal_at_first start fuel over
ended_at_first j0 j1 j2 c start fuel over is_over none pushed call ended =
    let one : j1 ≡ record { ended = []; open_calls = c ∷ [] } = pushed ∙ ap (λ (j : JournalState). let k : JournalState = record j { open_calls = j.open_calls ++ c ∷ [] } in k) none in
    let at = ended c [] (ap (λ (j : JournalState). j.open_calls) one) in
    let whole : j2 ≡ record { ended = with_end c (end.Returned None) ∷ []; open_calls = [] } = at ∙ ap (λ (es : List JournalCallState). let k : JournalState = record { ended = es ++ with_end c (end.Returned None) ∷ []; open_calls = [] } in k) (ap (λ (j : JournalState). j.ended) one) in
    whole ∙ ap (λ (z : JournalCallState). let k : JournalState = record { ended = with_end z (end.Returned None) ∷ []; open_calls = [] } in k) call ∙ ap (journal_at_first start fuel) (sym is_over)
