-- An admission that meets no fault can be accepted.
use Rattle.std.proofs.Common.{◌≡◌, ℕ, ◌+◌, ◌*◌, ◌/◌, ◌<◌, ◌≤◌, inl, inr, false, replicate, List, [], ◌∷◌, reverse, Option, Some, None, length, refl, sym, ap, subst, ◌∙◌, arith, rules}
use Rattle.std.proofs.lemmas.List.{length-replicate}
use Rattle.wh_model.specs.Format.{Body, FuncType, Module, nothing}
use Rattle.wh_model.specs.Validity.{Context, ValidStart}
use Rattle.wh_model.specs.Validity.Valid.{Valid}
use Rattle.wh_model.specs.Linking.{IsAccepted}
use Rattle.wh_model.specs.Soundness.{InstanceType}
use Rattle.wh_model.specs.Execution.{called, AreGiven, Beginning, IsInitial, Parameters, Piece, begins, first_size, in_bounds, memory_min, needs_more, out_of_bounds, segment_bounds, pending, FuncInst, host, own, signature}
use Rattle.wh_model.specs.Execution.Store.{Instance, Store}
use Rattle.wh_model.specs.declared.host.HostFunc.TheVariants.{Emit, Input, Put}
use Rattle.wh_model.proofs.Beginnings.{some_beginning}
use Rattle.wh_model.proofs.BeginsTypedLemmas.{begins_typed}
use Rattle.wh_model.proofs.PreservationLemmas.{func_there}
use Rattle.wh_model.proofs.SpelledBytesLemmas.{spelled_has_bytes}
use Rattle.wh_space_model.specs.declared.plain.InstId.{InstId}
use Rattle.wh_space_model.specs.declared.states.Page.TheVariants.{Untouched}
use Rattle.wh_space_model.specs.{Space, minima, newcomer, with_row}
use Rattle.wh_host_model.specs.Host.{Arrives, Doing, Loaded, World, computing, empty_world, has_left, loaded_of, promised, resting, Faces, MeetsFault, StartsAs, IsAdmit, admit_ok, is_admitted, AdmissionsAreTaken}
use Rattle.wh_host_model.specs.{Entry, start_entry, Params, given_of, AdmitFault, frames, memory, min_max, no_module, segments, shares, swap, most_fuel}
use Rattle.wh_host_model.specs.Host.Admission as admission
use Rattle.wh_host_model.proofs.Host.Deciding.{loaded_or_not}
use Rattle.wh_host_model.proofs.Host.Empty.{good_empty}
use Rattle.wh_host_model.proofs.Host.Leaving.{enters_alone}
use Rattle.wh_host_model.proofs.Host.Numbering.{AreAdmitted, next_is_fresh, none_admitted, run_below}
use Rattle.wh_host_model.proofs.Host.Running.{IsGood, good_run}

-- ---- the module

loaded_there : (w : World) (k : ℕ) → ¬ (loaded_of w k ≡ None) → (l : Loaded) × (loaded_of w k ≡ Some l)
loaded_there w k none = elim (loaded_or_not (loaded_of w k)) [ inl gone ↦ absurd (none gone) | inr found ↦ found ]

pub at_least : (a b : ℕ) → ¬ (a < b) → b ≤ a
at_least a b none = omega (arith, none)

-- ---- its beginning

pub record Begun (m : Module) (p : Parameters) : Type 0 where
  pub inst : Instance
  pub s : Store
  pub pieces : List Piece
  pub initial : IsInitial m p (begins inst s pieces)

begun : (m : Module) (p : Parameters) (b : Beginning) → IsInitial m p b → ¬ (IsInitial m p memory_min) → ¬ (IsInitial m p segment_bounds) → Begun m p
begun m p memory_min is small outside = absurd (small is)
begun m p segment_bounds is small outside = absurd (outside is)
begun m p (begins inst s ps) is small outside = record { inst = inst; s = s; pieces = ps; initial = is }

bytes_of_begun : Beginning → List ℕ
bytes_of_begun (begins inst s ps) = s.bytes
bytes_of_begun b = []

-- its memory is as long as the module says, and no longer than the owner allows
begun_size : {m : Module} {p : Parameters} {b : Beginning} (inst : Instance) (s : Store) (ps : List Piece) → IsInitial m p b → b ≡ begins inst s ps
    → (first_size m.memories ≤ p.page_limit) × (length s.bytes ≡ 65536 * first_size m.memories)
unfolding bytes_of_begun
begun_size inst s ps (needs_more lt) e = absurd (cc e)
begun_size inst s ps (out_of_bounds le pr never) e = absurd (cc e)
begun_size {m} inst s ps (in_bounds le pr e1 e2) e = search (rules, ℕ, bytes_of_begun, length-replicate)

-- ---- its start

abbrev no_type : FuncType
no_type = record { params = []; results = [] }

-- no function of the host takes and gives nothing
own_start : (h : FuncInst) → signature h ≡ no_type → (body : Body) × (h ≡ own no_type body)
own_start (own type body) e = (body, ap (λ t. own t body) e)
own_start (host Input) e = absurd (let long : 1 ≡ 0 = ap (λ (t : FuncType). length t.params) e in omega (arith, long))
own_start (host Put) e = absurd (let long : 1 ≡ 0 = ap (λ (t : FuncType). length t.params) e in omega (arith, long))
own_start (host Emit) e = absurd (let long : 2 ≡ 0 = ap (λ (t : FuncType). length t.params) e in omega (arith, long))

pub start_faces : (c : Context) (inst : Instance) (s : Store) (x fuel : ℕ) → InstanceType c inst → ValidStart c (Some x)
    → (d : Doing) × Faces inst s (start_entry (Some x) fuel pending ∷ []) d
start_faces c inst s x fuel i valid =
    let h = func_there c inst x no_type i valid in
    let mine = own_start h.0 h.2 in (
      computing (called no_type mine.0 (reverse []) [] nothing),
      (
        called no_type mine.0 (reverse []) [] nothing,
        refl,
        record {
          index = x;
          type = no_type;
          body = mine.0;
          calls = refl;
          is_own = h.1 ∙ ap (λ z. Some z) mine.1;
          types = refl;
          fit = tt;
          begins = refl;
        },
      ),
    )

pub record Started (inst : Instance) (s : Store) (pieces : List Piece) (start : Option ℕ) (fuel : ℕ) : Type 0 where
  pub doing : Doing
  pub ended : List Entry
  pub open_calls : List Entry
  pub starts : StartsAs inst s pieces start fuel doing ended open_calls

some_start : (c : Context) (inst : Instance) (s : Store) (ps : List Piece) (start : Option ℕ) (fuel : ℕ) → InstanceType c inst → ValidStart c start → Started inst s ps start fuel
some_start c inst s (p ∷ ps) start fuel i valid = record {
  doing = has_left (p ∷ ps);
  ended = [];
  open_calls = start_entry start fuel pending ∷ [];
  starts = admission.writes (λ e. cc e);
}
some_start c inst s [] None fuel i valid = record {
  doing = resting;
  ended = _;
  open_calls = [];
  starts = admission.ends refl refl;
}
some_start c inst s [] (Some x) fuel i valid = let f = start_faces c inst s x fuel i valid in record {
  doing = f.0;
  ended = [];
  open_calls = start_entry (Some x) fuel pending ∷ [];
  starts = admission.runs refl refl f.1;
}

starts_somehow : (bytes : List ℕ) (m : Module) (p : Parameters) (inst : Instance) (s : Store) (ps : List Piece) (fuel : ℕ) → IsAccepted bytes m → AreGiven p → IsInitial m p (begins inst s ps) → Started inst s ps m.start fuel
unfolding Valid
starts_somehow bytes m p inst s ps fuel can given initial =
    let c = can.valid.0 in
    let typed = begins_typed m c p inst s ps can.valid.1 (spelled_has_bytes bytes m can.is_module) given initial in
    some_start c inst s ps m.start fuel typed.0 can.valid.1.start

-- ---- its place

sixteenth : (n max : ℕ) → n ≤ max / 16 → 16 * n ≤ max
sixteenth n max low = omega (arith, low)

abbrev entered : Space → Params → ℕ → ℕ → Space
entered s p number size = record s {
  occupants = with_row s.occupants (length s.occupants) (Some (newcomer (promised number p)));
  tables = with_row s.tables (length s.occupants) (replicate (16 * size) Untouched);
  touched = with_row s.touched (length s.occupants) (replicate (16 * size) false);
}

some_place : (w : World) (k : ℕ) (p : Params) (size : ℕ) → IsGood w → AreAdmitted w → ((fault : AdmitFault) → ¬ (MeetsFault w k p fault)) → size ≤ p.max / 16
    → Arrives (length w.space.occupants) (promised (length w.tenants) p) (65536 * size) w.space (entered w.space p (length w.tenants) size)
some_place w k p size good below none fits =
    enters_alone w.space (length w.space.occupants) (promised (length w.tenants) p) size (entered w.space p (length w.tenants) size) good.sound (record {
      free = inr refl;
      room = (at_least (length w.space.pool.frames) (minima w.space + p.min) (none frames), at_least (length w.space.slots.uses) _ (none swap));
      shares = (at_least p.shares 1 (λ low. none shares (inl low)), at_least 1000000 p.shares (λ high. none shares (inr high)));
      bounds = (
        at_least p.min 2 (λ low. none min_max (inl low)),
        at_least p.max p.min (λ low. none min_max (inr (inl low))),
        at_least 65536 p.max (λ high. none min_max (inr (inr high))),
      );
      fits = sixteenth size p.max fits;
      fresh = next_is_fresh w below;
      leaves = refl;
    })

-- ---- all of it

admits_one : (w : World) (k : ℕ) (p : Params) → IsGood w → AreAdmitted w → AreGiven (given_of p) → p.fuel ≤ most_fuel → ((fault : AdmitFault) → ¬ (MeetsFault w k p fault))
    → (id : InstId) × (w2 : World) × IsAdmit w k p (admit_ok id) w2
admits_one w k p good below given count none =
    let found = loaded_there w k (none no_module) in
    let l : Loaded = found.0 in
    let can = good.modules k l found.1 in
    let b = some_beginning l.m (given_of p) can.valid can.links in
    let one = begun l.m (given_of p) b.0 b.1 (λ is. none memory (l, found.1, is)) (λ is. none segments (l, found.1, is)) in
    let size = begun_size one.inst one.s one.pieces one.initial refl in
    let st = starts_somehow l.bytes l.m (given_of p) one.inst one.s one.pieces p.fuel can given one.initial in
    let n : ℕ = length w.tenants in
    let place : ℕ = length w.space.occupants in
    let s2 : Space = entered w.space p n (first_size l.m.memories) in (
      record { place = place; number = n },
      _,
      is_admitted (record {
        no_fault = none;
        can_count = count;
        given = given;
        loaded = l;
        is_loaded = found.1;
        inst = one.inst;
        s = one.s;
        pieces = one.pieces;
        initial = one.initial;
        doing = st.doing;
        ended = st.ended;
        open_calls = st.open_calls;
        starts = st.starts;
        space = s2;
        arrives = subst (λ long. Arrives place (promised n p) long w.space s2) (sym size.1) (some_place w k p (first_size l.m.memories) good below none size.0);
        next = refl;
        after = refl;
      }),
    )

pub admissions_are_taken : AdmissionsAreTaken
admissions_are_taken f slots tax events w r k p given count none =
    let empty : World = empty_world f slots tax in
    let good = good_empty f slots tax in
    admits_one w k p (good_run events empty w good r) (run_below events empty w good (none_admitted f slots tax) r) given count none
