-- What the owner's requests leave of an instance.
use Rattle.std.proofs.Common.{◌≡◌, true, ℕ, ◌+◌, min, List, [], ◌∷◌, length, suc, Option, Some, None, refl, sym, ap, subst, ◌∙◌, arith, rules}
use Rattle.std.specs.List.{AllByRecursion}
use Rattle.wh_model.specs.Execution.Store.{Instance}
use Rattle.wh_model.specs.Execution.{cancelled}
use Rattle.wh_space_model.specs.declared.plain.SwapError.{SwapError}
use Rattle.wh_space_model.specs.{Space}
use Rattle.wh_host_model.specs.Host.{Rest, Doing, for_device, Tenant, ended_by, Closes, more_fuel, WaitsAfter, Refuels, has_more, Retries, may_try, AwaitsFrame}
use Rattle.wh_host_model.specs.{Entry, most_fuel}
use Rattle.wh_journal.specs.Calls.{JournalCallState, with_more_fuel}
use Rattle.wh_journal.specs.declared.calls.CallEnd.TheVariants as end
use Rattle.wh_machine.specs.CallStates.{Setting}
use Rattle.wh_instance.specs.declared.stages.CallStage.TheVariants.{Faced}
use Rattle.wh_instance.specs.declared.stages.Suspension as code
use Rattle.wh_instance.specs.declared.stages.Suspension.TheVariants as stop
use Rattle.wh_instance.specs.Tenancy.{HostInstanceState, RepresentsCall, RepresentsEach, MayBegin, IsCounted, behind_first, IsWhere, rests, writes, is_faced, is_under_way, suspension_of, RepresentsTenant}
use Rattle.wh_instance.specs.Settling.{closed, is_fault}
use Rattle.wh_instance.specs.OwnerRequests.{HasFuelAgain}
use Rattle.wh_instance.specs.Seen.{waits_at_frame}
use Rattle.wh_instance.proofs.Closing.{closes}
use Rattle.wh_instance.proofs.Settled.{is_where_too}

-- ---- an open call, by the code's list

-- where the code has one, the instance has one
call_of_each : (cs : List JournalCallState) (es : List Entry) (c : JournalCallState) (ds : List JournalCallState) → cs ≡ c ∷ ds → RepresentsEach cs es → (e : Entry) × (fs : List Entry) × (es ≡ e ∷ fs)
call_of_each [] es c ds at h = absurd (cc at)
call_of_each (d ∷ cs) [] c ds at h = absurd h
call_of_each (d ∷ cs) (e ∷ es) c ds at h = (e, es, refl)

-- ---- another try

stands_with_call : {M : Type 0} (w : Setting M) (x : HostInstanceState) (m : M) (inst : Instance) (r : Rest) (d : Doing) (os : List Entry) (s : code.Suspension) → (x.progress ≡ Faced → x.waiting_for ≡ None) → x.waiting_for ≡ Some s → IsWhere w x m inst r d os → (e : Entry) × (es : List Entry) × (os ≡ e ∷ es)
stands_with_call w x m inst r d os s fresh some (rests at) = let never = sym some ∙ fresh at in absurd (cc never)
stands_with_call w x m inst r d os s fresh some (writes {e = e} {es = es} a b c f g h) = (e, es, refl)
stands_with_call w x m inst r d os s fresh some (is_faced {e = e} {es = es} a b) = (e, es, refl)
stands_with_call w x m inst r d os s fresh some (is_under_way {e = e} {es = es} a b c) = (e, es, refl)

device_of : (stands : Option code.Suspension) → is_fault stands ≡ true → (fault : SwapError) × (stands ≡ Some (stop.Device fault))
device_of None is = absurd (cc is)
device_of (Some stop.Fuel) is = absurd (cc is)
device_of (Some stop.Frame) is = absurd (cc is)
device_of (Some (stop.Device fault)) is = (fault, refl)

retries_for : {M : Type 0} (w : Setting M) (x : HostInstanceState) (m : M) (t : Tenant) (fault : SwapError) → x.waiting_for ≡ Some (stop.Device fault) → RepresentsTenant w x m t → (t2 : Tenant) × Retries t t2 × RepresentsTenant w (record x { waiting_for = Some stop.Frame }) m t2
retries_for w x m t fault stands rep =
    let c = stands_with_call w x m t.inst t.rest t.doing t.open_calls (stop.Device fault) rep.fresh stands rep.is_where in
    let y : HostInstanceState = record x { waiting_for = Some stop.Frame } in (
      _,
      may_try c.2 (rep.waiting_for ∙ ap suspension_of stands),
      record {
        store = rep.store;
        ended = rep.ended;
        open_calls = rep.open_calls;
        is_where = is_where_too w x y m t.inst t.rest t.doing t.open_calls refl refl refl refl refl rep.is_where;
        waiting = rep.waiting;
        counted = rep.counted;
        waiting_for = refl;
        fresh = λ at. let never = sym stands ∙ rep.fresh at in absurd (cc never);
        dead = rep.dead;
      },
    )

pub retries : {M : Type 0} (w : Setting M) (x : HostInstanceState) (m : M) (t : Tenant) → is_fault x.waiting_for ≡ true → RepresentsTenant w x m t → (t2 : Tenant) × Retries t t2 × RepresentsTenant w (record x { waiting_for = Some stop.Frame }) m t2
retries w x m t is rep = let f = device_of x.waiting_for is in retries_for w x m t f.0 f.1 rep

-- ---- a device fault

frame_at : (stands : Option code.Suspension) → waits_at_frame stands ≡ true → stands ≡ Some stop.Frame
frame_at None is = absurd (cc is)
frame_at (Some stop.Fuel) is = absurd (cc is)
frame_at (Some stop.Frame) is = refl
frame_at (Some (stop.Device fault)) is = absurd (cc is)

pub fails_for : {M : Type 0} (w : Setting M) (x : HostInstanceState) (m : M) (t : Tenant) (fault : SwapError) → waits_at_frame x.waiting_for ≡ true → RepresentsTenant w x m t
    → AwaitsFrame t × RepresentsTenant w (record x { waiting_for = Some (stop.Device fault) }) m (record t { waiting_for = Some (for_device fault) })
fails_for w x m t fault is rep = search (rules, frame_at, is_where_too)

-- as many calls have ended
pub as_many_ended : (cs : List JournalCallState) (es : List Entry) → RepresentsEach cs es → length es ≡ length cs
as_many_ended [] [] h = refl
as_many_ended [] (e ∷ es) h = absurd h
as_many_ended (c ∷ cs) [] h = absurd h
as_many_ended (c ∷ cs) (e ∷ es) h = ap suc (as_many_ended cs es h.1)

-- ---- an end

pub cancels : {M : Type 0} (w : Setting M) (x : HostInstanceState) (m : M) (t : Tenant) (c : JournalCallState) (cs : List JournalCallState) → x.journal.open_calls ≡ c ∷ cs → RepresentsTenant w x m t → (s : Space)
    → (e : Entry) × (es : List Entry) × (t2 : Tenant) × (t.open_calls ≡ e ∷ es) × Closes s t (ended_by e cancelled) es t.rest t2 × RepresentsTenant w (closed x end.Cancelled c cs) m t2
cancels w x m t c cs at rep s =
    let k = call_of_each x.journal.open_calls t.open_calls c cs at rep.open_calls in
    let each = subst (λ z. RepresentsEach z (k.0 ∷ k.1)) at (subst (RepresentsEach x.journal.open_calls) k.2 rep.open_calls) in
    let counted = subst (AllByRecursion IsCounted) k.2 rep.counted in
    let left = closes w x m t t.rest c cs k.0 k.1 end.Cancelled cancelled
    (record {
      store = rep.store;
      ended = rep.ended;
      first = each.0;
      others = each.1;
      waiting = subst (λ os. AllByRecursion (MayBegin t.inst) (behind_first os)) k.2 rep.waiting;
      counted = counted.1;
      is_end = tt;
      dead = rep.dead;
    }) s in
    (k.0, k.1, left.0, k.2, left.1, left.2)

-- ---- more fuel

more_of : (c : JournalCallState) (e : Entry) (n : ℕ) → RepresentsCall c e → RepresentsCall (with_more_fuel c n) (more_fuel e n)
more_of c e n r = record { func = r.func; given = r.given; words = r.words; fuel = ap (λ i. min (i + n) most_fuel) r.fuel; pieces = r.pieces; charges = r.charges; end = r.end }

where_with_more : {M : Type 0} (w : Setting M) (x : HostInstanceState) (m : M) (inst : Instance) (r : Rest) (d : Doing) (e : Entry) (es : List Entry) (n : ℕ) → IsCounted e → IsWhere w x m inst r d (e ∷ es) → IsWhere w x m inst r d (more_fuel e n ∷ es)
where_with_more w x m inst r d e es n k (writes at some func st left few) =
    writes at some func (record { store = st.store; within = st.within; in_pages = st.in_pages; few = st.few; no_args = st.no_args; no_charges = st.no_charges; calls_own = st.calls_own }) left few
where_with_more w x m inst r d e es n k (is_faced {func = func} at st) =
    let i = st.invocation in
    is_faced {func = func} at (record {
      store = st.store;
      invocation = record { index = i.index; type = i.type; body = i.body; calls = i.calls; is_own = i.is_own; types = i.types; fit = i.fit; begins = i.begins };
      calls = st.calls;
      words = st.words;
      no_charges = st.no_charges;
    })
where_with_more w x m inst r d e es n k (is_under_way at st within) =
    let limit = k.fuel in
    is_under_way at (record { index = st.index; type = st.type; body = st.body; calls = st.calls; is_own = st.is_own; stands = st.stands; runs = st.runs; settled_in = st.settled_in; settled = st.settled }) (omega (arith, within, limit))

-- with what it is blocked on then
refuels_to : {M : Type 0} (w : Setting M) (x : HostInstanceState) (m : M) (t : Tenant) (n : ℕ) (c : JournalCallState) (cs : List JournalCallState) (stands : Option code.Suspension) → x.journal.open_calls ≡ c ∷ cs → (x.progress ≡ Faced → stands ≡ None) → RepresentsTenant w x m t
    → ((e : Entry) → RepresentsCall c e → WaitsAfter (more_fuel e n).call t.waiting_for (suspension_of stands))
    → (t2 : Tenant) × Refuels t n t2 × RepresentsTenant w (record x { journal = record x.journal { open_calls = with_more_fuel c n ∷ cs }; waiting_for = stands }) m t2
refuels_to w x m t n c cs stands at fresh rep after =
    let k = call_of_each x.journal.open_calls t.open_calls c cs at rep.open_calls in
    let each = subst (λ z. RepresentsEach z (k.0 ∷ k.1)) at (subst (RepresentsEach x.journal.open_calls) k.2 rep.open_calls) in
    let counted = subst (AllByRecursion IsCounted) k.2 rep.counted in
    let one = counted.0 in
    let y : HostInstanceState = record x { journal = record x.journal { open_calls = with_more_fuel c n ∷ cs }; waiting_for = stands } in
    let is_where = where_with_more w x m t.inst t.rest t.doing k.0 k.1 n one (subst (IsWhere w x m t.inst t.rest t.doing) k.2 rep.is_where) in (
      _,
      has_more k.2 (after k.0 each.0),
      record {
        store = rep.store;
        ended = rep.ended;
        open_calls = (more_of c k.0 n each.0, each.1);
        is_where = is_where_too w x y m t.inst t.rest t.doing (more_fuel k.0 n ∷ k.1) refl refl refl refl refl is_where;
        waiting = subst (λ os. AllByRecursion (MayBegin t.inst) (behind_first os)) k.2 rep.waiting;
        counted = (record { pieces = one.pieces; fuel = omega arith }, counted.1);
        waiting_for = refl;
        fresh = fresh;
        dead = rep.dead;
      },
    )

-- it has fuel again
pub refuels_on : {M : Type 0} (w : Setting M) (x : HostInstanceState) (m : M) (t : Tenant) (n : ℕ) (c : JournalCallState) (cs : List JournalCallState) → x.journal.open_calls ≡ c ∷ cs → HasFuelAgain x.waiting_for (with_more_fuel c n) → RepresentsTenant w x m t
    → (t2 : Tenant) × Refuels t n t2 × RepresentsTenant w (record x { journal = record x.journal { open_calls = with_more_fuel c n ∷ cs }; waiting_for = None }) m t2
refuels_on w x m t n c cs at again rep = search (rules, refuels_to, min)

stands_as_before : (stands : Option code.Suspension) (c : JournalCallState) (e : Entry) (n : ℕ) → ¬ (HasFuelAgain stands (with_more_fuel c n)) → RepresentsCall c e → WaitsAfter (more_fuel e n).call (suspension_of stands) (suspension_of stands)
stands_as_before None c e n none r = refl
stands_as_before (Some stop.Frame) c e n none r = refl
stands_as_before (Some (stop.Device fault)) c e n none r = refl
stands_as_before (Some stop.Fuel) c e n none r = search rules

-- or is blocked on what it was blocked on
pub refuels_still : {M : Type 0} (w : Setting M) (x : HostInstanceState) (m : M) (t : Tenant) (n : ℕ) (c : JournalCallState) (cs : List JournalCallState) → x.journal.open_calls ≡ c ∷ cs → ¬ (HasFuelAgain x.waiting_for (with_more_fuel c n)) → RepresentsTenant w x m t
    → (t2 : Tenant) × Refuels t n t2 × RepresentsTenant w (record x { journal = record x.journal { open_calls = with_more_fuel c n ∷ cs } }) m t2
refuels_still w x m t n c cs at none rep = search (rules, refuels_to, stands_as_before)
