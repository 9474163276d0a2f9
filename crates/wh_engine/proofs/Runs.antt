-- What a drain comes to.
use Rattle.std.proofs.Common.{arith, ◌≡◌, ◌≢◌, ℕ, ◌+◌, ◌⊎◌, inl, inr, zero, suc, List, [], ◌∷◌, ◌++◌, map, get_or, slice_get, Option, Some, None, refl, ap, sym, subst, ◌∙◌, Bool, false, true, ⊎_elim}
use Rattle.std.specs.List.{AllZip}
use Rattle.std.proofs.lemmas.Option.{same_Some}
use Rattle.wh_space_model.specs.declared.plain.InstId.{InstId}
use Rattle.wh_space_model.specs.declared.plain.SwapError.{SwapError}
use Rattle.wh_space_model.specs.{tickets, Space, swap_number}
use Rattle.wh_host_model.specs.Host.Events as events
use Rattle.wh_host_model.specs.Host.{OnlyMoves, Suspension, for_fuel, for_frame, for_device, Tenant, World, tenant}
use Rattle.wh_host_model.specs.{Entry}
use Rattle.wh_script_model.specs.Settings.{Settings}
use Rattle.wh_script_model.specs.ScriptState as script
use Rattle.wh_script_model.specs.ScriptState.{ScriptState}
use Rattle.wh_script_model.specs.{RunsAmid, ZipAmid, gone_still, stands_still, runs_on, GoesNoFurther}
use Rattle.wh_reclaim.specs.Whole.{IsAsWhole}
use Rattle.wh_host.specs.Backing.{KeepsBacking}
use Rattle.wh_host.specs.Hosting.{HostState, IsHost}
use Rattle.wh_host.specs.Paging.{IsGoing}
use Rattle.wh_host.proofs.Hosts.{reached_on}
use Rattle.wh_cell.specs.LeftByOwner.{LeftState}
use Rattle.wh_cell.specs.Owning.{ComesOn}
use Rattle.wh_script_laws.specs.Following as follow
use Rattle.wh_script_laws.specs.Following.{IsPlaced, RunsKnown, StaysWhole}
use Rattle.wh_script_laws.specs.Laws.{AllServed, StandsForDevice}
use Rattle.wh_script_laws.proofs.Drains.{drains_begin, drains_end, moves_follow}
use Rattle.wh_scheduler.specs.InHand.{OwnedState, left_of}
use Rattle.wh_engine.specs.declared.parts.NamedInstance.{NamedInstance}
use Rattle.wh_engine.specs.Draining.{AllRest, DeviceHoldsAmid, DeviceMayFail, DeviceStaysTrue, RunsEach, StaysSo}
use Rattle.wh_engine.specs.RepresentedScript.{AreNamedInstances, ScriptHostState, IsNamedInstance, IsLed, RepresentsScript, LeavesOut, WholeState, whole_on, is_over}
use Rattle.wh_engine.proofs.Asked.{whole_of}
use Rattle.wh_engine.proofs.Touching.{placed_at}
use Rattle.wh_engine.proofs.Whole.{keeps_whole}
use Rattle.wh_engine.proofs.Worked.{works_known}
use Rattle.wh_engine.proofs.Again.{stands_again, stands_told}
use Rattle.wh_engine.proofs.Found.{over_released, pair_at}
use Rattle.wh_engine.proofs.Left.{kept_or_over}

-- ---- the device

-- none has served
pub true_same : {D : Type 0} (keeps honest : D → Type 0) (o : Option D) → DeviceStaysTrue keeps honest o o
true_same keeps honest None = tt
true_same keeps honest (Some d) = record { was_honest = λ h. h; goes_on = λ h. h; stays_honest = λ k h. h }

pub may_fail_same : {D : Type 0} (faults : D → List SwapError) (o : Option D) → DeviceMayFail faults o o
may_fail_same faults None = tt
may_fail_same faults (Some d) = ([], refl)

-- it has served while calls ran
pub true_on : {D : Type 0} (keeps honest : D → Type 0) (faults : D → List SwapError) (left now : LeftState D) → ComesOn keeps honest faults left now
    → DeviceStaysTrue keeps honest left.device now.device
true_on keeps honest faults left now on =
    let s = on.came.serves in
    subst (λ o. DeviceStaysTrue keeps honest o now.device) (sym on.came.left_it)
    (subst (λ o. DeviceStaysTrue keeps honest (Some on.came.before) o) (sym on.has)
    (record { was_honest = s.was_honest; goes_on = s.goes_on; stays_honest = s.stays_honest }))

-- and calls of it may have failed
pub may_fail_on : {D : Type 0} (keeps honest : D → Type 0) (faults : D → List SwapError) (left now : LeftState D) → ComesOn keeps honest faults left now
    → DeviceMayFail faults left.device now.device
may_fail_on keeps honest faults left now on =
    subst (λ o. DeviceMayFail faults o now.device) (sym on.came.left_it)
    (subst (λ o. DeviceMayFail faults (Some on.came.before) o) (sym on.has) (on.came.more, on.came.serves.added))

-- what holds of its faults where it has read right
holds_by : {D : Type 0} (keeps honest : D → Type 0) (faults : D → List SwapError) (left now : LeftState D) (holds : List ℕ → Type 0) (on : ComesOn keeps honest faults left now)
    → (honest on.device → holds (map swap_number on.came.more)) → DeviceHoldsAmid honest faults left.device now.device holds
holds_by keeps honest faults left now holds on so =
    subst (λ o. DeviceHoldsAmid honest faults o now.device holds) (sym on.came.left_it)
    (subst (λ o. DeviceHoldsAmid honest faults (Some on.came.before) o holds) (sym on.has) (λ right. (on.came.more, on.came.serves.added, so right)))

-- none has failed where none was called
pub holds_same : {D : Type 0} (honest : D → Type 0) (faults : D → List SwapError) (o : Option D) (holds : List ℕ → Type 0) → holds [] → DeviceHoldsAmid honest faults o o holds
holds_same honest faults None holds so = so
holds_same honest faults (Some d) holds so = λ right. ([], refl, so)

-- ---- one that can't go on

pub placed_there : (places : List ℕ) (ts : List (Option Tenant)) (i place : ℕ) (t : Tenant) → AllZip IsPlaced places ts → slice_get places i ≡ Some place → get_or ts i None ≡ Some t → t.place ≡ place
placed_there [] ts i place t h at e = absurd (cc at)
placed_there (p ∷ places) [] i place t h at e = absurd h
placed_there (p ∷ places) (o ∷ ts) zero place t h at e =
    let P : Option Tenant → Type 0 = λ x. IsPlaced p x in
    let here : t.place ≡ p = subst P e h.0 in
    here ∙ same_Some p place at
placed_there (p ∷ places) (o ∷ ts) (suc i) place t h at e = placed_there places ts i place t h.1 at e

-- an open call that can't go on waits for fuel, or for a fault of the device
stands_so : (e : Entry) (es : List Entry) (o : Option Suspension) → ¬ ((e ∷ es ≢ []) × ((o ≡ None) ⊎ (o ≡ Some for_frame)))
    → (o ≡ Some for_fuel) ⊎ ((fault : SwapError) × (o ≡ Some (for_device fault)))
stands_so e es None not = absurd (not ((λ (bad : e ∷ es ≡ []). cc bad), inl refl))
stands_so e es (Some for_fuel) not = inl refl
stands_so e es (Some for_frame) not = absurd (not ((λ (bad : e ∷ es ≡ []). cc bad), inr refl))
stands_so e es (Some (for_device fault)) not = inr (fault, refl)

served_by : (open_calls : List Entry) (o : Option Suspension) → ¬ ((open_calls ≢ []) × ((o ≡ None) ⊎ (o ≡ Some for_frame)))
    → ((open_calls ≡ []) ⊎ (o ≡ Some for_fuel)) ⊎ ((fault : SwapError) × (o ≡ Some (for_device fault)))
served_by [] o not = inl (inl refl)
served_by (e ∷ es) o not =
    ⊎_elim (λ (fuel : o ≡ Some for_fuel). inl (inr fuel)) (λ (device : (fault : SwapError) × (o ≡ Some (for_device fault))). inr device) (stands_so e es o not)

-- where nothing can run the instance, it is served, or is blocked on a device
is_served_at : (faults : List ℕ) (settings : Settings) (m : ScriptState) (places : List ℕ) (w : World) (id : InstId) (t : Tenant) → RunsKnown faults settings w m places
    → slice_get places id.number ≡ Some id.place → ¬ (IsGoing w id) → tenant w id.number ≡ Some t → GoesNoFurther t ⊎ StandsForDevice t
is_served_at faults settings m places w id t known at not there =
    served_by t.open_calls t.waiting_for
    (λ can. not (t, (there, placed_there places w.tenants id.number id.place t known.placed at there), can))

-- ---- all instances, by their numbers

abbrev pub places_of : WholeState → List ℕ
places_of e = map (λ (x : NamedInstance). x.id.place) e.instances

one_run : (faults : List ℕ) (k : ℕ) (x : NamedInstance) (g r : script.NamedInstance) → RunsAmid faults g r → IsNamedInstance k x g → IsNamedInstance k x r
one_run faults k x g _ (gone_still gone) is = is
one_run faults k x g _ (stands_still live stands) is = is
one_run faults k x g _ (runs_on live faultless come replay rest) is =
    record { number = is.number; name = is.name; starts = is.starts; released = is.released; last_printed = is.last_printed }

name_run : (faults : List ℕ) (g r : script.NamedInstance) → RunsAmid faults g r → r.name ≡ g.name
name_run faults g _ (gone_still gone) = refl
name_run faults g _ (stands_still live stands) = refl
name_run faults g _ (runs_on live faultless come replay rest) = refl

run_keeps : (faults : List ℕ) (k : ℕ) (xs : List NamedInstance) (gs run : List script.NamedInstance) → ZipAmid RunsAmid faults gs run → AreNamedInstances k xs gs → AreNamedInstances k xs run
run_keeps faults k [] [] [] all are = tt
run_keeps faults k [] [] (r ∷ run) all are = absurd all
run_keeps faults k [] (g ∷ gs) run all are = absurd are
run_keeps faults k (x ∷ xs) [] run all are = absurd are
run_keeps faults k (x ∷ xs) (g ∷ gs) [] all are = absurd all
run_keeps faults k (x ∷ xs) (g ∷ gs) (r ∷ run) all are = (one_run all.0 k x g r all.3 are.0, run_keeps all.1 (k + 1) xs gs run all.4 are.1)

names_run : (faults : List ℕ) (gs run : List script.NamedInstance) → ZipAmid RunsAmid faults gs run → map (λ (g : script.NamedInstance). g.name) run ≡ map (λ (g : script.NamedInstance). g.name) gs
names_run faults [] [] all = refl
names_run faults [] (r ∷ run) all = absurd all
names_run faults (g ∷ gs) [] all = absurd all
names_run faults (g ∷ gs) (r ∷ run) all = ap (λ ns. r.name ∷ ns) (names_run all.1 gs run all.4) ∙ ap (λ n. n ∷ map (λ (z : script.NamedInstance). z.name) gs) (name_run all.0 g r all.3)

lives_so : (faults : List ℕ) (w : World) (g : script.NamedInstance) (o : Option Tenant) (t : Tenant) → follow.IsFollowed follow.ComeFurther (follow.StandsAmid faults) w g o → o ≡ Some t → g.is_released ≡ false
lives_so faults w g _ t (follow.is_there tenancy calls sound) e = tenancy.is_live
lives_so faults w g _ t (follow.is_gone gone) e = absurd (cc e)

-- who has a number is an instance of the script that lives
lives_at : (faults : List ℕ) (w : World) (gs : List script.NamedInstance) (ts : List (Option Tenant)) (i : ℕ) (t : Tenant) → follow.AreRunAmid faults w gs ts → get_or ts i None ≡ Some t
    → (g : script.NamedInstance) × (slice_get gs i ≡ Some g) × (g.is_released ≡ false)
lives_at faults w [] [] i t h e = absurd (cc e)
lives_at faults w [] (o ∷ ts) i t h e = absurd h
lives_at faults w (g ∷ gs) [] i t h e = absurd h
lives_at faults w (g ∷ gs) (o ∷ ts) zero t h e = (g, refl, lives_so h.0 w g o t h.3 e)
lives_at faults w (g ∷ gs) (o ∷ ts) (suc i) t h e = lives_at h.1 w gs ts i t h.4 e

-- where none of them can go on, nobody has a call that can
all_served : (faults : List ℕ) (settings : Settings) (m : ScriptState) (e : WholeState) (kept : List NamedInstance) (h2 : HostState) (w2 : World) → AreNamedInstances 0 e.instances m.instances → LeavesOut is_over kept e.instances → IsHost h2 w2
    → RunsKnown faults settings w2 m (places_of e) → AllRest h2 kept → AllServed w2
all_served faults settings m e kept h2 w2 are leaves is2 known rest i t there =
    let g = lives_at faults w2 m.instances w2.tenants i t known.instances there in
    let d = pair_at 0 e.instances m.instances i g.0 are g.1 in
    let x = d.0 in
    let number : x.id.number ≡ i = let n : x.id.number ≡ 0 + i = d.2.number in omega (arith, n) in
    ⊎_elim
    (λ (k : (at : ℕ) × (slice_get kept at ≡ Some x)).
    is_served_at faults settings m (places_of e) w2 x.id t known
    (ap (slice_get (places_of e)) number ∙ placed_at e.instances i x d.1) (rest k.0 x k.1 w2 is2)
    (ap (tenant w2) number ∙ there))
    (λ (over : is_over x ≡ true). absurd (cc (over_released x over, d.2.released, g.2)))
    (kept_or_over leaves i x d.1)

-- then all have run
ran_so : {D : Type 0} (faults : List ℕ) (settings : Settings) (m : ScriptState) (e : ScriptHostState D) (o2 : OwnedState D) (lacked : Bool) (w2 : World)
    (s : RepresentsScript settings e m) → IsLed o2.host w2 → RunsKnown faults settings w2 m (map (λ (x : NamedInstance). x.id.place) s.instances)
    → AllRest o2.host e.instances → (run : List script.NamedInstance) × ZipAmid RunsAmid faults m.instances run
    × RepresentsScript settings (record e { host = o2; lacked_threads = lacked }) (record m { instances = run; faults_met = faults ++ m.faults_met })
ran_so faults settings m e o2 lacked w2 s led known rest =
    let whole = whole_on e s.instances s.invoked in
    let reached = led.1 in
    let all = all_served faults settings m whole e.instances o2.host w2 s.stands.instances s.kept led.0 known rest in
    let end = drains_end reached.frames reached.slots reached.tax reached.events w2 reached.happen faults settings m (places_of whole) known all in (
      end.0,
      end.1,
      stands_told settings (record e { host = o2 }) (record m { instances = end.0; faults_met = faults ++ m.faults_met }) lacked
          (stands_again settings e m (record m { instances = end.0; faults_met = faults ++ m.faults_met }) o2 s
          (record {
            world = w2;
            is = led;
            knows = end.2;
            module_names = s.stands.module_names;
            instance_names = s.stands.instance_names ∙ sym (names_run faults m.instances end.0 end.1);
            apart = s.stands.apart;
            instances = run_keeps faults 0 s.instances m.instances end.0 end.1 s.stands.instances;
            invoked = s.stands.invoked;
          })),
    )

-- ---- a drain

-- none could go on from the beginning
ran_at_once : {D : Type 0} (e : ScriptHostState D) → AllRest e.host.host e.instances → RunsEach e e []
ran_at_once e rest settings m s =
    ran_so [] settings m e e.host e.lacked_threads s.stands.world s s.stands.is (drains_begin settings s.stands.world m _ s.stands.knows) rest

pub ran_nobody : {D : Type 0} (honest : D → Type 0) (faults : D → List SwapError) (e : ScriptHostState D) → AllRest e.host.host e.instances
    → DeviceHoldsAmid honest faults e.host.device e.host.device (RunsEach e e)
ran_nobody honest faults e rest = holds_same honest faults e.host.device (RunsEach e e) (ran_at_once e rest)

whole_moves : (s s2 : Space) → IsAsWhole s s2 → tickets s ≡ 0 → tickets s2 ≡ 0 → StaysWhole s s2
whole_moves s s2 whole none none2 = record { frames = whole.frames; slots = whole.slots; tax = whole.tax; none_out = none2 ∙ sym none }

-- work has brought all so far that none can go on
ran_right : {D : Type 0} (keeps honest : D → Type 0) (faults : D → List SwapError) (e : ScriptHostState D) (o2 : OwnedState D) (lacked : Bool)
    (on : ComesOn keeps honest faults (left_of e.host) (left_of o2))
    → tickets o2.host.space ≡ 0 → AllRest o2.host e.instances → honest on.device
    → RunsEach e (record e { host = o2; lacked_threads = lacked }) (map swap_number on.came.more)
ran_right keeps honest faults e o2 lacked on none rest right settings m s =
    let c = on.came in
    let met = map swap_number c.more in
    let w = s.stands.world in
    let h = e.host.host in
    let h2 = o2.host in
    let places = map (λ (x : NamedInstance). x.id.place) s.instances in
    let did = c.right right w s.stands.is.0 in
    let w2 = did.0 in
    let before : tickets h.space ≡ 0 = ap (λ (z : Space). tickets z) s.stands.is.0.space ∙ s.stands.knows.none_out in
    let whole = whole_of h h2 w w2 s.stands.is.0 did.2 (whole_moves h.space h2.space c.whole before none) in
    let begun = drains_begin settings w m places s.stands.knows in
    let known = works_known c.more settings w w2 m places s.stands.is.1 did.1 whole begun in
    ran_so met settings m e o2 lacked w2 s (did.2, known.0) known.1 rest

-- pages alone had moved before
runs_after : {D : Type 0} (e e1 e2 : ScriptHostState D) (faults : List ℕ) → StaysSo e e1 → RunsEach e1 e2 faults → RunsEach e e2 faults
runs_after e e1 e2 faults stays runs settings m s = runs settings m (stays settings m s)

pub ran_each : {D : Type 0} (keeps honest : D → Type 0) (faults : D → List SwapError) (before mid e : ScriptHostState D) (o2 : OwnedState D)
    (lacked : Bool) → e ≡ mid → ComesOn keeps honest faults (left_of e.host) (left_of o2)
    → StaysSo before mid → mid.host.device ≡ before.host.device → tickets o2.host.space ≡ 0 → AllRest o2.host e.instances
    → DeviceHoldsAmid honest faults before.host.device o2.device (RunsEach before (record e { host = o2; lacked_threads = lacked }))
ran_each {D} keeps honest faults before mid e o2 lacked view on stays same none rest =
    subst (λ o. DeviceHoldsAmid honest faults o o2.device (RunsEach before (record e { host = o2; lacked_threads = lacked })))
    (ap (λ (x : ScriptHostState D). x.host.device) view ∙ same)
    (holds_by keeps honest faults (left_of e.host) (left_of o2) (RunsEach before (record e { host = o2; lacked_threads = lacked })) on
    (λ right. runs_after before e (record e { host = o2; lacked_threads = lacked }) (map swap_number on.came.more)
    (subst (λ x. StaysSo before x) (sym view) stays) (ran_right keeps honest faults e o2 lacked on none rest right)))

-- ---- pages move, or nothing does

pub stays_same : {D : Type 0} (e e2 : ScriptHostState D) → e2 ≡ e → StaysSo e e2
stays_same e e2 same settings m s = subst (λ x. RepresentsScript settings x m) (sym same) s

pub stays_so : {D : Type 0} (e : ScriptHostState D) (o2 : OwnedState D) → ((w : World) → IsHost e.host.host w → (w2 : World) × OnlyMoves w w2 × IsHost o2.host w2)
    → KeepsBacking e.host.host.space o2.host.space → StaysSo e (record e { host = o2 })
stays_so e o2 moves keeps settings m s =
    let w = s.stands.world in
    let did = moves w s.stands.is.0 in
    let reached = s.stands.is.1 in
    stands_again settings e m m o2 s
    (record {
      world = did.0;
      is = (did.2, reached_on w did.0 events.epoch reached did.1);
      knows = (moves_follow reached.frames reached.slots reached.tax reached.events w reached.happen [] settings m (map (λ (x : NamedInstance). x.id.place) s.instances) did.0 did.1
          (whole_of e.host.host o2.host w did.0 s.stands.is.0 did.2 (keeps_whole e.host.host.space o2.host.space keeps))).0 s.stands.knows;
      module_names = s.stands.module_names;
      instance_names = s.stands.instance_names;
      apart = s.stands.apart;
      instances = s.stands.instances;
      invoked = s.stands.invoked;
    })

pub stays_told : {D : Type 0} (e : ScriptHostState D) (o2 : OwnedState D) (lacked : Bool)
    → ((w : World) → IsHost e.host.host w → (w2 : World) × OnlyMoves w w2 × IsHost o2.host w2)
    → KeepsBacking e.host.host.space o2.host.space → StaysSo e (record e { host = o2; lacked_threads = lacked })
stays_told e o2 lacked moves keeps settings m s = stands_told settings (record e { host = o2 }) m lacked (stays_so e o2 moves keeps settings m s)
