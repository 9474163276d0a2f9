-- What pages that move leave of the host for which the code's host stands.
use Rattle.std.proofs.Common.{◌≡◌, ◌≢◌, ℕ, zero, suc, ◌⊎◌, inl, Bool, true, false, List, [], ◌∷◌, Option, Some, None, get_or, slice_get, slice_set, refl, sym, subst, ◌∙◌}
use Rattle.std.specs.Bool.{MatchBool}
use Rattle.wh_model.specs.declared.memory.Need.{Need}
use Rattle.wh_space_model.specs.declared.plain.InstId.{InstId}
use Rattle.wh_space_model.specs.declared.plain.SwapError.{SwapError}
use Rattle.wh_space_model.specs.{tickets, Occupant, Space, need_of, view, wants, FailsToProvide, FailsTruly, Provides, ProvidesTruly, IsSound, WaitsForBytes}
use Rattle.wh_host_model.specs.Host.{Event, provide, AwaitsFrame, IsLive, MovesPages, OnlyMoves, has_failed, moved, AllLeftAlone, Tenant, World, for_device, with_tenant, AllSeeAsMany, IsMisread, SeesAsMany}
use Rattle.wh_host_model.specs.Host.Happens.{Happens}
use Rattle.wh_host_model.proofs.Host.Bridges.{failures_leave_all, provisions_leave_all}
use Rattle.wh_host_model.proofs.Host.Lasting.{frames_are_awaited}
use Rattle.wh_host_model.proofs.Host.Leaving.{left_then}
use Rattle.wh_host_model.proofs.Host.AsMany.{failures_see_as_many, provisions_see_as_many}
use Rattle.wh_machine.specs.MachineRuns.{linked_parts}
use Rattle.wh_instance.specs.OwnerRequests.{AwaitsNoFrame, FailsTenant, OfAnyTenant}
use Rattle.wh_instance.specs.Tenancy.{IsTenant, HostInstanceState}
use Rattle.wh_host.specs.declared.parts.LoadedModule.{LoadedModule}
use Rattle.wh_host.specs.declared.parts.InstanceEntry.{InstanceEntry}
use Rattle.wh_host.specs.Hosting.{HostState, IsHost, IsEntryOf, entry_at}
use Rattle.wh_host.specs.Paging.{WaitsFor}
use Rattle.wh_host.proofs.Hosts.{changed, found, nobody, of_who_is_there, one_value, comes_on, misread_on, same_owner, somebody_else}
use Rattle.wh_host.proofs.Requests.{moved_host, sound_here}
use Rattle.wh_host.proofs.Viewing.{represents_on}

-- ---- who waits

pub stands_there : (s : Space) (i : ℕ) (need : Need) → wants s i ≡ Some need → WaitsForBytes s i need
stands_there s i need e = rows s.occupants i e where
  live : (t : Occupant) (b : Bool) → t.live ≡ b → need_of (Some t) ≡ Some need → (t.live ≡ true) × (t.stands ≡ Some need)
  live t true is e = (is, let z : need_of (Some t) ≡ t.stands = rw is refl in sym z ∙ e)
  live t false is e = absurd (let z : need_of (Some t) ≡ None = rw is refl in let bad : None ≡ Some need = sym z ∙ e in cc bad)

  rows : (xs : List (Option Occupant)) (i : ℕ) → need_of (get_or xs i None) ≡ Some need → (t : Occupant) × (slice_get xs i ≡ Some (Some t)) × (t.live ≡ true) × (t.stands ≡ Some need)
  rows [] i e = absurd (let bad : None ≡ Some need = e in cc bad)
  rows (None ∷ xs) zero e = absurd (let bad : None ≡ Some need = e in cc bad)
  rows (Some t ∷ xs) zero e = let h = live t t.live refl e in (t, refl, h.0, h.1)
  rows (x ∷ xs) (suc i) e = rows xs i e

-- whoever waits for a frame wants bytes
pub awaited : (h : HostState) (w : World) (id : InstId) (t : Tenant) → IsHost h w → IsLive w id t → AwaitsFrame t → (need : Need) × (wants w.space id.place ≡ Some need)
awaited h w id t st live waits =
    let some = frames_are_awaited w st.comes id.number t live.0 waits in
    (some.0, subst (λ i. wants w.space i ≡ Some some.0) live.1 some.1)

pub waits_there : (h : HostState) (w : World) (id : InstId) (x : InstanceEntry) → IsHost h w → entry_at h.entries id.place ≡ Some x → x.number ≡ Some id.number → OfAnyTenant x.tenant (λ l limit bytes t. AwaitsFrame t) → (need : Need) × WaitsFor h id need
waits_there h w id x st at number asked =
    let who = of_who_is_there h w id x AwaitsFrame st at number asked in
    let need = awaited h w id who.0 st who.1 who.2 in
    (need.0, (w, st, who, need.1))

pub waits_stands : (h : HostState) (id : InstId) (need : Need) → WaitsFor h id need → WaitsForBytes h.space id.place need
waits_stands h id need (w, st, who, wanted) = subst (λ s. WaitsForBytes s id.place need) (sym st.space) (stands_there w.space id.place need wanted)

pub no_one_waits : (h : HostState) (id : InstId) (need : Need) → entry_at h.entries id.place ≡ None → ¬ (WaitsFor h id need)
no_one_waits h id need none (w, st, who, wanted) = nobody h w id st none who.0 who.1

pub another_waits : (h : HostState) (id : InstId) (need : Need) (x : InstanceEntry) → entry_at h.entries id.place ≡ Some x → x.number ≢ Some id.number → ¬ (WaitsFor h id need)
another_waits h id need x at other (w, st, who, wanted) = somebody_else h w id x st at other who.0 who.1

-- the instance of a number is one
pub same_tenant : (w : World) (id : InstId) (t u : Tenant) → IsLive w id t → IsLive w id u → t ≡ u
same_tenant w id t u a b = one_value t u (sym a.0 ∙ b.0)

pub nothing_waits : (h : HostState) (id : InstId) (need : Need) (x : InstanceEntry) → entry_at h.entries id.place ≡ Some x → x.number ≡ Some id.number → OfAnyTenant x.tenant (λ l limit bytes t. ¬ (AwaitsFrame t)) → ¬ (WaitsFor h id need)
nothing_waits h id need x at number none (w, st, who, wanted) =
    let mine = of_who_is_there h w id x (λ t. ¬ (AwaitsFrame t)) st at number none in
    mine.2 (subst AwaitsFrame (same_tenant w id who.0 mine.0 who.1 mine.1) who.2)

-- whether it is told so
pub told_of : (h : HostState) (w : World) (id : InstId) (x : InstanceEntry) (told : Bool) (P : Tenant → Type 0) → IsHost h w → entry_at h.entries id.place ≡ Some x → x.number ≡ Some id.number → OfAnyTenant x.tenant (λ l limit bytes t. MatchBool told (P t) (¬ (P t)))
    → MatchBool told ((t : Tenant) × IsLive w id t × P t) (¬ ((t : Tenant) × IsLive w id t × P t))
told_of h w id x true P st at number asked = of_who_is_there h w id x P st at number asked
told_of h w id x false P st at number asked =
    let mine = of_who_is_there h w id x (λ t. ¬ (P t)) st at number asked in
    λ some. mine.2 (subst P (same_tenant w id some.0 mine.0 some.1 mine.1) some.2)

-- ---- pages move

pub alone_on : (a b c : Space) → AllLeftAlone a b → AllLeftAlone b c → AllLeftAlone a c
alone_on a b c first second = (
  λ j. left_then (first.0 j) (second.0 j),
  second.1,
)

pub moved_as : (h : HostState) (w : World) (id : InstId) (awaits : Tenant → Type 0) (fault : Option SwapError) (e : Event) (s2 : Space) → (st : IsHost h w) → AllLeftAlone w.space s2 → (fault ≡ None) ⊎ ((t : Tenant) → IsLive w id t → ¬ (awaits t))
    → ((w2 : World) → MovesPages w id awaits fault w2 → Happens w e w2) → (w2 : World) × MovesPages w id awaits fault w2 × IsHost (record h { space = s2 }) w2
moved_as h w id awaits fault e s2 st same none happens =
    let w2 : World = record w { space = s2 } in
    let moves : MovesPages w id awaits fault w2 = moved same none in
    (w2, moves, moved_host h w s2 st same (comes_on w w2 e st.comes (happens w2 moves)))

-- a fault is kept
abbrev pub KeepsFaultAt : HostInstanceState → (Tenant → Type 0) → SwapError → HostInstanceState → Type 0
KeepsFaultAt x awaits fault z = OfAnyTenant x (λ l limit bytes t. awaits t × IsTenant l limit z bytes (record t { waiting_for = Some (for_device fault) }))

pub fault_here : (h : HostState) (w : World) (id : InstId) (x : InstanceEntry) (z : HostInstanceState) (awaits : Tenant → Type 0) (fault : SwapError) (e : Event) (s2 : Space) → (st : IsHost h w) → entry_at h.entries id.place ≡ Some x → x.number ≡ Some id.number → AllLeftAlone w.space s2
    → KeepsFaultAt x.tenant awaits fault z → ((w2 : World) → MovesPages w id awaits (Some fault) w2 → Happens w e w2)
    → (w2 : World) × MovesPages w id awaits (Some fault) w2 × IsHost (record h { entries = slice_set h.entries id.place (Some (record x { tenant = z })); space = s2 }) w2
fault_here h w id x z awaits fault e s2 st at number same keeps happens =
    let f = found h w id.place id.number x st at number in
    let made = keeps f.is.loaded.linked x.page_limit (view w.space f.t.place) f.t f.is.is in
    let t2 : Tenant = record f.t { waiting_for = Some (for_device fault) } in
    let y : InstanceEntry = record x { tenant = z } in
    let sees : view s2 f.t.place ≡ view w.space f.t.place = (same.0 f.t.place).view in
    let over : IsTenant f.is.loaded.linked x.page_limit z (view s2 t2.place) t2 = subst (λ b. IsTenant f.is.loaded.linked x.page_limit z b t2) (sym sees) made.1 in
    let represents = same_owner h.modules x w.space s2 id.number f.t t2 z f.is refl refl refl over in
    let w2 = with_tenant w id.number (Some t2) s2 in
    let moves : MovesPages w id awaits (Some fault) w2 = has_failed same refl (f.live, f.at) made.0 in
    (w2, moves, changed h w id.place id.number x y t2 s2 st at number f.at represents (λ j other. (same.0 j).view) (comes_on w w2 e st.comes (happens w2 moves)))

-- that of the present call, where it waits for a frame
pub keeps_fault : (x z : HostInstanceState) (fault : SwapError) (told : Bool) → (told ≡ true → FailsTenant x fault z) → (told ≡ false → AwaitsNoFrame x × (z ≡ x)) → OfAnyTenant x (λ l limit bytes t. AwaitsFrame t) → KeepsFaultAt x AwaitsFrame fault z
keeps_fault x z fault true some none waits l limit bytes t is = some refl l limit bytes t is
keeps_fault x z fault false some none waits l limit bytes t is = absurd ((none refl).0 l limit bytes t is (waits l limit bytes t is))

-- ---- other bytes come

resident_on : (modules : List (Option LoadedModule)) (x : InstanceEntry) (s s2 : Space) (i : ℕ) (t : Tenant) → SeesAsMany t.place s s2 → IsEntryOf modules x s i t → IsEntryOf modules x s2 i t
resident_on modules x s s2 i t alike r = record {
  number = r.number;
  of = r.of;
  loaded = r.loaded;
  is_loaded = r.is_loaded;
  numbered = r.numbered;
  given = r.given;
  limit = r.limit;
  copied = r.copied;
  is = represents_on (linked_parts r.loaded.linked) x.page_limit (view s t.place) (view s2 t.place) alike.many x.tenant t r.is;
}

pub misread_host : (h : HostState) (w : World) (s2 : Space) → IsHost h w → AllSeeAsMany w.space s2 → IsHost (record h { space = s2 }) (record w { space = s2 })
misread_host h w s2 st same = record {
  comes = misread_on w (record w { space = s2 }) st.comes (s2, same, refl);
  modules = st.modules;
  space = refl;
  live = st.live;
  next = st.next;
  next_module = st.next_module;
  there = λ i t e. let f = st.there i t e in (f.0, f.1, resident_on h.modules f.0 w.space s2 i t (same.0 t.place) f.2);
  all = st.all;
}

pub all_stay : (s : Space) → IsSound s → AllLeftAlone s s
all_stay s sound = (λ j. record { view = refl; wants = refl; claim = refl; promise = inl refl }, sound)

-- ---- a provision

pub alone_in : (h : HostState) (w : World) (s2 : Space) → IsHost h w → AllLeftAlone h.space s2 → AllLeftAlone w.space s2
alone_in h w s2 st same = subst (λ s. AllLeftAlone s s2) st.space same

pub sound_in : (h : HostState) (w : World) → IsHost h w → IsSound h.space
sound_in h w st = subst IsSound (sym st.space) (sound_here h w st)

pub provided_here : (h : HostState) (w : World) (id : InstId) (x : InstanceEntry) (left : ℕ) (s2 : Space) → (st : IsHost h w) → entry_at h.entries id.place ≡ Some x → x.number ≡ Some id.number → OfAnyTenant x.tenant (λ l limit bytes t. AwaitsFrame t) → tickets h.space ≡ 0
    → ((need : Need) → WaitsForBytes h.space id.place need → ProvidesTruly h.space id.place need left s2) → (w2 : World) × MovesPages w id AwaitsFrame None w2 × IsHost (record h { space = s2 }) w2
provided_here h w id x left s2 st at number waits none made =
    let need = waits_there h w id x st at number waits in
    let stands = waits_stands h id need.0 need.1 in
    let same = alone_in h w s2 st (provisions_leave_all h.space id.place need.0 left s2 (sound_in h w st) none stands (made need.0 stands)) in
    moved_as h w id AwaitsFrame None (provide id None) s2 st same (inl refl) (λ w2 moves. moves)

pub failed_here : (h : HostState) (w : World) (id : InstId) (x : InstanceEntry) (z : HostInstanceState) (fault : SwapError) (s2 : Space) → (st : IsHost h w) → entry_at h.entries id.place ≡ Some x → x.number ≡ Some id.number → OfAnyTenant x.tenant (λ l limit bytes t. AwaitsFrame t) → tickets h.space ≡ 0
    → ((need : Need) → WaitsForBytes h.space id.place need → FailsTruly h.space id.place need s2) → KeepsFaultAt x.tenant AwaitsFrame fault z
    → (w2 : World) × MovesPages w id AwaitsFrame (Some fault) w2 × IsHost (record h { entries = slice_set h.entries id.place (Some (record x { tenant = z })); space = s2 }) w2
failed_here h w id x z fault s2 st at number waits none made keeps =
    let need = waits_there h w id x st at number waits in
    let stands = waits_stands h id need.0 need.1 in
    let same = alone_in h w s2 st (failures_leave_all h.space id.place need.0 s2 (sound_in h w st) none stands (made need.0 stands)) in
    fault_here h w id x z AwaitsFrame fault (provide id (Some fault)) s2 st at number same keeps (λ w2 moves. moves)

-- ---- whatever bytes the device gives

pub as_many_in : (h : HostState) (w : World) (s2 : Space) → IsHost h w → AllSeeAsMany h.space s2 → AllSeeAsMany w.space s2
as_many_in h w s2 st same = subst (λ s. AllSeeAsMany s s2) st.space same

pub nothing_anyhow : (h : HostState) (w : World) (id : InstId) (awaits : Tenant → Type 0) → (st : IsHost h w) → (mid w2 : World) × IsMisread w mid × MovesPages mid id awaits None w2 × IsHost h w2
nothing_anyhow h w id awaits st =
    let sound = sound_here h w st in
    (w, w, (w.space, (λ j. record { many = refl; wants = refl; claim = refl; promise = inl refl }, sound), refl), moved (all_stay w.space sound) (inl refl), st)

pub provided_anyhow : (h : HostState) (w : World) (id : InstId) (x : InstanceEntry) (left : ℕ) (s2 : Space) → (st : IsHost h w) → entry_at h.entries id.place ≡ Some x → x.number ≡ Some id.number → OfAnyTenant x.tenant (λ l limit bytes t. AwaitsFrame t) → tickets h.space ≡ 0
    → ((need : Need) → WaitsForBytes h.space id.place need → Provides h.space id.place need left s2) → (mid w2 : World) × IsMisread w mid × MovesPages mid id AwaitsFrame None w2 × IsHost (record h { space = s2 }) w2
provided_anyhow h w id x left s2 st at number waits none made =
    let need = waits_there h w id x st at number waits in
    let stands = waits_stands h id need.0 need.1 in
    let same = as_many_in h w s2 st (provisions_see_as_many h.space id.place need.0 left s2 (sound_in h w st) none stands (made need.0 stands)) in
    let mid : World = record w { space = s2 } in
    (mid, mid, (s2, same, refl), moved (all_stay s2 same.1) (inl refl), misread_host h w s2 st same)

pub failed_anyhow : (h : HostState) (w : World) (id : InstId) (x : InstanceEntry) (z : HostInstanceState) (fault : SwapError) (s2 : Space) → (st : IsHost h w) → entry_at h.entries id.place ≡ Some x → x.number ≡ Some id.number → OfAnyTenant x.tenant (λ l limit bytes t. AwaitsFrame t) → tickets h.space ≡ 0
    → ((need : Need) → WaitsForBytes h.space id.place need → FailsToProvide h.space id.place need s2) → KeepsFaultAt x.tenant AwaitsFrame fault z
    → (mid w2 : World) × IsMisread w mid × MovesPages mid id AwaitsFrame (Some fault) w2 × IsHost (record h { entries = slice_set h.entries id.place (Some (record x { tenant = z })); space = s2 }) w2
failed_anyhow h w id x z fault s2 st at number waits none made keeps =
    let need = waits_there h w id x st at number waits in
    let stands = waits_stands h id need.0 need.1 in
    let same = as_many_in h w s2 st (failures_see_as_many h.space id.place need.0 s2 (sound_in h w st) none stands (made need.0 stands)) in
    let mid : World = record w { space = s2 } in
    let h2 : HostState = record h { space = s2 } in
    let there = misread_host h w s2 st same in
    let kept = fault_here h2 mid id x z AwaitsFrame fault (provide id (Some fault)) s2 there at number (all_stay s2 same.1) keeps (λ w2 moves. moves) in
    (mid, kept.0, (s2, same, refl), kept.1, kept.2)

-- nothing is done
pub nothing_moves : (h : HostState) (w : World) (id : InstId) (awaits : Tenant → Type 0) → (st : IsHost h w) → (w2 : World) × MovesPages w id awaits None w2 × IsHost h w2
nothing_moves h w id awaits st = (w, moved (λ j. record { view = refl; wants = refl; claim = refl; promise = inl refl }, sound_here h w st) (inl refl), st)

pub only_moved : (h : HostState) (w : World) (e : Event) (s2 : Space) → (st : IsHost h w) → AllLeftAlone w.space s2 → ((w2 : World) → OnlyMoves w w2 → Happens w e w2) → (w2 : World) × OnlyMoves w w2 × IsHost (record h { space = s2 }) w2
only_moved h w e s2 st same happens =
    let w2 : World = record w { space = s2 } in
    let moves : OnlyMoves w w2 = (s2, same, refl) in
    (w2, moves, moved_host h w s2 st same (comes_on w w2 e st.comes (happens w2 moves)))

pub only_nothing : (h : HostState) (w : World) → (st : IsHost h w) → (w2 : World) × OnlyMoves w w2 × IsHost h w2
only_nothing h w st = (w, (w.space, (λ j. record { view = refl; wants = refl; claim = refl; promise = inl refl }, sound_here h w st), refl), st)
