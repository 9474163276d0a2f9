-- What calls, ends of calls, epochs, modules and releases leave of the host for which the code's host stands.
use Rattle.std.proofs.Common.{true, ◌≡◌, ◌≢◌, ℕ, zero, suc, ◌+◌, ◌<◌, ◌⊎◌, ⊎_elim, inl, inr, ◌≤◌, ℤ, Option, Some, None, List, [], ◌∷◌, ◌++◌, length, map, get_or, slice_get, slice_set, refl, sym, ap, subst, ◌∙◌, arith}
use Rattle.std.proofs.lemmas.List.{get_or-set_other, length-append}
use Rattle.wh_model.specs.Linking.{IsAccepted, IsModule}
use Rattle.wh_model.specs.declared.faults.FaultKind.{FaultKind}
use Rattle.wh_model.specs.declared.faults.FaultKind.TheVariants.{Magic, Version, Truncated, SectionOrder, SectionSize, Leb, Utf8, UnknownByte, Float, Unsupported, Limit, CountMismatch, Memory as NoRoom}
use Rattle.wh_model.specs.declared.faults.ValidKind.{ValidKind}
use Rattle.wh_model.specs.declared.faults.ValidKind.TheVariants.{BadType, Index, Align, Arity, Const, DuplicateExport, Start, Limits, Height, ConstImmutable, Memory as NoRoomToCheck}
use Rattle.wh_model.specs.Format.{Module}
use Rattle.wh_model.specs.Validity.Valid.{Valid}
use Rattle.wh_model.specs.Validity.{Fits}
use Rattle.wh_imports.specs.declared.error.LinkError.{LinkError}
use Rattle.wh_imports.specs.declared.error.LinkError.TheVariants.{NoItem, Memory as NoRoomToLink}
use Rattle.wh_imports.specs.LinkRefusals.{RefusesLink}
use Rattle.wh_load.specs.declared.error.LoadError.{LoadError}
use Rattle.wh_load.specs.declared.error.LoadError.TheVariants.{Decode, Valid as Invalid, Link}
use Rattle.wh_load.specs.Refusing.{RefusesBytes}
use Rattle.wh_host.specs.Loading.{IsBytesAnswer, IsLinkAnswer, KeepsModule}
use Rattle.wh_space_model.specs.declared.plain.InstId.{InstId}
use Rattle.wh_space_model.specs.{Space, Occupant, claim, occupant_at, view, IsSound, Epochs, ended, Exits, HasNoPins}
use Rattle.wh_host_model.specs.Host.{AllLeftAlone, Departs, OthersLeftAlone, WaitsAlone, Tenant, Loaded, World, tenant, with_tenant, promised, loaded_of, IsFirst, Meets, TakesCall, Cancels, IsUnused, LetsModuleGo, LoadsModule, LetsGo, module_count, IsUnload, is_in_use, is_unloaded, no_module_to_unload, unload, unload_in_use, unload_no_module, unload_ok, broken, invalid, unlinked, modules_full, decoder_out_of_memory, validator_out_of_memory, linker_out_of_memory, host_out_of_memory, epoch, invoke, cancel, load, release, IsLive, OnlyMoves, IsCancel, is_cancelled, IsInvoke, is_invoked, isnt_invoked, no_memory_to_invoke, invoke_ok, call_ok, LoadAnswer, load_refused, load_out_of_memory, IsLoad, is_loaded, isnt_loaded, no_memory_to_load, load_ok, IsRelease, is_released, ComesAbout}
use Rattle.wh_host_model.specs.Host.OwnerCalls.{ends}
use Rattle.wh_host_model.specs.{InvokeFault}
use Rattle.wh_host_model.proofs.Host.Bridges.{ends_well, epochs_leave_all, exits_depart}
use Rattle.wh_host_model.proofs.Host.Lasting.{memory_stays_sound}
use Rattle.wh_imports.specs.LinkedState.{LinkedState}
use Rattle.wh_load.specs.Refusing.{view_linked}
use Rattle.wh_instance.specs.declared.error.InvokeError.{InvokeError}
use Rattle.wh_instance.specs.OwnerRequests.{CancelsTenant}
use Rattle.wh_instance.specs.Invoked.{InvokesTenant, RefusesInvoke, RefusesCallFor, IsSomeTenant, refusal_of}
use Rattle.wh_instance.specs.Seen.{HasOutput}
use Rattle.wh_instance.specs.Tenancy.{IsTenant, HostInstanceState}
use Rattle.wh_host.specs.declared.parts.LoadedModule.{LoadedModule}
use Rattle.wh_host.specs.declared.parts.InstanceEntry.{InstanceEntry}
use Rattle.wh_host.specs.CallRequests.{refusal_answer}
use Rattle.wh_host.specs.Entries.{PlaceIsLeft}
use Rattle.wh_host.specs.declared.parts.ModuleRef.{ModuleRef}
use Rattle.wh_host.specs.ModuleLists.{HasNoRef, HasRef, HasRefAt, Rise}
use Rattle.wh_host.specs.Unloading.{HasUser, LeavesModule}
use Rattle.wh_host.specs.Hosting.{HostState, IsEntryOf, IsHost, loaded_as, entry_at, module_in}
use Rattle.wh_host.proofs.Turns.{claimed_there}
use Rattle.wh_host.proofs.KeptModules.{as_many_listed, listed_has_place, listed_is_there, listed_module_is, none_listed, one_comes, one_goes}
use Rattle.wh_host.proofs.Hosts.{Found, SameTenant, asked_found, at_place, changed, closed_stays, found, length_set, module_is, moved_on, one_fewer, one_value, places, comes_on, same_or_not, same_owner, seat_set}

-- ---- what is known of a host

pub sound_here : (h : HostState) (w : World) → IsHost h w → IsSound w.space
sound_here h w st = memory_stays_sound w st.comes

-- who is there has its place in memory
pub lives_there : (h : HostState) (w : World) (place i : ℕ) (x : InstanceEntry) → IsHost h w → entry_at h.entries place ≡ Some x → x.number ≡ Some i → (o : Occupant) × occupant_at h.space place o × (o.live ≡ true)
lives_there h w place i x st at number =
    let f = found h w place i x st at number in
    let claims = (places w st.comes).claimed i f.t f.live in
    subst (λ s. (o : Occupant) × occupant_at s place o × (o.live ≡ true)) (sym st.space) (claimed_there w.space place (promised i f.t.params) (ap (claim w.space) (sym f.at) ∙ claims))

pub get_mapped : {A B : Type 0} (f : A → B) (xs : List A) (i : ℕ) (x : A) → slice_get xs i ≡ Some x → slice_get (map f xs) i ≡ Some (f x)
get_mapped f [] i x e = absurd (cc e)
get_mapped f (y ∷ xs) zero x e = ap Some (ap f (one_value y x e))
get_mapped f (y ∷ xs) (suc i) x e = get_mapped f xs i x e

-- the module of who is there
pub module_there : (h : HostState) (w : World) (place i : ℕ) (x : InstanceEntry) (m : LoadedModule) → IsHost h w → (f : Found h w place i x) → module_in h.modules x.module_place ≡ Some m → (loaded_of w f.t.of ≡ Some (loaded_as m)) × (m.number ≡ x.of)
module_there h w place i x m st f is =
    let keeps = st.modules in
    let number : m.number ≡ x.of = ap (λ (z : LoadedModule). z.number) (sym (module_is h w place i x m f is)) ∙ f.is.numbered in
    (ap (loaded_of w) (sym (number ∙ f.is.of)) ∙ keeps.all x.module_place m is, number)

-- that of a number
pub module_meant : (h : HostState) (w : World) (k : ℕ) (r : ModuleRef) (m : LoadedModule) {rs : List ModuleRef} → IsHost h w → rs ≡ h.module_refs → HasRef rs k r → module_in h.modules r.place ≡ Some m → (loaded_of w k ≡ Some (loaded_as m)) × (m.number ≡ k) × (r.number ≡ k)
module_meant h w k r m st same has is =
    let its = listed_module_is h.modules h.module_refs w.modules k r m st.modules (subst (λ zs. HasRef zs k r) same has) is in
    (its.0, its.1, has.2)

-- one that is listed has its place
pub has_its_place : (h : HostState) (w : World) (k : ℕ) (r : ModuleRef) {rs : List ModuleRef} → IsHost h w → rs ≡ h.module_refs → HasRef rs k r → module_in h.modules r.place ≡ None → ⊥
has_its_place h w k r st same has none = listed_has_place h.modules h.module_refs w.modules k r st.modules (subst (λ zs. HasRef zs k r) same has) none

-- there is none of this number
pub no_module_there : (h : HostState) (w : World) (k : ℕ) {rs : List ModuleRef} → IsHost h w → rs ≡ h.module_refs → (Rise 0 rs → HasNoRef rs k) → loaded_of w k ≡ None
no_module_there h w k st same none = none_listed h.modules h.module_refs w.modules k st.modules (subst (λ zs. Rise 0 zs → HasNoRef zs k) same none)

-- ---- the present call ends

pub cancelled_here : (h : HostState) (w : World) (id : InstId) (x : InstanceEntry) (z : HostInstanceState) → (st : IsHost h w) → entry_at h.entries id.place ≡ Some x → x.number ≡ Some id.number → CancelsTenant x.tenant z
    → (w2 : World) × IsCancel w id call_ok w2 × IsHost (record h { entries = slice_set h.entries id.place (Some (record x { tenant = z })); space = ended h.space id.place }) w2
cancelled_here h w id x z st at number asked =
    let f = found h w id.place id.number x st at number in
    let s2 = ended w.space id.place in
    let who = subst (λ s. (o : Occupant) × occupant_at s id.place o × (o.live ≡ true)) st.space (lives_there h w id.place id.number x st at number) in
    let well = ends_well w.space id.place who.0 (sound_here h w st) who.1 who.2 in
    let there : view s2 f.t.place ≡ view w.space f.t.place = subst (λ n. view s2 n ≡ view w.space n) (sym f.at) well.0.view in
    let made = asked f.is.loaded.linked x.page_limit (view w.space f.t.place) f.t f.is.is s2 there in
    let t2 = made.2 in
    let others = well.0.steps.others in
    let stays = closed_stays s2 w.space f.t t2 made.4 (subst (λ n. OthersLeftAlone n w.space s2) (sym f.at) others) in
    let cancels : Cancels w.space f.t s2 t2 = ends made.3 (subst (λ n. WaitsAlone n None w.space s2) (sym f.at) well.0) (subst (λ n. HasNoPins s2 n) (sym f.at) well.1) made.4 in
    let w2 = with_tenant w id.number (Some t2) s2 in
    let happens : IsCancel w id call_ok w2 = is_cancelled (f.live, f.at) cancels in
    let over : IsTenant f.is.loaded.linked x.page_limit z (view s2 t2.place) t2 = subst (λ b. IsTenant f.is.loaded.linked x.page_limit z b t2) (sym there ∙ ap (view s2) (sym stays.place)) made.5 in
    let represents = same_owner h.modules x w.space s2 id.number f.t t2 z f.is stays.of stays.params stays.copied over in
    let then = changed h w id.place id.number x (record x { tenant = z }) t2 s2 st at number (stays.place ∙ f.at) represents (λ j other. (others j other).view) (comes_on w w2 (cancel id) st.comes (call_ok, happens)) in
    let rs = slice_set h.entries id.place (Some (record x { tenant = z })) in
    (w2, happens, subst (λ s. IsHost (record h { entries = rs; space = ended s id.place }) w2) (sym st.space) then)

-- ---- a call comes

takes_stays : (w : World) (t t2 : Tenant) {m : _} {name : List ℕ} {given : List ℤ} {fuel at : ℕ} → TakesCall m w.space t name given fuel at t2 → SameTenant t t2
takes_stays w t t2 takes = rw takes.after (record { place = refl; of = refl; params = refl; copied = refl })

pub some_tenant : (h : HostState) (w : World) (id : InstId) (x : InstanceEntry) (m : LoadedModule) → IsHost h w → entry_at h.entries id.place ≡ Some x → x.number ≡ Some id.number → module_in h.modules x.module_place ≡ Some m → IsSomeTenant m.linked x.tenant
some_tenant h w id x m st at number is =
    let f = found h w id.place id.number x st at number in
    (x.page_limit, view w.space f.t.place, f.t, subst (λ (l : LoadedModule). IsTenant l.linked x.page_limit x.tenant (view w.space f.t.place) f.t) (module_is h w id.place id.number x m f is) f.is.is)

pub invoked_here : (h : HostState) (w : World) (id : InstId) (name : List ℕ) (given : List ℤ) (fuel at : ℕ) (x : InstanceEntry) (z : HostInstanceState) (m : LoadedModule) → (st : IsHost h w) → entry_at h.entries id.place ≡ Some x → x.number ≡ Some id.number → module_in h.modules x.module_place ≡ Some m
    → InvokesTenant m.linked x.tenant name given fuel at z
    → (w2 : World) × IsInvoke w id name given fuel (invoke_ok at) w2 × IsHost (record h { entries = slice_set h.entries id.place (Some (record x { tenant = z })) }) w2
invoked_here h w id name given fuel at x z m st there number is asked =
    let f = found h w id.place id.number x st there number in
    let one = module_is h w id.place id.number x m f is in
    let mine : IsTenant m.linked x.page_limit x.tenant (view w.space f.t.place) f.t = subst (λ (l : LoadedModule). IsTenant l.linked x.page_limit x.tenant (view w.space f.t.place) f.t) one f.is.is in
    let made = asked x.page_limit (view w.space f.t.place) f.t w.space mine refl in
    let back : IsTenant f.is.loaded.linked x.page_limit z (view w.space f.t.place) made.0 = subst (λ (l : LoadedModule). IsTenant l.linked x.page_limit z (view w.space f.t.place) made.0) (sym one) made.2 in
    let known : loaded_of w f.t.of ≡ Some (loaded_as m) = (module_there h w id.place id.number x m st f is).0 in
    let R : Tenant → Tenant → Type 0 = λ t t2. (loaded_of w t.of ≡ Some (loaded_as m)) × TakesCall (view_linked m.linked) w.space t name given fuel at t2 in
    let go = asked_found h w id x z R st there number (λ t t2 r. takes_stays w t t2 r.1) f (made.0, (known, made.1), back) (invoke id name given fuel) (λ t t2 live r. (invoke_ok at, is_invoked live r.0 r.1)) in
    (_, is_invoked go.2 go.3.0 go.3.1, go.4)

refused_as : (w : World) (id : InstId) (name : List ℕ) (given : List ℤ) (fuel : ℕ) (t : Tenant) (l : LinkedState) (loaded : Loaded) → IsLive w id t → loaded_of w t.of ≡ Some loaded → loaded.m ≡ view_linked l → (o : Option InvokeFault) → RefusesCallFor o l t name given → IsInvoke w id name given fuel (refusal_answer o) w
refused_as w id name given fuel t l loaded live is same (Some fault) first = isnt_invoked live is (subst (λ m. IsFirst m t name given fault) (sym same) first)
refused_as w id name given fuel t l loaded live is same None none = no_memory_to_invoke live is (λ fault. subst (λ m. ¬ (Meets m t name given fault)) (sym same) (none fault))

pub refused_here : (h : HostState) (w : World) (id : InstId) (name : List ℕ) (given : List ℤ) (fuel : ℕ) (x : InstanceEntry) (m : LoadedModule) (e : InvokeError) → (st : IsHost h w) → entry_at h.entries id.place ≡ Some x → x.number ≡ Some id.number → module_in h.modules x.module_place ≡ Some m
    → RefusesInvoke m.linked x.tenant name given e → IsInvoke w id name given fuel (refusal_answer (refusal_of e)) w
refused_here h w id name given fuel x m e st there number is asked =
    let f = found h w id.place id.number x st there number in
    let mine : IsTenant m.linked x.page_limit x.tenant (view w.space f.t.place) f.t = subst (λ (l : LoadedModule). IsTenant l.linked x.page_limit x.tenant (view w.space f.t.place) f.t) (module_is h w id.place id.number x m f is) f.is.is in
    let known : loaded_of w f.t.of ≡ Some (loaded_as m) = (module_there h w id.place id.number x m st f is).0 in
    refused_as w id name given fuel f.t m.linked (loaded_as m) (f.live, f.at) known refl (refusal_of e) (asked x.page_limit (view w.space f.t.place) f.t w.space mine refl)

-- ---- pages move

pub moved_host : (h : HostState) (w : World) (s2 : Space) → IsHost h w → AllLeftAlone w.space s2 → ComesAbout (record w { space = s2 }) → IsHost (record h { space = s2 }) (record w { space = s2 })
moved_host h w s2 st same comes = record {
  comes = comes;
  modules = st.modules;
  space = refl;
  live = st.live;
  next = st.next;
  next_module = st.next_module;
  there = λ i t e. let f = st.there i t e in (f.0, f.1, moved_on h.modules f.0 w.space s2 i t f.2 (same.0 t.place).view);
  all = st.all;
}

pub epoch_here : (h : HostState) (w : World) (s2 : Space) → IsHost h w → Epochs h.space s2 → (w2 : World) × OnlyMoves w w2 × IsHost (record h { space = s2 }) w2
epoch_here h w s2 st epochs =
    let same = epochs_leave_all w.space s2 (sound_here h w st) (subst (λ s. Epochs s s2) st.space epochs) in
    let w2 : World = record w { space = s2 } in
    let only : OnlyMoves w w2 = (s2, same, refl) in
    (w2, only, moved_host h w s2 st same (comes_on w w2 epoch st.comes only))

-- ---- an instance goes

pub gone_here : (h : HostState) (w : World) (id : InstId) (x : InstanceEntry) (z : HostInstanceState) (output : List ℕ) (rs2 : List (Option InstanceEntry)) (s2 : Space) (live2 : ℕ) → (st : IsHost h w) → entry_at h.entries id.place ≡ Some x → x.number ≡ Some id.number
    → HasOutput x.tenant output → Exits h.space id.place s2 → PlaceIsLeft (slice_set h.entries id.place (Some (record x { number = None; tenant = z }))) id.place rs2 → h.live ≡ 1 + live2
    → (w2 : World) × IsRelease w id (Some output) w2 × IsHost (record h { entries = rs2; live = live2; space = s2 }) w2
gone_here h w id x z output rs2 s2 live2 st at number put exits left lives =
    let f = found h w id.place id.number x st at number in
    let y : InstanceEntry = record x { number = None; tenant = z } in
    let instance_refs = seat_set h.entries id.place x (Some y) at in
    let departs = exits_depart w.space id.place s2 (sound_here h w st) (subst (λ s. Exits s id.place s2) st.space exits) in
    let w2 = with_tenant w id.number None s2 in
    let goes : LetsGo w id.number f.t output w2 = record { space = s2; departs = subst (λ n. Departs n w.space s2) (sym f.at) departs; written = put f.is.loaded.linked x.page_limit (view w.space f.t.place) f.t f.is.is; after = refl } in
    let happens : IsRelease w id (Some output) w2 = is_released (f.live, f.at) goes in
    let still : (p : ℕ) → p ≢ id.place → entry_at rs2 p ≡ entry_at h.entries p = λ p other. left.0 p other ∙ instance_refs.1 p other in
    let counts = one_fewer w.tenants id.number f.t f.live in (
      w2,
      happens,
      record {
        comes = comes_on w w2 (release id) st.comes (Some output, happens);
        modules = st.modules;
        space = refl;
        live = let e = st.live in omega (arith, e, counts, lives);
        next = st.next ∙ sym (length_set w.tenants id.number None);
        next_module = st.next_module;
        there = λ k a e.
            ⊎_elim
            (λ (p : (k ≡ id.number) × (None ≡ Some a)). absurd (cc p.1))
            (λ (p : (k ≢ id.number) × (get_or w.tenants k None ≡ Some a)).
            let g = st.there k a p.1 in
            let r = g.2 in
            let far : a.place ≢ id.place = λ q. p.0 (one_value k id.number (sym r.number ∙ ap (λ (v : InstanceEntry). v.number) (one_value g.0 x (sym g.1 ∙ ap (entry_at h.entries) q ∙ at)) ∙ number)) in
            (g.0, still a.place far ∙ g.1, moved_on h.modules g.0 w.space s2 k a r (departs.others a.place far).view))
            (at_place w.tenants id.number k None f.t a f.live e);
        all = λ p k v e n.
            ⊎_elim
            (λ (q : p ≡ id.place).
            let same : y ≡ v = one_value y v (sym instance_refs.0 ∙ left.1 v (ap (entry_at rs2) (sym q) ∙ e)) in
            absurd (let bad : None ≡ Some k = ap (λ (u : InstanceEntry). u.number) same ∙ n in cc bad))
            (λ (q : p ≢ id.place).
            let g = st.all p k v (sym (still p q) ∙ e) n in
            let other : k ≢ id.number = λ same. q (sym g.2 ∙ ap (λ (u : Tenant). u.place) (one_value g.0 f.t (sym g.1 ∙ ap (tenant w) same ∙ f.live)) ∙ f.at) in
            (g.0, get_or-set_other w.tenants id.number k None None other ∙ g.1, g.2))
            (same_or_not p id.place);
      },
    )

-- ---- a module comes

-- it is who it was among other modules, where its own has its place still
entry_among : (ms ms2 : List (Option LoadedModule)) (x : InstanceEntry) (s : Space) (i : ℕ) (t : Tenant) → (r : IsEntryOf ms x s i t) → module_in ms2 x.module_place ≡ Some r.loaded → IsEntryOf ms2 x s i t
entry_among ms ms2 x s i t r there = record {
  number = r.number;
  of = r.of;
  loaded = r.loaded;
  is_loaded = there;
  numbered = r.numbered;
  given = r.given;
  limit = r.limit;
  copied = r.copied;
  is = r.is;
}

-- all of them are listed
pub all_modules_there : (h : HostState) (w : World) → IsHost h w → module_count w.modules ≡ length h.module_refs
all_modules_there h w st = let keeps = st.modules in sym (as_many_listed 0 h.modules h.module_refs w.modules keeps.listed)

pub kept_here : (h : HostState) (w : World) (bytes : List ℕ) (linked : LinkedState) (ms2 : List (Option LoadedModule)) (refs2 : List ModuleRef) (number next : ℕ) → (st : IsHost h w) → KeepsModule h.modules h.module_refs number linked bytes ms2 refs2 → IsAccepted bytes (view_linked linked) → number ≡ h.next_module → length h.module_refs < 1024 → next ≡ number + 1
    → (w2 : World) × IsLoad w bytes (load_ok number) w2 × IsHost (record h { modules = ms2; module_refs = refs2; next_module = next }) w2
kept_here h w bytes linked ms2 refs2 number next st keeps accepted at few one_on =
    let there = all_modules_there h w st in
    let new = loaded_as keeps.kept in
    let w2 : World = record w { modules = w.modules ++ Some new ∷ [] } in
    let wasm = view_linked keeps.kept.linked in
    let loads : LoadsModule w bytes number w2 = record {
      m = wasm;
      accepted = subst (λ l. IsAccepted bytes (view_linked l)) (sym keeps.is_linked) accepted;
      few = omega (arith, there, few);
      next = at ∙ st.next_module;
      after = ap (λ (b : List ℕ). let z : World = record w { modules = w.modules ++ Some (record { bytes = b; m = wasm }) ∷ [] } in z) keeps.bytes_are;
    } in
    let happens : IsLoad w bytes (load_ok number) w2 = is_loaded loads in
    let come = one_comes h.modules ms2 h.module_refs refs2 w.modules number st.modules keeps (at ∙ st.next_module) in (
      w2,
      happens,
      record {
        comes = comes_on w w2 (load bytes) st.comes (load_ok number, happens);
        modules = come.0;
        space = st.space;
        live = st.live;
        next = st.next;
        next_module = let e = st.next_module in let longer = length-append w.modules (Some new ∷ []) in omega (arith, e, longer, one_on, at);
        there = λ i t e. let f = st.there i t e in (f.0, f.1, entry_among h.modules ms2 f.0 w.space i t f.2 (come.1 f.0.module_place f.2.loaded f.2.is_loaded));
        all = st.all;
      },
    )

-- ---- a module goes

pub unloaded_here : (h : HostState) (w : World) (k at : ℕ) (ms2 : List (Option LoadedModule)) (refs2 : List ModuleRef) {rs : List ModuleRef} → (st : IsHost h w) → rs ≡ h.module_refs → HasRefAt rs k at → ¬ (HasUser h.entries k) → ((r : ModuleRef) → slice_get h.module_refs at ≡ Some r → LeavesModule h.modules h.module_refs at r ms2 refs2)
    → (w2 : World) × IsUnload w k unload_ok w2 × IsHost (record h { modules = ms2; module_refs = refs2 }) w2
unloaded_here h w k at ms2 refs2 st same (r, is, number) unused leaving =
    let listed = ap (λ zs. slice_get zs at) (sym same) ∙ is in
    let leaves = leaving r listed in
    let keeps = st.modules in
    let known = listed_is_there h.modules h.module_refs w.modules k at r keeps listed number in
    let none : IsUnused w k = λ i t live same.
    (let f = st.there i t live in let z = f.2 in unused (t.place, (f.0, f.1, (i, z.number, z.of ∙ same)))) in
    let w2 : World = record w { modules = slice_set w.modules k None } in
    let goes : LetsModuleGo w k w2 = record { loaded = known.0; is_loaded = known.1; unused = none; after = refl } in
    let happens : IsUnload w k unload_ok w2 = is_unloaded goes in
    let gone = one_goes h.modules ms2 h.module_refs refs2 w.modules k at r keeps listed number leaves in (
      w2,
      happens,
      record {
        comes = comes_on w w2 (unload k) st.comes (unload_ok, happens);
        modules = gone.0;
        space = st.space;
        live = st.live;
        next = st.next;
        next_module = st.next_module ∙ sym (length_set w.modules k None);
        there = λ i t e.
            (let f = st.there i t e in
            let z = f.2 in
            let other : z.loaded.number ≢ k = λ same. none i t e (sym z.of ∙ sym z.numbered ∙ same) in
            (f.0, f.1, entry_among h.modules ms2 f.0 w.space i t z (gone.1 f.0.module_place z.loaded z.is_loaded other)));
        all = st.all;
      },
    )

-- none of this number is there
pub not_there : (h : HostState) (w : World) (k : ℕ) {rs : List ModuleRef} → IsHost h w → rs ≡ h.module_refs → (Rise 0 rs → HasNoRef rs k) → IsUnload w k unload_no_module w
not_there h w k st same none = no_module_to_unload (no_module_there h w k st same none)

-- an instance is of it
pub in_use_here : (h : HostState) (w : World) (k at : ℕ) {rs : List ModuleRef} → (st : IsHost h w) → rs ≡ h.module_refs → HasRefAt rs k at → HasUser h.entries k → IsUnload w k unload_in_use w
in_use_here h w k at st same (r, is, number) (place, (x, there, (i, live, of))) =
    let known = listed_is_there h.modules h.module_refs w.modules k at r st.modules (ap (λ zs. slice_get zs at) (sym same) ∙ is) number in
    let f = found h w place i x st there live in
    is_in_use i known.1 f.live (sym f.is.of ∙ of)

-- ---- no module comes

no_room : (kind : FaultKind) → (kind ≡ NoRoom) ⊎ (kind ≢ NoRoom)
no_room Magic = inr (λ e. cc e)
no_room Version = inr (λ e. cc e)
no_room Truncated = inr (λ e. cc e)
no_room SectionOrder = inr (λ e. cc e)
no_room SectionSize = inr (λ e. cc e)
no_room Leb = inr (λ e. cc e)
no_room Utf8 = inr (λ e. cc e)
no_room UnknownByte = inr (λ e. cc e)
no_room Float = inr (λ e. cc e)
no_room Unsupported = inr (λ e. cc e)
no_room Limit = inr (λ e. cc e)
no_room CountMismatch = inr (λ e. cc e)
no_room NoRoom = inl refl

no_room_to_check : (kind : ValidKind) → (kind ≡ NoRoomToCheck) ⊎ (kind ≢ NoRoomToCheck)
no_room_to_check BadType = inr (λ e. cc e)
no_room_to_check Index = inr (λ e. cc e)
no_room_to_check Align = inr (λ e. cc e)
no_room_to_check Arity = inr (λ e. cc e)
no_room_to_check Const = inr (λ e. cc e)
no_room_to_check DuplicateExport = inr (λ e. cc e)
no_room_to_check Start = inr (λ e. cc e)
no_room_to_check Limits = inr (λ e. cc e)
no_room_to_check Height = inr (λ e. cc e)
no_room_to_check ConstImmutable = inr (λ e. cc e)
no_room_to_check NoRoomToCheck = inl refl

link_refused : (w : World) (bytes : List ℕ) (m : Module) (e : LinkError) → IsModule bytes m → Valid m → Fits m → RefusesLink m e → (answer : LoadAnswer) × IsLinkAnswer e answer × IsLoad w bytes answer w
link_refused w bytes m (NoItem fault place) is valid fits first = (load_refused (unlinked fault place), refl, isnt_loaded (m, is, valid, fits, first))
link_refused w bytes m NoRoomToLink is valid fits first = (load_out_of_memory linker_out_of_memory, refl, no_memory_to_load (m, is, valid, fits))

pub bytes_refused : (w : World) (bytes : List ℕ) (e : LoadError) → RefusesBytes bytes e → (answer : LoadAnswer) × IsBytesAnswer e answer × IsLoad w bytes answer w
bytes_refused w bytes (Decode e) breaks =
    ⊎_elim
    (λ (none : e.kind ≡ NoRoom). (load_out_of_memory decoder_out_of_memory, inr (none, refl), no_memory_to_load tt))
    (λ (some : e.kind ≢ NoRoom). (load_refused (broken e.kind e.offset), inl (some, refl), isnt_loaded (breaks some)))
    (no_room e.kind)
bytes_refused w bytes (Invalid e) refuses =
    ⊎_elim
    (λ (none : e.kind ≡ NoRoomToCheck). (load_out_of_memory validator_out_of_memory, inr (none, refl), no_memory_to_load (refuses.0, refuses.1)))
    (λ (some : e.kind ≢ NoRoomToCheck). (load_refused invalid, inl (some, refl), isnt_loaded (refuses.0, refuses.1, refuses.2 some)))
    (no_room_to_check e.kind)
bytes_refused w bytes (Link e) refuses = link_refused w bytes refuses.0 e refuses.1 refuses.2 refuses.3 refuses.4

pub modules_are_full : (h : HostState) (w : World) (bytes : List ℕ) (m : Module) → IsHost h w → IsAccepted bytes m → 1024 ≤ length h.module_refs → IsLoad w bytes (load_refused modules_full) w
modules_are_full h w bytes m st accepted full = let count = all_modules_there h w st in isnt_loaded (m, accepted, omega (arith, count, full))

pub no_room_to_keep : (h : HostState) (w : World) (bytes : List ℕ) (m : Module) → IsHost h w → IsAccepted bytes m → length h.module_refs < 1024 → IsLoad w bytes (load_out_of_memory host_out_of_memory) w
no_room_to_keep h w bytes m st accepted few = let count = all_modules_there h w st in no_memory_to_load (m, accepted, omega (arith, count, few))
