-- An admission, and the host that it leaves.
use Rattle.std.proofs.Common.{◌≡◌, ◌≢◌, ℕ, zero, suc, ◌+◌, ◌*◌, ◌/◌, ◌<◌, ◌≤◌, ◌⊎◌, ⊎_elim, inl, inr, false, Option, Some, None, List, [], ◌∷◌, ◌++◌, length, map, get_or, replicate, refl, sym, ap, subst, ◌∙◌, arith}
use Rattle.std.proofs.lemmas.List.{length-replicate}
use Rattle.slab.specs.Slab.{Slab, Updates, get}
use Rattle.wh_model.specs.Format.{most_segments, Small, Module}
use Rattle.wh_model.specs.Format.Syntax.{Limits}
use Rattle.wh_model.specs.Execution.{first_size, last_size, fragments}
use Rattle.wh_space_model.specs.declared.plain.InstId.{InstId}
use Rattle.wh_space_model.specs.{Space, minima, spreads, view, Enters, HasRoomFor}
use Rattle.wh_host_model.specs.Host.{Arrives, Event, Tenant, World, loaded_of, promised, StartsAs, MeetsFault, LetsIn, rest_of, admit, admit_ok, admit_refused, IsAdmit, is_admitted, isnt_admitted, no_memory_to_admit}
use Rattle.wh_host_model.specs.Host.Happens.{Happens}
use Rattle.wh_host_model.specs.{Params, given_of, AdmitFault, no_module, shares, min_max, frames, swap, instances, memory, segments, admit_rank}
use Rattle.wh_host_model.proofs.Host.Bridges.{entrants_arrive}
use Rattle.wh_host_model.proofs.Host.Lasting.{modules_stay_accepted}
use Rattle.wh_syntax.specs.View.{view_data}
use Rattle.wh_load.specs.Refusing.{view_linked}
use Rattle.wh_initial.specs.Begins.{first_store}
use Rattle.wh_admit.specs.declared.outcome.Admitted.{Admitted}
use Rattle.wh_admit.specs.declared.room.Room.{Room}
use Rattle.wh_admit.specs.AdmissionFaults.{RefusesFor}
use Rattle.wh_admit.specs.AdmittedStart.{BeginsAdmitted, BeginsAs}
use Rattle.wh_admit.specs.RepresentedHost.{RepresentsHost}
use Rattle.wh_instance.specs.Tenancy.{IsTenant}
use Rattle.wh_space.specs.Arrivals.{claimed}
use Rattle.wh_space.specs.declared.occupant_entry.Promise.{Promise}
use Rattle.wh_host.specs.declared.parts.LoadedModule.{LoadedModule}
use Rattle.wh_host.specs.declared.parts.ModuleRef.{ModuleRef}
use Rattle.wh_host.specs.ModuleLists.{HasNoRef, Rise}
use Rattle.wh_host.specs.declared.parts.InstanceEntry.{InstanceEntry}
use Rattle.wh_host.specs.Admitting.{BeginsEntry, EntersNext, fault_answer}
use Rattle.wh_host.specs.Hosting.{AreGivenAs, HostState, IsHost, IsEntryOf, loaded_as, entry_at, module_in}
use Rattle.wh_host.proofs.Hosts.{moved_on, one_more, one_value, comes_on, same_or_not}
use Rattle.wh_host.proofs.Requests.{no_module_there, sound_here}

-- ---- before it

pub stands : (h : HostState) (w : World) (k : ℕ) (m : LoadedModule) (room : Room) → IsHost h w → loaded_of w k ≡ Some (loaded_as m) → room.frames + minima h.space ≡ length h.space.pool.frames → room.slots + spreads h.space ≡ length h.space.slots.uses → room.live ≡ h.live → RepresentsHost w k (Some (view_linked m.linked)) room
stands h w k m room st is some_frames some_slots live = record {
  is_module = (loaded_as m, is, refl);
  room_left = record {
    frames = subst (λ (s : Space). room.frames + minima s ≡ length s.pool.frames) st.space some_frames;
    slots = subst (λ (s : Space). room.slots + spreads s ≡ length s.slots.uses) st.space some_slots;
    live = live ∙ st.live;
  };
}

first_is_first : (other : AdmitFault) → admit_rank other < 1 → ⊥
first_is_first no_module lt = omega (arith, lt)
first_is_first shares lt = omega (arith, lt)
first_is_first min_max lt = omega (arith, lt)
first_is_first frames lt = omega (arith, lt)
first_is_first swap lt = omega (arith, lt)
first_is_first instances lt = omega (arith, lt)
first_is_first memory lt = omega (arith, lt)
first_is_first segments lt = omega (arith, lt)

pub no_module_is_there : (h : HostState) (w : World) (k : ℕ) (p : Params) {rs : List ModuleRef} → IsHost h w → rs ≡ h.module_refs → (Rise 0 rs → HasNoRef rs k) → IsAdmit w k p (admit_refused no_module) w
no_module_is_there h w k p st same none =
    isnt_admitted (no_module_there h w k st same none, λ other lt. absurd (first_is_first other lt))

pub refused_as : (w : World) (k : ℕ) (p : Params) (m : Module) (room : Room) → RepresentsHost w k (Some m) room → (o : Option AdmitFault) → RefusesFor (Some m) room p o → IsAdmit w k p (fault_answer o) w
refused_as w k p m room is (Some fault) first = isnt_admitted (first w k is)
refused_as w k p m room is None none = no_memory_to_admit (none w k is)

-- ---- the module's segments

few_segments : (b : List ℕ) (m : Module) → Small b m → length m.segments ≤ most_segments
unfolding Small
few_segments b m s = s.1.segments

length_mapped : {A B : Type 0} (f : A → B) (xs : List A) → length (map f xs) ≡ length xs
length_mapped f [] = refl
length_mapped f (x ∷ xs) = ap suc (length_mapped f xs)

pub module_is_small : (h : HostState) (w : World) (k : ℕ) (m : LoadedModule) → IsHost h w → loaded_of w k ≡ Some (loaded_as m) → length m.linked.valid.decoded.segments.items ≤ most_segments
module_is_small h w k m st is =
    let accepted = modules_stay_accepted w st.comes k (loaded_as m) is in
    let same : length (map view_data m.linked.valid.decoded.segments.items) ≡ length m.linked.valid.decoded.segments.items = length_mapped view_data m.linked.valid.decoded.segments.items in
    omega (arith, few_segments (loaded_as m).bytes (view_linked m.linked) accepted.is_module.small, same)

-- ---- what is admitted

abbrev pub promise_of : ℕ → Admitted → Promise
promise_of number a = record { number = number; shares = a.shares; min = a.min; max = a.max }

pub begins_as : (m : Module) (p : Params) (a : Admitted) → BeginsAdmitted (Some m) p a → BeginsAs m p a
begins_as m p a b = subst (λ n. BeginsAs n p a) (sym (one_value m b.0 b.1)) b.2

pub room_for : (h : HostState) (w : World) (k number : ℕ) (m : Module) (p : Params) (a : Admitted) → IsHost h w → ((fault : AdmitFault) → ¬ (MeetsFault w k p fault)) → BeginsAs m p a → HasRoomFor h.space (claimed (promise_of number a))
room_for h w k number m p a st none b =
    let some_frames = none frames in
    let some_slots = none swap in
    let least = b.min in
    subst (λ (s : Space). HasRoomFor s (claimed (promise_of number a))) (sym st.space) (omega (arith, some_frames, least), omega (arith, some_slots, least, b.max))

pub few_live : (h : HostState) (w : World) (k : ℕ) (p : Params) → IsHost h w → ((fault : AdmitFault) → ¬ (MeetsFault w k p fault)) → h.live < 4096
few_live h w k p st none = let some = none instances in let e = st.live in omega (arith, some, e)

-- ---- after it

at_end : {A : Type 0} (xs : List (Option A)) (o : Option A) (j : ℕ) (a : A) → get_or (xs ++ o ∷ []) j None ≡ Some a → (get_or xs j None ≡ Some a) ⊎ ((j ≡ length xs) × (o ≡ Some a))
at_end [] o zero a e = inr (refl, e)
at_end [] o (suc j) a e = absurd (cc e)
at_end (x ∷ xs) o zero a e = inl e
at_end (x ∷ xs) o (suc j) a e = ⊎_elim (λ h. inl h) (λ (h : (j ≡ length xs) × (o ≡ Some a)). inr (omega (arith, h.0), h.1)) (at_end xs o j a e)

still_there : {A : Type 0} (xs : List (Option A)) (o : Option A) (j : ℕ) (a : A) → get_or xs j None ≡ Some a → get_or (xs ++ o ∷ []) j None ≡ Some a
still_there [] o j a e = absurd (cc e)
still_there (x ∷ xs) o zero a e = e
still_there (x ∷ xs) o (suc j) a e = still_there xs o j a e

has_come : {A : Type 0} (xs : List (Option A)) (o : Option A) → get_or (xs ++ o ∷ []) (length xs) None ≡ o
has_come [] o = refl
has_come (x ∷ xs) o = has_come xs o

one_longer : {A : Type 0} (xs : List A) (x : A) → length (xs ++ x ∷ []) ≡ 1 + length xs
one_longer [] x = refl
one_longer (y ∷ xs) x = let h = one_longer xs x in omega (arith, h)

pub within_limit : (ls : List Limits) (limit : ℕ) → last_size ls limit ≤ limit
within_limit [] limit = omega arith
within_limit (l ∷ ls) limit = omega arith

-- one more instance is there, at a place of its own, and the others see what they saw
pub joins : (h : HostState) (w : World) (e : Event) (t : Tenant) (x : InstanceEntry) (place : ℕ) (rs rs1 rs2 : Slab InstanceEntry) (s2 : Space) → (st : IsHost h w) → rs.slots ≡ h.entries → get rs place ≡ None → rs1.slots ≡ rs.slots → Updates rs1 rs2 place (Some x)
    → t.place ≡ place → ((j : ℕ) → j ≢ place → view s2 j ≡ view w.space j) → IsEntryOf h.modules x s2 h.next t → Happens w e (record w { tenants = w.tenants ++ Some t ∷ []; space = s2 })
    → IsHost (record h { entries = rs2.slots; live = h.live + 1; space = s2; next = h.next + 1 }) (record w { tenants = w.tenants ++ Some t ∷ []; space = s2 })
joins h w e t x place rs rs1 rs2 s2 st are none slots updates at_it sees represents happens =
    let w2 : World = record w { tenants = w.tenants ++ Some t ∷ []; space = s2 } in
    let vacant : entry_at h.entries place ≡ None = ap (λ (zs : List (Option InstanceEntry)). entry_at zs place) (sym are) ∙ none in
    let still : (q : ℕ) → q ≢ place → entry_at rs2.slots q ≡ entry_at h.entries q = λ q other. updates.others q other ∙ ap (λ (zs : List (Option InstanceEntry)). entry_at zs q) (slots ∙ are) in
    record {
      comes = comes_on w w2 e st.comes happens;
      modules = st.modules;
      space = refl;
      live = let e = st.live in let more = one_more w.tenants t in omega (arith, e, more);
      next = let e = st.next in let longer = one_longer w.tenants (Some t) in omega (arith, e, longer);
      next_module = st.next_module;
      there = λ j u e.
          ⊎_elim
          (λ (old : get_or w.tenants j None ≡ Some u).
          let f = st.there j u old in
          let far : u.place ≢ place = λ q. absurd (let bad : None ≡ Some f.0 = sym vacant ∙ ap (entry_at h.entries) (sym q) ∙ f.1 in cc bad) in
          (f.0, still u.place far ∙ f.1, moved_on h.modules f.0 w.space s2 j u f.2 (sees u.place far)))
          (λ (new : (j ≡ length w.tenants) × (Some t ≡ Some u)).
          let one = one_value t u new.1 in
          let which : h.next ≡ j = st.next ∙ sym new.0 in
          (x, ap (entry_at rs2.slots) (ap (λ (z : Tenant). z.place) (sym one) ∙ at_it) ∙ updates.changed, subst (λ z. IsEntryOf h.modules x s2 j z) one (subst (λ n. IsEntryOf h.modules x s2 n t) which represents)))
          (at_end w.tenants (Some t) j u e);
      all = λ q j z e n.
          ⊎_elim
          (λ (here : q ≡ place).
          let same : x ≡ z = one_value x z (sym updates.changed ∙ ap (entry_at rs2.slots) (sym here) ∙ e) in
          let which : j ≡ length w.tenants = one_value j (length w.tenants) (sym n ∙ ap (λ (v : InstanceEntry). v.number) (sym same) ∙ represents.number ∙ ap Some st.next) in
          (t, ap (λ c. get_or (w.tenants ++ Some t ∷ []) c None) which ∙ has_come w.tenants (Some t), at_it ∙ sym here))
          (λ (there : q ≢ place).
          let f = st.all q j z (sym (still q there) ∙ e) n in
          (f.0, still_there w.tenants (Some t) j f.0 f.1, f.2))
          (same_or_not q place);
    }

size_is : (m n : ℕ) → m ≡ n → 65536 * m ≡ n * 65536
size_is m n e = omega (arith, e)

pub claim_is : (number : ℕ) (a : Admitted) (p : Params) → a.shares ≡ p.shares → a.min ≡ p.min → a.max ≡ p.max → claimed (promise_of number a) ≡ promised number p
claim_is number a p part least most = rw (part, least, most) refl

pub admitted_here : (h : HostState) (w : World) (k : ℕ) (of_module : ModuleRef) (p : Params) (m : LoadedModule) (a : Admitted) (x : InstanceEntry) (place : ℕ) (rs rs1 rs2 : Slab InstanceEntry) (s2 : Space) → (st : IsHost h w) → loaded_of w k ≡ Some (loaded_as m)
    → ((fault : AdmitFault) → ¬ (MeetsFault w k p fault)) → BeginsAs (view_linked m.linked) p a → BeginsEntry m.linked a h.next of_module (p.base, p.salt) x → of_module.number ≡ k → module_in h.modules of_module.place ≡ Some m → m.number ≡ k
    → rs.slots ≡ h.entries → EntersNext rs h.space (promise_of h.next a) a.begun.pages place rs1 s2 → Updates rs1 rs2 place (Some x)
    → (w2 : World) × IsAdmit w k p (admit_ok (record { place = place; number = h.next })) w2 × IsHost (record h { entries = rs2.slots; live = h.live + 1; space = s2; next = h.next + 1 }) w2
admitted_here h w k of_module p m a x place rs rs1 rs2 s2 st is none b begins which there numbered are enters updates =
    let i = b.instantiates in
    let wasm = view_linked m.linked in
    let s = first_store wasm (given_of p) i.globals i.elements in
    let made = begins.begins (given_of p) i in
    let t : Tenant = record {
      place = place;
      of = k;
      params = p;
      inst = i.inst;
      rest = rest_of s;
      doing = made.0;
      ended = made.1;
      copied = 0;
      open_calls = made.2;
      waiting_for = None;
      dead = false;
    } in
    let entered = subst (λ (z : Space). Enters z place (claimed (promise_of h.next a)) a.begun.pages s2) st.space enters.enters in
    let come = entrants_arrive w.space place (claimed (promise_of h.next a)) a.begun.pages s2 (sound_here h w st) entered in
    let same_claim : claimed (promise_of h.next a) ≡ promised h.next p = claim_is h.next a p b.shares b.min b.max in
    let pages : a.begun.pages ≡ first_size wasm.memories = i.pages in
    let size : 65536 * a.begun.pages ≡ length s.bytes = size_is a.begun.pages (first_size wasm.memories) pages ∙ sym (length-replicate (first_size wasm.memories * 65536) 0) in
    let arrives : Arrives place (promised h.next p) (length s.bytes) w.space s2 = subst (λ n. Arrives place (promised h.next p) n w.space s2) size (subst (λ c. Arrives place c (65536 * a.begun.pages) w.space s2) same_claim come) in
    let w2 : World = record w { tenants = w.tenants ++ Some t ∷ []; space = s2 } in
    let lets : LetsIn w k p place h.next w2 = record {
      no_fault = none;
      can_count = b.can_count;
      given = b.given;
      loaded = loaded_as m;
      is_loaded = is;
      inst = i.inst;
      s = s;
      pieces = fragments i.segments;
      initial = i.is_initial;
      doing = made.0;
      ended = made.1;
      open_calls = made.2;
      starts = subst (λ n. StartsAs i.inst s (fragments i.segments) wasm.start n made.0 made.1 made.2) b.fuel made.3;
      space = s2;
      arrives = arrives;
      next = st.next;
      after = refl;
    } in
    let id : InstId = record { place = place; number = h.next } in
    let happens : IsAdmit w k p (admit_ok id) w2 = is_admitted lets in
    let zeros : view s2 place ≡ replicate (a.begun.pages * 65536) 0 = arrives.view ∙ ap (λ n. replicate n 0) (sym size ∙ size_is a.begun.pages a.begun.pages refl) in
    let over : IsTenant m.linked x.page_limit x.tenant (view s2 place) t = subst (λ n. IsTenant m.linked n x.tenant (view s2 place) t) (sym begins.limit) (subst (λ bytes. IsTenant m.linked a.begun.page_limit x.tenant bytes t) (sym zeros) (made.4 t (record { inst_is = refl; rest = refl; doing = refl; ended_are = refl; open_are = refl; waiting_for = refl; dead = refl }))) in
    let limits : x.page_limit ≡ last_size wasm.memories (p.max / 16) = begins.limit ∙ i.page_limit ∙ i.prepares.page_limit in
    let represents : IsEntryOf h.modules x s2 h.next t = record {
      number = begins.number;
      of = begins.of ∙ which;
      loaded = m;
      is_loaded = ap (module_in h.modules) begins.module_place ∙ there;
      numbered = numbered ∙ sym (begins.of ∙ which);
      given = subst (λ g. AreGivenAs g p) (sym begins.given) (record { shares = b.shares; min = b.min; max = b.max; fuel = b.fuel; base = refl; salt = refl });
      limit = omega (arith, limits, within_limit wasm.memories (p.max / 16));
      copied = begins.copied;
      is = over;
    } in (
      w2,
      happens,
      joins h w (admit k p) t x place rs rs1 rs2 s2 st are enters.vacant enters.slots updates refl (λ j other. (arrives.others j other).view) represents (admit_ok id, happens),
    )
