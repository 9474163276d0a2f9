-- Pages in transit under a host, and the host for which the code's host stands.
use Rattle.std.proofs.Common.{◌≡◌, ◌≢◌, ℕ, zero, suc, ◌<◌, ◌⊎◌, ⊎_elim, inl, inr, cond, Bool, true, List, [], ◌∷◌, Option, Some, None, Result, Ok, Err, OnOk, is_ok, length, map, get_or, slice_get, refl, sym, ap, subst, ◌∙◌, arith}
use Rattle.std.proofs.lemmas.List.{get_or-set_same}
use Rattle.wh_space_model.specs.declared.plain.InstId.{InstId}
use Rattle.wh_space_model.specs.declared.plain.SwapError.{SwapError}
use Rattle.wh_space_model.specs.declared.states.EvictEnd.{EvictEnd}
use Rattle.wh_space_model.specs.declared.states.FetchEnd.{FetchEnd}
use Rattle.wh_space_model.specs.declared.states.Slot.{Slot}
use Rattle.wh_space_model.specs.declared.states.Slot.TheVariants.{Vacant, Taken, Evicting, EvictVoid, Fetching, FetchVoid}
use Rattle.wh_space_model.specs.{errand_for, to_read, to_write, Occupant, Space, occupant_at, view, IsFreePlace, IsSound, BeginsEvict, BeginsFetch, CommitsFetch, IsEvicting, IsWritten}
use Rattle.wh_host_model.specs.Host.{Event, evict_begin, evict_commit, fetch_begin, fetch_commit, AwaitsFrameFor, IsLive, MovesPages, OnlyMoves, AllLeftAlone, Tenant, World, IsMisread}
use Rattle.wh_host_model.specs.Host.Happens.{Happens}
use Rattle.wh_host_model.proofs.Host.Bridges.{evictions_begin, evictions_end, fetches_begin, fetches_end, writes_leave_all}
use Rattle.wh_space_model.proofs.Putting.{there_of}
use Rattle.wh_instance.specs.OwnerRequests.{OfAnyTenant}
use Rattle.wh_space.specs.Transits.{IsFetching}
use Rattle.wh_host.specs.declared.parts.InstanceEntry.{InstanceEntry}
use Rattle.wh_host.specs.TicketsOut.{EndsEvict, IsOut, IsPresentCall, KeepsFault, OnlyReleasedGo}
use Rattle.wh_host.specs.Hosting.{HostState, IsHost, entry_at}
use Rattle.wh_host.proofs.Hosts.{of_who_is_there, one_value}
use Rattle.wh_host_model.proofs.Host.AsMany.{fetches_see_as_many}
use Rattle.wh_host.proofs.Paged.{all_stay, alone_in, alone_on, as_many_in, fault_here, misread_host, moved_as, only_moved, same_tenant, sound_in}
use Rattle.wh_host.proofs.Requests.{get_mapped, lives_there}

-- ---- tickets that are out

get_of_mapped : {A B : Type 0} (f : A → B) (xs : List A) (k : ℕ) (y : B) → slice_get (map f xs) k ≡ Some y → (x : A) × (slice_get xs k ≡ Some x) × (f x ≡ y)
get_of_mapped f [] k y e = absurd (let bad : None ≡ Some y = e in cc bad)
get_of_mapped f (x ∷ xs) zero y e = (x, refl, one_value (f x) y e)
get_of_mapped f (x ∷ xs) (suc k) y e = get_of_mapped f xs k y e

not_both : to_write ≢ to_read
not_both e = cc e

written_use : (x : Slot) → errand_for x ≡ Some to_write → ((j p : ℕ) × (x ≡ Evicting j p)) ⊎ ((j : ℕ) × (x ≡ EvictVoid j))
written_use Vacant e = absurd (let bad : None ≡ Some to_write = e in cc bad)
written_use Taken e = absurd (let bad : None ≡ Some to_write = e in cc bad)
written_use (Evicting j p) e = inl (j, p, refl)
written_use (EvictVoid j) e = inr (j, refl)
written_use (Fetching i p f) e = absurd (not_both (sym (one_value to_read to_write e)))
written_use (FetchVoid i f) e = absurd (not_both (sym (one_value to_read to_write e)))

read_use : (x : Slot) → errand_for x ≡ Some to_read → ((i p f : ℕ) × (x ≡ Fetching i p f)) ⊎ ((i f : ℕ) × (x ≡ FetchVoid i f))
read_use Vacant e = absurd (let bad : None ≡ Some to_read = e in cc bad)
read_use Taken e = absurd (let bad : None ≡ Some to_read = e in cc bad)
read_use (Evicting j p) e = absurd (not_both (one_value to_write to_read e))
read_use (EvictVoid j) e = absurd (not_both (one_value to_write to_read e))
read_use (Fetching i p f) e = inl (i, p, f, refl)
read_use (FetchVoid i f) e = inr (i, f, refl)

pub is_evicting : (s : Space) (k : ℕ) → IsOut s k to_write → IsEvicting s k
is_evicting s k out =
    let x = get_of_mapped errand_for s.slots.uses k (Some to_write) out in
    ⊎_elim (λ (e : (j p : ℕ) × (x.0 ≡ Evicting j p)). inl (e.0, e.1, x.1 ∙ ap Some e.2)) (λ (e : (j : ℕ) × (x.0 ≡ EvictVoid j)). inr (e.0, x.1 ∙ ap Some e.1)) (written_use x.0 x.2)

pub is_fetching : (s : Space) (k : ℕ) → IsOut s k to_read → IsFetching s k
is_fetching s k out =
    let x = get_of_mapped errand_for s.slots.uses k (Some to_read) out in
    ⊎_elim (λ (e : (i p f : ℕ) × (x.0 ≡ Fetching i p f)). inl (e.0, e.1, e.2, x.1 ∙ ap Some e.3)) (λ (e : (i f : ℕ) × (x.0 ≡ FetchVoid i f)). inr (e.0, e.1, x.1 ∙ ap Some e.2)) (read_use x.0 x.2)

pub evicting_out : (s : Space) (k : ℕ) → IsEvicting s k → IsOut s k to_write
evicting_out s k (inl (j, p, e)) = get_mapped errand_for s.slots.uses k (Evicting j p) e
evicting_out s k (inr (j, e)) = get_mapped errand_for s.slots.uses k (EvictVoid j) e

pub fetching_out : (s : Space) (k : ℕ) → IsFetching s k → IsOut s k to_read
fetching_out s k (inl (i, p, f, e)) = get_mapped errand_for s.slots.uses k (Fetching i p f) e
fetching_out s k (inr (i, f, e)) = get_mapped errand_for s.slots.uses k (FetchVoid i f) e

-- ---- the device was called

use_there : (s : Space) (k : ℕ) → IsEvicting s k → k < length s.slots.uses
use_there s k (inl (j, p, e)) = there_of s.slots.uses k (Evicting j p) e
use_there s k (inr (j, e)) = there_of s.slots.uses k (EvictVoid j) e

pub written_holds : (s : Space) (k : ℕ) (bytes : List ℕ) (wrote : Bool) (mid : Space) → IsSound s → IsWritten s k bytes wrote mid → wrote ≡ true → get_or mid.slots.held k [] ≡ bytes
written_holds s k bytes wrote mid sound (evicting, is) e =
    let less : k < length s.slots.held = omega (arith, use_there s k evicting, sound.slots.held) in
    ap (λ (z : Space). get_or z.slots.held k []) is ∙ get_or-set_same s.slots.held k (cond wrote bytes []) [] less ∙ ap (λ (b : Bool). cond b bytes []) e

pub evict_alone : (s : Space) (k : ℕ) (wrote : Bool) (bytes : List ℕ) (end : EvictEnd) (s2 : Space) → IsSound s → EndsEvict s k wrote bytes end s2 → AllLeftAlone s s2
evict_alone s k wrote bytes end s2 sound (mid, written, commits) =
    let first = writes_leave_all s k bytes wrote mid sound written in
    alone_on s mid s2 first (evictions_end mid s2 k wrote bytes end first.1 (written_holds s k bytes wrote mid sound written) commits)

-- ---- for whom a ticket was begun

pub present_there : (h : HostState) (id : InstId) (x : InstanceEntry) (call : ℕ) → entry_at h.entries id.place ≡ Some x → x.number ≡ Some id.number → OfAnyTenant x.tenant (λ l limit bytes t. length t.ended ≡ call) → IsPresentCall h id call
present_there h id x call at number is w st t live =
    let mine = of_who_is_there h w id x (λ u. length u.ended ≡ call) st at number is in
    ap (λ (u : Tenant). length u.ended) (same_tenant w id t mine.0 live mine.1) ∙ mine.2

-- ---- faults that are kept

pub faulted_here : (h : HostState) (w : World) (id : InstId) (call : ℕ) (fault : Option SwapError) (e : Event) (s2 : Space) (rs2 : List (Option InstanceEntry)) → (st : IsHost h w) → AllLeftAlone w.space s2 → KeepsFault h.entries id call fault rs2
    → ((w2 : World) → MovesPages w id (AwaitsFrameFor call) fault w2 → Happens w e w2) → (w2 : World) × MovesPages w id (AwaitsFrameFor call) fault w2 × IsHost (record h { entries = rs2; space = s2 }) w2
faulted_here h w id call None e s2 rs2 st same kept happens =
    let made = moved_as h w id (AwaitsFrameFor call) None e s2 st same (inl refl) happens in
    (made.0, made.1, subst (λ zs. IsHost (record h { entries = zs; space = s2 }) made.0) (sym kept) made.2)
faulted_here h w id call (Some fault) e s2 rs2 st same (inl k) happens =
    let made = fault_here h w id k.entry k.tenant (AwaitsFrameFor call) fault e s2 st k.there k.number same k.keeps happens in
    (made.0, made.1, subst (λ zs. IsHost (record h { entries = zs; space = s2 }) made.0) (sym k.after) made.2)
faulted_here h w id call (Some fault) e s2 rs2 st same (inr (kept, none)) happens =
    let away : (t : Tenant) → IsLive w id t → ¬ (AwaitsFrameFor call t) = λ t live.
    (let f = st.there id.number t live.0 in none f.0 (ap (entry_at h.entries) (sym live.1) ∙ f.1) f.2.number f.2.loaded.linked f.0.page_limit (view w.space t.place) t f.2.is) in
    let made = moved_as h w id (AwaitsFrameFor call) (Some fault) e s2 st same (inr away) happens in
    (made.0, made.1, subst (λ zs. IsHost (record h { entries = zs; space = s2 }) made.0) (sym kept) made.2)

-- ---- places that are given up

pub released_go : (h : HostState) (w : World) (rs2 : List (Option InstanceEntry)) → IsHost h w → OnlyReleasedGo h.entries rs2 → IsHost (record h { entries = rs2 }) w
released_go h w rs2 st go = record {
  comes = st.comes;
  modules = st.modules;
  space = st.space;
  live = st.live;
  next = st.next;
  next_module = st.next_module;
  there = λ i t e. let f = st.there i t e in (f.0, stays t.place i f.0 f.1 f.2.number (go t.place), f.2);
  all = λ place i x at number. st.all place i x (was place x at (go place)) number;
} where
  stays : (place i : ℕ) (x : InstanceEntry) → entry_at h.entries place ≡ Some x → x.number ≡ Some i → (entry_at rs2 place ≡ entry_at h.entries place) ⊎ ((entry_at rs2 place ≡ None) × ((y : InstanceEntry) → entry_at h.entries place ≡ Some y → y.number ≡ None)) → entry_at rs2 place ≡ Some x
  stays place i x at number (inl same) = same ∙ at
  stays place i x at number (inr (none, released)) = absurd (let bad : None ≡ Some i = sym (released x at) ∙ number in cc bad)

  was : (place : ℕ) (x : InstanceEntry) → entry_at rs2 place ≡ Some x → (entry_at rs2 place ≡ entry_at h.entries place) ⊎ ((entry_at rs2 place ≡ None) × ((y : InstanceEntry) → entry_at h.entries place ≡ Some y → y.number ≡ None)) → entry_at h.entries place ≡ Some x
  was place x at (inl same) = sym same ∙ at
  was place x at (inr (none, released)) = absurd (let bad : None ≡ Some x = sym none ∙ at in cc bad)

not_free : (s : Space) (i : ℕ) (o : Occupant) → occupant_at s i o → IsFreePlace s i → ⊥
not_free s i o at (inl none) = let bad : Some (Some o) ≡ Some None = sym at ∙ none in cc bad
not_free s i o at (inr past) = let less = there_of s.occupants i (Some o) at in omega (arith, less, past)

pub nobody_left : (h : HostState) (w : World) (at : ℕ) → IsHost h w → IsFreePlace h.space at → ((x : InstanceEntry) → entry_at h.entries at ≡ Some x → x.number ≢ None) → entry_at h.entries at ≡ None
nobody_left h w at st free all = go (entry_at h.entries at) refl where
  numbered : (x : InstanceEntry) (n : Option ℕ) → x.number ≡ n → entry_at h.entries at ≡ Some x → ⊥
  numbered x None e is = all x is e
  numbered x (Some i) e is = let o = lives_there h w at i x st is e in not_free h.space at o.0 o.1 free

  go : (o : Option InstanceEntry) → entry_at h.entries at ≡ o → entry_at h.entries at ≡ None
  go None e = e
  go (Some x) e = absurd (numbered x x.number refl e)

-- ---- what begins, and comes back

pub evict_begun : (h : HostState) (w : World) (id : InstId) (slot : Option ℕ) (bytes : List ℕ) (s2 : Space) → (st : IsHost h w) → BeginsEvict h.space id.place slot bytes s2 → (w2 : World) × OnlyMoves w w2 × IsHost (record h { space = s2 }) w2
evict_begun h w id slot bytes s2 st begins = only_moved h w (evict_begin id) s2 st (alone_in h w s2 st (evictions_begin h.space s2 id.place slot bytes (sound_in h w st) begins)) (λ w2 moves. moves)

pub fetch_begun : (h : HostState) (w : World) (id : InstId) (slot : Option ℕ) (s2 : Space) → (st : IsHost h w) → BeginsFetch h.space id.place slot s2 → (w2 : World) × OnlyMoves w w2 × IsHost (record h { space = s2 }) w2
fetch_begun h w id slot s2 st begins = only_moved h w (fetch_begin id) s2 st (alone_in h w s2 st (fetches_begin h.space s2 id.place slot (sound_in h w st) begins)) (λ w2 moves. moves)

-- a fault is kept, and then a place is given up
pub settled_here : (h : HostState) (w : World) (id : InstId) (call : ℕ) (fault : Option SwapError) (e : Event) (s2 : Space) (rs1 rs2 : List (Option InstanceEntry)) → (st : IsHost h w) → AllLeftAlone h.space s2 → KeepsFault h.entries id call fault rs1 → OnlyReleasedGo rs1 rs2
    → ((w2 : World) → MovesPages w id (AwaitsFrameFor call) fault w2 → Happens w e w2) → (w2 : World) × MovesPages w id (AwaitsFrameFor call) fault w2 × IsHost (record h { entries = rs2; space = s2 }) w2
settled_here h w id call fault e s2 rs1 rs2 st same kept go happens =
    let made = faulted_here h w id call fault e s2 rs1 st (alone_in h w s2 st same) kept happens in
    (made.0, made.1, released_go (record h { entries = rs1; space = s2 }) made.0 rs2 made.2 go)

pub evict_ended : (h : HostState) (w : World) (id : InstId) (call k : ℕ) (wrote : Bool) (bytes : List ℕ) (end : EvictEnd) (fault : Option SwapError) (s2 : Space) (rs1 rs2 : List (Option InstanceEntry)) → (st : IsHost h w) → EndsEvict h.space k wrote bytes end s2 → KeepsFault h.entries id call fault rs1
    → OnlyReleasedGo rs1 rs2 → (w2 : World) × MovesPages w id (AwaitsFrameFor call) fault w2 × IsHost (record h { entries = rs2; space = s2 }) w2
evict_ended h w id call k wrote bytes end fault s2 rs1 rs2 st ends kept go =
    settled_here h w id call fault (evict_commit id call fault) s2 rs1 rs2 st (evict_alone h.space k wrote bytes end s2 (sound_in h w st) ends) kept go (λ w2 moves. moves)

held_read : (device : Result Unit SwapError) (P : Type 0) → OnOk device P → is_ok device ≡ true → P
held_read (Ok done) P h e = h
held_read (Err fault) P h e = absurd (cc e)

pub fetch_ended : (h : HostState) (w : World) (id : InstId) (call k : ℕ) (device : Result Unit SwapError) (bytes : List ℕ) (end : FetchEnd) (fault : Option SwapError) (s2 : Space) (rs1 rs2 : List (Option InstanceEntry)) → (st : IsHost h w) → OnOk device (get_or h.space.slots.held k [] ≡ bytes)
    → CommitsFetch h.space k (is_ok device) bytes end s2 → KeepsFault h.entries id call fault rs1 → OnlyReleasedGo rs1 rs2 → (w2 : World) × MovesPages w id (AwaitsFrameFor call) fault w2 × IsHost (record h { entries = rs2; space = s2 }) w2
fetch_ended h w id call k device bytes end fault s2 rs1 rs2 st read ends kept go =
    settled_here h w id call fault (fetch_commit id call fault) s2 rs1 rs2 st (fetches_end h.space s2 k (is_ok device) bytes end (sound_in h w st) (held_read device (get_or h.space.slots.held k [] ≡ bytes) read) ends) kept go (λ w2 moves. moves)

-- ---- whatever bytes the device gives

pub fetch_ended_anyhow : (h : HostState) (w : World) (id : InstId) (call k : ℕ) (device : Result Unit SwapError) (bytes : List ℕ) (end : FetchEnd) (fault : Option SwapError) (s2 : Space) (rs1 rs2 : List (Option InstanceEntry)) → (st : IsHost h w)
    → CommitsFetch h.space k (is_ok device) bytes end s2 → KeepsFault h.entries id call fault rs1 → OnlyReleasedGo rs1 rs2
    → (mid w2 : World) × IsMisread w mid × MovesPages mid id (AwaitsFrameFor call) fault w2 × IsHost (record h { entries = rs2; space = s2 }) w2
fetch_ended_anyhow h w id call k device bytes end fault s2 rs1 rs2 st ends kept go =
    let same = as_many_in h w s2 st (fetches_see_as_many h.space s2 k (is_ok device) bytes end (sound_in h w st) ends) in
    let mid : World = record w { space = s2 } in
    let h2 : HostState = record h { space = s2 } in
    let there = misread_host h w s2 st same in
    let made = settled_here h2 mid id call fault (fetch_commit id call fault) s2 rs1 rs2 there (all_stay s2 same.1) kept go (λ w2 moves. moves) in
    (mid, made.0, (s2, same, refl), made.1, made.2)
