-- What calls of a host leave of the tickets that are out, and of what the device holds.
use Rattle.std.proofs.Common.{◌≡◌, ◌≢◌, ℕ, ◌<◌, ◌++◌, inl, inr, Bool, true, false, cond, List, [], ◌∷◌, Option, Some, None, Ok, length, map, zero, suc, refl, sym, ap, ◌∙◌, subst, arith, slice_get, slice_set, get_or, length-set, replicate}
use Rattle.std.specs.List.{remove}
use Rattle.std.proofs.lemmas.List.{length-map, map-append}
use Rattle.std.proofs.lemmas.Option.{slice_get-map}
use Rattle.std.specs.Option.{option_map}
use Rattle.std.proofs.Props.{props}
use Rattle.std.proofs.lemmas.Grind.{merely}
use Rattle.std.proofs.Math.Logic.{∥∥₁_elim, ∥∥₁_map}
use Rattle.wh_model.specs.declared.memory.Need.{Need}
use Rattle.wh_space_model.specs.declared.plain.InstId.{InstId}
use Rattle.wh_space_model.specs.declared.Tax.{Tax}
use Rattle.wh_space_model.specs.declared.states.EvictEnd.{EvictEnd}
use Rattle.wh_space_model.specs.declared.states.FetchEnd.{FetchEnd}
use Rattle.wh_space_model.specs.declared.states.Slot.{Slot}
use Rattle.wh_space_model.specs.declared.states.Slot.TheVariants.{Vacant, Taken, Evicting, Fetching}
use Rattle.wh_space_model.specs.{Errand, Pass, errand_for, pass_of, tickets, to_read, to_write, Slots, Space, wants, IsSound, BeginsEvict, BeginsFetch, CommitsFetch, page_at}
use Rattle.wh_host_model.specs.Host.{World}
use Rattle.wh_host_model.proofs.Host.Lasting.{frames_are_awaited, memory_stays_sound}
use Rattle.wh_space_model.proofs.Putting.{there_of}
use Rattle.wh_space_model.proofs.Slotting.{slot_taken, vacant_there}
use Rattle.wh_host.specs.declared.transit.Eviction.{Eviction}
use Rattle.wh_host.specs.declared.transit.Fetch.{Fetch}
use Rattle.wh_host.specs.TicketsOut.{EndsEvict}
use Rattle.wh_host.specs.Rolls.{IsRollOf, RollState}
use Rattle.wh_host.specs.declared.parts.ModuleId.{ModuleId}
use Rattle.wh_host.specs.Hosting.{HostState, IsHost, IsNewHost}
use Rattle.wh_host.specs.Loading.{AnswersLoad}
use Rattle.wh_host.specs.Paging.{IsAwaiting, Tells, WaitsFor}
use Rattle.test_host.specs.Carried.{AreOut, IsCarried, IsSomeHost, coming_slots, leaving_slots}
use Rattle.test_host.proofs.Outs.{first_back, none_out, one_more, one_of, others_stay}

-- ---- there is a host

-- its memory is sound
sound_in : (h : HostState) (w : World) → IsHost h w → IsSound h.space
sound_in h w st = subst IsSound (sym st.space) (memory_stays_sound w st.comes)

pub carried_prop : (s : Space) (held : List (List ℕ)) (evicted fetched : List ℕ) → IsProp (IsCarried s held evicted fetched)
carried_prop s held evicted fetched = hlevel props

pub host_on : (h h2 : HostState) → IsSomeHost h → ((w : World) → IsHost h w → (w2 : World) × IsHost h2 w2) → IsSomeHost h2
host_on h h2 some go = ∥∥₁_map some (λ (x : (w : World) × IsHost h w). let y = go x.0 x.1 in (y.0, y.1))

-- ---- calls that aren't the reclaimer's

pub carried_on : (s s2 : Space) (held : List (List ℕ)) (evicted fetched : List ℕ) → pass_of s2 ≡ pass_of s → IsCarried s held evicted fetched → IsCarried s2 held evicted fetched
carried_on s s2 held evicted fetched same c = record {
  agrees = ap (λ (z : Pass). z.held) same ∙ c.agrees;
  long = ap (λ (z : Pass). length z.out) same ∙ c.long;
  leaving = subst (λ (z : Pass). AreOut z.out to_write evicted) (sym same) c.leaving;
  coming = subst (λ (z : Pass). AreOut z.out to_read fetched) (sym same) c.coming;
}

-- ---- a ticket more

-- a ticket is out for this slot now, for which none was
pub record IsOneMore (s s2 : Space) (errand : Errand) (k : ℕ) : Type 0 where
  pub held : s2.slots.held ≡ s.slots.held
  pub out : (pass_of s2).out ≡ slice_set (pass_of s).out k (Some errand)
  pub none : slice_get (pass_of s).out k ≡ Some None

get_mapped : {A B : Type 0} (f : A → B) (xs : List A) (k : ℕ) (x : A) → slice_get xs k ≡ Some x → slice_get (map f xs) k ≡ Some (f x)
get_mapped f xs k x e = slice_get-map f xs k ∙ ap (option_map f) e

map_set : {A B : Type 0} (f : A → B) (xs : List A) (k : ℕ) (x : A) → map f (slice_set xs k x) ≡ slice_set (map f xs) k (f x)
map_set f [] k x = refl
map_set f (y ∷ xs) zero x = refl
map_set f (y ∷ xs) (suc k) x = ap (λ zs. f y ∷ zs) (map_set f xs k x)

-- slots of which one is used for something else
out_set : (s s2 : Space) (k : ℕ) (used : Slot) → s2.slots.uses ≡ slice_set s.slots.uses k used → (pass_of s2).out ≡ slice_set (pass_of s).out k (errand_for used)
out_set s s2 k used is = ap (map errand_for) is ∙ map_set errand_for s.slots.uses k used

pub evict_more : (s : Space) (i k : ℕ) (bytes : List ℕ) (s2 : Space) → IsSound s → BeginsEvict s i (Some k) bytes s2 → IsOneMore s s2 to_write k
evict_more s i k bytes s2 sound (need, stands, s1, reserves, lacks, j, p, f, must, old, new, at, frame, as_it, same, others, vacant, is) =
    let same_slots : s1.slots ≡ s.slots = ap (λ (z : Space). z.slots) reserves.leaves in
    let list : s.slots.vacant ≡ others ++ k ∷ [] = ap (λ (z : Slots). z.vacant) (sym same_slots) ∙ vacant in
    let uses : s2.slots.uses ≡ slice_set s.slots.uses k (Evicting j p) = ap (λ (z : Space). z.slots.uses) is ∙ ap (λ (z : Slots). slice_set z.uses k (Evicting j p)) same_slots in
    record {
      held = ap (λ (z : Space). z.slots.held) is ∙ ap (λ (z : Slots). z.held) same_slots;
      out = out_set s s2 k (Evicting j p) uses;
      none = get_mapped errand_for s.slots.uses k Vacant (vacant_there s k others sound.slots list);
    }

pub fetch_more : (s : Space) (i k : ℕ) (s2 : Space) → IsSound s → BeginsFetch s i (Some k) s2 → IsOneMore s s2 to_read k
fetch_more s i k s2 sound (need, stands, s1, reserves, p, f, first, at, others, kept, is) =
    let same_slots : s1.slots ≡ s.slots = ap (λ (z : Space). z.slots) reserves.leaves in
    let uses : s2.slots.uses ≡ slice_set s.slots.uses k (Fetching i p f) = ap (λ (z : Space). z.slots.uses) is ∙ ap (λ (z : Slots). slice_set z.uses k (Fetching i p f)) same_slots in
    let same_tables : s1.tables ≡ s.tables = ap (λ (z : Space). z.tables) reserves.leaves in
    record {
      held = ap (λ (z : Space). z.slots.held) is ∙ ap (λ (z : Slots). z.held) same_slots;
      out = out_set s s2 k (Fetching i p f) uses;
      none = get_mapped errand_for s.slots.uses k Taken (slot_taken s i p k sound.slots (ap (λ t. page_at t i p) (sym same_tables) ∙ at));
    }

-- nothing began
pub evict_none : (s : Space) (i : ℕ) (bytes : List ℕ) (s2 : Space) → BeginsEvict s i None bytes s2 → pass_of s2 ≡ pass_of s
evict_none s i bytes s2 (inl (none, is)) = ap pass_of is
evict_none s i bytes s2 (inr (need, stands, reserves, rest)) = ap pass_of reserves.leaves

pub fetch_none : (s : Space) (i : ℕ) (s2 : Space) → BeginsFetch s i None s2 → pass_of s2 ≡ pass_of s
fetch_none s i s2 (inl (none, is)) = ap pass_of is
fetch_none s i s2 (inr (need, stands, reserves, rest)) = ap pass_of reserves.leaves

not_both : (out : List (Option Errand)) (k : ℕ) (errand : Errand) → slice_get out k ≡ Some None → slice_get out k ≢ Some (Some errand)
not_both out k errand none some = let bad : Some None ≡ Some (Some errand) = sym none ∙ some in cc bad

pub evict_carried : (s s2 : Space) (held : List (List ℕ)) (evicted fetched : List ℕ) (k : ℕ) → IsOneMore s s2 to_write k → IsCarried s held evicted fetched → IsCarried s2 held (evicted ++ k ∷ []) fetched
evict_carried s s2 held evicted fetched k more c =
    let o = (pass_of s).out in
    record {
      agrees = more.held ∙ c.agrees;
      long = ap length more.out ∙ (length-set o k (Some to_write) ∙ c.long);
      leaving = subst (λ z. AreOut z to_write (evicted ++ k ∷ [])) (sym more.out) (one_more o to_write evicted k (there_of o k None more.none) (not_both o k to_write more.none) c.leaving);
      coming = subst (λ z. AreOut z to_read fetched) (sym more.out) (others_stay o to_read fetched k (Some to_write) (not_both o k to_read more.none) c.coming);
    }

pub fetch_carried : (s s2 : Space) (held : List (List ℕ)) (evicted fetched : List ℕ) (k : ℕ) → IsOneMore s s2 to_read k → IsCarried s held evicted fetched → IsCarried s2 held evicted (fetched ++ k ∷ [])
fetch_carried s s2 held evicted fetched k more c =
    let o = (pass_of s).out in
    record {
      agrees = more.held ∙ c.agrees;
      long = ap length more.out ∙ (length-set o k (Some to_read) ∙ c.long);
      leaving = subst (λ z. AreOut z to_write evicted) (sym more.out) (others_stay o to_write evicted k (Some to_read) (not_both o k to_write more.none) c.leaving);
      coming = subst (λ z. AreOut z to_read (fetched ++ k ∷ [])) (sym more.out) (one_more o to_read fetched k (there_of o k None more.none) (not_both o k to_read more.none) c.coming);
    }

-- ---- a ticket fewer

-- no ticket is out for this slot now, and it holds this
pub record IsOneFewer (s s2 : Space) (k : ℕ) (after : List (List ℕ)) : Type 0 where
  pub held : s2.slots.held ≡ after
  pub out : (pass_of s2).out ≡ slice_set (pass_of s).out k None

pub evict_fewer : (s : Space) (k : ℕ) (wrote : Bool) (bytes : List ℕ) (end : EvictEnd) (s2 : Space) → EndsEvict s k wrote bytes end s2 → IsOneFewer s s2 k (slice_set s.slots.held k (cond wrote bytes []))
evict_fewer s k wrote bytes end s2 (mid, (evicting, was), inl (j, used, e, is)) = record {
  held = ap (λ (z : Space). z.slots.held) is ∙ ap (λ (z : Space). z.slots.held) was;
  out = out_set s s2 k Vacant (ap (λ (z : Space). z.slots.uses) is ∙ ap (λ (z : Space). slice_set z.slots.uses k Vacant) was);
}
evict_fewer s k wrote bytes end s2 (mid, (evicting, was), inr (j, p, f, used, page, at, frame, inl (ok, same, e, is))) = record {
  held = ap (λ (z : Space). z.slots.held) is ∙ ap (λ (z : Space). z.slots.held) was;
  out = out_set s s2 k Taken (ap (λ (z : Space). z.slots.uses) is ∙ ap (λ (z : Space). slice_set z.slots.uses k Taken) was);
}
evict_fewer s k wrote bytes end s2 (mid, (evicting, was), inr (j, p, f, used, page, at, frame, inr (why, old, as_it, is))) = record {
  held = ap (λ (z : Space). z.slots.held) is ∙ ap (λ (z : Space). z.slots.held) was;
  out = out_set s s2 k Vacant (ap (λ (z : Space). z.slots.uses) is ∙ ap (λ (z : Space). slice_set z.slots.uses k Vacant) was);
}

pub fetch_fewer : (s : Space) (k : ℕ) (read : Bool) (bytes : List ℕ) (end : FetchEnd) (s2 : Space) → CommitsFetch s k read bytes end s2 → IsOneFewer s s2 k s.slots.held
fetch_fewer s k read bytes end s2 (inl (i, f, used, e, is)) = record {
  held = ap (λ (z : Space). z.slots.held) is;
  out = out_set s s2 k Vacant (ap (λ (z : Space). z.slots.uses) is);
}
fetch_fewer s k read bytes end s2 (inr (i, p, f, used, inl (ok, long, e, is))) = record {
  held = ap (λ (z : Space). z.slots.held) is;
  out = out_set s s2 k Vacant (ap (λ (z : Space). z.slots.uses) is);
}
fetch_fewer s k read bytes end s2 (inr (i, p, f, used, inr (failed, e, is))) = record {
  held = ap (λ (z : Space). z.slots.held) is;
  out = out_set s s2 k Taken (ap (λ (z : Space). z.slots.uses) is);
}

other_errand : (out : List (Option Errand)) (k : ℕ) → slice_get out k ≡ Some (Some to_write) → slice_get out k ≢ Some (Some to_read)
other_errand out k one two = let bad : Some (Some to_write) ≡ Some (Some to_read) = sym one ∙ two in cc bad

-- the first of the tickets comes back
pub evict_back : (s s2 : Space) (held : List (List ℕ)) (k : ℕ) (evicted fetched : List ℕ) (bytes : List ℕ) → IsOneFewer s s2 k (slice_set s.slots.held k bytes) → IsCarried s held (k ∷ evicted) fetched → IsCarried s2 (slice_set held k bytes) evicted fetched
evict_back s s2 held k evicted fetched bytes fewer c =
    let o = (pass_of s).out in
    record {
      agrees = fewer.held ∙ ap (λ zs. slice_set zs k bytes) c.agrees;
      long = ap length fewer.out ∙ (length-set o k None ∙ (c.long ∙ sym (length-set held k bytes)));
      leaving = subst (λ z. AreOut z to_write evicted) (sym fewer.out) (first_back o to_write k evicted None c.leaving);
      coming = subst (λ z. AreOut z to_read fetched) (sym fewer.out) (others_stay o to_read fetched k None (other_errand o k (c.leaving.are 0 k refl)) c.coming);
    }

pub fetch_back : (s s2 : Space) (held : List (List ℕ)) (k : ℕ) (evicted fetched : List ℕ) → IsOneFewer s s2 k s.slots.held → IsCarried s held evicted (k ∷ fetched) → IsCarried s2 held evicted fetched
fetch_back s s2 held k evicted fetched fewer c =
    let o = (pass_of s).out in
    record {
      agrees = fewer.held ∙ c.agrees;
      long = ap length fewer.out ∙ (length-set o k None ∙ c.long);
      leaving = subst (λ z. AreOut z to_write evicted) (sym fewer.out) (others_stay o to_write evicted k None (λ e. other_errand o k e (c.coming.are 0 k refl)) c.leaving);
      coming = subst (λ z. AreOut z to_read fetched) (sym fewer.out) (first_back o to_read k fetched None c.coming);
    }

-- ---- no ticket is out

pub none_carried : (s : Space) (held : List (List ℕ)) (evicted fetched : List ℕ) → s.slots.held ≡ held → length (pass_of s).out ≡ length held → length evicted ≡ 0 → length fetched ≡ 0 → IsCarried s held evicted fetched
none_carried s held evicted fetched agrees long none none2 = record {
  agrees = agrees;
  long = long;
  leaving = none_out (pass_of s).out to_write evicted none;
  coming = none_out (pass_of s).out to_read fetched none2;
}

-- there are as many slots as the device has
pub long_by : (h : HostState) (held : List (List ℕ)) → IsSomeHost h → h.space.slots.held ≡ held → length (pass_of h.space).out ≡ length held
long_by h held some agrees = ∥∥₁_elim some (hlevel props) (λ (x : (w : World) × IsHost h w).
    (let sound = sound_in h x.0 x.1 in length-map h.space.slots.uses errand_for ∙ (sym sound.slots.held ∙ ap length agrees)))

-- ---- a host that is new, and one that has provided

pub loaded_new : (h h2 : HostState) (frames slots : ℕ) (tax : Tax) (bytes : List ℕ) (loaded : ModuleId) (held : List (List ℕ)) → IsNewHost h frames slots tax → AnswersLoad h bytes (Ok loaded) h2 → pass_of h2.space ≡ pass_of h.space
    → held ≡ replicate slots [] → IsSomeHost h2 × (h2.space.slots.held ≡ held)
loaded_new h h2 frames slots tax bytes loaded held (w, st, reached, modules, tenants, new) loads same holds =
    let t = loads w st in
    (merely (t.1, t.4), ap (λ (z : Pass). z.held) same ∙ (ap (λ (z : Space). z.slots.held) st.space ∙ (ap (λ (z : Space). z.slots.held) new.is ∙ sym holds)))

pub none_left : (h : HostState) (held : List (List ℕ)) (evictions : List Eviction) (fetches : List Fetch) → IsSomeHost h → h.space.slots.held ≡ held → length evictions ≡ 0 → length fetches ≡ 0 → IsCarried h.space held (leaving_slots evictions) (coming_slots fetches)
none_left h held evictions fetches some agrees none none2 =
    none_carried h.space held (leaving_slots evictions) (coming_slots fetches) agrees (long_by h held some agrees)
    (length-map evictions (λ (e : Eviction). e.ticket.slot) ∙ none) (length-map fetches (λ (f : Fetch). f.ticket.slot) ∙ none2)

-- ---- who waits

-- whoever waits for a frame wants bytes
pub waits_for : (h : HostState) (w : World) (id : InstId) → IsHost h w → IsAwaiting w id → (need : Need) × WaitsFor h id need
waits_for h w id st (t, live, waits) =
    let a = frames_are_awaited w st.comes id.number t live.0 waits in
    (a.0, (w, st, (t, live, waits), subst (λ i. wants w.space i ≡ Some a.0) live.1 a.1))

-- what the host says of its tickets
pub roll_tickets : (h : HostState) (roll : RollState) (n : ℕ) → IsSomeHost h → IsRollOf h roll → n ≡ roll.tickets_out → n ≡ tickets h.space
roll_tickets h roll n some is same = ∥∥₁_elim some (hlevel props) (λ (x : (w : World) × IsHost h w). same ∙ (ap (λ (r : RollState). r.tickets_out) (is x.0 x.1) ∙ ap tickets (sym x.1.space)))

-- ---- what a begin comes to

pub evict_began : (h h2 : HostState) (id : InstId) (awaits : Bool) (e : Eviction) → IsSomeHost h → Tells h awaits (λ w. IsAwaiting w id) → ((need : Need) → WaitsFor h id need → BeginsEvict h.space id.place (Some e.ticket.slot) e.ticket.bytes h2.space) → (((need : Need) → ¬ WaitsFor h id need) → (h2 ≡ h) × (false ≡ true))
    → (held : List (List ℕ)) (evictions : List Eviction) (fetched : List ℕ) → IsCarried h.space held (leaving_slots evictions) fetched → IsCarried h2.space held (leaving_slots (evictions ++ e ∷ [])) fetched
evict_began h h2 id true e some tells begins idle held evictions fetched c = ∥∥₁_elim some (carried_prop h2.space held (leaving_slots (evictions ++ e ∷ [])) fetched) (λ (x : (w : World) × IsHost h w).
    (let n = waits_for h x.0 id x.1 (tells x.0 x.1) in
    subst (λ zs. IsCarried h2.space held zs fetched) (sym (map-append (λ (z : Eviction). z.ticket.slot) evictions (e ∷ [])))
    (evict_carried h.space h2.space held (leaving_slots evictions) fetched e.ticket.slot (evict_more h.space id.place e.ticket.slot e.ticket.bytes h2.space (sound_in h x.0 x.1) (begins n.0 n.1)) c)))
evict_began h h2 id false e some tells begins idle held evictions fetched c = absurd (let bad : false ≡ true = (idle (λ need waits. tells waits.0 waits.1 waits.2)).1 in cc bad)

pub fetch_began : (h h2 : HostState) (id : InstId) (awaits : Bool) (e : Fetch) → IsSomeHost h → Tells h awaits (λ w. IsAwaiting w id) → ((need : Need) → WaitsFor h id need → BeginsFetch h.space id.place (Some e.ticket.slot) h2.space) → (((need : Need) → ¬ WaitsFor h id need) → (h2 ≡ h) × (false ≡ true))
    → (held : List (List ℕ)) (evicted : List ℕ) (fetches : List Fetch) → IsCarried h.space held evicted (coming_slots fetches) → IsCarried h2.space held evicted (coming_slots (fetches ++ e ∷ []))
fetch_began h h2 id true e some tells begins idle held evicted fetches c = ∥∥₁_elim some (carried_prop h2.space held evicted (coming_slots (fetches ++ e ∷ []))) (λ (x : (w : World) × IsHost h w).
    (let n = waits_for h x.0 id x.1 (tells x.0 x.1) in
    subst (λ zs. IsCarried h2.space held evicted zs) (sym (map-append (λ (z : Fetch). z.ticket.slot) fetches (e ∷ [])))
    (fetch_carried h.space h2.space held evicted (coming_slots fetches) e.ticket.slot (fetch_more h.space id.place e.ticket.slot h2.space (sound_in h x.0 x.1) (begins n.0 n.1)) c)))
fetch_began h h2 id false e some tells begins idle held evicted fetches c = absurd (let bad : false ≡ true = (idle (λ need waits. tells waits.0 waits.1 waits.2)).1 in cc bad)

pub evict_stayed : (h h2 : HostState) (id : InstId) (awaits : Bool) (bytes : List ℕ) → IsSomeHost h → Tells h awaits (λ w. IsAwaiting w id) → ((need : Need) → WaitsFor h id need → BeginsEvict h.space id.place None bytes h2.space) → (((need : Need) → ¬ WaitsFor h id need) → h2 ≡ h)
    → (held : List (List ℕ)) (evicted fetched : List ℕ) → IsCarried h.space held evicted fetched → IsCarried h2.space held evicted fetched
evict_stayed h h2 id true bytes some tells begins idle held evicted fetched c = ∥∥₁_elim some (carried_prop h2.space held evicted fetched) (λ (x : (w : World) × IsHost h w).
    (let n = waits_for h x.0 id x.1 (tells x.0 x.1) in carried_on h.space h2.space held evicted fetched (evict_none h.space id.place bytes h2.space (begins n.0 n.1)) c))
evict_stayed h h2 id false bytes some tells begins idle held evicted fetched c =
    carried_on h.space h2.space held evicted fetched (ap (λ (z : HostState). pass_of z.space) (idle (λ need waits. tells waits.0 waits.1 waits.2))) c

pub fetch_stayed : (h h2 : HostState) (id : InstId) (awaits : Bool) → IsSomeHost h → Tells h awaits (λ w. IsAwaiting w id) → ((need : Need) → WaitsFor h id need → BeginsFetch h.space id.place None h2.space) → (((need : Need) → ¬ WaitsFor h id need) → h2 ≡ h)
    → (held : List (List ℕ)) (evicted fetched : List ℕ) → IsCarried h.space held evicted fetched → IsCarried h2.space held evicted fetched
fetch_stayed h h2 id true some tells begins idle held evicted fetched c = ∥∥₁_elim some (carried_prop h2.space held evicted fetched) (λ (x : (w : World) × IsHost h w).
    (let n = waits_for h x.0 id x.1 (tells x.0 x.1) in carried_on h.space h2.space held evicted fetched (fetch_none h.space id.place h2.space (begins n.0 n.1)) c))
fetch_stayed h h2 id false some tells begins idle held evicted fetched c =
    carried_on h.space h2.space held evicted fetched (ap (λ (z : HostState). pass_of z.space) (idle (λ need waits. tells waits.0 waits.1 waits.2))) c

-- ---- what a commit comes to

pub evict_first : (s : Space) (held : List (List ℕ)) (evictions : List Eviction) (fetched : List ℕ) (e : Eviction) → 0 < length evictions → e ≡ get_or evictions 0 e → IsCarried s held (leaving_slots evictions) fetched → slice_get (pass_of s).out e.ticket.slot ≡ Some (Some to_write)
evict_first s held evictions fetched e less is c = let o = one_of evictions e less is in c.leaving.are 0 e.ticket.slot (ap (λ zs. slice_get (leaving_slots zs) 0) o.1)

pub fetch_first : (s : Space) (held : List (List ℕ)) (evicted : List ℕ) (fetches : List Fetch) (e : Fetch) → 0 < length fetches → e ≡ get_or fetches 0 e → IsCarried s held evicted (coming_slots fetches) → slice_get (pass_of s).out e.ticket.slot ≡ Some (Some to_read)
fetch_first s held evicted fetches e less is c = let o = one_of fetches e less is in c.coming.are 0 e.ticket.slot (ap (λ zs. slice_get (coming_slots zs) 0) o.1)

pub slot_within : (s : Space) (held : List (List ℕ)) (evicted fetched : List ℕ) (k : ℕ) (errand : Errand) → slice_get (pass_of s).out k ≡ Some (Some errand) → IsCarried s held evicted fetched → k < length held
slot_within s held evicted fetched k errand out c = let less = there_of (pass_of s).out k (Some errand) out in let long = c.long in omega (arith, less, long)

pub evict_returned : (s s2 : Space) (held held2 : List (List ℕ)) (evictions : List Eviction) (fetched : List ℕ) (e : Eviction) (wrote : Bool) (end : EvictEnd) → 0 < length evictions → e ≡ get_or evictions 0 e → IsCarried s held (leaving_slots evictions) fetched
    → held2 ≡ slice_set held e.ticket.slot (cond wrote e.ticket.bytes []) → EndsEvict s e.ticket.slot wrote e.ticket.bytes end s2 → IsCarried s2 held2 (leaving_slots (remove evictions 0)) fetched
evict_returned s s2 held held2 evictions fetched e wrote end less is c writes ends =
    let o = one_of evictions e less is in
    let k = e.ticket.slot in
    let made = evict_back s s2 held k (leaving_slots o.0) fetched (cond wrote e.ticket.bytes []) (evict_fewer s k wrote e.ticket.bytes end s2 ends) (subst (λ zs. IsCarried s held (leaving_slots zs) fetched) o.1 c) in
    subst (λ zs. IsCarried s2 held2 (leaving_slots zs) fetched) (sym o.2) (subst (λ hs. IsCarried s2 hs (leaving_slots o.0) fetched) (sym writes) made)

pub fetch_returned : (s s2 : Space) (held held2 : List (List ℕ)) (evicted : List ℕ) (fetches : List Fetch) (e : Fetch) (k : ℕ) (read : Bool) (bytes : List ℕ) (end : FetchEnd) → 0 < length fetches → e ≡ get_or fetches 0 e → k ≡ e.ticket.slot → IsCarried s held evicted (coming_slots fetches)
    → held2 ≡ held → CommitsFetch s k read bytes end s2 → IsCarried s2 held2 evicted (coming_slots (remove fetches 0))
fetch_returned s s2 held held2 evicted fetches e k read bytes end less is same c stays ends =
    let o = one_of fetches e less is in
    let mine : CommitsFetch s e.ticket.slot read bytes end s2 = subst (λ j. CommitsFetch s j read bytes end s2) same ends in
    let made = fetch_back s s2 held e.ticket.slot evicted (coming_slots o.0) (fetch_fewer s e.ticket.slot read bytes end s2 mine) (subst (λ zs. IsCarried s held evicted (coming_slots zs)) o.1 c) in
    subst (λ zs. IsCarried s2 held2 evicted (coming_slots zs)) (sym o.2) (subst (λ hs. IsCarried s2 hs evicted (coming_slots o.0)) (sym stays) made)
