-- Who can go on, before and after.
use Rattle.std.proofs.Common.{◌≡◌, ◌≢◌, ◌≤◌, ◌<◌, ℕ, zero, suc, ◌⊎◌, inr, ⊎_elim, Bool, true, false, List, [], ◌∷◌, ◌++◌, length, get_or, slice_set, Option, Some, None, refl, sym, ap, subst, ◌∙◌, arith}
use mathlib.Core.Bool.{beq}
use Rattle.std.specs.Bool.{MatchBool}
use Rattle.std.proofs.lemmas.List.{get_or-set_other, get_or-set_same}
use Rattle.std.specs.Prelude.{IfOk, Result, Ok, Err}
use Rattle.wh_model.specs.declared.memory.Need.{Need}
use Rattle.wh_space_model.specs.declared.plain.InstId.{InstId}
use Rattle.wh_space_model.specs.declared.plain.SwapError.{SwapError}
use Rattle.wh_space_model.specs.{IsProvided, Space, wants}
use Rattle.wh_space_model.specs.Ready.{Ready}
use Rattle.wh_host_model.specs.Host.{Suspension, for_frame, Tenant, World, tenant, with_tenant, live_count, IsLive}
use Rattle.wh_host_model.specs.{Entry}
use Rattle.wh_swap.specs.DeviceCalls.{call_faults}
use Rattle.wh_journal.specs.Calls.{JournalCallState}
use Rattle.wh_instance.specs.Tenancy.{RepresentsEach, suspension_of}
use Rattle.wh_host.specs.declared.parts.InstanceEntry.{InstanceEntry}
use Rattle.wh_host.specs.Hosting.{HostState, IsHost, entry_at}
use Rattle.wh_host.specs.Paging.{IsGoing, MovesOnly, Tells, WaitsFor}
use Rattle.wh_host.proofs.Hosts.{one_value, same_or_not, some_within}
use Rattle.wh_hand.specs.Lining.{MayGoOn, IsReadyFor, IsToSettle, KeepsGoing, KeepsOthersGoing, Lists, StandsIn}
use Rattle.wh_hand.proofs.Standing.{IsWithout, LiesAt, few_stand, id_is, once_more, same_id, stands_before, stands_either, stands_last}

-- ---- the same can go on in whatever host of the definitions it represents

none_each : (cs : List JournalCallState) (es fs : List Entry) → RepresentsEach cs es → RepresentsEach cs fs → fs ≡ [] → es ≡ []
none_each [] [] fs a b none = refl
none_each [] (e ∷ es) fs a b none = absurd a
none_each (c ∷ cs) es [] a b none = absurd b
none_each (c ∷ cs) es (f ∷ fs) a b none = absurd (cc none)

-- it is live in the other, and can go on there
pub going_each : (h : HostState) (w w2 : World) (id : InstId) → IsHost h w → IsHost h w2 → IsGoing w id → IsGoing w2 id
going_each h w w2 id st st2 going =
    let t = going.0 in
    let live = going.1 in
    let f = st.there id.number t live.0 in
    let at : entry_at h.entries id.place ≡ Some f.0 = ap (entry_at h.entries) (sym live.1) ∙ f.1 in
    let g = st2.all id.place id.number f.0 at f.2.number in
    let back = st2.there id.number g.0 g.1 in
    let same : back.0 ≡ f.0 = one_value back.0 f.0 (sym back.1 ∙ ap (entry_at h.entries) g.2 ∙ at) in
    let calls : RepresentsEach f.0.tenant.journal.open_calls g.0.open_calls =
    subst (λ (x : InstanceEntry). RepresentsEach x.tenant.journal.open_calls g.0.open_calls) same back.2.is.open_calls in
    let stands : g.0.waiting_for ≡ t.waiting_for =
    back.2.is.waiting_for ∙ ap (λ (x : InstanceEntry). suspension_of x.tenant.waiting_for) same ∙ sym f.2.is.waiting_for in
    let some : g.0.open_calls ≢ [] = (λ none. going.2.0 (none_each f.0.tenant.journal.open_calls t.open_calls g.0.open_calls f.2.is.open_calls calls none)) in
    (g.0, (g.1, g.2), (some, subst (λ (o : Option Suspension). (o ≡ None) ⊎ (o ≡ Some for_frame)) (sym stands) going.2.1))

pub goes_in : (h : HostState) (w : World) (id : InstId) → IsHost h w → MayGoOn h id → IsGoing w id
goes_in h w id st goes = going_each h goes.0 w id goes.1 st goes.2

-- ---- from one to the next

-- all but one are live in both or in none
abbrev pub SameOthers : InstId → World → World → Type 0
SameOthers id w w2 =
    (other : InstId) → other ≢ id → (t : Tenant) → (IsLive w other t → IsLive w2 other t) × (IsLive w2 other t → IsLive w other t)

abbrev pub SameAll : World → World → Type 0
SameAll w w2 = (id : InstId) (t : Tenant) → (IsLive w id t → IsLive w2 id t) × (IsLive w2 id t → IsLive w id t)

pub same_all : (w w2 : World) → w2.tenants ≡ w.tenants → SameAll w w2
same_all w w2 same id t = (
  λ live. (ap (λ (ts : List (Option Tenant)). get_or ts id.number None) same ∙ live.0, live.1),
  λ live. (ap (λ (ts : List (Option Tenant)). get_or ts id.number None) (sym same) ∙ live.0, live.1),
)

pub others_of_all : (id : InstId) (w w2 : World) → SameAll w w2 → SameOthers id w w2
others_of_all id w w2 all other ne t = all other t

-- an instance has changed, and lies where it lay, or is gone
pub others_set : (w : World) (id : InstId) (t : Tenant) (o : Option Tenant) (s : Space) → IsLive w id t
    → ((u : Tenant) → o ≡ Some u → u.place ≡ t.place) → SameOthers id w (with_tenant w id.number o s)
others_set w id t o s live placed other ne u =
    ⊎_elim
    (λ (e : other.number ≡ id.number). (
      λ (there : IsLive w other u).
          absurd (let same : u ≡ t = one_value u t (sym there.0 ∙ ap (tenant w) e ∙ live.0) in
          ne (id_is other id (sym there.1 ∙ ap (λ (z : Tenant). z.place) same ∙ live.1) e)),
      λ (there : IsLive (with_tenant w id.number o s) other u).
          absurd (let within = some_within w.tenants id.number t live.0 in
          let is : o ≡ Some u = sym (get_or-set_same w.tenants id.number o None within) ∙ ap (λ (n : ℕ). get_or (slice_set w.tenants id.number o) n None) (sym e) ∙ there.0 in
          ne (id_is other id (sym there.1 ∙ placed u is ∙ live.1) e)),
    ))
    (λ (e : other.number ≢ id.number).
    (let same : get_or (slice_set w.tenants id.number o) other.number None ≡ get_or w.tenants other.number None = get_or-set_other w.tenants id.number other.number o None e in (
      λ (there : IsLive w other u). (same ∙ there.0, there.1),
      λ (there : IsLive (with_tenant w id.number o s) other u). (sym same ∙ there.0, there.1),
    )))
    (same_or_not other.number id.number)

behind : (ts : List (Option Tenant)) (n : ℕ) (o : Option Tenant) → n ≢ length ts → get_or (ts ++ o ∷ []) n None ≡ get_or ts n None
behind [] zero o ne = absurd (ne refl)
behind [] (suc n) o ne = refl
behind (t ∷ ts) zero o ne = refl
behind (t ∷ ts) (suc n) o ne = behind ts n o (λ e. ne (ap suc e))

last_is : (ts : List (Option Tenant)) (o : Option Tenant) → get_or (ts ++ o ∷ []) (length ts) None ≡ o
last_is [] o = refl
last_is (t ∷ ts) o = last_is ts o

past : (ts : List (Option Tenant)) → get_or ts (length ts) None ≡ None
past [] = refl
past (t ∷ ts) = past ts

-- one has come
pub others_come : (w : World) (id : InstId) (t : Tenant) (s : Space) → id.number ≡ length w.tenants → t.place ≡ id.place
    → SameOthers id w (record w { tenants = w.tenants ++ Some t ∷ []; space = s })
others_come w id t s next placed other ne u =
    ⊎_elim
    (λ (e : other.number ≡ length w.tenants). (
      λ (there : IsLive w other u).
          absurd (let bad : None ≡ Some u = sym (past w.tenants) ∙ ap (λ (n : ℕ). get_or w.tenants n None) (sym e) ∙ there.0 in cc bad),
      λ there.
          absurd (let is : Some t ≡ Some u = sym (last_is w.tenants (Some t)) ∙ ap (λ (n : ℕ). get_or (w.tenants ++ Some t ∷ []) n None) (sym e) ∙ there.0 in
          ne (id_is other id (sym there.1 ∙ ap (λ (z : Tenant). z.place) (sym (one_value t u is)) ∙ placed) (e ∙ sym next))),
    ))
    (λ (e : other.number ≢ length w.tenants).
    (let same = behind w.tenants other.number (Some t) e in
    (λ (there : IsLive w other u). (same ∙ there.0, there.1), λ there. (sym same ∙ there.0, there.1))))
    (same_or_not other.number (length w.tenants))

-- ---- and what the code represents

abbrev pub Leads : HostState → (World → World → Type 0) → HostState → Type 0
Leads h R h2 = (w : World) → IsHost h w → (w2 : World) × R w w2 × IsHost h2 w2

pub keeps_others : (h h2 : HostState) (id : InstId) → (w : World) × IsHost h w → Leads h (SameOthers id) h2 → KeepsOthersGoing h id h2
keeps_others h h2 id some leads other ne = (
  λ (goes : MayGoOn h other).
      (let x = leads goes.0 goes.1 in
      (x.0, x.2, (goes.2.0, (x.1 other ne goes.2.0).0 goes.2.1, goes.2.2))),
  λ (goes : MayGoOn h2 other).
      (let x = leads some.0 some.1 in
      let there = goes_in h2 x.0 other x.2 goes in
      (some.0, some.1, (there.0, (x.1 other ne there.0).1 there.1, there.2))),
)

pub keeps_all : (h h2 : HostState) → (w : World) × IsHost h w → Leads h SameAll h2 → KeepsGoing h h2
keeps_all h h2 some leads id = (
  λ (goes : MayGoOn h id).
      (let x = leads goes.0 goes.1 in
      (x.0, x.2, (goes.2.0, (x.1 id goes.2.0).0 goes.2.1, goes.2.2))),
  λ (goes : MayGoOn h2 id).
      (let x = leads some.0 some.1 in
      let there = goes_in h2 x.0 id x.2 goes in
      (some.0, some.1, (there.0, (x.1 id there.0).1 there.1, there.2))),
)

pub keeps_then : (a b c : HostState) (id : InstId) → KeepsGoing a b → KeepsOthersGoing b id c → KeepsOthersGoing a id c
keeps_then a b c id f g other ne = (λ goes. (g other ne).0 ((f other).0 goes), λ goes. (f other).1 ((g other ne).1 goes))

-- ---- the line

pub lists_on : (h h2 : HostState) (line : List InstId) → KeepsGoing h h2 → Lists h line → Lists h2 line
lists_on h h2 line keeps lists = record {
  goes = λ id is. (keeps id).0 (lists.goes id is);
  all = λ id goes. lists.all id ((keeps id).1 goes);
  once = lists.once;
}

-- it is right of all but one after what concerns that one
pub to_settle : (h h2 : HostState) (line : List InstId) (id : InstId) (stands : Bool) → MatchBool stands (StandsIn line id) (¬ (StandsIn line id))
    → Lists h line → KeepsOthersGoing h id h2 → IsToSettle h2 line id stands
to_settle h h2 line id stands here lists keeps = record {
  goes = λ other ne is. (keeps other ne).0 (lists.goes other is);
  all = λ other ne goes. lists.all other ((keeps other ne).1 goes);
  once = lists.once;
  here = here;
}

-- who stands there is told
pub told_here : (h : HostState) (line : List InstId) (id : InstId) (told : Bool) → (w : World) × IsHost h w → Lists h line
    → Tells h told (λ w. IsGoing w id) → MatchBool told (StandsIn line id) (¬ (StandsIn line id))
told_here h line id true some lists tells = lists.all id (some.0, some.1, tells some.0 some.1)
told_here h line id false some lists tells = λ is. tells some.0 some.1 (goes_in h some.0 id some.1 (lists.goes id is))

-- the first one has left the line
pub to_settle_first : (h h2 : HostState) (line : List InstId) (id : InstId) → Lists h (id ∷ line) → KeepsOthersGoing h id h2 → IsToSettle h2 line id false
to_settle_first h h2 line id lists keeps = record {
  goes = λ other ne is. (keeps other ne).0 (lists.goes other (inr is));
  all = λ other ne goes. ⊎_elim (λ (is : id ≡ other). absurd (ne (sym is))) (λ is. is) (lists.all other ((keeps other ne).1 goes));
  once = lists.once.1;
  here = lists.once.0;
}

-- ---- it is settled

pub told_same : (a b : Bool) → beq a b ≡ true → a ≡ b
told_same true true e = refl
told_same true false e = absurd (cc e)
told_same false true e = absurd (cc e)
told_same false false e = refl

pub told_not : (a b : Bool) → beq a b ≡ false → b ≡ true → a ≡ false
told_not true b e is = absurd (let bad : true ≡ false = sym (ap (beq true) is) ∙ e in cc bad)
told_not false b e is = refl

pub told_so : (a b : Bool) → beq a b ≡ false → b ≡ false → a ≡ true
told_so true b e is = refl
told_so false b e is = absurd (let bad : true ≡ false = sym (ap (beq false) is) ∙ e in cc bad)

goes_is : (h : HostState) (id : InstId) → (w : World) × IsHost h w → Tells h true (λ w. IsGoing w id) → MayGoOn h id
goes_is h id some tells = (some.0, some.1, tells some.0 some.1)

rests_is : (h : HostState) (id : InstId) → (w : World) × IsHost h w → Tells h false (λ w. IsGoing w id) → ¬ (MayGoOn h id)
rests_is h id some tells goes = tells some.0 some.1 (goes_in h some.0 id some.1 goes)

-- it stands there just where it can go on
pub settled_so : (h : HostState) (line : List InstId) (id : InstId) (told : Bool) → (w : World) × IsHost h w → IsToSettle h line id told
    → Tells h told (λ w. IsGoing w id) → Lists h line
settled_so h line id true some s tells = record {
  goes = λ other is. ⊎_elim (λ (same : other ≡ id). subst (MayGoOn h) (sym same) (goes_is h id some tells)) (λ ne. s.goes other ne is) (same_id other id);
  all = λ other goes. ⊎_elim (λ (same : other ≡ id). subst (StandsIn line) (sym same) s.here) (λ ne. s.all other ne goes) (same_id other id);
  once = s.once;
}
settled_so h line id false some s tells = record {
  goes = λ other is. ⊎_elim (λ (same : other ≡ id). absurd (s.here (subst (StandsIn line) same is))) (λ ne. s.goes other ne is) (same_id other id);
  all = λ other goes. ⊎_elim (λ (same : other ≡ id). absurd (rests_is h id some tells (subst (MayGoOn h) same goes))) (λ ne. s.all other ne goes) (same_id other id);
  once = s.once;
}

-- it is taken out, and can't go on
pub settled_out : (h : HostState) (line line2 : List InstId) (id : InstId) (stands : Bool) → (w : World) × IsHost h w → IsToSettle h line id stands
    → Tells h false (λ w. IsGoing w id) → IsWithout line id line2 → Lists h line2
settled_out h line line2 id stands some s tells out = record {
  goes = λ other is. ⊎_elim (λ (same : other ≡ id). absurd (out.gone (subst (StandsIn line2) same is))) (λ ne. s.goes other ne (out.no_more other is)) (same_id other id);
  all = λ other goes. ⊎_elim (λ (same : other ≡ id). absurd (rests_is h id some tells (subst (MayGoOn h) same goes))) (λ ne. out.others other ne (s.all other ne goes)) (same_id other id);
  once = out.once s.once;
}

-- it is put at the end, and can go on
pub settled_in : (h : HostState) (line : List InstId) (id : InstId) → (w : World) × IsHost h w → IsToSettle h line id false
    → Tells h true (λ w. IsGoing w id) → Lists h (line ++ id ∷ [])
settled_in h line id some s tells = record {
  goes = λ other is. ⊎_elim
      (λ (there : StandsIn line other). s.goes other (λ (same : other ≡ id). s.here (subst (StandsIn line) same there)) there)
      (λ (same : id ≡ other). subst (MayGoOn h) same (goes_is h id some tells))
      (stands_either line id other is);
  all = λ other goes. ⊎_elim
      (λ (same : other ≡ id). subst (StandsIn (line ++ id ∷ [])) (sym same) (stands_last line id))
      (λ ne. stands_before line id other (s.all other ne goes))
      (same_id other id);
  once = once_more line id s.once s.here;
}

-- and there is room for it
pub room_to_settle : (h : HostState) (line : List InstId) (id : InstId) → (w : World) × IsHost h w → IsToSettle h line id false
    → Tells h true (λ w. IsGoing w id) → length line < h.live
room_to_settle h line id some s tells =
    let w = some.0 in
    let lies : (x : InstId) → MayGoOn h x → LiesAt w.tenants x = (λ x goes.
    (let g = goes_in h w x some.1 goes in record { t = g.0; live = g.1.0; place = g.1.1 })) in
    let all : (x : InstId) → StandsIn (id ∷ line) x → LiesAt w.tenants x = (λ x is. ⊎_elim
    (λ (same : id ≡ x). lies x (subst (MayGoOn h) same (goes_is h id some tells)))
    (λ (there : StandsIn line x). lies x (s.goes x (λ (same : x ≡ id). s.here (subst (StandsIn line) same there)) there)) is) in
    let few : length (id ∷ line) ≤ live_count w.tenants = few_stand w.tenants (id ∷ line) (s.here, s.once) all in
    omega (arith, few, some.1.live)

-- ---- a step that is made ready

-- what an instance represents is the same in whatever host of the definitions it represents
record Stands (w2 : World) (id : InstId) (o : Option Suspension) : Type 0 where
  u : Tenant
  live : IsLive w2 id u
  same : u.waiting_for ≡ o

stands_each : (h : HostState) (w w2 : World) (id : InstId) (t : Tenant) → IsHost h w → IsHost h w2 → IsLive w id t → Stands w2 id t.waiting_for
stands_each h w w2 id t st st2 live =
    let f = st.there id.number t live.0 in
    let at : entry_at h.entries id.place ≡ Some f.0 = ap (entry_at h.entries) (sym live.1) ∙ f.1 in
    let g = st2.all id.place id.number f.0 at f.2.number in
    let back = st2.there id.number g.0 g.1 in
    let same : back.0 ≡ f.0 = one_value back.0 f.0 (sym back.1 ∙ ap (entry_at h.entries) g.2 ∙ at) in
    record {
      u = g.0;
      live = (g.1, g.2);
      same = back.2.is.waiting_for ∙ ap (λ (x : InstanceEntry). suspension_of x.tenant.waiting_for) same ∙ sym f.2.is.waiting_for;
    }

provided_ready : (s s2 : Space) (place : ℕ) (need : Need) (result : Result ℕ SwapError) → [] ≡ call_faults result ++ []
    → IfOk result (λ left. IsProvided s place need left s2) → Ready s2 place need
provided_ready s s2 place need (Ok left) none ok = ok.ready
provided_ready s s2 place need (Err fault) none ok = absurd (let bad : [] ≡ fault ∷ [] = none in cc bad)

pub made_ready : (h h2 : HostState) (id : InstId) (result : Result ℕ SwapError) → (w : World) × IsHost h w → MovesOnly h h2
    → [] ≡ call_faults result ++ []
    → ((need : Need) → WaitsFor h id need → IfOk result (λ left. IsProvided h.space id.place need left h2.space)) → IsReadyFor h2 id
made_ready h h2 id result some moves none right w st t live awaits need wanted =
    let x = moves some.0 some.1 in
    let there = stands_each h2 w x.0 id t st x.2 live in
    let was = (same_all some.0 x.0 (ap (λ (z : World). z.tenants) x.1.2) id there.u).1 there.live in
    let space : w.space ≡ x.1.0 = sym st.space ∙ x.2.space ∙ ap (λ (z : World). z.space) x.1.2 in
    let wants_it : wants some.0.space id.place ≡ Some need =
    sym (x.1.1.0 id.place).wants ∙ ap (λ (z : Space). wants z id.place) (sym space) ∙ wanted in
    let waits : WaitsFor h id need = (some.0, some.1, (there.u, was, there.same ∙ awaits), wants_it) in
    subst (λ (z : Space). Ready z id.place need) st.space (provided_ready h.space h2.space id.place need result none (right need waits))
