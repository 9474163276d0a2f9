-- What each call leaves of the host for which the code's host stands.
use Rattle.std.proofs.Common.{◌≡◌, ◌≢◌, ℕ, zero, suc, ◌+◌, ◌*◌, ◌/◌, ◌<◌, ◌≤◌, ◌⊎◌, ⊎_elim, inl, inr, Option, Some, None, List, [], ◌∷◌, ◌++◌, length, get_or, slice_set, refl, sym, ap, subst, ◌∙◌, arith, rules}
use Rattle.std.proofs.lemmas.List.{get_or-set_same, get_or-set_other, set-get_or}
use Rattle.wh_space_model.specs.declared.plain.InstId.{InstId}
use Rattle.wh_host_model.specs.declared.plain.TurnEnd.{TurnEnd}
use Rattle.wh_host_model.specs.declared.plain.TurnEnd.TheVariants.{Idle}
use Rattle.wh_space_model.specs.{Space, Claimed, claim, empty_space, view, IsSound}
use Rattle.wh_space_model.specs.declared.Tax.{Tax}
use Rattle.wh_host_model.specs.Host.{LeftAlone, OthersLeftAlone, Tenant, World, tenant, with_tenant, promised, empty_world, Closes, faces_next, is_dead, Turn, is_idle, has_ended, has_no_fuel, has_no_frame, can_go_on, keeps_its_fault, PlacesAreTenants, Refuels, has_more, Retries, may_try, Event, turn, epoch, AllHappen, IsLive, IsTurn, NoInstance, of_none, of_one, AllBefall, Befalls, ComesAbout, IsMisread, Step, by_event, by_misreading, live_count}
use Rattle.wh_host_model.specs.{Params}
use Rattle.wh_host_model.specs.Host.Happens.{Happens}
use Rattle.wh_host_model.proofs.Host.Lasting.{places_stay_right}
use Rattle.wh_host_model.proofs.Host.Opening.{apart_none, apart_steps, apart_then, proceeds_apart}
use Rattle.wh_instance.specs.OwnerRequests.{OfAnyTenant}
use Rattle.wh_instance.specs.Tenancy.{IsTenant, HostInstanceState}
use Rattle.wh_space.specs.Arrivals.{IsNew}
use Rattle.wh_space.specs.Steps.{limit_by}
use Rattle.wh_host.specs.declared.parts.LoadedModule.{LoadedModule}
use Rattle.wh_host.specs.declared.parts.InstanceEntry.{InstanceEntry}
use Rattle.wh_instance.specs.Bursts.{AreUsed}
use Rattle.wh_host.specs.Beside.{EndsTurn}
use Rattle.wh_host.specs.Lying.{LiesAt}
use Rattle.wh_host.specs.Series.{HasSpent, SeriesOf}
use Rattle.wh_host.proofs.Splitting.{has_spent, series_of_turns}
use Rattle.wh_host.specs.Lent.{TurnsTo}
use Rattle.wh_host.specs.Entries.{OthersStay}
use Rattle.wh_host.specs.Hosting.{AreGivenAs, HostState, IsHost, IsNewHost, IsReached, IsEntryOf, entry_at, module_in}

-- ---- lists

pub same_or_not : (m n : ℕ) → (m ≡ n) ⊎ (m ≢ n)
same_or_not zero zero = inl refl
same_or_not zero (suc n) = inr (λ e. absurd (omega arith))
same_or_not (suc m) zero = inr (λ e. absurd (omega arith))
same_or_not (suc m) (suc n) = ⊎_elim (λ e. inl (ap suc e)) (λ never. inr (λ e. never (omega arith))) (same_or_not m n)

pub some_within : {A : Type 0} (xs : List (Option A)) (i : ℕ) (x : A) → get_or xs i None ≡ Some x → i < length xs
some_within [] i x e = absurd (cc e)
some_within (y ∷ xs) zero x e = omega arith
some_within (y ∷ xs) (suc i) x e = let h = some_within xs i x e in omega (arith, h)

pub one_value : {A : Type 0} (x y : A) → Some x ≡ Some y → x ≡ y
one_value x y e = cc e

pub length_set : {A : Type 0} (xs : List A) (i : ℕ) (x : A) → length (slice_set xs i x) ≡ length xs
length_set [] i x = refl
length_set (y ∷ xs) zero x = refl
length_set (y ∷ xs) (suc i) x = ap suc (length_set xs i x)

pub at_place : {A : Type 0} (xs : List (Option A)) (i j : ℕ) (o : Option A) (x a : A) → get_or xs i None ≡ Some x → get_or (slice_set xs i o) j None ≡ Some a → ((j ≡ i) × (o ≡ Some a)) ⊎ ((j ≢ i) × (get_or xs j None ≡ Some a))
at_place xs i j o x a there e = search (rules, ⊎_elim, some_within, get_or-set_same, get_or-set_other, same_or_not)

-- how many there are, where one changes, and where one goes
pub as_many : (ts : List (Option Tenant)) (i : ℕ) (t t2 : Tenant) → get_or ts i None ≡ Some t → live_count (slice_set ts i (Some t2)) ≡ live_count ts
as_many [] i t t2 e = absurd (cc e)
as_many (None ∷ ts) zero t t2 e = absurd (cc e)
as_many (Some u ∷ ts) zero t t2 e = refl
as_many (None ∷ ts) (suc i) t t2 e = as_many ts i t t2 e
as_many (Some u ∷ ts) (suc i) t t2 e = ap (λ n. 1 + n) (as_many ts i t t2 e)

pub one_fewer : (ts : List (Option Tenant)) (i : ℕ) (t : Tenant) → get_or ts i None ≡ Some t → live_count ts ≡ 1 + live_count (slice_set ts i None)
one_fewer [] i t e = absurd (cc e)
one_fewer (None ∷ ts) zero t e = absurd (cc e)
one_fewer (Some u ∷ ts) zero t e = refl
one_fewer (None ∷ ts) (suc i) t e = one_fewer ts i t e
one_fewer (Some u ∷ ts) (suc i) t e = ap (λ n. 1 + n) (one_fewer ts i t e)

pub one_more : (ts : List (Option Tenant)) (t : Tenant) → live_count (ts ++ Some t ∷ []) ≡ 1 + live_count ts
one_more [] t = refl
one_more (None ∷ ts) t = one_more ts t
one_more (Some u ∷ ts) t = ap (λ n. 1 + n) (one_more ts t)

-- ---- places

pub seat_set : (rs : List (Option InstanceEntry)) (i : ℕ) (x : InstanceEntry) (o : Option InstanceEntry) → entry_at rs i ≡ Some x → (entry_at (slice_set rs i o) i ≡ o) × OthersStay rs i (slice_set rs i o)
seat_set rs i x o e = let in_range = some_within rs i x e in (get_or-set_same rs i o None in_range, λ j other. get_or-set_other rs i j o None other)

-- ---- runs

more : (w w2 w3 : World) (es : List Event) (e : Event) → AllHappen w es w2 → Happens w2 e w3 → AllHappen w (es ++ e ∷ []) w3
more w w2 w3 [] e r h = (w3, subst (λ z. Happens z e w3) r h, refl)
more w w2 w3 (x ∷ es) e r h = (r.0, r.1, more r.0 w2 w3 es e r.2 h)

-- one event more
pub reached_on : (w w2 : World) (e : Event) → IsReached w → Happens w e w2 → IsReached w2
reached_on w w2 e r h = record {
  frames = r.frames;
  slots = r.slots;
  tax = r.tax;
  events = r.events ++ e ∷ [];
  happen = more (empty_world r.frames r.slots r.tax) w w2 r.events e r.happen h;
}

befall_more : (w w2 w3 : World) (xs : List Step) (x : Step) → AllBefall w xs w2 → Befalls w2 x w3 → AllBefall w (xs ++ x ∷ []) w3
befall_more w w2 w3 [] x r h = (w3, subst (λ z. Befalls z x w3) r h, refl)
befall_more w w2 w3 (y ∷ ys) x r h = (r.0, r.1, befall_more r.0 w2 w3 ys x r.2 h)

befalls_on : (w w2 : World) (x : Step) → ComesAbout w → Befalls w x w2 → ComesAbout w2
befalls_on w w2 x c h = record {
  frames = c.frames;
  slots = c.slots;
  tax = c.tax;
  steps = c.steps ++ x ∷ [];
  befall = befall_more (empty_world c.frames c.slots c.tax) w w2 c.steps x c.befall h;
}

pub comes_on : (w w2 : World) (e : Event) → ComesAbout w → Happens w e w2 → ComesAbout w2
comes_on w w2 e c h = befalls_on w w2 (by_event e) c h

pub misread_on : (w w2 : World) → ComesAbout w → IsMisread w w2 → ComesAbout w2
misread_on w w2 c h = befalls_on w w2 by_misreading c h

pub places : (w : World) → ComesAbout w → PlacesAreTenants w
places w c = places_stay_right w c

-- ---- who is there

-- who has a place is an instance
pub record Found (h : HostState) (w : World) (place i : ℕ) (x : InstanceEntry) : Type 0 where
  pub t : Tenant
  pub live : tenant w i ≡ Some t
  pub at : t.place ≡ place
  pub is : IsEntryOf h.modules x w.space i t

pub found : (h : HostState) (w : World) (place i : ℕ) (x : InstanceEntry) → IsHost h w → entry_at h.entries place ≡ Some x → x.number ≡ Some i → Found h w place i x
found h w place i x st at number =
    let f = st.all place i x at number in
    let back = st.there i f.0 f.1 in
    let same : back.0 ≡ x = one_value back.0 x (sym back.1 ∙ ap (entry_at h.entries) f.2 ∙ at) in
    record { t = f.0; live = f.1; at = f.2; is = subst (λ z. IsEntryOf h.modules z w.space i f.0) same back.2 }

pub nobody : (h : HostState) (w : World) (id : InstId) → IsHost h w → entry_at h.entries id.place ≡ None → NoInstance w id
nobody h w id st none t live = let f = st.there id.number t live.0 in absurd (let bad : None ≡ Some f.0 = sym none ∙ ap (entry_at h.entries) (sym live.1) ∙ f.1 in cc bad)

pub somebody_else : (h : HostState) (w : World) (id : InstId) (x : InstanceEntry) → IsHost h w → entry_at h.entries id.place ≡ Some x → x.number ≢ Some id.number → NoInstance w id
somebody_else h w id x st at other t live = search rules

-- so there is one
pub one_there : (h : HostState) (w : World) (place i : ℕ) (x : InstanceEntry) → IsHost h w → entry_at h.entries place ≡ Some x → x.number ≡ Some i → 1 ≤ h.live
one_there h w place i x st at number =
    let f = found h w place i x st at number in
    omega (arith, one_fewer w.tenants i f.t f.live, st.live)

-- and lies there
pub lies_there : (h : HostState) (w : World) (place i : ℕ) (x : InstanceEntry) → IsHost h w → (f : Found h w place i x) → LiesAt f.is.loaded.linked x.page_limit x.tenant w.space place f.t
lies_there h w place i x st f =
    let claims = (places w st.comes).claimed i f.t f.live in
    let here : claim w.space place ≡ Some (promised i f.t.params) = ap (claim w.space) (sym f.at) ∙ claims in
    record {
      place_is = f.at;
      is = subst (λ n. IsTenant f.is.loaded.linked x.page_limit x.tenant (view w.space n) f.t) f.at f.is.is;
      within = subst (λ (c : Option Claimed). x.page_limit ≤ limit_by c) (sym here) f.is.limit;
      claimed = promised i f.t.params;
      claim_is = here;
    }

-- it is who it was where it sees what it saw
pub moved_on : (modules : List (Option LoadedModule)) (x : InstanceEntry) (s s2 : Space) (i : ℕ) (t : Tenant) → IsEntryOf modules x s i t → view s2 t.place ≡ view s t.place → IsEntryOf modules x s2 i t
moved_on modules x s s2 i t r sees = record {
  number = r.number;
  of = r.of;
  loaded = r.loaded;
  is_loaded = r.is_loaded;
  numbered = r.numbered;
  given = r.given;
  limit = r.limit;
  copied = r.copied;
  is = subst (λ b. IsTenant r.loaded.linked x.page_limit x.tenant b t) (sym sees) r.is;
}

-- and another one of the same owner, over what that one sees
pub same_owner : (modules : List (Option LoadedModule)) (x : InstanceEntry) (s s2 : Space) (i : ℕ) (t t2 : Tenant) (z : HostInstanceState) → (r : IsEntryOf modules x s i t) → t2.of ≡ t.of → t2.params ≡ t.params → t2.copied ≡ t.copied → IsTenant r.loaded.linked x.page_limit z (view s2 t2.place) t2 → IsEntryOf modules (record x { tenant = z }) s2 i t2
same_owner modules x s s2 i t t2 z r of params copied is = record {
  number = r.number;
  of = r.of ∙ sym of;
  loaded = r.loaded;
  is_loaded = r.is_loaded;
  numbered = r.numbered;
  given = subst (AreGivenAs x.given) (sym params) r.given;
  limit = subst (λ (p : Params). x.page_limit ≤ p.max / 16) (sym params) r.limit;
  copied = r.copied ∙ sym copied;
  is = is;
}

-- ---- one instance changes

pub changed : (h : HostState) (w : World) (place i : ℕ) (x y : InstanceEntry) (t2 : Tenant) (s2 : Space) → (st : IsHost h w) → entry_at h.entries place ≡ Some x → x.number ≡ Some i → t2.place ≡ place → IsEntryOf h.modules y s2 i t2
    → ((j : ℕ) → j ≢ place → view s2 j ≡ view w.space j) → ComesAbout (with_tenant w i (Some t2) s2) → IsHost (record h { entries = slice_set h.entries place (Some y); space = s2 }) (with_tenant w i (Some t2) s2)
changed h w place i x y t2 s2 st at_slot number lies represents sees comes =
    let mine = found h w place i x st at_slot number in
    let instance_refs = seat_set h.entries place x (Some y) at_slot in
    record {
      comes = comes;
      modules = st.modules;
      space = refl;
      live = st.live ∙ sym (as_many w.tenants i mine.t t2 mine.live);
      next = st.next ∙ sym (length_set w.tenants i (Some t2));
      next_module = st.next_module;
      there = λ k a e.
          ⊎_elim
          (λ (p : (k ≡ i) × (Some t2 ≡ Some a)).
          let one = one_value t2 a p.1 in
          let same : a.place ≡ place = sym (ap (λ (z : Tenant). z.place) one) ∙ lies in
          (y, ap (entry_at (slice_set h.entries place (Some y))) same ∙ instance_refs.0, subst (λ z. IsEntryOf h.modules y s2 k z) one (subst (λ n. IsEntryOf h.modules y s2 n t2) (sym p.0) represents)))
          (λ (p : (k ≢ i) × (get_or w.tenants k None ≡ Some a)).
          let f = st.there k a p.1 in
          let r = f.2 in
          let far : a.place ≢ place = λ z. p.0 (one_value k i (sym r.number ∙ ap (λ (v : InstanceEntry). v.number) (one_value f.0 x (sym f.1 ∙ ap (entry_at h.entries) z ∙ at_slot)) ∙ number)) in
          (f.0, instance_refs.1 a.place far ∙ f.1, moved_on h.modules f.0 w.space s2 k a r (sees a.place far)))
          (at_place w.tenants i k (Some t2) mine.t a mine.live e);
      all = λ p k z e n.
          ⊎_elim
          (λ (q : p ≡ place).
          let same : y ≡ z = one_value y z (sym instance_refs.0 ∙ ap (entry_at (slice_set h.entries place (Some y))) (sym q) ∙ e) in
          let in_range = some_within w.tenants i mine.t mine.live in
          let which : k ≡ i = one_value k i (sym n ∙ ap (λ (v : InstanceEntry). v.number) (sym same) ∙ represents.number) in
          (t2, ap (λ m. get_or (slice_set w.tenants i (Some t2)) m None) which ∙ get_or-set_same w.tenants i (Some t2) None in_range, lies ∙ sym q))
          (λ (q : p ≢ place).
          let f = st.all p k z (sym (instance_refs.1 p q) ∙ e) n in
          ⊎_elim
          (λ (same : k ≡ i). let one = one_value f.0 mine.t (sym f.1 ∙ ap (tenant w) same ∙ mine.live) in absurd (q (sym f.2 ∙ ap (λ (v : Tenant). v.place) one ∙ mine.at)))
          (λ (other : k ≢ i). (f.0, get_or-set_other w.tenants i k (Some t2) None other ∙ f.1, f.2))
          (same_or_not k i))
          (same_or_not p place);
    }

-- nothing changes
pub put_back : (h : HostState) (place : ℕ) (x : InstanceEntry) → entry_at h.entries place ≡ Some x → record h { entries = slice_set h.entries place (Some x) } ≡ h
put_back h place x e = ap (λ (zs : List (Option InstanceEntry)). let s : HostState = record h { entries = zs } in s) (ap (slice_set h.entries place) (sym e) ∙ set-get_or h.entries place None)

pub kept_back : (h : HostState) (place : ℕ) (x : InstanceEntry) (tenant : HostInstanceState) → tenant ≡ x.tenant → entry_at h.entries place ≡ Some x → record h { entries = slice_set h.entries place (Some (record x { tenant = tenant })) } ≡ h
kept_back h place x tenant same e = ap (λ (z : HostInstanceState). let s : HostState = record h { entries = slice_set h.entries place (Some (record x { tenant = z })) } in s) same ∙ put_back h place x e

-- ---- a turn

-- what a turn leaves of the instance and of the others
pub record StaysIn (s s2 : Space) (t t2 : Tenant) : Type 0 where
  pub place : t2.place ≡ t.place
  pub of : t2.of ≡ t.of
  pub params : t2.params ≡ t.params
  pub copied : t2.copied ≡ t.copied
  pub others : OthersLeftAlone t.place s s2

pub closed_stays : (s s0 : Space) (t : Tenant) {e : _} {es : _} {r : _} (t2 : Tenant) → Closes s t e es r t2 → OthersLeftAlone t.place s0 s → StaysIn s0 s t t2
closed_stays s s0 t t2 (faces_next alive faces) others = record { place = refl; of = refl; params = refl; copied = refl; others = others }
closed_stays s s0 t t2 (is_dead died) others = record { place = refl; of = refl; params = refl; copied = refl; others = others }

pub turn_stays : (q : ℕ) (s s2 : Space) (t t2 : Tenant) (answer : TurnEnd) → Turn q s t answer s2 t2 → StaysIn s s2 t t2
turn_stays q s s2 t t2 answer (is_idle none) = record { place = refl; of = refl; params = refl; copied = refl; others = (apart_none t.place s).others }
turn_stays q s s2 t t2 answer (has_ended {e = e} is_open goes alone pins closes) = closed_stays s2 s t t2 closes (apart_then (proceeds_apart t e goes) (apart_steps alone.steps)).others
turn_stays q s s2 t t2 answer (has_no_fuel {e = e} is_open goes alone pins) = record { place = refl; of = refl; params = refl; copied = refl; others = (apart_then (proceeds_apart t e goes) (apart_steps alone.steps)).others }
turn_stays q s s2 t t2 answer (has_no_frame {e = e} is_open goes alone pins) = record { place = refl; of = refl; params = refl; copied = refl; others = (apart_then (proceeds_apart t e goes) (apart_steps alone.steps)).others }
turn_stays q s s2 t t2 answer (can_go_on {e = e} is_open goes alone pins keeps) = record { place = refl; of = refl; params = refl; copied = refl; others = (apart_then (proceeds_apart t e goes) (apart_steps alone.steps)).others }
turn_stays q s s2 t t2 answer (keeps_its_fault is_open stands doing none next left ready) = record { place = refl; of = refl; params = refl; copied = refl; others = (apart_none t.place s).others }

-- of nobody
pub idle_host : {h : HostState} (w : World) (id : InstId) (q : ℕ) → NoInstance w id → IsHost h w → (w2 : World) × IsTurn w id q Idle w2 × HasSpent w id 0 w2 × IsHost h w2
idle_host w id q none st = (w, of_none none, (λ gone. refl, λ t t2 live. absurd (none t live)), st)

pub turned_host : (h : HostState) (w : World) (id : InstId) (q : ℕ) (x : InstanceEntry) (z : HostInstanceState) (answer : TurnEnd) (n : ℕ) (s2 : Space) (st : IsHost h w) → entry_at h.entries id.place ≡ Some x → x.number ≡ Some id.number → (f : Found h w id.place id.number x)
    → TurnsTo f.is.loaded.linked x.page_limit q w.space f.t answer n id.place z s2
    → (w2 : World) × IsTurn w id q answer w2 × HasSpent w id n w2 × IsHost (record h { entries = slice_set h.entries id.place (Some (record x { tenant = z })); space = s2 }) w2
turned_host h w id q x z answer n s2 st at number f (few, t2, its_turn, spends, lies2) =
    let stays = turn_stays q w.space s2 f.t t2 answer its_turn in
    let w2 = with_tenant w id.number (Some t2) s2 in
    let happens : IsTurn w id q answer w2 = of_one (f.live, f.at) its_turn in
    let over : IsTenant f.is.loaded.linked x.page_limit z (view s2 t2.place) t2 = subst (λ i. IsTenant f.is.loaded.linked x.page_limit z (view s2 i) t2) (sym lies2.place_is) lies2.is in
    let represents = same_owner h.modules x w.space s2 id.number f.t t2 z f.is stays.of stays.params stays.copied over in
    let sees : (j : ℕ) → j ≢ id.place → view s2 j ≡ view w.space j = λ j other. (stays.others j (λ e. other (e ∙ f.at))).view in
    (w2, happens, has_spent w id n f.t t2 s2 (f.live, f.at) spends, changed h w id.place id.number x (record x { tenant = z }) t2 s2 st at number lies2.place_is represents sees (comes_on w w2 (turn id q) st.comes (answer, happens)))

-- the module of who is there
pub module_is : (h : HostState) (w : World) (place i : ℕ) (x : InstanceEntry) (m : LoadedModule) → (f : Found h w place i x) → module_in h.modules x.module_place ≡ Some m → f.is.loaded ≡ m
module_is h w place i x m f is = one_value f.is.loaded m (sym f.is.is_loaded ∙ is)

-- who is there lies in the memory that the code has
pub lies_here : (h : HostState) (w : World) (place i : ℕ) (x : InstanceEntry) (m : LoadedModule) → (st : IsHost h w) → entry_at h.entries place ≡ Some x → x.number ≡ Some i → module_in h.modules x.module_place ≡ Some m → (t : Tenant) × (tenant w i ≡ Some t) × LiesAt m.linked x.page_limit x.tenant h.space place t
lies_here h w place i x m st at number is =
    let f = found h w place i x st at number in
    let lies = lies_there h w place i x st f in
    let by_module = subst (λ (z : LoadedModule). LiesAt z.linked x.page_limit x.tenant w.space place f.t) (module_is h w place i x m f is) lies in
    (f.t, f.live, subst (λ s. LiesAt m.linked x.page_limit x.tenant s place f.t) (sym st.space) by_module)

pub turned_here : (h : HostState) (w : World) (id : InstId) (q : ℕ) (x : InstanceEntry) (z : HostInstanceState) (m : LoadedModule) (answer : TurnEnd) (n : ℕ) (s2 : Space) → IsHost h w → entry_at h.entries id.place ≡ Some x → x.number ≡ Some id.number → module_in h.modules x.module_place ≡ Some m
    → ((t : Tenant) → LiesAt m.linked x.page_limit x.tenant h.space id.place t → TurnsTo m.linked x.page_limit q h.space t answer n id.place z s2)
    → (w2 : World) × IsTurn w id q answer w2 × HasSpent w id n w2 × IsHost (record h { entries = slice_set h.entries id.place (Some (record x { tenant = z })); space = s2 }) w2
turned_here h w id q x z m answer n s2 st at number is turns =
    let f = found h w id.place id.number x st at number in
    let lies = lies_there h w id.place id.number x st f in
    let one = module_is h w id.place id.number x m f is in
    let by_module = subst (λ (l : LoadedModule). LiesAt l.linked x.page_limit x.tenant w.space id.place f.t) one lies in
    let to = turns f.t (subst (λ s. LiesAt m.linked x.page_limit x.tenant s id.place f.t) (sym st.space) by_module) in
    let in_world = subst (λ s. TurnsTo m.linked x.page_limit q s f.t answer n id.place z s2) st.space to in
    turned_host h w id q x z answer n s2 st at number f (subst (λ (l : LoadedModule). TurnsTo l.linked x.page_limit q w.space f.t answer n id.place z s2) (sym one) in_world)

-- The turns of who is there, which came to that as one, are a series of turns.
pub series_here : (h : HostState) (w : World) (id : InstId) (q turns n : ℕ) (x : InstanceEntry) (z : HostInstanceState) (m : LoadedModule) (end : TurnEnd) (s2 : Space) → IsHost h w → entry_at h.entries id.place ≡ Some x → x.number ≡ Some id.number → module_in h.modules x.module_place ≡ Some m → AreUsed q turns n
    → ((t : Tenant) → LiesAt m.linked x.page_limit x.tenant h.space id.place t → (t.open_calls ≢ []) × EndsTurn m.linked x.page_limit (turns * q) n h.space t end id.place z s2)
    → (w2 : World) × SeriesOf q id w turns n end w2 × IsHost (record h { entries = slice_set h.entries id.place (Some (record x { tenant = z })); space = s2 }) w2
series_here h w id q turns n x z m end s2 st at number is used ends =
    let f = found h w id.place id.number x st at number in
    let lies = lies_there h w id.place id.number x st f in
    let one = module_is h w id.place id.number x m f is in
    let by_module = subst (λ (l : LoadedModule). LiesAt l.linked x.page_limit x.tenant w.space id.place f.t) one lies in
    let to = ends f.t (subst (λ s. LiesAt m.linked x.page_limit x.tenant s id.place f.t) (sym st.space) by_module) in
    let in_world = subst (λ s. EndsTurn m.linked x.page_limit (turns * q) n s f.t end id.place z s2) st.space to.1 in
    let (few, least, (most, t2, its_turn, spends, lies2)) = subst (λ (l : LoadedModule). EndsTurn l.linked x.page_limit (turns * q) n w.space f.t end id.place z s2) (sym one) in_world in
    let stays = turn_stays few w.space s2 f.t t2 end its_turn in
    let w2 = with_tenant w id.number (Some t2) s2 in
    let over : IsTenant f.is.loaded.linked x.page_limit z (view s2 t2.place) t2 = subst (λ i. IsTenant f.is.loaded.linked x.page_limit z (view s2 i) t2) (sym lies2.place_is) lies2.is in
    let represents = same_owner h.modules x w.space s2 id.number f.t t2 z f.is stays.of stays.params stays.copied over in
    let sees : (j : ℕ) → j ≢ id.place → view s2 j ≡ view w.space j = λ j other. (stays.others j (λ e. other (e ∙ f.at))).view in
    let happens : IsTurn w id few end w2 = of_one (f.live, f.at) its_turn in
    let claimed : claim w.space f.t.place ≡ Some lies.claimed = ap (claim w.space) f.at ∙ lies.claim_is in (
      w2,
      series_of_turns q turns id w few n f.t t2 end s2 lies.claimed (f.live, f.at) claimed to.0 least most used spends its_turn,
      changed h w id.place id.number x (record x { tenant = z }) t2 s2 st at number lies2.place_is represents sees (comes_on w w2 (turn id few) st.comes (end, happens)),
    )

-- its module is there
pub no_module_less : (h : HostState) (w : World) (place i : ℕ) (x : InstanceEntry) → IsHost h w → entry_at h.entries place ≡ Some x → x.number ≡ Some i → module_in h.modules x.module_place ≡ None → ⊥
no_module_less h w place i x st at number none = let f = found h w place i x st at number in absurd (let bad : None ≡ Some f.is.loaded = sym none ∙ f.is.is_loaded in cc bad)

-- ---- what is asked of the present call

-- it is the same instance
pub record SameTenant (t t2 : Tenant) : Type 0 where
  pub place : t2.place ≡ t.place
  pub of : t2.of ≡ t.of
  pub params : t2.params ≡ t.params
  pub copied : t2.copied ≡ t.copied

pub refuel_stays : (t : Tenant) (n : ℕ) (t2 : Tenant) → Refuels t n t2 → SameTenant t t2
refuel_stays t n t2 (has_more is_open stands) = record { place = refl; of = refl; params = refl; copied = refl }

pub retry_stays : (t t2 : Tenant) → Retries t t2 → SameTenant t t2
retry_stays t t2 (may_try is_open stands) = record { place = refl; of = refl; params = refl; copied = refl }

pub asked_found : (h : HostState) (w : World) (id : InstId) (x : InstanceEntry) (z : HostInstanceState) (R : Tenant → Tenant → Type 0) → (st : IsHost h w) → entry_at h.entries id.place ≡ Some x → x.number ≡ Some id.number
    → ((t t2 : Tenant) → R t t2 → SameTenant t t2) → (f : Found h w id.place id.number x) → (t2 : Tenant) × R f.t t2 × IsTenant f.is.loaded.linked x.page_limit z (view w.space f.t.place) t2
    → (e : Event) → ((t t2 : Tenant) → IsLive w id t → R t t2 → Happens w e (with_tenant w id.number (Some t2) w.space))
    → (t t2 : Tenant) × IsLive w id t × R t t2 × IsHost (record h { entries = slice_set h.entries id.place (Some (record x { tenant = z })) }) (with_tenant w id.number (Some t2) w.space)
asked_found h w id x z R st at number stays f made e happens =
    let t2 = made.0 in
    let alike = stays f.t t2 made.1 in
    let live : IsLive w id f.t = (f.live, f.at) in
    let y : InstanceEntry = record x { tenant = z } in
    let over : IsTenant f.is.loaded.linked x.page_limit z (view w.space t2.place) t2 = subst (λ i. IsTenant f.is.loaded.linked x.page_limit z (view w.space i) t2) (sym alike.place) made.2 in
    let represents = same_owner h.modules x w.space w.space id.number f.t t2 z f.is alike.of alike.params alike.copied over in
    let w2 = with_tenant w id.number (Some t2) w.space in
    let then = changed h w id.place id.number x y t2 w.space st at number (alike.place ∙ f.at) represents (λ j other. refl) (comes_on w w2 e st.comes (happens f.t t2 live made.1)) in
    let rs = slice_set h.entries id.place (Some y) in
    (f.t, t2, live, made.1, subst (λ s. IsHost (record h { entries = rs; space = s }) w2) (sym st.space) then)

pub asked_here : (h : HostState) (w : World) (id : InstId) (x : InstanceEntry) (z : HostInstanceState) (R : Tenant → Tenant → Type 0) → (st : IsHost h w) → entry_at h.entries id.place ≡ Some x → x.number ≡ Some id.number
    → ((t t2 : Tenant) → R t t2 → SameTenant t t2) → OfAnyTenant x.tenant (λ l limit bytes t. (t2 : Tenant) × R t t2 × IsTenant l limit z bytes t2)
    → (e : Event) → ((t t2 : Tenant) → IsLive w id t → R t t2 → Happens w e (with_tenant w id.number (Some t2) w.space))
    → (t t2 : Tenant) × IsLive w id t × R t t2 × IsHost (record h { entries = slice_set h.entries id.place (Some (record x { tenant = z })) }) (with_tenant w id.number (Some t2) w.space)
asked_here h w id x z R st at number stays asked e happens =
    let f = found h w id.place id.number x st at number in
    asked_found h w id x z R st at number stays f (asked f.is.loaded.linked x.page_limit (view w.space f.t.place) f.t f.is.is) e happens

-- of whoever is there it is so
pub of_who_is_there : (h : HostState) (w : World) (id : InstId) (x : InstanceEntry) (P : Tenant → Type 0) → IsHost h w → entry_at h.entries id.place ≡ Some x → x.number ≡ Some id.number → OfAnyTenant x.tenant (λ l limit bytes t. P t) → (t : Tenant) × IsLive w id t × P t
of_who_is_there h w id x P st at number asked =
    let f = found h w id.place id.number x st at number in
    (f.t, (f.live, f.at), asked f.is.loaded.linked x.page_limit (view w.space f.t.place) f.t f.is.is)

-- ---- a new host

pub new_host : (h : HostState) (frames slots : ℕ) (tax : Tax) → h.modules ≡ [] → h.module_refs ≡ [] → h.entries ≡ [] → h.live ≡ 0 → h.next ≡ 0 → h.next_module ≡ 0 → IsSound h.space → IsNew h.space frames slots tax → IsNewHost h frames slots tax
new_host h frames slots tax modules module_refs entries live next next_module sound is =
    let w : World = record { modules = []; tenants = []; space = h.space } in
    let same : (j : ℕ) → LeftAlone j (empty_space frames slots tax) h.space = λ j. rw is.is (record { view = refl; wants = refl; claim = refl; promise = inl refl }) in
    let reached : IsReached w = record { frames = frames; slots = slots; tax = tax; events = epoch ∷ []; happen = (w, (h.space, (same, sound), refl), refl) } in
    let no_module : (place : ℕ) (m : LoadedModule) → module_in h.modules place ≡ Some m → ⊥ = λ place m e. (let bad : None ≡ Some m = sym (ap (λ (ms : List (Option LoadedModule)). module_in ms place) modules) ∙ e in absurd (cc bad)) in
    let st : IsHost h w = record {
      comes = record { frames = frames; slots = slots; tax = tax; steps = by_event epoch ∷ []; befall = (w, (h.space, (same, sound), refl), refl) };
      modules = record {
        listed = module_refs;
        all = λ place m e. absurd (no_module place m e);
        once = λ p q m n e. absurd (no_module p m e);
      };
      space = refl;
      live = live;
      next = next;
      next_module = next_module;
      there = λ i t e. absurd (let bad : None ≡ Some t = e in cc bad);
      all = λ place i x e n. absurd (let bad : None ≡ Some x = sym (ap (λ (xs : List (Option InstanceEntry)). entry_at xs place) entries) ∙ e in cc bad);
    } in
    (w, st, reached, refl, refl, is)
