-- A fork, and the host that it leaves.
use Rattle.std.proofs.Common.{◌≡◌, ◌≢◌, ◌/◌, ℕ, ◌+◌, ◌<◌, ◌≤◌, ⊎_elim, inl, inr, true, false, Some, None, [], ◌∷◌, ◌++◌, Err, get_or, length, refl, sym, ap, subst, ◌∙◌, arith}
use Rattle.slab.specs.Slab.{Slab, Updates}
use Rattle.wh_model.specs.Format.{Module}
use Rattle.wh_model.specs.Execution.{IsInitial, first_size, last_size, memory_min, needs_more, segment_bounds}
use Rattle.wh_space_model.specs.declared.plain.InstId.{InstId}
use Rattle.wh_space_model.specs.{Claimed, Copies, IsAway, Space, view}
use Rattle.wh_host_model.specs.Host.{ForkAnswer, Forks, IsFork, IsLive, MeetsForkFault, Tenant, World, fork, fork_ok, fork_out_of_memory, fork_refused, is_forked, isnt_forked, no_memory_to_fork, loaded_of, promised}
use Rattle.wh_host_model.specs.{AdmitFault, ForkFault, Params, Quota, admit_rank, call_open, fork_rank, frames, given_of, instances, memory, min_max, not_admitted, other_limit, page_away, shares, start_failed, swap, with_quota}
use Rattle.wh_host_model.proofs.Host.Arriving.{copies_arrive}
use Rattle.wh_load.specs.Refusing.{view_linked}
use Rattle.wh_admit.specs.declared.error.AdmitError.{AdmitError}
use Rattle.wh_admit.specs.declared.error.AdmitError.TheVariants.{NoModule, Shares, MinMax, Frames, Swap, Instances, MemoryMin, SegmentBounds, Memory as NoRoom}
use Rattle.wh_admit.specs.declared.fork_error.ForkError.{ForkError}
use Rattle.wh_admit.specs.declared.fork_error.ForkError.TheVariants.{NoInstance, CallOpen, StartFailed, NotAdmitted, OtherLimit, PageAway, Memory}
use Rattle.wh_admit.specs.declared.outcome.AdmittedQuota.{AdmittedQuota}
use Rattle.wh_admit.specs.declared.room.Room.{Room}
use Rattle.wh_admit.specs.AdmissionFaults.{MeetsFirst, MeetsNone}
use Rattle.wh_admit.specs.AdmissionNumbers.{HasNumbers}
use Rattle.wh_admit.specs.AdmitErrors.{fault_of}
use Rattle.wh_admit.specs.QuotaFaults.{RefusesAsAdmission}
use Rattle.wh_admit.specs.RepresentedHost.{RepresentsHost}
use Rattle.wh_admit.proofs.FaultLemmas.{below_nine, past_beginning, refuses_beginning}
use Rattle.wh_admit.proofs.HostLemmas.{meets_none, numbers_refused, refuses_for}
use Rattle.wh_instance.specs.Tenancy.{IsTenant}
use Rattle.wh_instance.proofs.Duplicates.{none_open_here}
use Rattle.wh_space.specs.Arrivals.{claimed}
use Rattle.wh_space.specs.declared.occupant_entry.Promise.{Promise}
use Rattle.wh_host.specs.declared.parts.LoadedModule.{LoadedModule}
use Rattle.wh_host.specs.declared.parts.InstanceEntry.{InstanceEntry}
use Rattle.wh_host.specs.ForkAnswers.{CopiesEntry, CopiesNext, GrantsFork, GrantsInRoom, IsForkAnswer, IsLeftBy, MayFork, RefusesFork, claim_by}
use Rattle.wh_host.specs.Hosting.{AreGivenAs, HostState, IsEntryOf, IsHost, entry_at, loaded_as, module_in}
use Rattle.wh_host.proofs.Begun.{HasBegun, has_begun, in_bounds_still, too_many_at_first}
use Rattle.wh_host.proofs.Comers.{joins, stands, within_limit}
use Rattle.wh_host.proofs.Hosts.{found, module_is, one_value}
use Rattle.wh_host.proofs.Requests.{module_there, sound_here}

-- ---- faults of an admission

-- the first that a quota meets, out of memory aside
as_admission : (m : Module) (room : Room) (p : Params) (q : Quota) (e : AdmitError) → RefusesAsAdmission m.memories q room e → (fault : AdmitFault) × (fault_of e ≡ Some fault) × MeetsFirst (Some m) room (with_quota p q) fault
as_admission m room p q NoModule is = absurd is
as_admission m room p q Shares is = (shares, refl, numbers_refused m room (with_quota p q) Shares is)
as_admission m room p q MinMax is = (min_max, refl, numbers_refused m room (with_quota p q) MinMax is)
as_admission m room p q Frames is = (frames, refl, numbers_refused m room (with_quota p q) Frames is)
as_admission m room p q Swap is = (swap, refl, numbers_refused m room (with_quota p q) Swap is)
as_admission m room p q Instances is = (instances, refl, numbers_refused m room (with_quota p q) Instances is)
as_admission m room p q MemoryMin is = (memory, refl, refuses_for (Some m) room (with_quota p q) (Some memory) (refuses_beginning m room (with_quota p q) is.0 MemoryMin (needs_more is.1)))
as_admission m room p q SegmentBounds is = absurd is
as_admission m room p q NoRoom is = absurd is

-- it meets none where its numbers are admitted and its memory may begin, since the instance has begun
admits : (m : Module) (room : Room) (p : Params) (q : Quota) (inst : _) → HasNumbers q room → first_size m.memories ≤ q.max / 16 → HasBegun m (given_of p) inst → MeetsNone (Some m) room (with_quota p q)
admits m room p q inst numbers fits begun =
    let p2 = with_quota p q in
    meets_none (Some m) room p2
    (past_beginning m room p2 numbers
    (λ met.
    (let same : met.0 ≡ m = one_value met.0 m (sym met.1) in
    let few = too_many_at_first m (given_of p2) (subst (λ z. IsInitial z (given_of p2) memory_min) same met.2) in
    absurd (omega (arith, few, fits))))
    (λ met.
    (let same : met.0 ≡ m = one_value met.0 m (sym met.1) in
    in_bounds_still m (given_of p) (given_of p2) inst begun refl refl (subst (λ z. IsInitial z (given_of p2) segment_bounds) same met.2))))

-- ---- the instance that is meant

pub record Meant (h : HostState) (w : World) (id : InstId) (x : InstanceEntry) (m : LoadedModule) : Type 0 where
  t : Tenant
  live : IsLive w id t
  of : x.of ≡ t.of
  known : loaded_of w t.of ≡ Some (loaded_as m)
  numbered : m.number ≡ x.of
  is : IsTenant m.linked x.page_limit x.tenant (view w.space t.place) t
  begun : HasBegun (view_linked m.linked) (given_of t.params) t.inst
  given : AreGivenAs x.given t.params

meant : (h : HostState) (w : World) (id : InstId) (x : InstanceEntry) (m : LoadedModule) → IsHost h w → entry_at h.entries id.place ≡ Some x → x.number ≡ Some id.number → module_in h.modules x.module_place ≡ Some m → Meant h w id x m
meant h w id x m st at number is =
    let f = found h w id.place id.number x st at number in
    let its = module_there h w id.place id.number x m st f is in
    let known = its.0 in
    let first = has_begun w id.number f.t st.comes f.live in
    let same : first.0 ≡ loaded_as m = one_value first.0 (loaded_as m) (sym first.1 ∙ known) in
    record {
      t = f.t;
      live = (f.live, f.at);
      of = f.is.of;
      known = known;
      numbered = its.1;
      is = subst (λ (z : LoadedModule). IsTenant z.linked x.page_limit x.tenant (view w.space f.t.place) f.t) (module_is h w id.place id.number x m f is) f.is.is;
      begun = subst (λ z. HasBegun z.m (given_of f.t.params) f.t.inst) same first.2;
      given = f.is.given;
    }

-- ---- faults in their order

before : (w : World) (t : Tenant) (q : Quota) (n : ℕ) → (0 < n → ¬ (MeetsForkFault w t q call_open)) → (1 < n → ¬ (MeetsForkFault w t q start_failed)) → ((f : AdmitFault) → 1 + admit_rank f < n → ¬ (MeetsForkFault w t q (not_admitted f))) → (10 < n → ¬ (MeetsForkFault w t q other_limit)) → (11 < n → ¬ (MeetsForkFault w t q page_away))
    → (f : ForkFault) → fork_rank f < n → ¬ (MeetsForkFault w t q f)
before w t q n a b c d e call_open less = a less
before w t q n a b c d e start_failed less = b less
before w t q n a b c d e (not_admitted f) less = c f less
before w t q n a b c d e other_limit less = d less
before w t q n a b c d e page_away less = e less

module _ (h : HostState) (w : World) (id : InstId) (x : InstanceEntry) (m : LoadedModule) (q : Quota) (st : IsHost h w) (is : module_in h.modules x.module_place ≡ Some m) (f : Meant h w id x m) where
  limit_is : x.page_limit ≡ f.t.inst.page_limit
  limit_is = let has = f.is.store in has.1.store.limit

  pages_are : length (get_or h.space.tables id.place []) ≡ length (get_or w.space.tables f.t.place [])
  pages_are = ap (λ (s : Space). length (get_or s.tables id.place [])) st.space ∙ ap (λ n. length (get_or w.space.tables n [])) (sym f.live.1)

  away_there : IsAway h.space id.place → IsAway w.space f.t.place
  away_there away = subst (IsAway w.space) (sym f.live.1) (subst (λ s. IsAway s id.place) st.space away)

  away_back : IsAway w.space f.t.place → IsAway h.space id.place
  away_back away = subst (λ s. IsAway s id.place) (sym st.space) (subst (IsAway w.space) f.live.1 away)

  represents : (room : Room) → IsLeftBy h.space h.live room → RepresentsHost w f.t.of (Some (view_linked m.linked)) room
  represents room left = stands h w f.t.of m room st f.known left.frames left.slots left.count

  is_idle : MayFork x → ¬ (MeetsForkFault w f.t q call_open)
  is_idle may some = some (may.idle m.linked x.page_limit (view w.space f.t.place) f.t f.is)

  is_alive : MayFork x → ¬ (MeetsForkFault w f.t q start_failed)
  is_alive may failed = let bad : false ≡ true = sym may.alive ∙ f.is.dead ∙ failed in absurd (cc bad)

  is_admitted : (a : AdmittedQuota) → GrantsInRoom x m h.space h.live id.place q a → (g : AdmitFault) → ¬ (MeetsForkFault w f.t q (not_admitted g))
  is_admitted a grants g = admits (view_linked m.linked) grants.room f.t.params q f.t.inst grants.grants.numbers grants.grants.begins f.begun w f.t.of (represents grants.room grants.is_left) g

  grows_as_far : (a : AdmittedQuota) → GrantsInRoom x m h.space h.live id.place q a → ¬ (MeetsForkFault w f.t q other_limit)
  grows_as_far a grants (inl (l, at, other)) =
      let same : l ≡ loaded_as m = one_value l (loaded_as m) (sym at ∙ f.known) in
      other (ap (λ z. last_size z.m.memories (q.max / 16)) same ∙ grants.grants.same_limit ∙ limit_is)
  grows_as_far a grants (inr more) = let within = grants.grants.within in let pages = pages_are in absurd (omega (arith, more, within, pages))

  -- none is met
  pub grants_all : (a : AdmittedQuota) → GrantsFork x m h.space h.live id.place q a → (fault : ForkFault) → ¬ (MeetsForkFault w f.t q fault)
  grants_all a grants call_open = is_idle grants.granted.may
  grants_all a grants start_failed = is_alive grants.granted.may
  grants_all a grants (not_admitted g) = is_admitted a grants.granted g
  grants_all a grants other_limit = grows_as_far a grants.granted
  grants_all a grants page_away = λ away. grants.here (away_back away)

  -- or this is the first
  pub refuses_one : (e : ForkError) → RefusesFork x m h.space h.live id.place q e → (answer : ForkAnswer) × IsForkAnswer (Err e) answer × IsFork w id q answer w
  refuses_one NoInstance is_one = absurd is_one
  refuses_one CallOpen is_one =
      (fork_refused call_open, refl, isnt_forked f.live (is_one m.linked x.page_limit (view w.space f.t.place) f.t f.is, λ other less. absurd (omega (arith, less))))
  refuses_one StartFailed is_one =
      let idle = is_one.0 m.linked x.page_limit (view w.space f.t.place) f.t f.is in (
        fork_refused start_failed,
        refl,
        isnt_forked f.live
            (sym f.is.dead ∙ is_one.1, before w f.t q 1 (λ less some. some idle) (λ less. absurd (omega (arith, less))) (λ g less. absurd (omega (arith, less))) (λ less. absurd (omega (arith, less))) (λ less. absurd (omega (arith, less)))),
      )
  refuses_one (NotAdmitted e) is_one =
      let first = as_admission (view_linked m.linked) is_one.room f.t.params q e is_one.refuses in
      let fault = first.0 in
      let few = below_nine fault in
      let met = first.2 w f.t.of (represents is_one.room is_one.is_left) in (
        fork_refused (not_admitted fault),
        (fault, first.1, refl),
        isnt_forked f.live
            (met.0, before w f.t q (1 + admit_rank fault) (λ less. is_idle is_one.may) (λ less. is_alive is_one.may) (λ g less. met.1 g (omega (arith, less))) (λ less. absurd (omega (arith, less, few))) (λ less. absurd (omega (arith, less, few)))),
      )
  refuses_one OtherLimit is_one =
      let r = is_one.refuses in
      let pages = pages_are in
      let met : MeetsForkFault w f.t q other_limit =
      ⊎_elim (λ (other : last_size (view_linked m.linked).memories (q.max / 16) ≢ x.page_limit). inl (loaded_as m, f.known, λ e. other (e ∙ sym limit_is))) (λ (more : q.max < length (get_or h.space.tables id.place [])). inr (omega (arith, more, pages))) r.2 in
      let none = admits (view_linked m.linked) is_one.room f.t.params q f.t.inst r.0 r.1 f.begun w f.t.of (represents is_one.room is_one.is_left) in (
        fork_refused other_limit,
        refl,
        isnt_forked f.live
            (met, before w f.t q 10 (λ less. is_idle is_one.may) (λ less. is_alive is_one.may) (λ g less. none g) (λ less. absurd (omega (arith, less))) (λ less. absurd (omega (arith, less)))),
      )
  refuses_one PageAway is_one = (
    fork_refused page_away,
    refl,
    isnt_forked f.live
        (away_there is_one.2, before w f.t q 11 (λ less. is_idle is_one.1.may) (λ less. is_alive is_one.1.may) (λ g less. is_admitted is_one.0 is_one.1 g) (λ less. grows_as_far is_one.0 is_one.1) (λ less. absurd (omega (arith, less)))),
  )
  refuses_one Memory is_one = absurd is_one

pub refused_fork : (h : HostState) (w : World) (id : InstId) (x : InstanceEntry) (m : LoadedModule) (q : Quota) (e : ForkError) → IsHost h w → entry_at h.entries id.place ≡ Some x → x.number ≡ Some id.number → module_in h.modules x.module_place ≡ Some m
    → RefusesFork x m h.space h.live id.place q e → (answer : ForkAnswer) × IsForkAnswer (Err e) answer × IsFork w id q answer w
refused_fork h w id x m q e st at number is refuses = refuses_one h w id x m q st is (meant h w id x m st at number is) e refuses

pub no_memory_here : (h : HostState) (w : World) (id : InstId) (x : InstanceEntry) (m : LoadedModule) (q : Quota) (a : AdmittedQuota) → IsHost h w → entry_at h.entries id.place ≡ Some x → x.number ≡ Some id.number → module_in h.modules x.module_place ≡ Some m
    → GrantsFork x m h.space h.live id.place q a → IsFork w id q fork_out_of_memory w
no_memory_here h w id x m q a st at number is grants =
    let f = meant h w id x m st at number is in
    no_memory_to_fork f.live (grants_all h w id x m q st is f a grants)

-- the code has no open call either
pub idle_there : (h : HostState) (w : World) (id : InstId) (x : InstanceEntry) (m : LoadedModule) → IsHost h w → entry_at h.entries id.place ≡ Some x → x.number ≡ Some id.number → module_in h.modules x.module_place ≡ Some m
    → MayFork x → x.tenant.journal.open_calls ≡ []
idle_there h w id x m st at number is may =
    let f = meant h w id x m st at number is in
    none_open_here x.tenant.journal.open_calls f.t.open_calls (may.idle m.linked x.page_limit (view w.space f.t.place) f.t f.is) f.is.open_calls

-- ---- the copy

abbrev pub promise_by : ℕ → AdmittedQuota → Promise
promise_by number a = record { number = number; shares = a.shares; min = a.min_frames; max = a.max_frames }

pub claim_is_by : (number : ℕ) (a : AdmittedQuota) (q : Quota) → a.shares ≡ q.shares → a.min_frames ≡ q.min → a.max_frames ≡ q.max → claimed (promise_by number a) ≡ claim_by number q
claim_is_by number a q part least most = rw (part, least, most) refl

pub forked_here : (h : HostState) (w : World) (id : InstId) (x y : InstanceEntry) (m : LoadedModule) (q : Quota) (a : AdmittedQuota) (place : ℕ) (rs rs1 rs2 : Slab InstanceEntry) (s2 : Space) → (st : IsHost h w) → entry_at h.entries id.place ≡ Some x → x.number ≡ Some id.number → module_in h.modules x.module_place ≡ Some m
    → GrantsFork x m h.space h.live id.place q a → CopiesEntry x h.next a y → rs.slots ≡ h.entries → CopiesNext rs h.space id.place (promise_by h.next a) place rs1 s2 → Updates rs1 rs2 place (Some y)
    → (w2 : World) × IsFork w id q (fork_ok (record { place = place; number = h.next })) w2 × IsHost (record h { entries = rs2.slots; live = h.live + 1; space = s2; next = h.next + 1 }) w2
forked_here h w id x y m q a place rs rs1 rs2 s2 st at number is grants copied are next updates =
    let f = meant h w id x m st at number is in
    let g = grants.granted.grants in
    let t2 : Tenant = record f.t { place = place; params = with_quota f.t.params q; copied = length f.t.ended; waiting_for = None } in
    let w2 : World = record w { tenants = w.tenants ++ Some t2 ∷ []; space = s2 } in
    let claim : claimed (promise_by h.next a) ≡ promised h.next (with_quota f.t.params q) = claim_is_by h.next a q g.shares g.min g.max in
    let copies : Copies w.space f.t.place place (promised h.next (with_quota f.t.params q)) s2 =
    subst (λ (c : Claimed). Copies w.space f.t.place place c s2) claim (subst (λ i. Copies w.space i place (claimed (promise_by h.next a)) s2) (sym f.live.1) (subst (λ s. Copies s id.place place (claimed (promise_by h.next a)) s2) st.space next.copies)) in
    let arrives = copies_arrive w.space f.t.place place (promised h.next (with_quota f.t.params q)) s2 (sound_here h w st) copies in
    let forks : Forks w f.t q place h.next w2 = record { no_fault = grants_all h w id x m q st is f a grants; space = s2; copies = copies; next = st.next; after = refl } in
    let new : InstId = record { place = place; number = h.next } in
    let happens : IsFork w id q (fork_ok new) w2 = is_forked {new = new} f.live forks in
    let same_limit : y.page_limit ≡ x.page_limit = copied.limit in
    let copy = copied.copies m.linked x.page_limit (view w.space f.t.place) f.t f.is in
    let same : IsTenant m.linked x.page_limit y.tenant (view w.space f.t.place) t2 = record {
      store = copy.store;
      ended = copy.ended;
      open_calls = copy.open_calls;
      is_where = copy.is_where;
      waiting = copy.waiting;
      counted = copy.counted;
      waiting_for = copy.waiting_for;
      fresh = copy.fresh;
      dead = copy.dead;
    } in
    let over : IsTenant m.linked y.page_limit y.tenant (view s2 place) t2 = subst (λ n. IsTenant m.linked n y.tenant (view s2 place) t2) (sym same_limit) (subst (λ b. IsTenant m.linked x.page_limit y.tenant b t2) (sym arrives.view) same) in
    let most = within_limit (view_linked m.linked).memories (q.max / 16) in
    let far = g.same_limit in
    let given : AreGivenAs y.given t2.params = subst (λ z. AreGivenAs z t2.params) (sym copied.given) (record { shares = g.shares; min = g.min; max = g.max; fuel = f.given.fuel; base = f.given.base; salt = f.given.salt }) in
    let represents : IsEntryOf h.modules y s2 h.next t2 = record {
      number = copied.number_is;
      of = copied.of ∙ f.of;
      loaded = m;
      is_loaded = ap (module_in h.modules) copied.module_place ∙ is;
      numbered = f.numbered ∙ sym copied.of;
      given = given;
      limit = omega (arith, same_limit, far, most);
      copied = sym (copied.copied m.linked x.page_limit (view w.space f.t.place) f.t f.is);
      is = over;
    } in
    (w2, happens, joins h w (fork id q) t2 y place rs rs1 rs2 s2 st are next.vacant next.slots updates refl (λ j other. (arrives.others j other).view) represents (fork_ok new, happens))

-- the same, by what the calls of the code ensure
pub copied_here : (h : HostState) (w : World) (id : InstId) (x y : InstanceEntry) (m : LoadedModule) (q : Quota) (a : AdmittedQuota) (promise : Promise) (place key next : ℕ) (rs rs1 rs2 : Slab InstanceEntry) (s2 : Space) → (st : IsHost h w) → entry_at h.entries id.place ≡ Some x → x.number ≡ Some id.number → module_in h.modules x.module_place ≡ Some m
    → GrantsFork x m h.space h.live id.place q a → CopiesEntry x h.next a y → promise ≡ promise_by h.next a → rs.slots ≡ h.entries → CopiesNext rs h.space id.place promise place rs1 s2 → key ≡ rs1.vacant_key → Updates rs1 rs2 key (Some y) → next ≡ h.next + 1
    → (w2 : World) × IsFork w id q (fork_ok (record { place = place; number = h.next })) w2 × IsHost (record h { entries = rs2.slots; live = h.live + 1; space = s2; next = next }) w2
copied_here h w id x y m q a promise place key next rs rs1 rs2 s2 st at number is grants copied by are copies at_key updates one_on =
    let made = forked_here h w id x y m q a place rs rs1 rs2 s2 st at number is grants copied are (subst (λ p. CopiesNext rs h.space id.place p place rs1 s2) by copies) (subst (λ n. Updates rs1 rs2 n (Some y)) (at_key ∙ copies.next) updates) in
    (made.0, made.1, subst (λ n. IsHost (record h { entries = rs2.slots; live = h.live + 1; space = s2; next = n }) made.0) (sym one_on) made.2)
