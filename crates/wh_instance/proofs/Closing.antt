-- The end of a call, as the code's instance has it and as the host's definitions do.
use Rattle.std.proofs.Common.{◌≡◌, ℕ, ◌+◌, Bool, true, false, cond, List, [], ◌∷◌, ◌++◌, None, map, reverse, refl, sym, ap, ◌∙◌}
use Rattle.std.specs.List.{AllByRecursion}
use Rattle.wh_model.specs.Format.{nothing, FuncType, Body}
use Rattle.wh_model.specs.Execution.Store.{Instance, Store}
use Rattle.wh_model.specs.Execution.{Term, called, config, Outcome, returned, stopped, cancelled, dead, pending, fails, Call, Invocation}
use Rattle.wh_space_model.specs.{Space, view}
use Rattle.wh_host_model.specs.Host.{Rest, Doing, resting, computing, Tenant, store_with, ended_by, gone_further, Faces, dies, Closes, faces_next, is_dead}
use Rattle.wh_host_model.specs.{Entry}
use Rattle.wh_journal.specs.Calls.{JournalCallState, with_progress, with_end}
use Rattle.wh_journal.specs.declared.calls.CallEnd.{CallEnd}
use Rattle.wh_journal.specs.declared.calls.CallEnd.TheVariants as end
use Rattle.wh_machine.specs.CallStates.{Setting}
use Rattle.wh_instance.specs.declared.stages.CallStage.TheVariants.{Faced}
use Rattle.wh_instance.specs.Turned.{HasRest}
use Rattle.wh_instance.specs.Tenancy.{HostInstanceState, state_over, IsCallEnd, RepresentsCall, RepresentsEach, MayBegin, IsCounted, behind_first, IsWhere, rests, is_faced, RepresentsTenant}
use Rattle.wh_instance.specs.Settling.{has_failed, is_fatal, closed}

-- ---- calls

pub each_joins : (cs : List JournalCallState) (es : List Entry) (ds : List JournalCallState) (fs : List Entry) → RepresentsEach cs es → RepresentsEach ds fs → RepresentsEach (cs ++ ds) (es ++ fs)
each_joins [] [] ds fs a b = b
each_joins [] (e ∷ es) ds fs a b = absurd a
each_joins (c ∷ cs) [] ds fs a b = absurd a
each_joins (c ∷ cs) (e ∷ es) ds fs a b = (a.0, each_joins cs es ds fs a.1 b)

-- the first of them
pub first_of_each : (cs : List JournalCallState) (e : Entry) (es : List Entry) → RepresentsEach cs (e ∷ es) → (c : JournalCallState) × (ds : List JournalCallState) × (cs ≡ c ∷ ds) × RepresentsCall c e × RepresentsEach ds es
first_of_each [] e es a = absurd a
first_of_each (c ∷ ds) e es a = (c, ds, refl, a.0, a.1)

pub call_ends : (c : JournalCallState) (e : Entry) (how : CallEnd) (o : Outcome) → RepresentsCall c e → IsCallEnd how o → RepresentsCall (with_end c how) (ended_by e o)
call_ends c e how o r is = record { func = r.func; given = r.given; words = r.words; fuel = r.fuel; pieces = r.pieces; charges = r.charges; end = is }

pub call_goes_on : (c : JournalCallState) (e : Entry) (k n : ℕ) → RepresentsCall c e → RepresentsCall (with_progress c k n) (gone_further e k n)
call_goes_on c e k n r = record { func = r.func; given = r.given; words = r.words; fuel = r.fuel; pieces = ap (λ i. i + k) r.pieces; charges = ap (λ i. i + n) r.charges; end = r.end }

each_dies : (cs : List JournalCallState) (es : List Entry) → RepresentsEach cs es → RepresentsEach (map (λ c. with_end c end.Dead) cs) (map (λ e. ended_by e dead) es)
each_dies [] [] a = tt
each_dies [] (e ∷ es) a = absurd a
each_dies (c ∷ cs) [] a = absurd a
each_dies (c ∷ cs) (e ∷ es) a = (call_ends c e end.Dead dead a.0 tt, each_dies cs es a.1)

same_failure : (how : CallEnd) (o : Outcome) → IsCallEnd how o → has_failed how ≡ fails o
same_failure end.Open pending is = refl
same_failure (end.Returned result) (returned vs) is = refl
same_failure (end.Trapped x) (stopped y) is = refl
same_failure end.Cancelled cancelled is = refl
same_failure end.Dead dead is = refl
same_failure end.Open (returned vs) is = absurd is
same_failure end.Open (stopped y) is = absurd is
same_failure end.Open cancelled is = absurd is
same_failure end.Open dead is = absurd is
same_failure (end.Returned result) pending is = absurd is
same_failure (end.Returned result) (stopped y) is = absurd is
same_failure (end.Returned result) cancelled is = absurd is
same_failure (end.Returned result) dead is = absurd is
same_failure (end.Trapped x) pending is = absurd is
same_failure (end.Trapped x) (returned vs) is = absurd is
same_failure (end.Trapped x) cancelled is = absurd is
same_failure (end.Trapped x) dead is = absurd is
same_failure end.Cancelled pending is = absurd is
same_failure end.Cancelled (returned vs) is = absurd is
same_failure end.Cancelled (stopped y) is = absurd is
same_failure end.Cancelled dead is = absurd is
same_failure end.Dead pending is = absurd is
same_failure end.Dead (returned vs) is = absurd is
same_failure end.Dead (stopped y) is = absurd is
same_failure end.Dead cancelled is = absurd is

same_fate : (cs : List JournalCallState) (es : List Entry) (how : CallEnd) (o : Outcome) → RepresentsEach cs es → IsCallEnd how o → is_fatal cs how ≡ dies es o
same_fate [] [] how o a is = same_failure how o is
same_fate [] (e ∷ es) how o a is = absurd a
same_fate (c ∷ cs) [] how o a is = absurd a
same_fate (c ∷ cs) (e ∷ es) how o a is = refl

-- ---- the next call

-- at its invocation a call is this term
abbrev invoked : FuncType → Body → Call → Term
invoked type body call = called type body (reverse call.args) [] nothing

pub invocation_of : (inst : Instance) (s : Store) (e : Entry) (b : MayBegin inst e) → Invocation inst s e.call (config s [] (invoked b.type b.body e.call))
invocation_of inst s e b = record { index = b.index; type = b.type; body = b.body; calls = b.calls; is_own = b.is_own; types = b.types; fit = b.fit; begins = refl }

-- where the first of these calls is that haven't begun
abbrev pub faced_doing : (inst : Instance) (es : List Entry) → AllByRecursion (MayBegin inst) es → Doing
faced_doing inst [] all = resting
faced_doing inst (e ∷ es) all = let b = all.0 in computing (invoked b.type b.body e.call)

pub faced_next : (inst : Instance) (s : Store) (es : List Entry) (all : AllByRecursion (MayBegin inst) es) → Faces inst s es (faced_doing inst es all)
faced_next inst s [] all = refl
faced_next inst s (e ∷ es) all = let b = all.0 in (invoked b.type b.body e.call, refl, invocation_of inst s e b)

pub waits_behind : (inst : Instance) (es : List Entry) → AllByRecursion (MayBegin inst) es → AllByRecursion (MayBegin inst) (behind_first es)
waits_behind inst [] all = tt
waits_behind inst (e ∷ es) all = all.1

pub is_where_next : {M : Type 0} (w : Setting M) (x : HostInstanceState) (m : M) (inst : Instance) (r : Rest) (es : List Entry) (all : AllByRecursion (MayBegin inst) es) → x.progress ≡ Faced → HasRest w (state_over x m) inst r → IsWhere w x m inst r (faced_doing inst es all) es
is_where_next w x m inst r [] all at store = rests at
is_where_next w x m inst r (e ∷ es) all at store =
    let b = all.0 in
    is_faced at (record { store = store; invocation = invocation_of inst (store_with (w.bytes m) r) e b; calls = b.calls; words = refl; no_charges = b.waits.charges })

-- ---- the end of a call

-- what is said of a call that has ended so, and of those behind it
pub record Ending {M : Type 0} (w : Setting M) (x : HostInstanceState) (m : M) (t : Tenant) (r : Rest) (c : JournalCallState) (cs : List JournalCallState) (e : Entry) (es : List Entry) (how : CallEnd) (o : Outcome) : Type 0 where
  pub store : HasRest w (state_over x m) t.inst r
  pub ended : RepresentsEach x.journal.ended t.ended
  pub first : RepresentsCall c e
  pub others : RepresentsEach cs es
  pub waiting : AllByRecursion (MayBegin t.inst) es
  pub counted : AllByRecursion IsCounted es
  pub is_end : IsCallEnd how o
  pub dead : x.dead ≡ t.dead

abbrev pub Leaves : {M : Type 0} (w : Setting M) (x2 : HostInstanceState) (m : M) (t : Tenant) (r : Rest) (e : Entry) (es : List Entry) (o : Outcome) (s : Space) → Type 0
Leaves w x2 m t r e es o s = (t2 : Tenant) × Closes s t (ended_by e o) es r t2 × RepresentsTenant w x2 m t2

closes_so : {M : Type 0} (w : Setting M) (x : HostInstanceState) (m : M) (t : Tenant) (r : Rest) (c : JournalCallState) (cs : List JournalCallState) (e : Entry) (es : List Entry) (how : CallEnd) (o : Outcome) → Ending w x m t r c cs e es how o → (s : Space)
    → (b : Bool) → is_fatal x.journal.ended how ≡ b
    → Leaves w (cond b
    (record x { journal = record { ended = x.journal.ended ++ with_end c how ∷ map (λ v. with_end v end.Dead) cs; open_calls = [] }; progress = Faced; waiting_for = None; dead = true })
    (record x { journal = record { ended = x.journal.ended ++ with_end c how ∷ []; open_calls = cs }; progress = Faced; waiting_for = None })) m t r e es o s
closes_so w x m t r c cs e es how o k s true fatal =
    let last = each_joins x.journal.ended t.ended (with_end c how ∷ map (λ v. with_end v end.Dead) cs) (ended_by e o ∷ map (λ v. ended_by v dead) es) k.ended (call_ends c e how o k.first k.is_end, each_dies cs es k.others) in (
      _,
      is_dead (sym (same_fate x.journal.ended t.ended how o k.ended k.is_end) ∙ fatal),
      record {
        store = k.store;
        ended = last;
        open_calls = tt;
        is_where = rests refl;
        waiting = tt;
        counted = tt;
        waiting_for = refl;
        fresh = λ at. refl;
        dead = refl;
      },
    )
closes_so w x m t r c cs e es how o k s false fatal =
    let same = same_fate x.journal.ended t.ended how o k.ended k.is_end in
    let last = each_joins x.journal.ended t.ended (with_end c how ∷ []) (ended_by e o ∷ []) k.ended (call_ends c e how o k.first k.is_end, tt) in
    let x2 : HostInstanceState = record x { journal = record { ended = x.journal.ended ++ with_end c how ∷ []; open_calls = cs }; progress = Faced; waiting_for = None } in (
      _,
      faces_next (sym same ∙ fatal) (faced_next t.inst (store_with (view s t.place) r) es k.waiting),
      record {
        store = k.store;
        ended = last;
        open_calls = k.others;
        is_where = is_where_next w x2 m t.inst r es k.waiting refl k.store;
        waiting = waits_behind t.inst es k.waiting;
        counted = k.counted;
        waiting_for = refl;
        fresh = λ at. refl;
        dead = k.dead;
      },
    )

pub closes : {M : Type 0} (w : Setting M) (x : HostInstanceState) (m : M) (t : Tenant) (r : Rest) (c : JournalCallState) (cs : List JournalCallState) (e : Entry) (es : List Entry) (how : CallEnd) (o : Outcome) → Ending w x m t r c cs e es how o → (s : Space) → Leaves w (closed x how c cs) m t r e es o s
closes w x m t r c cs e es how o k s = closes_so w x m t r c cs e es how o k s (is_fatal x.journal.ended how) refl
