-- What a turn leaves, as the code's instance has it and as the host's definitions do.
use Rattle.std.proofs.Common.{◌≡◌, ◌≢◌, inl, inr, ℕ, zero, suc, ◌+◌, ◌<◌, ◌&&◌, Bool, true, false, cond, List, [], ◌∷◌, length, Option, Some, None, refl, sym, ap, subst, ◌∙◌, arith, rules}
use Rattle.std.specs.Bool.{MatchBool}
use Rattle.std.specs.List.{AllByRecursion}
use Rattle.wh_model.specs.declared.memory.Need.{Need}
use Rattle.wh_model.specs.Execution.Store.{Instance, Store}
use Rattle.wh_model.specs.Execution.{Term, Config, config, stays, After, IsSettled, IsNext, Asks, Piece, Outcome, returned, stopped, cancelled, dead, pending, Call, Takes, took_all, took}
use Rattle.wh_model.proofs.Chains.{one_after}
use Rattle.wh_space_model.specs.declared.plain.SwapError.{SwapError}
use Rattle.wh_space_model.specs.{Space}
use Rattle.wh_host_model.specs.Host.{Rest, Doing, resting, has_left, computing, Suspension, for_fuel, for_frame, for_device, Tenant, store_with, rest_of, Opens, by_invocation, as_it_was, Upshot, to_end, out_of_fuel, to_wait, to_go_on, Proceeds, returns, traps, writes_all, uses_fuel, waits, waits_to_write, has_had_its_turn, gone_further, ended_by, gone_on, Closes, at_frame, KeepsNoFault}
use Rattle.wh_host_model.specs.{Entry}
use Rattle.wh_journal.specs.Calls.{JournalCallState, JournalState, with_progress}
use Rattle.wh_journal.specs.declared.calls.CallEnd.{CallEnd}
use Rattle.wh_journal.specs.declared.calls.CallEnd.TheVariants as end
use Rattle.wh_machine.specs.CallStates.{Setting}
use Rattle.wh_instance.specs.declared.computing.TurnOutcome.{TurnOutcome}
use Rattle.wh_instance.specs.declared.computing.TurnOutcome.TheVariants as came
use Rattle.wh_instance.specs.declared.stages.CallStage.TheVariants.{Faced}
use Rattle.wh_instance.specs.declared.stages.Suspension as code
use Rattle.wh_instance.specs.declared.stages.Suspension.TheVariants as stop
use Rattle.wh_instance.specs.declared.stages.TurnResult.{TurnResult}
use Rattle.wh_instance.specs.declared.stages.TurnResult.TheVariants as turned
use Rattle.wh_instance.specs.Turned.{HasRest, IsCame}
use Rattle.wh_instance.specs.Tenancy.{HostInstanceState, state_over, IsCallEnd, RepresentsCall, RepresentsEach, MayBegin, IsCounted, behind_first, IsWhere, rests, writes, is_faced, is_under_way, suspension_of, RepresentsTenant}
use Rattle.wh_instance.specs.Advancing.{IsInMemory, AdvancesTenant, KeepsItsFault, LeavesTenant, TurnsTenant}
use Rattle.wh_instance.specs.Settling.{closed, is_fault, frame_or_fault, answered, settled_to}
use Rattle.wh_instance.proofs.Bounds.{asks_within, piece_within}
use Rattle.wh_instance.proofs.Closing.{call_goes_on, closes}

-- ---- where a call is, though other things of the instance have changed

pub is_where_too : {M : Type 0} (w : Setting M) (x y : HostInstanceState) (m : M) (inst : Instance) (r : Rest) (d : Doing) (es : List Entry) → y.store ≡ x.store → y.machine ≡ x.machine → y.places ≡ x.places → y.cursor ≡ x.cursor → y.progress ≡ x.progress → IsWhere w x m inst r d es → IsWhere w y m inst r d es
is_where_too w x y m inst r d es a b c e f (rests at) = rests (f ∙ at)
is_where_too w x y m inst r d es a b c e f (writes at some func st left few) = writes (f ∙ at) some func (rw (a, b) st) (rw (c, e) left) few
is_where_too w x y m inst r d es a b c e f (is_faced {func = func} at st) = is_faced {func = func} (f ∙ at) (rw (a, b) st)
is_where_too w x y m inst r d es a b c e f (is_under_way at st within) = is_under_way (f ∙ at) (rw (a, b) st) within

-- ---- calls that haven't ended

not_resting : {M : Type 0} {bytes : M → List ℕ} {ready : M → Need → Type 0} {keeps : M → M → Type 0} {inst : Instance} {q k n : ℕ} (call : Call) {m m2 : M} {r r2 : Rest} {d d2 : Doing} {to : Upshot} → ((o : Outcome) → to ≢ to_end o) → Proceeds bytes ready keeps inst q call m r d to k n m2 r2 d2 → d2 ≢ resting
not_resting call never (returns c h) is = never _ refl
not_resting call never (traps c) is = never _ refl
not_resting call never (writes_all a b c) is = never _ refl
not_resting call never (uses_fuel a b c) is = cc is
not_resting call never (waits a b c d f) is = cc is
not_resting call never (waits_to_write a b c) is = cc is
not_resting call never (has_had_its_turn a b c d f) is = cc is

-- so it goes on, and the instance waits for this
goes_on : {M : Type 0} (w : Setting M) (q : ℕ) (x x1 : HostInstanceState) (m m2 : M) (t : Tenant) (e : Entry) (es : List Entry) (answer : TurnOutcome) (k n : ℕ) (c : JournalCallState) (cs : List JournalCallState) (stands : Option code.Suspension) (o : Option Suspension)
    → RepresentsTenant w x m t → t.open_calls ≡ e ∷ es → x1.journal.ended ≡ x.journal.ended → x1.dead ≡ x.dead → RepresentsCall c e → RepresentsEach cs es → (a : AdvancesTenant w q m t e es answer k n x1 m2) → ((o : Outcome) → a.to ≢ to_end o) → o ≡ suspension_of stands
    → RepresentsTenant w (record x1 { journal = record x1.journal { open_calls = with_progress c k n ∷ cs }; waiting_for = stands }) m2 (gone_on t (gone_further e k n) es a.rest a.doing o)
goes_on w q x x1 m m2 t e es answer k n c cs stands o rep is_open same_ended same_dead first others a never is =
    search (rules, call_goes_on, is_where_too, not_resting)

-- ---- the whole turn

-- what is said of it before the journal is written
pub record Advanced {M : Type 0} (w : Setting M) (q : ℕ) (x x1 : HostInstanceState) (m m2 : M) (t : Tenant) (e : Entry) (es : List Entry) (answer : TurnOutcome) (k n : ℕ) (c : JournalCallState) (cs : List JournalCallState) (still : Bool) : Type 0 where
  pub before : RepresentsTenant w x m t
  pub is_open : t.open_calls ≡ e ∷ es
  pub same_ended : x1.journal.ended ≡ x.journal.ended
  pub same_stands : x1.waiting_for ≡ x.waiting_for
  pub same_dead : x1.dead ≡ x.dead
  pub first : RepresentsCall c e
  pub others : RepresentsEach cs es
  pub advances : AdvancesTenant w q m t e es answer k n x1 m2
  pub steps : MatchBool still (k + n ≡ 0) (¬ (k + n ≡ 0))

-- the code's instance with the journal written on
abbrev written_on : HostInstanceState → JournalCallState → List JournalCallState → ℕ → ℕ → HostInstanceState
written_on x1 c cs k n = record x1 { journal = record x1.journal { open_calls = with_progress c k n ∷ cs } }

-- it has ended
ends : {M : Type 0} (w : Setting M) (q : ℕ) (x x1 : HostInstanceState) (m m2 : M) (t : Tenant) (e : Entry) (es : List Entry) (answer : TurnOutcome) (k n : ℕ) (c : JournalCallState) (cs : List JournalCallState) (still : Bool) (a : Advanced w q x x1 m m2 t e es answer k n c cs still) → (how : CallEnd) (o : Outcome) → IsCallEnd how o → (s : Space) → (t2 : Tenant) × Closes s t (ended_by (gone_further e k n) o) es a.advances.rest t2 × RepresentsTenant w (closed (written_on x1 c cs k n) how (with_progress c k n) cs) m2 t2
ends w q x x1 m m2 t e es answer k n c cs still a how o is s =
    let adv = a.advances in
    let before = a.before in
    closes w (written_on x1 c cs k n) m2 t adv.rest (with_progress c k n) cs (gone_further e k n) es how o
    (record {
      store = adv.store;
      ended = subst (λ js. RepresentsEach js t.ended) (sym a.same_ended) before.ended;
      first = call_goes_on c e k n a.first;
      others = a.others;
      waiting = subst (λ os. AllByRecursion (MayBegin t.inst) (behind_first os)) a.is_open before.waiting;
      counted = let all = subst (AllByRecursion IsCounted) a.is_open before.counted in all.1;
      is_end = is;
      dead = a.same_dead ∙ before.dead;
    }) s

-- what a frame leaves of what it stood for
by_steps : (i : ℕ) (stands : Option code.Suspension) → ¬ (i ≡ 0) → at_frame i (suspension_of stands) ≡ Some for_frame
by_steps zero stands never = absurd (never refl)
by_steps (suc i) stands never = refl

at_frame_or_fault : (k n : ℕ) (still : Bool) (stands : Option code.Suspension) → MatchBool still (k + n ≡ 0) (¬ (k + n ≡ 0)) → at_frame (k + n) (suspension_of stands) ≡ suspension_of (frame_or_fault still stands)
at_frame_or_fault k n true None steps = rw steps refl
at_frame_or_fault k n true (Some stop.Fuel) steps = rw steps refl
at_frame_or_fault k n true (Some stop.Frame) steps = rw steps refl
at_frame_or_fault k n true (Some (stop.Device fault)) steps = rw steps refl
at_frame_or_fault k n false stands steps = by_steps (k + n) stands steps

-- a fault is kept where none is, or a step was taken
keeps_none : (still : Bool) (i : ℕ) (stands : Option code.Suspension) → MatchBool still (i ≡ 0) (¬ (i ≡ 0)) → (still && is_fault stands) ≡ false → KeepsNoFault i (suspension_of stands)
keeps_none true i None steps none zero_steps fault is = cc is
keeps_none true i (Some stop.Fuel) steps none zero_steps fault is = cc is
keeps_none true i (Some stop.Frame) steps none zero_steps fault is = cc is
keeps_none true i (Some (stop.Device other)) steps none zero_steps fault is = cc none
keeps_none false i stands steps none zero_steps fault is = steps zero_steps

-- ---- a turn that did nothing

opens_all : {M : Type 0} {bytes : M → List ℕ} {ready : M → Need → Type 0} {keeps : M → M → Type 0} {inst : Instance} {call : Call} {m m1 : M} {r : Rest} {ps : List Piece} {k : ℕ} {c : Config} → Opens bytes ready keeps inst call m r (has_left ps) k m1 c → k ≡ length ps
opens_all (by_invocation a b c) = refl

opens_same : {M : Type 0} {bytes : M → List ℕ} {ready : M → Need → Type 0} {keeps : M → M → Type 0} {inst : Instance} {call : Call} {m m1 : M} {r : Rest} {term : Term} {k : ℕ} {c : Config} → Opens bytes ready keeps inst call m r (computing term) k m1 c → (m1 ≡ m) × After inst (config (store_with (bytes m) r) [] term) 0 c
opens_same (as_it_was after) = (refl, after)

takes_none : {M : Type 0} {bytes : M → List ℕ} {ready : M → Need → Type 0} {keeps : M → M → Type 0} {inst : Instance} {m m2 : M} {c c2 : Config} {n : ℕ} → Takes bytes ready keeps inst m c n m2 c2 → n ≡ 0 → (m2 ≡ m) × (c2 ≡ c)
takes_none took_all zero_steps = (refl, refl)
takes_none (took a b c d f) zero_steps = absurd (cc zero_steps)

no_length : (ps : List Piece) → length ps ≡ 0 → ps ≡ []
no_length [] e = refl
no_length (p ∷ ps) e = absurd (cc e)

same_config : (s1 s2 : Store) (t1 t2 : Term) → config s1 [] t1 ≡ config s2 [] t2 → (s1 ≡ s2) × (t1 ≡ t2)
same_config s1 s2 t1 t2 e = (cc e, cc e)

-- all stays where it was
record Stood {M : Type 0} (w : Setting M) (q : ℕ) (m : M) (inst : Instance) (r : Rest) (d : Doing) (call : Call) (k n : ℕ) (m2 : M) (r2 : Rest) (d2 : Doing) : Type 0 where
  term : Term
  doing : d ≡ computing term
  same : m2 ≡ m
  same_rest : r2 ≡ r
  same_doing : d2 ≡ d
  no_charges : q ≡ 0
  next : IsNext inst (config (store_with (w.bytes m) r) [] term)
  fuel_left : call.charges < call.fuel
  ready : (need : Need) → Asks inst (config (store_with (w.bytes m) r) [] term) need → w.ready m need

stood_at : {M : Type 0} (w : Setting M) (q : ℕ) (m : M) (inst : Instance) (r : Rest) (term : Term) (call : Call) (k n : ℕ) (m2 : M) (r2 : Rest) (d2 : Doing) → IsSettled inst (config (store_with (w.bytes m) r) [] term) → k + n ≡ 0 → Proceeds w.bytes w.ready w.keeps inst q call m r (computing term) to_go_on k n m2 r2 d2 → Stood w q m inst r (computing term) call k n m2 r2 d2
stood_at w q m inst r term call k n m2 r2 d2 settled none (has_had_its_turn {term = term2} computes next all left ready) =
    let first : Config = config (store_with (w.bytes m) r) [] term in
    let opened = opens_same computes.opens in
    let c1_is = one_after inst 0 first computes.opened first opened.1 (stays, settled) in
    let no_steps : n ≡ 0 = omega (arith, none) in
    let taken = takes_none computes.takes no_steps in
    let same_memory : m2 ≡ m = taken.0 ∙ opened.0 in
    let last : config (store_with (w.bytes m2) r2) [] term2 ≡ first = taken.1 ∙ c1_is in
    let parts = same_config (store_with (w.bytes m2) r2) (store_with (w.bytes m) r) term2 term last in
    record {
      term = term;
      doing = refl;
      same = same_memory;
      same_rest = ap rest_of parts.0;
      same_doing = ap (λ z. computing z) parts.1;
      no_charges = sym all ∙ no_steps;
      next = subst (IsNext inst) last next;
      fuel_left = omega (arith, left, no_steps);
      ready = λ need asks. subst (λ z. w.ready z need) same_memory (ready need (subst (λ z. Asks inst z need) (sym last) asks));
    }

stood : {M : Type 0} (w : Setting M) (q : ℕ) (x : HostInstanceState) (m : M) (inst : Instance) (r : Rest) (d : Doing) (e : Entry) (es : List Entry) (k n : ℕ) (m2 : M) (r2 : Rest) (d2 : Doing) → IsWhere w x m inst r d (e ∷ es) → (x.progress ≡ Faced → x.waiting_for ≡ None) → is_fault x.waiting_for ≡ true → k + n ≡ 0 → Proceeds w.bytes w.ready w.keeps inst q e.call m r d to_go_on k n m2 r2 d2 → Stood w q m inst r d e.call k n m2 r2 d2
stood w q x m inst r d e es k n m2 r2 d2 (writes {ps = ps} at some func st left few) fresh fault none (has_had_its_turn computes next all left2 ready) =
    let all_pieces = opens_all computes.opens in absurd (some (no_length ps (omega (arith, none, all_pieces))))
stood w q x m inst r d e es k n m2 r2 d2 (is_faced at st) fresh fault none p = let never = sym fault ∙ ap is_fault (fresh at) in absurd (cc never)
stood w q x m inst r d e es k n m2 r2 d2 (is_under_way {term = term} at st within) fresh fault none p = stood_at w q m inst r term e.call k n m2 r2 d2 st.settled none p

-- the fault that it is
fault_of : (stands : Option code.Suspension) → is_fault stands ≡ true → (fault : SwapError) × (suspension_of stands ≡ Some (for_device fault))
fault_of None is = absurd (cc is)
fault_of (Some stop.Fuel) is = absurd (cc is)
fault_of (Some stop.Frame) is = absurd (cc is)
fault_of (Some (stop.Device fault)) is = (fault, refl)

same_entry : (e : Entry) (k n : ℕ) → k ≡ 0 → n ≡ 0 → gone_further e k n ≡ e
same_entry e k n no_k no_n = let a : e.call.fragments + k ≡ e.call.fragments = omega (arith, no_k) in let b : e.call.charges + n ≡ e.call.charges = omega (arith, no_n) in rw (a, b) refl

same_call : (c : JournalCallState) (e : Entry) (k n : ℕ) → k ≡ 0 → n ≡ 0 → RepresentsCall c e → RepresentsCall (with_progress c k n) e
same_call c e k n no_k no_n r = let p = r.pieces in let q = r.charges in record { func = r.func; given = r.given; words = r.words; fuel = r.fuel; pieces = omega (arith, p, no_k); charges = omega (arith, q, no_n); end = r.end }

no_steps : (still : Bool) (i : ℕ) (fault : Bool) → MatchBool still (i ≡ 0) (¬ (i ≡ 0)) → (still && fault) ≡ true → i ≡ 0
no_steps true i fault steps both = steps
no_steps false i fault steps both = absurd (cc both)

is_right : (still fault : Bool) → (still && fault) ≡ true → fault ≡ true
is_right true fault both = both
is_right false fault both = absurd (cc both)

-- then a fault is kept
kept : {M : Type 0} (w : Setting M) (q : ℕ) (x x1 : HostInstanceState) (m m2 : M) (t : Tenant) (e : Entry) (es : List Entry) (k n : ℕ) (c : JournalCallState) (cs : List JournalCallState) (still : Bool) (a : Advanced w q x x1 m m2 t e es came.Again k n c cs still) → a.advances.to ≡ to_go_on → k + n ≡ 0 → is_fault x1.waiting_for ≡ true → KeepsItsFault w q m t e m2 × RepresentsTenant w (written_on x1 c cs k n) m2 t
kept w q x x1 m m2 t e es k n c cs still a goes none fault =
    let adv = a.advances in
    let b = a.before in
    let is_where = subst (IsWhere w x m t.inst t.rest t.doing) a.is_open b.is_where in
    let fault_before : is_fault x.waiting_for ≡ true = ap is_fault (sym a.same_stands) ∙ fault in
    let s = stood w q x m t.inst t.rest t.doing e es k n m2 adv.rest adv.doing is_where b.fresh fault_before none (subst (λ to. Proceeds w.bytes w.ready w.keeps t.inst q e.call m t.rest t.doing to k n m2 adv.rest adv.doing) goes adv.proceeds) in
    let f = fault_of x.waiting_for fault_before in
    let no_k : k ≡ 0 = omega (arith, none) in
    let no_n : n ≡ 0 = omega (arith, none) in
    let there = adv.is_where (not_resting e.call (λ o is. let never = sym goes ∙ is in cc never) adv.proceeds) in
    let y = written_on x1 c cs k n in
    let there2 = subst (λ z. IsWhere w x1 m2 t.inst adv.rest adv.doing (z ∷ es)) (same_entry e k n no_k no_n) there in
    let there3 = is_where_too w x1 y m2 t.inst adv.rest adv.doing (e ∷ es) refl refl refl refl refl there2 in
    let there4 = subst (λ z. IsWhere w y m2 t.inst z adv.doing (e ∷ es)) s.same_rest there3 in
    let there5 = subst (λ z. IsWhere w y m2 t.inst t.rest z (e ∷ es)) s.same_doing there4 in (
      record { fault = f.0; term = s.term; waiting_for = b.waiting_for ∙ f.1; doing = s.doing; no_charges = s.no_charges; same = s.same; next = s.next; fuel_left = s.fuel_left; ready = s.ready },
      record {
        store = subst (HasRest w (state_over x1 m2) t.inst) s.same_rest adv.store;
        ended = subst (λ js. RepresentsEach js t.ended) (sym a.same_ended) b.ended;
        open_calls = subst (RepresentsEach (with_progress c k n ∷ cs)) (sym a.is_open) (same_call c e k n no_k no_n a.first, a.others);
        is_where = subst (IsWhere w y m2 t.inst t.rest t.doing) (sym a.is_open) there5;
        waiting = b.waiting;
        counted = b.counted;
        waiting_for = b.waiting_for ∙ ap suspension_of (sym a.same_stands);
        fresh = λ at. absurd (adv.begun at);
        dead = a.same_dead ∙ b.dead;
      },
    )

-- ---- bytes that aren't ready

-- they lie in the memory
waits_within : {M : Type 0} (w : Setting M) (inst : Instance) (q : ℕ) (call : Call) (m m2 : M) (r r2 : Rest) (d d2 : Doing) (k n : ℕ) (need : Need) (x : HostInstanceState) (e : Entry) (es : List Entry) → Proceeds w.bytes w.ready w.keeps inst q call m r d (to_wait need) k n m2 r2 d2 → IsWhere w x m2 inst r2 d2 (e ∷ es) → IsInMemory (w.bytes m2) need
waits_within w inst q call m m2 r r2 d d2 k n need x e es (waits {term = term} c next some asks never) at = asks_within inst (store_with (w.bytes m2) r2) term need asks
waits_within w inst q call m m2 r r2 d d2 k n need x e es (waits_to_write {more = more} {p = p} is written never) (writes at some func st left few) = piece_within (w.bytes m2) p more st.within st.in_pages

-- ---- what a turn leaves

again : {M : Type 0} (w : Setting M) (q : ℕ) (x x1 : HostInstanceState) (m m2 : M) (t : Tenant) (e : Entry) (es : List Entry) (k n : ℕ) (c : JournalCallState) (cs : List JournalCallState) (still : Bool) (a : Advanced w q x x1 m m2 t e es came.Again k n c cs still) → a.advances.to ≡ to_go_on → (b : Bool) → (still && is_fault x1.waiting_for) ≡ b
    → LeavesTenant w q m t e es k n a.advances.rest a.advances.doing (cond b turned.Kept (turned.Again still)) (cond b (written_on x1 c cs k n) (record (written_on x1 c cs k n) { waiting_for = None })) m2 to_go_on
again w q x x1 m m2 t e es k n c cs still a goes true both =
    let h = kept w q x x1 m m2 t e es k n c cs still a goes (no_steps still (k + n) (is_fault x1.waiting_for) a.steps both) (is_right still (is_fault x1.waiting_for) both) in
    inr (refl, h.0, h.1)
again w q x x1 m m2 t e es k n c cs still a goes false both =
    let b = a.before in
    let none = keeps_none still (k + n) x1.waiting_for a.steps both in
    inl (
      (still, refl, a.steps),
      subst (KeepsNoFault (k + n)) (ap suspension_of a.same_stands ∙ sym b.waiting_for) none,
      goes_on w q x x1 m m2 t e es came.Again k n c cs None None b a.is_open a.same_ended a.same_dead a.first a.others a.advances (λ o is. let never = sym goes ∙ is in cc never) refl,
    )

leaves : {M : Type 0} (w : Setting M) (q : ℕ) (x x1 : HostInstanceState) (m m2 : M) (t : Tenant) (e : Entry) (es : List Entry) (answer : TurnOutcome) (k n : ℕ) (c : JournalCallState) (cs : List JournalCallState) (still : Bool) (a : Advanced w q x x1 m m2 t e es answer k n c cs still) → (to : Upshot) → a.advances.to ≡ to → IsCame answer to
    → LeavesTenant w q m t e es k n a.advances.rest a.advances.doing (answered (written_on x1 c cs k n) answer still) (settled_to (written_on x1 c cs k n) answer still (with_progress c k n) cs) m2 to
leaves w q x x1 m m2 t e es (came.Returned result) k n c cs still a (to_end (returned vs)) goes is = (refl, λ s same. ends w q x x1 m m2 t e es (came.Returned result) k n c cs still a (end.Returned result) (returned vs) is s)
leaves w q x x1 m m2 t e es (came.Trapped trap) k n c cs still a (to_end (stopped y)) goes is = (refl, λ s same. ends w q x x1 m m2 t e es (came.Trapped trap) k n c cs still a (end.Trapped trap) (stopped y) is s)
leaves w q x x1 m m2 t e es came.Fuel k n c cs still a out_of_fuel goes is =
    (refl, goes_on w q x x1 m m2 t e es came.Fuel k n c cs (Some stop.Fuel) (Some for_fuel) a.before a.is_open a.same_ended a.same_dead a.first a.others a.advances (λ o ended. let never = sym goes ∙ ended in cc never) refl)
leaves w q x x1 m m2 t e es (came.Frame need) k n c cs still a (to_wait other) goes is =
    let b = a.before in
    let o = ap (at_frame (k + n)) (b.waiting_for ∙ ap suspension_of (sym a.same_stands)) ∙ at_frame_or_fault k n still x1.waiting_for a.steps in
    let adv = a.advances in
    let proceeds = subst (λ z. Proceeds w.bytes w.ready w.keeps t.inst q e.call m t.rest t.doing z k n m2 adv.rest adv.doing) goes adv.proceeds in
    let there = adv.is_where (not_resting e.call (λ o ended. let never = sym goes ∙ ended in cc never) adv.proceeds) in
    ((still, ap (λ z. turned.Frame z still) is, a.steps), waits_within w t.inst q e.call m m2 t.rest adv.rest t.doing adv.doing k n other x1 (gone_further e k n) es proceeds there, goes_on w q x x1 m m2 t e es (came.Frame need) k n c cs (frame_or_fault still x1.waiting_for) (at_frame (k + n) t.waiting_for) b a.is_open a.same_ended a.same_dead a.first a.others a.advances (λ o ended. let never = sym goes ∙ ended in cc never) o)
leaves w q x x1 m m2 t e es came.Again k n c cs still a to_go_on goes is = again w q x x1 m m2 t e es k n c cs still a goes (still && is_fault x1.waiting_for) refl
leaves w q x x1 m m2 t e es (came.Returned result) k n c cs still a (to_end (stopped y)) goes is = absurd is
leaves w q x x1 m m2 t e es (came.Returned result) k n c cs still a (to_end cancelled) goes is = absurd is
leaves w q x x1 m m2 t e es (came.Returned result) k n c cs still a (to_end dead) goes is = absurd is
leaves w q x x1 m m2 t e es (came.Returned result) k n c cs still a (to_end pending) goes is = absurd is
leaves w q x x1 m m2 t e es (came.Returned result) k n c cs still a out_of_fuel goes is = absurd is
leaves w q x x1 m m2 t e es (came.Returned result) k n c cs still a (to_wait other) goes is = absurd is
leaves w q x x1 m m2 t e es (came.Returned result) k n c cs still a to_go_on goes is = absurd is
leaves w q x x1 m m2 t e es (came.Trapped trap) k n c cs still a (to_end (returned vs)) goes is = absurd is
leaves w q x x1 m m2 t e es (came.Trapped trap) k n c cs still a (to_end cancelled) goes is = absurd is
leaves w q x x1 m m2 t e es (came.Trapped trap) k n c cs still a (to_end dead) goes is = absurd is
leaves w q x x1 m m2 t e es (came.Trapped trap) k n c cs still a (to_end pending) goes is = absurd is
leaves w q x x1 m m2 t e es (came.Trapped trap) k n c cs still a out_of_fuel goes is = absurd is
leaves w q x x1 m m2 t e es (came.Trapped trap) k n c cs still a (to_wait other) goes is = absurd is
leaves w q x x1 m m2 t e es (came.Trapped trap) k n c cs still a to_go_on goes is = absurd is
leaves w q x x1 m m2 t e es came.Fuel k n c cs still a (to_end (returned vs)) goes is = absurd is
leaves w q x x1 m m2 t e es came.Fuel k n c cs still a (to_end (stopped y)) goes is = absurd is
leaves w q x x1 m m2 t e es came.Fuel k n c cs still a (to_end cancelled) goes is = absurd is
leaves w q x x1 m m2 t e es came.Fuel k n c cs still a (to_end dead) goes is = absurd is
leaves w q x x1 m m2 t e es came.Fuel k n c cs still a (to_end pending) goes is = absurd is
leaves w q x x1 m m2 t e es came.Fuel k n c cs still a (to_wait other) goes is = absurd is
leaves w q x x1 m m2 t e es came.Fuel k n c cs still a to_go_on goes is = absurd is
leaves w q x x1 m m2 t e es (came.Frame need) k n c cs still a (to_end (returned vs)) goes is = absurd is
leaves w q x x1 m m2 t e es (came.Frame need) k n c cs still a (to_end (stopped y)) goes is = absurd is
leaves w q x x1 m m2 t e es (came.Frame need) k n c cs still a (to_end cancelled) goes is = absurd is
leaves w q x x1 m m2 t e es (came.Frame need) k n c cs still a (to_end dead) goes is = absurd is
leaves w q x x1 m m2 t e es (came.Frame need) k n c cs still a (to_end pending) goes is = absurd is
leaves w q x x1 m m2 t e es (came.Frame need) k n c cs still a out_of_fuel goes is = absurd is
leaves w q x x1 m m2 t e es (came.Frame need) k n c cs still a to_go_on goes is = absurd is
leaves w q x x1 m m2 t e es came.Again k n c cs still a (to_end (returned vs)) goes is = absurd is
leaves w q x x1 m m2 t e es came.Again k n c cs still a (to_end (stopped y)) goes is = absurd is
leaves w q x x1 m m2 t e es came.Again k n c cs still a (to_end cancelled) goes is = absurd is
leaves w q x x1 m m2 t e es came.Again k n c cs still a (to_end dead) goes is = absurd is
leaves w q x x1 m m2 t e es came.Again k n c cs still a (to_end pending) goes is = absurd is
leaves w q x x1 m m2 t e es came.Again k n c cs still a out_of_fuel goes is = absurd is
leaves w q x x1 m m2 t e es came.Again k n c cs still a (to_wait other) goes is = absurd is

-- So a turn is one of the host's definitions, and leaves the instance so.
pub settles : {M : Type 0} (w : Setting M) (q : ℕ) (x x1 : HostInstanceState) (m m2 : M) (t : Tenant) (e : Entry) (es : List Entry) (answer : TurnOutcome) (k n : ℕ) (c : JournalCallState) (cs : List JournalCallState) (still : Bool) → Advanced w q x x1 m m2 t e es answer k n c cs still
    → TurnsTenant w q m t e es (answered (written_on x1 c cs k n) answer still) n (settled_to (written_on x1 c cs k n) answer still (with_progress c k n) cs) m2
settles w q x x1 m m2 t e es answer k n c cs still a = search (rules, leaves)

-- the same of what the code has then
pub settles_so : {M : Type 0} (w : Setting M) (q : ℕ) (x x1 : HostInstanceState) (m m2 : M) (t : Tenant) (e : Entry) (es : List Entry) (answer : TurnOutcome) (k n : ℕ) (c : JournalCallState) (cs : List JournalCallState) (still : Bool) (j2 : JournalState) (answer2 : TurnResult) (x2 : HostInstanceState) → Advanced w q x x1 m m2 t e es answer k n c cs still
    → j2 ≡ record x1.journal { open_calls = with_progress c k n ∷ cs } → answer2 ≡ answered (record x1 { journal = j2 }) answer still → x2 ≡ settled_to (record x1 { journal = j2 }) answer still (with_progress c k n) cs → TurnsTenant w q m t e es answer2 n x2 m2
settles_so w q x x1 m m2 t e es answer k n c cs still j2 answer2 x2 a go answered_so left = search (rules, settles)
