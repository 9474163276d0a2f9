-- What is told of a call is how far it is.
use Rattle.std.proofs.Common.{◌≡◌, ℕ, zero, suc, ◌<◌, ◌≤◌, Bool, true, false, List, [], ◌∷◌, ◌++◌, length, map, reverse, slice_get, nat_lt, Option, Some, None, refl, sym, ap, subst, ◌∙◌, arith, rules}
use Rattle.std.specs.List.{AllByRecursion}
use Rattle.std.proofs.lemmas.Bool.{cases_lt, le-ltb, lt-ltb}
use Rattle.wh_model.specs.declared.ValType.{ValType}
use Rattle.wh_model.specs.Format.{FuncType, Body, Module}
use Rattle.wh_model.specs.Validity.{Context, operand}
use Rattle.wh_model.specs.Execution.Store.{Instance}
use Rattle.wh_model.specs.Execution.{Value, value, type_of, bits_of, InRange, own, Outcome, returned, stopped, cancelled, dead, pending, Call, fails}
use Rattle.wh_host_model.specs.Host.{Tenant, journal, HaveTypes, HasEnded, InOrder, IsDeadCall, IsEnded, IsOpenCall, ReturnsTyped, is_starting, has_started, has_died}
use Rattle.wh_host_model.specs.{Entry, is_open}
use Rattle.wh_host_model.proofs.Host.Entries.{all_join}
use Rattle.wh_imports.specs.LinkedState.{LinkedState}
use Rattle.wh_call.specs.Arguments.{IsOwnType}
use Rattle.wh_control.proofs.Jumps.{all_at}
use Rattle.wh_machine.specs.MachineRuns.{linked_parts, IsInstanceOf}
use Rattle.wh_journal.specs.Calls.{JournalCallState}
use Rattle.wh_journal.specs.declared.calls.CallEnd.TheVariants as end
use Rattle.wh_instance.specs.declared.stages.CallStatus.{CallStatus}
use Rattle.wh_instance.specs.declared.stages.CallStatus.TheVariants as tells
use Rattle.wh_instance.specs.declared.stages.CallValue.{CallValue}
use Rattle.wh_instance.specs.declared.stages.Suspension as code
use Rattle.wh_instance.specs.Tenancy.{IsCallEnd, RepresentsCall, RepresentsEach, HostInstanceState}
use Rattle.wh_instance.specs.Told.{IsCallStatus, IsEntryTold, IsReturnedAs, TellsCall, told_values, waits_at}
use Rattle.wh_instance.proofs.Opened.{declared_in}
use Rattle.wh_instance.proofs.Requested.{as_many_ended}

-- ---- the value that was returned

-- a value of this type with these bits, if there are both
abbrev pub told_as : Option ℕ → Option ValType → Option CallValue
told_as None of = None
told_as (Some n) None = None
told_as (Some n) (Some t) = Some (record { of = t; word = n })

-- one value at most is told by its bits
as_told : (vs : List Value) (of : Option ValType) (word : Option ℕ) → map type_of vs ≡ operand of → word ≡ slice_get (map bits_of (reverse vs)) 0 → vs ≡ told_values (told_as word of)
as_told [] of None fit e = refl
as_told [] None (Some n) fit e = refl
as_told [] (Some t) (Some n) fit e = absurd (cc e)
as_told (value t n ∷ []) None word fit e = absurd (cc fit)
as_told (value t n ∷ []) (Some u) None fit e = absurd (cc e)
as_told (value t n ∷ []) (Some u) (Some k) fit e = cc
as_told (u ∷ v ∷ vs) None word fit e = absurd (cc fit)
as_told (u ∷ v ∷ vs) (Some t) word fit e = absurd (cc fit)

pub no_function : (l : LinkedState) (word : Option ℕ) → IsReturnedAs l None word None
no_function l word c inst call vs is none typed e = let empty = typed.0 none in (empty, rw empty tt)

-- of a function that declares this result
by_type : (l : LinkedState) (f : ℕ) (word : Option ℕ) (of : Option ValType) (c : Context) (inst : Instance) (call : Call) (vs : List Value) → IsInstanceOf l c inst → call.func ≡ Some f → (h : HaveTypes inst call vs) → of ≡ slice_get h.type.results 0 → word ≡ slice_get (map bits_of (reverse vs)) 0
    → (vs ≡ told_values (told_as word of)) × AllByRecursion InRange vs
by_type l f word of c inst call vs is func h result e =
    let declared = declared_in (linked_parts l) c inst h.index h.type h.body is h.is_own in
    (as_told vs of word (h.types ∙ declared ∙ ap operand (sym result)) e, h.fit)

some_function : (o : Option ℕ) (f : ℕ) → o ≡ Some f → ¬ (o ≡ None)
some_function o f some none = let bad : Some f ≡ None = sym some ∙ none in cc bad

same_index : (o : Option ℕ) (f g : ℕ) → o ≡ Some f → o ≡ Some g → g ≡ f
same_index o f g a b = cc

pub no_word : (l : LinkedState) (f : ℕ) → IsReturnedAs l (Some f) None None
no_word l f c inst call vs is func typed e =
    let h = typed.1 (some_function call.func f func) in by_type l f None (slice_get h.type.results 0) c inst call vs is func h refl e

pub value_told : (l : LinkedState) (f n : ℕ) (of : Option ValType) → ((c : Context) (inst : Instance) (type : FuncType) (body : Body) → IsInstanceOf l c inst → slice_get inst.funcs f ≡ Some (own type body) → of ≡ slice_get type.results 0) → IsReturnedAs l (Some f) (Some n) (told_as (Some n) of)
value_told l f n of types c inst call vs is func typed e =
    let h = typed.1 (some_function call.func f func) in
    let at = ap (slice_get inst.funcs) (sym (same_index call.func f h.index func h.calls)) ∙ h.is_own in
    by_type l f (Some n) of c inst call vs is func h (types c inst h.type h.body is at) e

-- what a type declares, by the code's
pub first_declared : (l : LinkedState) (func : ℕ) (found : FuncType) (o : Option ValType) → IsOwnType l func found → o ≡ slice_get found.results 0 → (c : Context) (inst : Instance) (type : FuncType) (body : Body) → IsInstanceOf l c inst → slice_get inst.funcs func ≡ Some (own type body) → o ≡ slice_get type.results 0
first_declared l func found o has first c inst type body is at =
    let there = (has c inst is).1 in
    let same : found ≡ type = cc in
    first ∙ ap (λ (t : FuncType). slice_get t.results 0) same

-- ---- how far one call is

returned_is : (word : Option ℕ) (o : Outcome) → IsCallEnd (end.Returned word) o → (vs : List Value) × (o ≡ returned vs) × (word ≡ slice_get (map bits_of (reverse vs)) 0)
returned_is word pending h = absurd h
returned_is word (returned vs) h = (vs, refl, h)
returned_is word (stopped y) h = absurd h
returned_is word cancelled h = absurd h
returned_is word dead h = absurd h

pub told_returned : (l : LinkedState) (x : JournalCallState) (waits : Bool) (stands : Option code.Suspension) (word func : Option ℕ) (charges : ℕ) (v : Option CallValue) → x.end ≡ end.Returned word → func ≡ x.func → charges ≡ x.charges → IsReturnedAs l func word v → IsEntryTold l x waits stands (tells.Returned v charges)
told_returned l x waits stands word func charges v at same many says c inst e is rep typed =
    let r = returned_is word e.call.outcome (subst (λ z. IsCallEnd z e.call.outcome) at rep.end) in
    let by = says c inst e.call r.0 is (rep.func ∙ sym same) (subst (ReturnsTyped inst e.call) r.1 typed) r.2 in
    (r.1 ∙ ap returned by.0, subst (AllByRecursion InRange) by.0 by.1, rep.charges ∙ sym many)

-- ---- the call at a place of the journal

pub join_each : (cs ds : List JournalCallState) (es fs : List Entry) → RepresentsEach cs es → RepresentsEach ds fs → RepresentsEach (cs ++ ds) (es ++ fs)
join_each [] ds [] fs none more = more
join_each [] ds (e ∷ es) fs none more = absurd none
join_each (c ∷ cs) ds [] fs some more = absurd some
join_each (c ∷ cs) ds (e ∷ es) fs some more = (some.0, join_each cs ds es fs some.1 more)

entry_at : (cs : List JournalCallState) (es : List Entry) (at : ℕ) (c : JournalCallState) → RepresentsEach cs es → slice_get cs at ≡ Some c → (e : Entry) × (slice_get es at ≡ Some e) × RepresentsCall c e
entry_at [] es at c h is = absurd (let bad : None ≡ Some c = is in cc bad)
entry_at (d ∷ cs) [] at c h is = absurd h
entry_at (d ∷ cs) (e ∷ es) zero c h is = (e, refl, let same : d ≡ c = cc is in subst (λ z. RepresentsCall z e) same h.0)
entry_at (d ∷ cs) (e ∷ es) (suc at) c h is = entry_at cs es at c h.1 is

no_entry_at : (cs : List JournalCallState) (es : List Entry) (at : ℕ) → RepresentsEach cs es → slice_get cs at ≡ None → slice_get es at ≡ None
no_entry_at [] [] at h is = refl
no_entry_at [] (e ∷ es) at h is = absurd h
no_entry_at (d ∷ cs) [] at h is = absurd h
no_entry_at (d ∷ cs) (e ∷ es) zero h is = absurd (let bad : Some d ≡ None = is in cc bad)
no_entry_at (d ∷ cs) (e ∷ es) (suc at) h is = no_entry_at cs es at h.1 is

-- ---- an open call before it

abbrev IsClosed : Entry → Type 0
IsClosed e = is_open e.call.outcome ≡ false

abbrev IsOpenYet : Entry → Type 0
IsOpenYet e = is_open e.call.outcome ≡ true

ended_closed : (o : Outcome) → HasEnded o → is_open o ≡ false
ended_closed (returned vs) h = refl
ended_closed (stopped x) h = refl
ended_closed cancelled h = refl
ended_closed dead h = refl
ended_closed pending h = absurd h

all_ended : (inst : Instance) (es : List Entry) → AllByRecursion (IsEnded inst) es → AllByRecursion IsClosed es
all_ended inst [] h = tt
all_ended inst (e ∷ es) h = (ended_closed e.call.outcome h.0.ended, all_ended inst es h.1)

all_dead : (inst : Instance) (es : List Entry) → AllByRecursion (IsDeadCall inst) es → AllByRecursion IsClosed es
all_dead inst [] h = tt
all_dead inst (e ∷ es) h = (ap is_open h.0.is_dead, all_dead inst es h.1)

all_open : (inst : Instance) (es : List Entry) → AllByRecursion (IsOpenCall inst) es → AllByRecursion IsOpenYet es
all_open inst [] h = tt
all_open inst (e ∷ es) h = (ap is_open h.0.open_yet, all_open inst es h.1)

closed_ones : {m : Module} {inst : Instance} {died : Bool} {ended os : List Entry} → InOrder m inst died ended os → AllByRecursion IsClosed ended
closed_ones (is_starting start yet rest) = tt
closed_ones {inst = inst} (has_started {e = e} {es = es} start h well typed ended rest) = (ended_closed e.call.outcome h, all_ended inst es ended)
closed_ones {inst = inst} (has_died {e = e} {es = es} start h failed rest) = (ended_closed e.call.outcome h, all_dead inst es rest)

open_ones : {m : Module} {inst : Instance} {died : Bool} {ended os : List Entry} → InOrder m inst died ended os → AllByRecursion IsOpenYet os
open_ones {inst = inst} (is_starting {es = es} start yet rest) = (ap is_open yet, all_open inst es rest)
open_ones {inst = inst} (has_started {os = os} start h well typed ended rest) = all_open inst os rest
open_ones (has_died start h failed rest) = tt

none_before : (ended os : List Entry) (at : ℕ) → AllByRecursion IsClosed ended → at ≤ length ended → waits_at (ended ++ os) at ≡ false
none_before ended os zero closed low = refl
none_before [] os (suc at) closed low = absurd (omega arith)
none_before (e ∷ ended) os (suc at) closed low = let first = closed.0 in rw first (none_before ended os at closed.1 (omega arith))

one_before : (ended os : List Entry) (at : ℕ) (e : Entry) → AllByRecursion IsClosed ended → AllByRecursion IsOpenYet os → length ended < at → slice_get (ended ++ os) at ≡ Some e → waits_at (ended ++ os) at ≡ true
one_before ended os zero e closed opens high is = absurd (omega arith)
one_before [] [] (suc at) e closed opens high is = absurd (let bad : None ≡ Some e = is in cc bad)
one_before [] (o ∷ os) (suc at) e closed opens high is = let first = opens.0 in rw first refl
one_before (d ∷ ended) os (suc at) e closed opens high is = let first = closed.0 in rw first (one_before ended os at e closed.1 opens (omega arith) is)

-- ---- what it returned has the types that are declared

abbrev IsTypedEntry : Instance → Entry → Type 0
IsTypedEntry inst e = ReturnsTyped inst e.call e.call.outcome

failed_typed : (inst : Instance) (call : Call) (o : Outcome) → fails o ≡ true → ReturnsTyped inst call o
failed_typed inst call (returned vs) failed = absurd (cc failed)
failed_typed inst call (stopped x) failed = tt
failed_typed inst call cancelled failed = tt
failed_typed inst call dead failed = tt
failed_typed inst call pending failed = tt

pending_typed : (inst : Instance) (e : Entry) → e.call.outcome ≡ pending → IsTypedEntry inst e
pending_typed inst e is = rw is tt

dead_typed : (inst : Instance) (e : Entry) → e.call.outcome ≡ dead → IsTypedEntry inst e
dead_typed inst e is = rw is tt

all_typed : (inst : Instance) (es : List Entry) → AllByRecursion (IsEnded inst) es → AllByRecursion (IsTypedEntry inst) es
all_typed inst [] h = tt
all_typed inst (e ∷ es) h = (h.0.typed, all_typed inst es h.1)

dead_all_typed : (inst : Instance) (es : List Entry) → AllByRecursion (IsDeadCall inst) es → AllByRecursion (IsTypedEntry inst) es
dead_all_typed inst [] h = tt
dead_all_typed inst (e ∷ es) h = (dead_typed inst e h.0.is_dead, dead_all_typed inst es h.1)

open_all_typed : (inst : Instance) (es : List Entry) → AllByRecursion (IsOpenCall inst) es → AllByRecursion (IsTypedEntry inst) es
open_all_typed inst [] h = tt
open_all_typed inst (e ∷ es) h = (pending_typed inst e h.0.open_yet, open_all_typed inst es h.1)

typed_ones : {m : Module} {inst : Instance} {died : Bool} {ended os : List Entry} → InOrder m inst died ended os → AllByRecursion (IsTypedEntry inst) (ended ++ os)
typed_ones {inst = inst} (is_starting {e = e} {es = es} start yet rest) = (pending_typed inst e yet, open_all_typed inst es rest)
typed_ones {inst = inst} (has_started {e = e} {es = es} {os = os} start h well typed ended rest) = search (rules, all_join, all_typed, open_all_typed)
typed_ones {inst = inst} (has_died {e = e} {es = es} start h failed rest) = search (rules, failed_typed, all_join, dead_all_typed)

-- ---- what is told of it

waits_by : (m : Module) (t : Tenant) (e : Entry) (at ended : ℕ) → InOrder m t.inst t.dead t.ended t.open_calls → ended ≡ length t.ended → slice_get (journal t) at ≡ Some e → waits_at (journal t) at ≡ nat_lt ended at
waits_by m t e at ended order many is = search (rules, cases_lt, one_before, closed_ones, open_ones, lt-ltb, none_before, le-ltb)

-- it is told so, where it waits exactly behind those that have ended
pub told_at : (l : LinkedState) (x : HostInstanceState) (at ended : ℕ) (c : JournalCallState) (status : CallStatus) → slice_get (x.journal.ended ++ x.journal.open_calls) at ≡ Some c → ended ≡ length x.journal.ended → IsEntryTold l c (nat_lt ended at) x.waiting_for status → TellsCall l x at (Some status)
told_at l x at ended c status is many says limit bytes m t rep order =
    let each = join_each x.journal.ended x.journal.open_calls t.ended t.open_calls rep.ended rep.open_calls in
    let found = entry_at (x.journal.ended ++ x.journal.open_calls) (journal t) at c each is in
    let e = found.0 in
    let typed = all_at (IsTypedEntry t.inst) (journal t) at e (typed_ones order) found.1 in
    let told = says rep.store.0 t.inst e rep.store.1.instance found.2 typed in
    let as_many : ended ≡ length t.ended = many ∙ sym (as_many_ended x.journal.ended t.ended rep.ended) in
    let waits = waits_by m t e at ended order as_many found.1 in
    (e, found.1, subst (λ b. IsCallStatus status b t.waiting_for e.call) (sym waits) (subst (λ o. IsCallStatus status (nat_lt ended at) o e.call) (sym rep.waiting_for) told))

pub none_told : (l : LinkedState) (x : HostInstanceState) (at : ℕ) → slice_get (x.journal.ended ++ x.journal.open_calls) at ≡ None → TellsCall l x at None
none_told l x at none limit bytes m t rep order = search (rules, no_entry_at, join_each)
