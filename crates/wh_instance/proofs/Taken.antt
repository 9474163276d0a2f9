-- Calls that an instance takes, and those that it doesn't.
use Rattle.std.proofs.Common.{◌≡◌, ◌≢◌, ℕ, suc, ◌<◌, ◌≤◌, ◌^◌, Bool, true, false, min, List, [], ◌∷◌, ◌++◌, length, map, Some, slice_get, ℤ, refl, sym, ap, subst, ◌∙◌, arith, length-append, rules}
use Rattle.std.specs.List.{AllByRecursion}
use Rattle.wh_model.specs.Format.{FuncType, Body, Module}
use Rattle.wh_model.specs.Execution.Store.{Instance}
use Rattle.wh_model.specs.Execution.{Value, own, bits_of}
use Rattle.wh_space_model.specs.{Space}
use Rattle.wh_host_model.specs.Host.{Rest, Doing, Tenant, journal, store_in, Faces, open_count, Meets, IsFirst, TakesCall}
use Rattle.wh_host_model.specs.{Entry, new_entry, most_open, most_calls, AreArguments, ExportsOwn, InvokeFault, no_export, arguments, queue_full, instance_dead, journal_full}
use Rattle.wh_journal.specs.Calls.{JournalCallState, JournalState}
use Rattle.wh_syntax.specs.View.{view_module}
use Rattle.wh_imports.specs.LinkedState.{LinkedState}
use Rattle.wh_machine.specs.CallStates.{Setting}
use Rattle.wh_instance.specs.CallsByName.{NamesOwn, NamesOnly, NamesNone, CanTake}
use Rattle.wh_instance.proofs.Given.{types_of, all_fit}
use Rattle.wh_instance.specs.declared.stages.CallStage.TheVariants.{Faced}
use Rattle.wh_instance.specs.Tenancy.{HostInstanceState, RepresentsCall, RepresentsEach, MayBegin, IsCounted, behind_first, IsWhere, rests, writes, is_faced, is_under_way, byte_setting, IsTenant, RepresentsTenant}
use Rattle.wh_instance.specs.declared.error.InvokeError.{InvokeError}
use Rattle.wh_instance.specs.declared.error.InvokeError.TheVariants.{NoExport, Arguments, QueueFull, Dead, JournalFull, Memory}
use Rattle.wh_instance.specs.Invoked.{open_in, calls_in_journal, HasCallRoom, LacksCallRoom, TakesThese, TakesNone, MayTake, new_call, with_journal, AddsCall, IsSomeTenant, InvokesTenant, RefusesInvoke}
use Rattle.wh_instance.proofs.Closing.{each_joins, faced_doing, faced_next, is_where_next}
use Rattle.wh_instance.proofs.Settled.{is_where_too}

-- ---- how many calls there are

each_length : (cs : List JournalCallState) (es : List Entry) → RepresentsEach cs es → length cs ≡ length es
each_length [] [] h = refl
each_length [] (e ∷ es) h = absurd h
each_length (c ∷ cs) [] h = absurd h
each_length (c ∷ cs) (e ∷ es) h = ap suc (each_length cs es h.1)

pub same_open : {M : Type 0} (w : Setting M) (x : HostInstanceState) (m : M) (t : Tenant) → RepresentsTenant w x m t → open_in x ≡ open_count t
same_open w x m t rep = search (rules, each_length, min)

pub same_calls : {M : Type 0} (w : Setting M) (x : HostInstanceState) (m : M) (t : Tenant) → RepresentsTenant w x m t → calls_in_journal x ≡ length (journal t)
same_calls w x m t rep = search (rules, each_length, length-append)

-- ---- a new call

all_joins : {A : Type 0} (P : A → Type 0) (xs ys : List A) → AllByRecursion P xs → AllByRecursion P ys → AllByRecursion P (xs ++ ys)
all_joins P [] ys a b = b
all_joins P (x ∷ xs) ys a b = (a.0, all_joins P xs ys a.1 b)

may_begin : (inst : Instance) (func : ℕ) (type : FuncType) (body : Body) (vs : List Value) (given : List ℤ) (fuel : ℕ) → slice_get inst.funcs func ≡ Some (own type body) → AreArguments type.params given vs → MayBegin inst (new_entry func vs given fuel)
may_begin inst func type body vs given fuel is_own fits = search (rules, types_of, all_fit)

at_rest : {M : Type 0} (w : Setting M) (x : HostInstanceState) (m : M) (inst : Instance) (r : Rest) (d : Doing) → IsWhere w x m inst r d [] → x.progress ≡ Faced
at_rest w x m inst r d (rests at) = at

-- other calls may wait behind the present one
behind : {M : Type 0} (w : Setting M) (x : HostInstanceState) (m : M) (inst : Instance) (r : Rest) (d : Doing) (e : Entry) (es fs : List Entry) → IsWhere w x m inst r d (e ∷ es) → IsWhere w x m inst r d (e ∷ fs)
behind w x m inst r d e es fs (writes at some func st left few) = writes at some func st left few
behind w x m inst r d e es fs (is_faced {func = func} at st) = is_faced {func = func} at st
behind w x m inst r d e es fs (is_under_way at st within) = is_under_way at st within

-- where the present call is then
record Joined {M : Type 0} (w : Setting M) (y : HostInstanceState) (m : M) (t : Tenant) (s : Space) (e : Entry) : Type 0 where
  doing : Doing
  first : t.open_calls ≡ [] → Faces t.inst (store_in s t) (e ∷ []) doing
  later : t.open_calls ≢ [] → doing ≡ t.doing
  is_where : IsWhere w y m t.inst t.rest doing (t.open_calls ++ e ∷ [])
  waiting : AllByRecursion (MayBegin t.inst) (behind_first (t.open_calls ++ e ∷ []))

joined : {M : Type 0} (w : Setting M) (x y : HostInstanceState) (m : M) (t : Tenant) (s : Space) (e : Entry) → y.store ≡ x.store → y.machine ≡ x.machine → y.places ≡ x.places → y.cursor ≡ x.cursor → y.progress ≡ x.progress → RepresentsTenant w x m t → MayBegin t.inst e → (os : List Entry) → t.open_calls ≡ os → Joined w y m t s e
joined w x y m t s e a b c d f rep may [] none =
    let at = f ∙ at_rest w x m t.inst t.rest t.doing (subst (IsWhere w x m t.inst t.rest t.doing) none rep.is_where) in
    let all : AllByRecursion (MayBegin t.inst) (e ∷ []) = (may, tt) in
    record {
      doing = faced_doing t.inst (e ∷ []) all;
      first = λ _. faced_next t.inst (store_in s t) (e ∷ []) all;
      later = λ some. absurd (some none);
      is_where = rw none (is_where_next w y m t.inst t.rest (e ∷ []) all at (rw a rep.store));
      waiting = rw none tt;
    }
joined w x y m t s e a b c d f rep may (e0 ∷ es) some =
    let is_where = subst (IsWhere w x m t.inst t.rest t.doing) some rep.is_where in
    let waiting = subst (λ os. AllByRecursion (MayBegin t.inst) (behind_first os)) some rep.waiting in
    record {
      doing = t.doing;
      first = λ none. let never = sym some ∙ none in absurd (cc never);
      later = λ _. refl;
      is_where = rw some (is_where_too w x y m t.inst t.rest t.doing (e0 ∷ (es ++ e ∷ [])) a b c d f (behind w x m t.inst t.rest t.doing e0 es (es ++ e ∷ []) is_where));
      waiting = rw some (all_joins (MayBegin t.inst) es (e ∷ []) waiting (may, tt));
    }

pub takes_call : {M : Type 0} (w : Setting M) (x : HostInstanceState) (m : M) (t : Tenant) (s : Space) (mod_ : Module) (name : List ℕ) (given : List ℤ) (fuel at func : ℕ) (type : FuncType) (body : Body) (vs : List Value) (words : List ℕ) (j : JournalState)
    → RepresentsTenant w x m t → ExportsOwn mod_ t.inst name func type body → AreArguments type.params given vs → map bits_of vs ≡ words → fuel < 2 ^ 64 → HasCallRoom x → at ≡ calls_in_journal x → j ≡ record x.journal { open_calls = x.journal.open_calls ++ new_call func given words fuel ∷ [] }
    → (t2 : Tenant) × TakesCall mod_ s t name given fuel at t2 × RepresentsTenant w (with_journal x j) m t2
takes_call w x m t s mod_ name given fuel at func type body vs words j rep exports fits are_words counted room place pushed =
    let e = new_entry func vs given fuel in
    let may = may_begin t.inst func type body vs given fuel exports.is_own fits in
    let k = joined w x (with_journal x j) m t s e refl refl refl refl refl rep may t.open_calls refl in
    let few_open = room.few_open in
    let few_calls = room.few_calls in
    let calls = same_calls w x m t rep in
    let call : RepresentsCall (new_call func given words fuel) e = record { func = refl; given = refl; words = are_words; fuel = refl; pieces = refl; charges = refl; end = tt } in
    let each : RepresentsEach (x.journal.open_calls ++ new_call func given words fuel ∷ []) (t.open_calls ++ e ∷ []) = each_joins x.journal.open_calls t.open_calls (new_call func given words fuel ∷ []) (e ∷ []) rep.open_calls (call, tt) in
    let one : IsCounted e = record { pieces = omega arith; fuel = counted } in (
      record t { doing = k.doing; open_calls = t.open_calls ++ e ∷ [] },
      record {
        func = func;
        type = type;
        body = body;
        vs = vs;
        doing = k.doing;
        exports = exports;
        fits = fits;
        can_count = omega (arith, counted);
        few_open = omega (arith, same_open w x m t rep, few_open);
        alive = sym rep.dead ∙ room.alive;
        few_calls = omega (arith, calls, few_calls);
        place = place ∙ calls;
        first = k.first;
        later = k.later;
        after = refl;
      },
      record {
        store = rep.store;
        ended = subst (λ (z : JournalState). RepresentsEach z.ended t.ended) (sym pushed) rep.ended;
        open_calls = subst (λ (z : JournalState). RepresentsEach z.open_calls (t.open_calls ++ e ∷ [])) (sym pushed) each;
        is_where = k.is_where;
        waiting = k.waiting;
        counted = all_joins IsCounted t.open_calls (e ∷ []) rep.counted (one, tt);
        waiting_for = rep.waiting_for;
        fresh = rep.fresh;
        dead = rep.dead;
      },
    )

-- ---- the first fault

pub first_export : (mod_ : Module) (t : Tenant) (name : List ℕ) (given : List ℤ) → Meets mod_ t name given no_export → IsFirst mod_ t name given no_export
first_export mod_ t name given is = search rules

pub first_arguments : (mod_ : Module) (t : Tenant) (name : List ℕ) (given : List ℤ) → ¬ (Meets mod_ t name given no_export) → Meets mod_ t name given arguments → IsFirst mod_ t name given arguments
first_arguments mod_ t name given a is = search rules

pub first_queue : (mod_ : Module) (t : Tenant) (name : List ℕ) (given : List ℤ) → ¬ (Meets mod_ t name given no_export) → ¬ (Meets mod_ t name given arguments) → most_open ≤ open_count t → IsFirst mod_ t name given queue_full
first_queue mod_ t name given a b is = search rules

pub first_dead : (mod_ : Module) (t : Tenant) (name : List ℕ) (given : List ℤ) → ¬ (Meets mod_ t name given no_export) → ¬ (Meets mod_ t name given arguments) → open_count t < most_open → t.dead ≡ true → IsFirst mod_ t name given instance_dead
first_dead mod_ t name given a b few is = search rules

not_both : (b : Bool) → b ≡ true → b ≡ false → ⊥
not_both b t f = let never = sym t ∙ f in cc never

pub first_journal : (mod_ : Module) (t : Tenant) (name : List ℕ) (given : List ℤ) → ¬ (Meets mod_ t name given no_export) → ¬ (Meets mod_ t name given arguments) → open_count t < most_open → t.dead ≡ false → most_calls ≤ length (journal t) → IsFirst mod_ t name given journal_full
first_journal mod_ t name given a b few alive is = search rules

pub none_met : (mod_ : Module) (t : Tenant) (name : List ℕ) (given : List ℤ) → ¬ (Meets mod_ t name given no_export) → ¬ (Meets mod_ t name given arguments) → open_count t < most_open → t.dead ≡ false → length (journal t) < most_calls → (fault : InvokeFault) → ¬ (Meets mod_ t name given fault)
none_met mod_ t name given a b few alive calls no_export met = a met
none_met mod_ t name given a b few alive calls arguments met = b met
none_met mod_ t name given a b few alive calls queue_full met = omega (arith, few, met)
none_met mod_ t name given a b few alive calls instance_dead met = not_both t.dead met alive
none_met mod_ t name given a b few alive calls journal_full met = omega (arith, calls, met)

-- ---- of a linked module

pub refuses_export : (l : LinkedState) (x : HostInstanceState) (name : List ℕ) (given : List ℤ) → NamesNone l name → RefusesInvoke l x name given NoExport
refuses_export l x name given none limit bytes t s rep sees = search (rules, first_export)

same_func : {x y : ℕ} → Some x ≡ Some y → x ≡ y
same_func e = cc e

pub refuses_arguments : (l : LinkedState) (x : HostInstanceState) (name : List ℕ) (given : List ℤ) (func : ℕ) → NamesOwn l name func → NamesOnly l name (Some func) → TakesNone l func given → RefusesInvoke l x name given Arguments
refuses_arguments l x name given func owns only none limit bytes t s rep sees =
    let (c, st) = rep.store in
    let (type, body, exports) = owns c t.inst st.instance in
    first_arguments (view_module l.valid.decoded) t name given (λ never. never func type body exports)
    (λ y u b vs e fits. none c t.inst u b st.instance (subst (λ z. slice_get t.inst.funcs z ≡ Some (own u b)) (sym (same_func (only c t.inst y u b st.instance e))) e.is_own) vs fits)

-- neither of the first two faults is met
record Clear (l : LinkedState) (t : Tenant) (name : List ℕ) (given : List ℤ) : Type 0 where
  no_export : ¬ (Meets (view_module l.valid.decoded) t name given no_export)
  no_arguments : ¬ (Meets (view_module l.valid.decoded) t name given arguments)

clear : (l : LinkedState) (limit : ℕ) (x : HostInstanceState) (bytes : List ℕ) (t : Tenant) (name : List ℕ) (given : List ℤ) (func : ℕ) → NamesOwn l name func → TakesThese l func given → IsTenant l limit x bytes t → Clear l t name given
clear l limit x bytes t name given func owns takes rep =
    let (c, st) = rep.store in
    let (type, body, exports) = owns c t.inst st.instance in
    let (vs, fits) = takes c t.inst type body st.instance exports.is_own in
    record { no_export = λ never. never func type body exports; no_arguments = λ never. never func type body vs exports fits }

pub refuses_room : (l : LinkedState) (x : HostInstanceState) (name : List ℕ) (given : List ℤ) (func : ℕ) (e : InvokeError) → NamesOwn l name func → TakesThese l func given → LacksCallRoom x e → RefusesInvoke l x name given e
refuses_room l x name given func NoExport owns takes lacks limit bytes t s rep sees = absurd lacks
refuses_room l x name given func Arguments owns takes lacks limit bytes t s rep sees = absurd lacks
refuses_room l x name given func Memory owns takes lacks limit bytes t s rep sees = absurd lacks
refuses_room l x name given func QueueFull owns takes lacks limit bytes t s rep sees =
    let k = clear l limit x bytes t name given func owns takes rep in
    let opens = same_open (byte_setting l limit) x bytes t rep in
    first_queue (view_module l.valid.decoded) t name given k.no_export k.no_arguments (omega (arith, opens, lacks))
refuses_room l x name given func Dead owns takes lacks limit bytes t s rep sees =
    let k = clear l limit x bytes t name given func owns takes rep in
    let opens = same_open (byte_setting l limit) x bytes t rep in
    first_dead (view_module l.valid.decoded) t name given k.no_export k.no_arguments (omega (arith, opens, lacks.0)) (sym rep.dead ∙ lacks.1)
refuses_room l x name given func JournalFull owns takes lacks limit bytes t s rep sees =
    let k = clear l limit x bytes t name given func owns takes rep in
    let opens = same_open (byte_setting l limit) x bytes t rep in
    let calls = same_calls (byte_setting l limit) x bytes t rep in
    first_journal (view_module l.valid.decoded) t name given k.no_export k.no_arguments (omega (arith, opens, lacks.0)) (sym rep.dead ∙ lacks.1) (omega (arith, calls, lacks.2))

pub refuses_memory : (l : LinkedState) (x : HostInstanceState) (name : List ℕ) (given : List ℤ) (func : ℕ) → MayTake l x name given func → RefusesInvoke l x name given Memory
refuses_memory l x name given func may limit bytes t s rep sees =
    let k = clear l limit x bytes t name given func may.names may.takes rep in
    let opens = same_open (byte_setting l limit) x bytes t rep in
    let calls = same_calls (byte_setting l limit) x bytes t rep in
    let room = may.room in
    none_met (view_module l.valid.decoded) t name given k.no_export k.no_arguments (omega (arith, opens, room.few_open)) (sym rep.dead ∙ room.alive) (omega (arith, calls, room.few_calls))

pub can_take : (l : LinkedState) (x : HostInstanceState) (name : List ℕ) (given : List ℤ) (func : ℕ) → MayTake l x name given func → IsSomeTenant l x → CanTake l func given
can_take l x name given func may (limit, bytes, t, rep) =
    let (c, st) = rep.store in
    let (type, body, exports) = may.names c t.inst st.instance in
    let (vs, fits) = may.takes c t.inst type body st.instance exports.is_own in
    record { context = c; inst = t.inst; is = st.instance; type = type; body = body; vs = vs; is_own = exports.is_own; fits = fits }

pub invokes : (l : LinkedState) (x x2 : HostInstanceState) (name : List ℕ) (given : List ℤ) (fuel at func : ℕ) → MayTake l x name given func → fuel < 2 ^ 64 → AddsCall l x func given fuel at x2 → InvokesTenant l x name given fuel at x2
invokes l x x2 name given fuel at func may counted (words, are, place, pushed) limit bytes t s rep sees =
    let (c, st) = rep.store in
    let (type, body, exports) = may.names c t.inst st.instance in
    let (vs, fits) = may.takes c t.inst type body st.instance exports.is_own in
    let j : JournalState = record x.journal { open_calls = x.journal.open_calls ++ new_call func given words fuel ∷ [] } in
    let h = takes_call (byte_setting l limit) x bytes t s (view_module l.valid.decoded) name given fuel at func type body vs words j rep exports fits (are c t.inst type body vs st.instance exports.is_own fits) counted may.room place refl in
    (h.0, h.1, subst (λ z. IsTenant l limit z bytes h.0) (sym pushed) h.2)
