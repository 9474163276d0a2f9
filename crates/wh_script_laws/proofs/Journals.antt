-- What a script counts and changes in a journal: calls that have ended, and then those that are open.
use Rattle.std.proofs.Common.{◌≡◌, ℕ, ◌+◌, ◌-◌, min, Bool, true, false, List, [], ◌∷◌, ◌++◌, map, length, Some, None, refl, sym, ap, subst, ◌∙◌, arith, append_assoc}
use Rattle.std.specs.List.{AllByRecursion}
use Rattle.wh_model.specs.Format.{Module}
use Rattle.wh_model.specs.Execution.Store.{Instance}
use Rattle.wh_model.specs.Execution.{Outcome, returned, stopped, cancelled, dead, pending, Call, fails}
use Rattle.wh_host_model.specs.Host.{HasJournal, World, Tenant, journal, journal_calls, ended_by, dies, more_fuel, HasEnded, IsEnded, IsOpenCall, IsDeadCall, InOrder, is_starting, has_started, has_died}
use Rattle.wh_host_model.specs.{Entry, is_open, first_open}
use Rattle.wh_script_model.specs.{NamedInstance, with_first_open, open_number, open_behind, start_failed, ended_so, cancel_first, with_fuel}
use Rattle.wh_host_model.proofs.Host.Entries.{calls_join}
use Rattle.wh_script_model.proofs.Once.{passes, stops_there}

-- ---- which calls are open

abbrev pub IsClosed : Entry → Type 0
IsClosed e = is_open e.call.outcome ≡ false

abbrev pub IsOpened : Entry → Type 0
IsOpened e = is_open e.call.outcome ≡ true

closed_so : (o : Outcome) → HasEnded o → is_open o ≡ false
closed_so (returned vs) h = refl
closed_so (stopped x) h = refl
closed_so cancelled h = refl
closed_so dead h = absurd h
closed_so pending h = absurd h

each_closed : (inst : Instance) (es : List Entry) → AllByRecursion (IsEnded inst) es → AllByRecursion IsClosed es
each_closed inst [] h = tt
each_closed inst (e ∷ es) h = (closed_so e.call.outcome h.0.ended, each_closed inst es h.1)

each_dead : (inst : Instance) (es : List Entry) → AllByRecursion (IsDeadCall inst) es → AllByRecursion IsClosed es
each_dead inst [] h = tt
each_dead inst (e ∷ es) h = (ap is_open h.0.is_dead, each_dead inst es h.1)

each_open : (inst : Instance) (es : List Entry) → AllByRecursion (IsOpenCall inst) es → AllByRecursion IsOpened es
each_open inst [] h = tt
each_open inst (e ∷ es) h = (ap is_open h.0.open_yet, each_open inst es h.1)

pub ended_closed : {m : Module} {inst : Instance} {died : Bool} {es os : List Entry} → InOrder m inst died es os
    → AllByRecursion IsClosed es
ended_closed (is_starting a b c) = tt
ended_closed {inst = inst} (has_started {e = e} {es = es} a b c d f g) =
    (closed_so e.call.outcome b, each_closed inst es f)
ended_closed {inst = inst} (has_died {e = e} {es = es} a b c d) = (closed_so e.call.outcome b, each_dead inst es d)

pub all_opened : {m : Module} {inst : Instance} {died : Bool} {es os : List Entry} → InOrder m inst died es os
    → AllByRecursion IsOpened os
all_opened {inst = inst} (is_starting {es = es} a b c) = (ap is_open b, each_open inst es c)
all_opened {inst = inst} (has_started {os = os} a b c d f g) = each_open inst os g
all_opened (has_died a b c d) = tt

-- ---- the first open one

pub first_behind : (es os : List Entry) → AllByRecursion IsClosed es
    → first_open (journal_calls (es ++ os)) ≡ first_open (journal_calls os)
first_behind [] os h = refl
first_behind (e ∷ es) os h = passes e.call (journal_calls (es ++ os)) h.0 ∙ first_behind es os h.1

-- it is the present one
pub first_is : {m : Module} {inst : Instance} {died : Bool} {es os : List Entry} {e : Entry}
    → InOrder m inst died es (e ∷ os) → first_open (journal_calls (es ++ e ∷ os)) ≡ Some e.call
first_is {es = es} {os = os} {e = e} order =
    first_behind es (e ∷ os) (ended_closed order) ∙ stops_there e.call (journal_calls os) ((all_opened order).0)

pub first_isnt : {m : Module} {inst : Instance} {died : Bool} {es : List Entry}
    → InOrder m inst died es [] → first_open (journal_calls (es ++ [])) ≡ None
first_isnt {es = es} order = first_behind es [] (ended_closed order)

with_passes : (change : Call → Call) (c : Call) (cs : List Call) → is_open c.outcome ≡ false
    → with_first_open change (c ∷ cs) ≡ c ∷ with_first_open change cs
with_passes change c cs e = rw e

with_stops : (change : Call → Call) (c : Call) (cs : List Call) → is_open c.outcome ≡ true
    → with_first_open change (c ∷ cs) ≡ change c ∷ cs
with_stops change c cs e = rw e

pub with_first_is : (change : Call → Call) (es os : List Entry) (e : Entry) → AllByRecursion IsClosed es → IsOpened e
    → with_first_open change (journal_calls (es ++ e ∷ os)) ≡ journal_calls es ++ change e.call ∷ journal_calls os
with_first_is change [] os e h stands = with_stops change e.call (journal_calls os) stands
with_first_is change (x ∷ es) os e h stands =
    with_passes change x.call (journal_calls (es ++ e ∷ os)) h.0
    ∙ ap (λ cs. x.call ∷ cs) (with_first_is change es os e h.1 stands)

pub refueled_is : {m : Module} {inst : Instance} {died : Bool} {es os : List Entry} {e : Entry} (n : ℕ)
    → InOrder m inst died es (e ∷ os)
    → with_first_open (with_fuel n) (journal_calls (es ++ e ∷ os)) ≡ journal_calls (es ++ more_fuel e n ∷ os)
refueled_is {es = es} {os = os} {e = e} n order =
    with_first_is (with_fuel n) es os e (ended_closed order) ((all_opened order).0)
    ∙ sym (calls_join es (more_fuel e n ∷ os))

-- ---- a call that is cancelled

cancel_passes : (c : Call) (cs : List Call) → is_open c.outcome ≡ false
    → cancel_first (c ∷ cs) ≡ c ∷ with_first_open (ended_so cancelled) cs
cancel_passes c cs e = rw e

pub cancelled_next : {m : Module} {inst : Instance} {died : Bool} {es os : List Entry} {e : Entry}
    → InOrder m inst died es (e ∷ os) → dies es cancelled ≡ false
    → cancel_first (journal_calls (es ++ e ∷ os)) ≡ journal_calls ((es ++ ended_by e cancelled ∷ []) ++ os)
cancelled_next {es = es} {os = os} {e = e} order alive = go es (ended_closed order) alive where
  go : (xs : List Entry) → AllByRecursion IsClosed xs → dies xs cancelled ≡ false
      → cancel_first (journal_calls (xs ++ e ∷ os)) ≡ journal_calls ((xs ++ ended_by e cancelled ∷ []) ++ os)
  go [] h lives = absurd (cc lives)
  go (x ∷ xs) h lives =
      let rest = with_first_is (ended_so cancelled) xs os e h.1 ((all_opened order).0) in
      let joined : journal_calls xs ++ ended_so cancelled e.call ∷ journal_calls os
      ≡ journal_calls ((xs ++ ended_by e cancelled ∷ []) ++ os)
      = sym (calls_join xs (ended_by e cancelled ∷ os)) ∙ ap journal_calls (sym (append_assoc xs (ended_by e cancelled ∷ []) os)) in
      cancel_passes x.call (journal_calls (xs ++ e ∷ os)) h.0 ∙ ap (λ cs. x.call ∷ cs) (rest ∙ joined)

all_dead : (os : List Entry) → map (ended_so dead) (journal_calls os) ≡ journal_calls (map (λ w. ended_by w dead) os)
all_dead [] = refl
all_dead (e ∷ os) = ap (λ cs. ended_so dead e.call ∷ cs) (all_dead os)

none_behind : (es : List Entry) → es ++ [] ≡ es
none_behind [] = refl
none_behind (e ∷ es) = ap (λ xs. e ∷ xs) (none_behind es)

pub cancelled_start : {m : Module} {inst : Instance} {died : Bool} {es os : List Entry} {e : Entry}
    → InOrder m inst died es (e ∷ os) → dies es cancelled ≡ true
    → cancel_first (journal_calls (es ++ e ∷ os))
    ≡ journal_calls ((es ++ ended_by e cancelled ∷ map (λ w. ended_by w dead) os) ++ [])
cancelled_start {es = es} {os = os} {e = e} order died = go es died where
  cancel_stops : is_open e.call.outcome ≡ true
      → cancel_first (e.call ∷ journal_calls os) ≡ ended_so cancelled e.call ∷ map (ended_so dead) (journal_calls os)
  cancel_stops same = rw same

  go : (xs : List Entry) → dies xs cancelled ≡ true
      → cancel_first (journal_calls (xs ++ e ∷ os))
      ≡ journal_calls ((xs ++ ended_by e cancelled ∷ map (λ w. ended_by w dead) os) ++ [])
  go [] fails_so =
      cancel_stops ((all_opened order).0) ∙ ap (λ cs. ended_so cancelled e.call ∷ cs) (all_dead os)
      ∙ ap journal_calls (sym (none_behind (ended_by e cancelled ∷ map (λ w. ended_by w dead) os)))
  go (x ∷ xs) fails_so = absurd (cc fails_so)

-- ---- how many are open, and whether the start has failed

number_passes : (c : Call) (cs : List Call) → is_open c.outcome ≡ false → open_number (c ∷ cs) ≡ open_number cs
number_passes c cs e = rw e

number_stops : (c : Call) (cs : List Call) → is_open c.outcome ≡ true → open_number (c ∷ cs) ≡ 1 + open_number cs
number_stops c cs e = rw e

number_open : (os : List Entry) → AllByRecursion IsOpened os → open_number (journal_calls os) ≡ length os
number_open [] h = refl
number_open (e ∷ os) h =
    let rest = number_open os h.1 in let one = number_stops e.call (journal_calls os) h.0 in omega (arith, rest, one)

number_behind : (es os : List Entry) → AllByRecursion IsClosed es → AllByRecursion IsOpened os
    → open_number (journal_calls (es ++ os)) ≡ length os
number_behind [] os h k = number_open os k
number_behind (e ∷ es) os h k = number_passes e.call (journal_calls (es ++ os)) h.0 ∙ number_behind es os h.1 k

pub open_behind_is : {m : Module} {inst : Instance} {died : Bool} {es os : List Entry} → InOrder m inst died es os
    → open_behind (journal_calls (es ++ os)) ≡ length os - (1 - min 1 (length es))
open_behind_is {es = es} {os = os} order = go es os (ended_closed order) (all_opened order) where
  go : (xs ys : List Entry) → AllByRecursion IsClosed xs → AllByRecursion IsOpened ys
      → open_behind (journal_calls (xs ++ ys)) ≡ length ys - (1 - min 1 (length xs))
  go [] [] h k = refl
  go [] (y ∷ ys) h k = let rest = number_open ys k.1 in omega (arith, rest)
  go (x ∷ xs) ys h k = let rest = number_behind xs ys h.1 k in omega (arith, rest)

pub start_failed_is : {m : Module} {inst : Instance} {died : Bool} {es os : List Entry} → InOrder m inst died es os
    → start_failed (journal_calls (es ++ os)) ≡ died
start_failed_is (is_starting a b c) = ap fails b
start_failed_is (has_started a b c d f g) = c
start_failed_is (has_died a b c d) = c

pub calls_long : (es : List Entry) → length (journal_calls es) ≡ length es
calls_long [] = refl
calls_long (e ∷ es) = let rest = calls_long es in omega (arith, rest)

-- ---- of an instance

-- the order of the calls that a script knows
pub ordered : (w : World) (t : Tenant) → HasJournal w t → (m : Module) × InOrder m t.inst t.dead t.ended t.open_calls
ordered w t j = let l = j.loaded in (l.m, j.calls)

-- where no call is open the script knows of none
pub none_open : (w : World) (t : Tenant) (g : NamedInstance) → HasJournal w t → g.calls ≡ journal_calls (journal t)
    → t.open_calls ≡ [] → first_open g.calls ≡ None
none_open w t g j same none =
    let order = ordered w t j in
    let order2 = subst (λ os. InOrder order.0 t.inst t.dead t.ended os) none order.1 in
    ap first_open (same ∙ ap (λ os. journal_calls (t.ended ++ os)) none) ∙ first_isnt order2

-- with one more behind all
pub calls_last : (es os : List Entry) (e : Entry)
    → journal_calls (es ++ os) ++ e.call ∷ [] ≡ journal_calls (es ++ (os ++ e ∷ []))
calls_last es os e =
    ap (λ cs. cs ++ e.call ∷ []) (calls_join es os)
    ∙ append_assoc (journal_calls es) (journal_calls os) (e.call ∷ [])
    ∙ ap (λ cs. journal_calls es ++ cs) (sym (calls_join os (e ∷ []))) ∙ sym (calls_join es (os ++ e ∷ []))
