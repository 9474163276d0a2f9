-- What turns and requests make of the order of an instance's calls.
use Rattle.std.proofs.Common.{◌≡◌, ◌≤◌, Bool, true, false, List, [], ◌∷◌, ◌++◌, map, refl, sym, subst, rules}
use Rattle.std.specs.Bool.{MatchBool}
use Rattle.std.specs.List.{AllByRecursion}
use Rattle.wh_model.specs.Format.{Module}
use Rattle.wh_model.specs.Execution.Store.{Instance}
use Rattle.wh_model.specs.Execution.{Outcome, returned, stopped, cancelled, dead, pending, Call, NamesFunction, IsDead, IsNotDead, IsJournal}
use Rattle.wh_host_model.specs.Host.{journal_calls, ended_by, dies, IsAsked, IsStart, ReturnsTyped, HasEnded, IsEnded, IsOpenCall, IsDeadCall, InOrder, is_starting, has_started, has_died}
use Rattle.wh_host_model.specs.{Entry, most_fuel}
use Rattle.wh_host_model.proofs.Host.Entries.{all_join}

-- the same call of the same function
pub record SameCall (e e2 : Entry) : Type 0 where
  pub func : e2.call.func ≡ e.call.func
  pub args : e2.call.args ≡ e.call.args
  pub given : e2.given ≡ e.given
  pub fuel : e.call.fuel ≤ most_fuel → e2.call.fuel ≤ most_fuel

pub asked_alike : {inst : Instance} {e e2 : Entry} → SameCall e e2 → IsAsked inst e → IsAsked inst e2
asked_alike same a = search rules

pub start_alike : {m : Module} {e e2 : Entry} → SameCall e e2 → IsStart m e → IsStart m e2
start_alike same a = search rules

-- ---- a call goes on, ends, dies, comes

pub order_on : {m : Module} {inst : Instance} {dead : Bool} {ended es : List Entry} {e : Entry} (e2 : Entry) → SameCall e e2 → e2.call.outcome ≡ pending → InOrder m inst dead ended (e ∷ es) → InOrder m inst dead ended (e2 ∷ es)
order_on e2 same yet (is_starting st p rest) = is_starting (start_alike same st) yet rest
order_on e2 same yet (has_started st h f r es os) = has_started st h f r es (record { asked = asked_alike same os.0.asked; open_yet = yet }, os.1)

pub order_ends : {m : Module} {inst : Instance} {dead : Bool} {ended es : List Entry} {e : Entry} (e2 : Entry) → SameCall e e2 → HasEnded e2.call.outcome → ReturnsTyped inst e2.call e2.call.outcome → dies ended e2.call.outcome ≡ false → InOrder m inst dead ended (e ∷ es) → InOrder m inst dead (ended ++ e2 ∷ []) es
order_ends e2 same h r alive (is_starting st p rest) = has_started (start_alike same st) h alive r tt rest
order_ends {inst = inst} e2 same h r alive (has_started {es = xs} st h2 f r2 es os) =
    has_started st h2 f r2 (all_join (IsEnded inst) xs (e2 ∷ []) es (record { asked = asked_alike same os.0.asked; ended = h; typed = r }, tt)) os.1

all_dead : (inst : Instance) (es : List Entry) → AllByRecursion (IsOpenCall inst) es → AllByRecursion (IsDeadCall inst) (map (λ e. ended_by e dead) es)
all_dead inst [] h = tt
all_dead inst (e ∷ es) h =
    let a = h.0.asked in
    (record { asked = record { index = a.index; type = a.type; body = a.body; func = a.func; is_own = a.is_own; arguments = a.arguments; fuel = a.fuel }; is_dead = refl }, all_dead inst es h.1)

pub order_dies : {m : Module} {inst : Instance} {dying : Bool} {ended es : List Entry} {e : Entry} (e2 : Entry) → SameCall e e2 → HasEnded e2.call.outcome → dies ended e2.call.outcome ≡ true → InOrder m inst dying ended (e ∷ es) → InOrder m inst true (ended ++ e2 ∷ map (λ w. ended_by w dead) es) []
order_dies {inst = inst} {es = es} e2 same h died (is_starting st p rest) = has_died (start_alike same st) h died (all_dead inst es rest)
order_dies e2 same h died (has_started st h2 f r2 es os) = absurd (cc died)

pub order_comes : {m : Module} {inst : Instance} {dead : Bool} {ended os : List Entry} (e : Entry) → dead ≡ false → IsOpenCall inst e → InOrder m inst dead ended os → InOrder m inst dead ended (os ++ e ∷ [])
order_comes {inst = inst} e alive o (is_starting {es = xs} st p rest) = is_starting st p (all_join (IsOpenCall inst) xs (e ∷ []) rest (o, tt))
order_comes {inst = inst} e alive o (has_started {os = xs} st h f r es os) = has_started st h f r es (all_join (IsOpenCall inst) xs (e ∷ []) os (o, tt))
order_comes e alive o (has_died st h f es) = absurd (cc alive)

pub order_fuel : {m : Module} {inst : Instance} {dead : Bool} {ended es : List Entry} {e : Entry} → InOrder m inst dead ended (e ∷ es) → e.call.fuel ≤ most_fuel
order_fuel (is_starting st p rest) = st.fuel
order_fuel (has_started st h f r es os) = os.0.asked.fuel

-- ---- it is a journal

names_asked : {inst : Instance} {e : Entry} → IsAsked inst e → NamesFunction e.call
names_asked a none = let f = a.func in cc (f, none)

not_dead : (o : Outcome) → HasEnded o → ¬ (o ≡ dead)
not_dead (returned vs) h e = cc e
not_dead (stopped x) h e = cc e
not_dead cancelled h e = cc e
not_dead dead h e = h
not_dead pending h e = h

ended_names : (inst : Instance) (es : List Entry) → AllByRecursion (IsEnded inst) es → AllByRecursion NamesFunction (journal_calls es) × AllByRecursion IsNotDead (journal_calls es)
ended_names inst [] h = (tt, tt)
ended_names inst (e ∷ es) h = let r = ended_names inst es h.1 in ((names_asked h.0.asked, r.0), (not_dead e.call.outcome h.0.ended, r.1))

open_names : (inst : Instance) (es : List Entry) → AllByRecursion (IsOpenCall inst) es → AllByRecursion NamesFunction (journal_calls es) × AllByRecursion IsNotDead (journal_calls es)
open_names inst [] h = (tt, tt)
open_names inst (e ∷ es) h = let r = open_names inst es h.1 in let yet = h.0.open_yet in ((names_asked h.0.asked, r.0), (λ d. cc (yet, d), r.1))

dead_names : (inst : Instance) (es : List Entry) → AllByRecursion (IsDeadCall inst) es → AllByRecursion NamesFunction (journal_calls es) × AllByRecursion IsDead (journal_calls es)
dead_names inst [] h = (tt, tt)
dead_names inst (e ∷ es) h = let r = dead_names inst es h.1 in ((names_asked h.0.asked, r.0), (h.0.is_dead, r.1))

calls_all : (P : Call → Type 0) (xs ys : List Entry) → AllByRecursion P (journal_calls xs) → AllByRecursion P (journal_calls ys) → AllByRecursion P (journal_calls (xs ++ ys))
calls_all P [] ys p q = q
calls_all P (x ∷ xs) ys p q = (p.0, calls_all P xs ys p.1 q)

-- the start, and the calls behind it
pub record Parted (m : Module) (es : List Entry) : Type 0 where
  pub start : Call
  pub behind : List Call
  pub are : journal_calls es ≡ start ∷ behind
  pub journal : IsJournal m start behind

pub order_journal : {m : Module} {inst : Instance} {dead : Bool} {ended os : List Entry} → InOrder m inst dead ended os → Parted m (ended ++ os)
order_journal {m = m} {inst = inst} (is_starting {e = e} {es = es} st p rest) = search (rules, open_names, not_dead)
order_journal {m = m} {inst = inst} (has_started {e = e} {es = es} {os = os} st h f r xs ys) =
    let a = ended_names inst es xs in
    let b = open_names inst os ys in
    record {
      start = e.call;
      behind = journal_calls (es ++ os);
      are = refl;
      journal = record {
        func = st.func;
        args = st.args;
        not_dead = not_dead e.call.outcome h;
        names = calls_all NamesFunction es os a.0 b.0;
        behind = subst (λ b. MatchBool b (AllByRecursion IsDead (journal_calls (es ++ os))) (AllByRecursion IsNotDead (journal_calls (es ++ os)))) (sym f) (calls_all IsNotDead es os a.1 b.1);
      };
    }
order_journal {m = m} {inst = inst} (has_died {e = e} {es = es} st h f xs) = search (rules, dead_names, not_dead, calls_all)
