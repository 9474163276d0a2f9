-- Where no call of an instance of a host can go on, each has been run alone.
use Rattle.std.proofs.Common.{◌≡◌, ℕ, ◌⊎◌, inl, inr, Bool, true, false, List, [], ◌∷◌, ◌++◌, length, Option, Some, None, refl, sym, ap, subst, ◌∙◌, arith}
use Rattle.std.proofs.lemmas.Option.{none-some, same_Some}
use Rattle.std.specs.List.{AllByRecursion}
use Rattle.wh_model.specs.declared.memory.Need.{Need}
use Rattle.wh_model.specs.Format.{Module}
use Rattle.wh_model.specs.Execution.Store.{Instance, Store}
use Rattle.wh_model.specs.Execution.{Piece, Parameters, Outcome, returned, stopped, cancelled, dead, pending, Call, Standing, Replays, at_rest, ended, at_work}
use Rattle.wh_model.specs.Execution.Replay.{Replay}
use Rattle.wh_space_model.specs.{wants}
use Rattle.wh_host_model.specs.Host.{Rest, Doing, Suspension, for_fuel, journal, journal_calls, store_with, standing_with, standing_in, HasEnded, IsEnded, IsDeadCall, InOrder, is_starting, has_started, has_died, WaitsDuly, FirstWaitsDuly}
use Rattle.wh_host_model.specs.{Entry, is_open, first_open, given_of}
use Rattle.wh_script_model.specs.{AreAtRest, all_ended, used_up, has_run, ServedAsAlone}
use Rattle.wh_host_model.proofs.Host.Holding.{instances_replay, journals_are_in_order, suspensions_are_right}
use Rattle.wh_script_model.proofs.Once.{end_closed, passes, stops_there}

-- ---- calls that have ended

abbrev IsClosed : Entry → Type 0
IsClosed e = is_open e.call.outcome ≡ false

closed_so : (o : Outcome) → HasEnded o → is_open o ≡ false
closed_so (returned vs) h = refl
closed_so (stopped x) h = refl
closed_so cancelled h = refl
closed_so dead h = absurd h
closed_so pending h = absurd h

each_closed : (inst : Instance) (es : List Entry) → AllByRecursion (IsEnded inst) es → AllByRecursion IsClosed es
each_closed inst [] h = tt
each_closed inst (e ∷ es) h = (closed_so e.call.outcome h.0.ended, each_closed inst es h.1)

each_dead : (inst : Instance) (es : List Entry) → AllByRecursion (IsDeadCall inst) es → AllByRecursion IsClosed es
each_dead inst [] h = tt
each_dead inst (e ∷ es) h = (ap is_open h.0.is_dead, each_dead inst es h.1)

pub ended_closed : {m : Module} {inst : Instance} {died : Bool} {es os : List Entry} → InOrder m inst died es os
    → AllByRecursion IsClosed es
ended_closed (is_starting a b c) = tt
ended_closed {inst = inst} (has_started {e = e} {es = es} a b c d f g) = (closed_so e.call.outcome b, each_closed inst es f)
ended_closed {inst = inst} (has_died {e = e} {es = es} a b c d) = (closed_so e.call.outcome b, each_dead inst es d)

pub first_opened : {m : Module} {inst : Instance} {died : Bool} {es os : List Entry} {e : Entry}
    → InOrder m inst died es (e ∷ os) → is_open e.call.outcome ≡ true
first_opened (is_starting a b c) = ap is_open b
first_opened (has_started a b c d f g) = ap is_open g.0.open_yet

pub open_behind_ended : (es os : List Entry) → AllByRecursion IsClosed es
    → first_open (journal_calls (es ++ os)) ≡ first_open (journal_calls os)
open_behind_ended [] os h = refl
open_behind_ended (e ∷ es) os h = passes e.call (journal_calls (es ++ os)) h.0 ∙ open_behind_ended es os h.1

-- ---- where they stand

behind_closed : {inst : Instance} {z : Standing} (c : Call) (calls : List Call) → is_open c.outcome ≡ false
    → AreAtRest inst calls z → AreAtRest inst (c ∷ calls) z
behind_closed c calls closed (all_ended e) = all_ended (passes c calls closed ∙ e)
behind_closed c calls closed (used_up e f next) = used_up (passes c calls closed ∙ e) f next

-- where none is open it doesn't matter of which instance they are
of_any : (inst inst2 : Instance) (calls : List Call) (z : Standing) → first_open calls ≡ None → AreAtRest inst calls z
    → AreAtRest inst2 calls z
of_any inst inst2 calls z e (all_ended f) = all_ended f
of_any inst inst2 calls z e (used_up {c = c} f g next) = absurd (none-some c (sym e ∙ f))

idle_so : {inst : Instance} {s : Store} {ps : List Piece} {z : Standing} (calls : List Call) → Replays inst s ps calls z
    → first_open calls ≡ None → AreAtRest inst calls z
idle_so [] at_rest e = all_ended e
idle_so {inst} (c ∷ calls) (ended x r) e =
    let closed = end_closed x in
    behind_closed c calls closed (idle_so calls r (sym (passes c calls closed) ∙ e))
idle_so (c ∷ calls) (at_work u v w) e = absurd (none-some c (sym e ∙ stops_there c calls (ap is_open u)))

idle_replay : (m : Module) (p : Parameters) (inst : Instance) (calls : List Call) (z : Standing) → Replay m p calls z
    → first_open calls ≡ None → AreAtRest inst calls z
idle_replay m p inst [] z r e = absurd r
idle_replay m p inst (c ∷ calls) z (given, i, (inst1, s, ps, initial, r)) e = of_any inst1 inst (c ∷ calls) z e (idle_so (c ∷ calls) r e)

at_rest_duly : (m : Module) (p : Parameters) (inst : Instance) (died : Bool) (es os : List Entry) (bytes : List ℕ) (r : Rest)
    (d : Doing) (wanted : Option Need) (o : Option Suspension) → InOrder m inst died es os
    → FirstWaitsDuly inst (store_with bytes r) d os wanted o → (os ≡ []) ⊎ (o ≡ Some for_fuel)
    → Replay m p (journal_calls (es ++ os)) (standing_with bytes r d)
    → AreAtRest inst (journal_calls (es ++ os)) (standing_with bytes r d)
at_rest_duly m p inst died es [] bytes r d wanted o order duly served x =
    idle_replay m p inst (journal_calls (es ++ [])) (standing_with bytes r d) x (open_behind_ended es [] (ended_closed order))
at_rest_duly m p inst died es (e ∷ os) bytes r d wanted o order duly (inl none) x =
    let none_there = ap length none in absurd (omega (arith, none_there))
at_rest_duly m p inst died es (e ∷ os) bytes r d wanted o order duly (inr fuel) x =
    let stands = subst (λ q. WaitsDuly inst (store_with bytes r) d e.call wanted q) fuel duly in
    let first = open_behind_ended es (e ∷ os) (ended_closed order) ∙ stops_there e.call (journal_calls os) (first_opened order) in
    subst (λ q. AreAtRest inst (journal_calls (es ++ e ∷ os)) (standing_with bytes r q)) (sym stands.2.1)
    (used_up first stands.1 stands.2.2)

pub served_as_alone : ServedAsAlone
served_as_alone frames slots tax events w happens i t g there served of_one =
    let r = instances_replay frames slots tax events w happens i t there in
    let j = journals_are_in_order frames slots tax events w happens i t there in
    let s = suspensions_are_right frames slots tax events w happens i t there in
    let loaded : r.loaded ≡ of_one.loaded = same_Some _ _ (sym r.is_loaded ∙ of_one.is_loaded) in
    let loaded2 : r.loaded ≡ j.loaded = same_Some _ _ (sym r.is_loaded ∙ j.is_loaded) in
    let m : r.loaded.m ≡ g.m = ap (λ l. l.m) loaded ∙ sym of_one.of_one in
    let order = subst (λ l. InOrder l.m t.inst t.dead t.ended t.open_calls) (sym loaded2) j.calls in
    let rests = at_rest_duly r.loaded.m (given_of t.params) t.inst t.dead t.ended t.open_calls _ t.rest t.doing (wants w.space t.place) t.waiting_for order s served r.replay in
    has_run of_one.is_live of_one.calls
    (subst (λ p. Replay g.m (given_of p) (journal_calls (journal t)) (standing_in w.space t)) (sym of_one.params)
    (subst (λ q. Replay q (given_of t.params) (journal_calls (journal t)) (standing_in w.space t)) m r.replay))
    (subst (λ inst. AreAtRest inst (journal_calls (journal t)) (standing_in w.space t)) (sym of_one.inst) rests)
