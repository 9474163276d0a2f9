-- The fuel of calls that are open.
use Rattle.std.proofs.Common.{◌≡◌, ◌≤◌, ◌<◌, ◌⊎◌, ⊎_elim, inl, inr, ℕ, ◌+◌, Bool, List, [], ◌∷◌, ◌++◌, Option, Some, None, refl, ap, subst, ◌∙◌, rules}
use Rattle.std.specs.List.{AllByRecursion}
use Rattle.wh_model.specs.declared.memory.Need.{Need}
use Rattle.wh_model.specs.Format.{Module}
use Rattle.wh_model.specs.Execution.Store.{Instance, Store}
use Rattle.wh_model.specs.Execution.{Piece, Parameters, Call, Waits, Standing, Stands, has_pieces, is_invoked, is_under_way, Replays, ended, at_work}
use Rattle.wh_model.specs.Execution.Replay.{writing, Replay}
use Rattle.wh_host_model.specs.Host.Admission as admission
use Rattle.wh_host_model.specs.Host.{StartsAs, InOrder, more_fuel, WaitsAfter, NextAsks, a_piece, a_step, FirstWaitsDuly, Rest, Doing, Suspension, for_frame, journal_calls, store_with, standing_with}
use Rattle.wh_host_model.specs.{Entry, is_open}
use Rattle.wh_script_model.specs.{MayUseFuel}
use Rattle.wh_script_model.proofs.Once.{end_closed}
use Rattle.wh_script_laws.proofs.Journals.{IsClosed, IsOpened, ended_closed, all_opened}

-- ---- behind an open call none has begun

waits_in : {inst : Instance} {s : Store} {ps : List Piece} {z : Standing} (es os : List Entry) (e : Entry) → AllByRecursion IsClosed es → IsOpened e
    → Replays inst s ps (journal_calls (es ++ e ∷ os)) z → AllByRecursion Waits (journal_calls os)
waits_in [] os e closed opened (ended ends r) = absurd (cc (end_closed ends, opened))
waits_in [] os e closed opened (at_work u v w) = w
waits_in (x ∷ es) os e closed opened (ended ends r) = waits_in es os e closed.1 opened r
waits_in (x ∷ es) os e closed opened (at_work u v w) = absurd (cc (ap is_open u, closed.0))

waits_behind : (m : Module) (p : Parameters) (es os : List Entry) (e : Entry) (z : Standing) → AllByRecursion IsClosed es → IsOpened e
    → Replay m p (journal_calls (es ++ e ∷ os)) z → AllByRecursion Waits (journal_calls os)
waits_behind m p [] os e z closed opened r = waits_in [] os e closed opened r.2.4
waits_behind m p (x ∷ es) os e z closed opened r = waits_in (x ∷ es) os e closed opened r.2.4

-- where an instance stands, its present call having been cancelled or ended
pub others_begin : {m2 : Module} {inst : Instance} {died : Bool} (m : Module) (p : Parameters) (es os : List Entry) (e : Entry) (z : Standing)
    → InOrder m2 inst died es (e ∷ os) → Replay m p (journal_calls (es ++ e ∷ os)) z → (y : Entry) (ys : List Entry) → os ≡ y ∷ ys → MayUseFuel y.call
others_begin m p es os e z order r = search (rules, waits_behind, ended_closed, all_opened)

-- ---- one that writes its pieces took no charge

abbrev IsWriting : Standing → Type 0
IsWriting (writing s ps) = Unit {0}
IsWriting other = ⊥

stands_writing : {inst : Instance} {s : Store} {ps : List Piece} {c : Call} {z : Standing} → Stands inst s ps c z → IsWriting z → c.charges ≡ 0
stands_writing (has_pieces less none) is = none
stands_writing (is_invoked written none i) is = none
stands_writing (is_under_way written within i after next) is = absurd is

writes_in : {inst : Instance} {s : Store} {ps : List Piece} {z : Standing} (es os : List Entry) (e : Entry) → AllByRecursion IsClosed es → IsOpened e
    → Replays inst s ps (journal_calls (es ++ e ∷ os)) z → IsWriting z → e.call.charges ≡ 0
writes_in [] os e closed opened (ended ends r) is = absurd (cc (end_closed ends, opened))
writes_in [] os e closed opened (at_work u v w) is = stands_writing v is
writes_in (x ∷ es) os e closed opened (ended ends r) is = writes_in es os e closed.1 opened r is
writes_in (x ∷ es) os e closed opened (at_work u v w) is = absurd (cc (ap is_open u, closed.0))

writing_none : (m : Module) (p : Parameters) (es os : List Entry) (e : Entry) (z : Standing) → AllByRecursion IsClosed es → IsOpened e
    → Replay m p (journal_calls (es ++ e ∷ os)) z → IsWriting z → e.call.charges ≡ 0
writing_none m p [] os e z closed opened r is = writes_in [] os e closed opened r.2.4 is
writing_none m p (x ∷ es) os e z closed opened r is = writes_in (x ∷ es) os e closed opened r.2.4 is

-- ---- one that waits for a frame

asks_so : {inst : Instance} {c : Call} {need : Need} (bytes : List ℕ) (r : Rest) (d : Doing) → NextAsks inst (store_with bytes r) c d need
    → (c.charges < c.fuel) ⊎ IsWriting (standing_with bytes r d)
asks_so bytes r d a_piece = inr tt
asks_so bytes r d (a_step less next asks) = inl less

pub at_frame_may : {m2 : Module} {inst : Instance} {died : Bool} (m : Module) (p : Parameters) (es os : List Entry) (bytes : List ℕ) (r : Rest) (d : Doing) (wanted : Option Need)
    → InOrder m2 inst died es os → Replay m p (journal_calls (es ++ os)) (standing_with bytes r d) → FirstWaitsDuly inst (store_with bytes r) d os wanted (Some for_frame)
    → (e : Entry) (rest : List Entry) → os ≡ e ∷ rest → MayUseFuel e.call
at_frame_may m p es [] bytes r d wanted order replay duly e rest are = absurd (cc are)
at_frame_may {inst = inst} m p es (x ∷ os) bytes r d wanted order replay duly e rest are =
    search (rules, ⊎_elim, writing_none, ended_closed, all_opened, asks_so)

-- ---- what owners ask

-- the present call has more
pub refueled_first : {m : Module} {inst : Instance} {died : Bool} {es os : List Entry} (e : Entry) (n : ℕ) (o o2 : Option Suspension) → InOrder m inst died es (e ∷ os)
    → (o ≡ None → MayUseFuel e.call) → WaitsAfter (more_fuel e n).call o o2 → (y : Entry) (ys : List Entry) → more_fuel e n ∷ os ≡ y ∷ ys → o2 ≡ None → MayUseFuel y.call
refueled_first e n o o2 order may waits y ys are none = search rules

-- one comes behind the others
pub pushed_may : (os : List Entry) (e : Entry) → MayUseFuel e.call → ((x : Entry) (xs : List Entry) → os ≡ x ∷ xs → MayUseFuel x.call)
    → (y : Entry) (ys : List Entry) → os ++ e ∷ [] ≡ y ∷ ys → MayUseFuel y.call
pushed_may [] e new old y ys are = let one : e ≡ y = cc are in subst (λ (z : Entry). MayUseFuel z.call) one new
pushed_may (x ∷ xs) e new old y ys are = let one : x ≡ y = cc are in subst (λ (z : Entry). MayUseFuel z.call) one (old x xs refl)

-- a start
pub starts_may : {inst : Instance} {s : Store} {pieces : List Piece} {start : Option ℕ} {fuel : ℕ} {d : Doing} {before os : List Entry} → StartsAs inst s pieces start fuel d before os
    → (y : Entry) (ys : List Entry) → os ≡ y ∷ ys → MayUseFuel y.call
starts_may {start = start} {fuel = fuel} (admission.writes some) y ys are = search rules
starts_may {start = start} {fuel = fuel} (admission.runs none func faces) y ys are = search rules
starts_may (admission.ends none func) y ys are = absurd (cc are)
