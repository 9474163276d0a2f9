-- Calls that have ended stay as they are, and are said to be so.
use Rattle.std.proofs.Common.{◌≡◌, ℕ, zero, suc, ⊎_elim, true, false, if◌then◌else◌, List, [], ◌∷◌, ◌++◌, map, slice_get, Option, Some, refl, sym, ap, subst, ◌∙◌, rules}
use Rattle.std.specs.List.{AllZip, AllByRecursion}
use Rattle.std.proofs.lemmas.Option.{none-some, same_Some}
use Rattle.wh_model.specs.Format.{Module}
use Rattle.wh_model.specs.Execution.Store.{Instance, Store}
use Rattle.wh_model.specs.Execution.{Piece, Parameters, cancelled, dead, Call, Waits, Standing, Replays, ended, at_work}
use Rattle.wh_model.specs.Execution.Replay.{Replay}
use Rattle.wh_script_model.specs.{CallStatus, Reply, NamedInstance, with_first_open, cancel_first, ended_so, ComesTo, had_ended, goes_on, call_status, PrintsStart, has_none, has_one, RunsAmid, gone_still, stands_still, runs_on}
use Rattle.wh_host_model.specs.{is_open}
use Rattle.wh_script_model.proofs.Once.{end_closed}
use Rattle.wh_script_laws.specs.Printed.{HasStart, IsPrinted, HasEndedSo, StartsFirst}

-- ---- how they are said to be

-- so a call of a living instance that was said to have ended stays so, if calls that have ended stay as they are
pub stays_ended : (g h : NamedInstance) (place : ℕ) (c c2 : Call) (last_printed : Option CallStatus) → g.is_released ≡ false
    → (is_open c.outcome ≡ false → c2 ≡ c) → HasEndedSo g place c last_printed → HasEndedSo h place c2 last_printed
stays_ended g h place c c2 last_printed live keeps was status e final = search rules

-- what was said to be as it is has ended, if it was said so
pub ended_as_said : (g : NamedInstance) (place : ℕ) (c : Call) (last_printed : Option CallStatus) → IsPrinted g place c last_printed → HasEndedSo g place c last_printed
ended_as_said g place c last_printed is status e final = same_Some (call_status g place c) status (sym is ∙ e)

-- ---- calls that have ended are as they were

abbrev pub KeepsEnded : List Call → List Call → Type 0
KeepsEnded calls calls2 = (k : ℕ) (c : Call) → slice_get calls k ≡ Some c → is_open c.outcome ≡ false → slice_get calls2 k ≡ Some c

pub none_changes : (calls : List Call) → KeepsEnded calls calls
none_changes calls k c e closed = e

open_changes : (c d : Call) (calls : List Call) → is_open c.outcome ≡ true → KeepsEnded (c ∷ calls) (d ∷ calls)
open_changes c d calls open_yet zero x e closed = search rules
open_changes c d calls open_yet (suc k) x e closed = e

behind : (c : Call) (calls calls2 : List Call) → KeepsEnded calls calls2 → KeepsEnded (c ∷ calls) (c ∷ calls2)
behind c calls calls2 keeps zero x e closed = e
behind c calls calls2 keeps (suc k) x e closed = keeps k x e closed

pub first_open_changes : (change : Call → Call) (calls : List Call) → KeepsEnded calls (with_first_open change calls)
first_open_changes change [] = none_changes []
first_open_changes change (c ∷ calls) =
    let so : (is_open c.outcome ≡ is_open c.outcome) → KeepsEnded (c ∷ calls) (with_first_open change (c ∷ calls)) =
    elim (is_open c.outcome) as (λ b. (is_open c.outcome ≡ b) → KeepsEnded (c ∷ calls) (if b then change c ∷ calls else c ∷ with_first_open change calls)) [
      | true ↦ λ e. open_changes c (change c) calls e
      | false ↦ λ e. behind c calls (with_first_open change calls) (first_open_changes change calls)
    ] in
    so refl

-- where all are open none has ended
none_closed : (calls : List Call) (k : ℕ) (c : Call) → AllByRecursion (λ (x : Call). is_open x.outcome ≡ true) calls → slice_get calls k ≡ Some c
    → is_open c.outcome ≡ false → ⊥
none_closed [] k c all e closed = none-some c e
none_closed (x ∷ calls) zero c all e closed = search rules
none_closed (x ∷ calls) (suc k) c all e closed = none_closed calls k c all.1 e closed

start_changes : (c d : Call) (calls calls2 : List Call) → is_open c.outcome ≡ true → AllByRecursion (λ (x : Call). is_open x.outcome ≡ true) calls
    → KeepsEnded (c ∷ calls) (d ∷ calls2)
start_changes c d calls calls2 open_yet all k x e closed = absurd (none_closed (c ∷ calls) k x (open_yet, all) e closed)

pub cancel_changes : (calls : List Call) → StartsFirst calls → KeepsEnded calls (cancel_first calls)
cancel_changes [] first = none_changes []
cancel_changes (c ∷ calls) first =
    let so : (is_open c.outcome ≡ is_open c.outcome) → KeepsEnded (c ∷ calls) (cancel_first (c ∷ calls)) =
    elim (is_open c.outcome) as (λ b. (is_open c.outcome ≡ b)
    → KeepsEnded (c ∷ calls) (if b then ended_so cancelled c ∷ map (ended_so dead) calls else c ∷ with_first_open (ended_so cancelled) calls)) [
      | true ↦ λ e. start_changes c (ended_so cancelled c) calls (map (ended_so dead) calls) e (first e)
      | false ↦ λ e. behind c calls (with_first_open (ended_so cancelled) calls) (first_open_changes (ended_so cancelled) calls)
    ] in
    so refl

comes_further : (c d : Call) → ComesTo c d → is_open c.outcome ≡ false → d ≡ c
comes_further c _ (had_ended closed) e = refl
comes_further c _ (goes_on open_yet other) e = absurd (cc (open_yet, e))

run_changes : (calls calls2 : List Call) → AllZip ComesTo calls calls2 → KeepsEnded calls calls2
run_changes [] [] all k c e closed = e
run_changes [] (d ∷ calls2) all k c e closed = absurd all
run_changes (x ∷ calls) [] all k c e closed = absurd all
run_changes (x ∷ calls) (d ∷ calls2) all zero c e closed =
    let same = same_Some x c e in
    ap Some (comes_further x d all.0 (ap (λ (y : Call). is_open y.outcome) same ∙ closed) ∙ same)
run_changes (x ∷ calls) (d ∷ calls2) all (suc k) c e closed = run_changes calls calls2 all.1 k c e closed

-- ---- behind an open start all are open

pub starts_first_pushed : (calls : List Call) (d : Call) → is_open d.outcome ≡ true → StartsFirst calls → StartsFirst (calls ++ d ∷ [])
starts_first_pushed [] d open_yet first = λ e. tt
starts_first_pushed (c ∷ calls) d open_yet first = λ e. all_pushed calls (first e)
  where
    all_pushed : (xs : List Call) → AllByRecursion (λ (x : Call). is_open x.outcome ≡ true) xs → AllByRecursion (λ (x : Call). is_open x.outcome ≡ true) (xs ++ d ∷ [])
    all_pushed [] all = (open_yet, tt)
    all_pushed (x ∷ xs) all = (all.0, all_pushed xs all.1)

-- the first open one is changed, and stays open
pub starts_first_changed : (change : Call → Call) → ((c : Call) → (change c).outcome ≡ c.outcome) → (calls : List Call) → StartsFirst calls
    → StartsFirst (with_first_open change calls)
starts_first_changed change same [] first = tt
starts_first_changed change same (c ∷ calls) first = search rules

pub starts_first_cancelled : (calls : List Call) → StartsFirst (cancel_first calls)
starts_first_cancelled [] = tt
starts_first_cancelled (c ∷ calls) = search rules

all_wait : (calls : List Call) → AllByRecursion Waits calls → AllByRecursion (λ (x : Call). is_open x.outcome ≡ true) calls
all_wait [] all = tt
all_wait (c ∷ calls) all = (ap is_open all.0.outcome, all_wait calls all.1)

replayed_first : {inst : Instance} {s : Store} {ps : List Piece} {z : Standing} (c : Call) (calls : List Call) → Replays inst s ps (c ∷ calls) z → StartsFirst (c ∷ calls)
replayed_first c calls (ended ends r) e = absurd (cc (end_closed ends, e))
replayed_first c calls (at_work open_yet stands waits) e = all_wait calls waits

pub starts_first_replayed : (m : Module) (p : Parameters) (calls : List Call) (z : Standing) → Replay m p calls z → StartsFirst calls
starts_first_replayed m p [] z r = absurd r
starts_first_replayed m p (c ∷ calls) z r = replayed_first c calls r.2.4

-- ---- calls run

pub run_ended : (faults : List ℕ) (g r : NamedInstance) (place : ℕ) (c c2 : Call) (last_printed : Option CallStatus) → RunsAmid faults g r → slice_get g.calls place ≡ Some c → slice_get r.calls place ≡ Some c2
    → HasEndedSo g place c last_printed → HasEndedSo r place c2 last_printed
run_ended faults g _ place c c2 last_printed (gone_still gone) at at2 was = subst (λ (d : Call). HasEndedSo g place d last_printed) (same_Some c c2 (sym at ∙ at2)) was
run_ended faults g _ place c c2 last_printed (stands_still live stands) at at2 was = subst (λ (d : Call). HasEndedSo g place d last_printed) (same_Some c c2 (sym at ∙ at2)) was
run_ended faults g _ place c c2 last_printed (runs_on {calls = calls} {at_fault = stands} live faultless come replay rest) at at2 was =
    stays_ended g (record g { calls = calls; at_fault = stands }) place c c2 last_printed live
    (λ closed. same_Some c2 c (sym at2 ∙ run_changes g.calls calls come place c at closed)) was

-- but for its calls it is the same
pub run_start : (faults : List ℕ) (g r : NamedInstance) → RunsAmid faults g r → (HasStart r → HasStart g) × (r.last_printed ≡ g.last_printed)
run_start faults g _ (gone_still gone) = (λ has. has, refl)
run_start faults g _ (stands_still live stands) = (λ has. has, refl)
run_start faults g _ (runs_on live faultless come replay rest) = (λ has. has, refl)

pub run_starts_first : (faults : List ℕ) (g r : NamedInstance) → RunsAmid faults g r → StartsFirst g.calls → StartsFirst r.calls
run_starts_first faults g _ (gone_still gone) first = first
run_starts_first faults g _ (stands_still live stands) first = first
run_starts_first faults g _ (runs_on {calls = calls} {z = z} live faultless come replay rest) first = starts_first_replayed g.m _ calls z replay

-- ---- it is said how a start is

pub start_still_ended : (g g2 : NamedInstance) (here : List Reply) (place : ℕ) (c : Call) (last_printed : Option CallStatus) → PrintsStart g here g2 → slice_get g2.calls place ≡ Some c
    → (slice_get g.calls place ≡ Some c → HasEndedSo g place c last_printed) → HasEndedSo g2 place c last_printed
start_still_ended g _ here place c last_printed (has_none p q) at was = was at
start_still_ended g _ here place c last_printed (has_one n e x) at was = was at
