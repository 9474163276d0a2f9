-- What has been said of calls stays true of what the lines of a script make.
use Rattle.std.proofs.Common.{◌≡◌, ℕ, zero, suc, ◌+◌, ◌⊎◌, ⊎_elim, inl, inr, Bool, true, false, if◌then◌else◌, List, [], ◌∷◌, ◌++◌, map, length, take, slice_get, slice_set, Option, Some, is_some, refl, sym, ap, subst, ◌∙◌, None, rules}
use Rattle.std.specs.List.{AllZip, AllByRecursion}
use Rattle.std.proofs.lemmas.Option.{none-some, same_Some}
use Rattle.wh_model.specs.Execution.Store.{Instance, Store}
use Rattle.wh_model.specs.Execution.{Piece, Parameters, Outcome, returned, stopped, cancelled, dead, pending, Call, Waits, Standing, Replays, ended, at_work}
use Rattle.wh_model.specs.Execution.Replay.{Replay}
use Rattle.wh_model.specs.Format.{Module}
use Rattle.wh_script_model.specs.Texts as texts
use Rattle.wh_script_model.specs.{CallStatus, Reply, NamedInstance, Invoked, call_rejected, call_accepted, InvokeOutcome, with_first_open, cancel_first, ended_so, ComesTo, status_by, PrintsStart, has_none, has_one, PrintStarts, PrintsCall, is_refused, is_taken, PrintCalls, DrainsAmid, RunsAmid, ZipAmid, gone_still, stands_still, runs_on}
use Rattle.wh_script_model.specs.ScriptState.{ScriptState}
use Rattle.wh_host_model.specs.{is_open, first_open}
use Rattle.wh_script_model.proofs.Once.{end_closed}
use Rattle.wh_script_laws.proofs.Ended.{ended_as_said, run_ended, run_start, run_starts_first, start_still_ended}
use Rattle.wh_script_laws.specs.Printed.{HasEndedSo, StartsFirst, when_released, HasStart, IsPrinted, WasPrinted, IsReleased, AllArePrinted, IsWellMade}

-- ---- places of lists

-- one is another then, or is as it was
pub set_cases : {A : Type 0} (xs : List A) (i j : ℕ) (y z : A) → slice_get (slice_set xs i y) j ≡ Some z
    → ((j ≡ i) × (z ≡ y)) ⊎ (slice_get xs j ≡ Some z)
set_cases [] i j y z e = absurd (none-some z e)
set_cases (x ∷ xs) zero zero y z e = inl (refl, sym (same_Some y z e))
set_cases (x ∷ xs) zero (suc j) y z e = inr e
set_cases (x ∷ xs) (suc i) zero y z e = inr e
set_cases {A} (x ∷ xs) (suc i) (suc j) y z e =
    ⊎_elim (λ (p : (j ≡ i) × (z ≡ y)). inl (ap suc p.0, p.1)) (λ (q : slice_get xs j ≡ Some z). inr q) (set_cases xs i j y z e)

-- who was there is there, or is another
pub set_there : {A : Type 0} (xs : List A) (i j : ℕ) (y x : A) → slice_get xs j ≡ Some x
    → (slice_get (slice_set xs i y) j ≡ Some x) ⊎ ((j ≡ i) × (slice_get (slice_set xs i y) j ≡ Some y))
set_there [] i j y x e = absurd (none-some x e)
set_there (z ∷ xs) zero zero y x e = inr (refl, refl)
set_there (z ∷ xs) zero (suc j) y x e = inl e
set_there (z ∷ xs) (suc i) zero y x e = inl e
set_there (z ∷ xs) (suc i) (suc j) y x e =
    ⊎_elim (λ (p : slice_get (slice_set xs i y) j ≡ Some x). inl p)
    (λ (q : (j ≡ i) × (slice_get (slice_set xs i y) j ≡ Some y)). inr (ap suc q.0, q.1)) (set_there xs i j y x e)

-- the last one was added, or it is as it was
pub push_cases : {A : Type 0} (xs : List A) (j : ℕ) (y z : A) → slice_get (xs ++ y ∷ []) j ≡ Some z
    → (z ≡ y) ⊎ (slice_get xs j ≡ Some z)
push_cases [] zero y z e = inl (sym (same_Some y z e))
push_cases [] (suc j) y z e = absurd (none-some z e)
push_cases (x ∷ xs) zero y z e = inr e
push_cases (x ∷ xs) (suc j) y z e = push_cases xs j y z e

pub push_there : {A : Type 0} (xs : List A) (j : ℕ) (y x : A) → slice_get xs j ≡ Some x → slice_get (xs ++ y ∷ []) j ≡ Some x
push_there [] j y x e = absurd (none-some x e)
push_there (z ∷ xs) zero y x e = e
push_there (z ∷ xs) (suc j) y x e = push_there xs j y x e

pub push_last : {A : Type 0} (xs : List A) (y : A) → slice_get (xs ++ y ∷ []) (length xs) ≡ Some y
push_last [] y = refl
push_last (x ∷ xs) y = push_last xs y

-- ---- places of calls

-- where one list has a call the other one has
abbrev pub KeepsPlaces : List Call → List Call → Type 0
KeepsPlaces calls calls2 = (k : ℕ) (c : Call) → slice_get calls k ≡ Some c → (c2 : Call) × (slice_get calls2 k ≡ Some c2)

pub places_stay : (calls : List Call) → KeepsPlaces calls calls
places_stay calls k c e = (c, e)

-- the head is one, whatever it is
over_head : (c d : Call) (calls calls2 : List Call) → KeepsPlaces calls calls2 → KeepsPlaces (c ∷ calls) (d ∷ calls2)
over_head c d calls calls2 keeps zero x e = (d, refl)
over_head c d calls calls2 keeps (suc k) x e = keeps k x e

zip_places : (calls calls2 : List Call) → AllZip ComesTo calls calls2 → KeepsPlaces calls calls2
zip_places [] [] all = places_stay []
zip_places [] (d ∷ calls2) all = absurd all
zip_places (c ∷ calls) [] all = absurd all
zip_places (c ∷ calls) (d ∷ calls2) all = over_head c d calls calls2 (zip_places calls calls2 all.1)

pub first_open_places : (change : Call → Call) (calls : List Call) → KeepsPlaces calls (with_first_open change calls)
first_open_places change [] = places_stay []
first_open_places change (c ∷ calls) =
    elim (is_open c.outcome) as (λ b. KeepsPlaces (c ∷ calls) (if b then change c ∷ calls else c ∷ with_first_open change calls)) [
      | true ↦ over_head c (change c) calls calls (places_stay calls)
      | false ↦ over_head c c calls (with_first_open change calls) (first_open_places change calls)
    ]

map_places : (f : Call → Call) (calls : List Call) → KeepsPlaces calls (map f calls)
map_places f [] = places_stay []
map_places f (c ∷ calls) = over_head c (f c) calls (map f calls) (map_places f calls)

pub cancel_places : (calls : List Call) → KeepsPlaces calls (cancel_first calls)
cancel_places [] = places_stay []
cancel_places (c ∷ calls) =
    elim (is_open c.outcome) as (λ b. KeepsPlaces (c ∷ calls) (if b then ended_so cancelled c ∷ map (ended_so dead) calls else c ∷ with_first_open (ended_so cancelled) calls)) [
      | true ↦ over_head c (ended_so cancelled c) calls (map (ended_so dead) calls) (map_places (ended_so dead) calls)
      | false ↦ over_head c c calls (with_first_open (ended_so cancelled) calls) (first_open_places (ended_so cancelled) calls)
    ]

pub push_places : (calls : List Call) (d : Call) → KeepsPlaces calls (calls ++ d ∷ [])
push_places calls d k c e = (c, push_there calls k d c e)

-- ---- a call that waits behind an open one has taken no charge

is_waiting : (calls : List Call) (place : ℕ) (c : Call) → AllByRecursion Waits calls → slice_get calls place ≡ Some c → c.charges ≡ 0
is_waiting [] place c all e = absurd (none-some c e)
is_waiting (d ∷ calls) zero c all e = subst (λ (x : Call). x.charges ≡ 0) (same_Some d c e) all.0.charges
is_waiting (d ∷ calls) (suc place) c all e = is_waiting calls place c all.1 e

passed : (b : Bool) (c : Call) (o : Option Call) → b ≡ false → is_some (if b then Some c else o) ≡ true → is_some o ≡ true
passed true c o closed e = absurd (cc closed)
passed false c o closed e = e

unbegun : {inst : Instance} {s : Store} {ps : List Piece} {z : Standing} (calls : List Call) (place : ℕ) (c : Call) → Replays inst s ps calls z
    → slice_get calls place ≡ Some c → is_some (first_open (take place calls)) ≡ true → c.charges ≡ 0
unbegun [] place c r e w = absurd (none-some c e)
unbegun (d ∷ calls) zero c r e w = absurd (cc w)
unbegun (d ∷ calls) (suc place) c (ended ends r) e w =
    unbegun calls place c r e (passed (is_open d.outcome) d (first_open (take place calls)) (end_closed ends) w)
unbegun (d ∷ calls) (suc place) c (at_work open_yet stands waits) e w = is_waiting calls place c waits e

pub waiting_has_none : (m : Module) (p : Parameters) (calls : List Call) (z : Standing) (place : ℕ) (c : Call) → Replay m p calls z
    → slice_get calls place ≡ Some c → is_some (first_open (take place calls)) ≡ true → c.charges ≡ 0
waiting_has_none m p [] z place c r e w = absurd r
waiting_has_none m p (d ∷ calls) z place c r e w = unbegun (d ∷ calls) place c r.2.4 e w

-- ---- how it is said

-- and where it is released now
pub goes_so : (o : Outcome) (waits : Bool) (stands : Option ℕ) (charges : ℕ) → (waits ≡ true → charges ≡ 0)
    → status_by o true waits stands charges ≡ when_released (status_by o false waits stands charges)
goes_so (returned results) waits stands charges none = refl
goes_so (stopped trap) waits stands charges none = refl
goes_so cancelled waits stands charges none = refl
goes_so dead waits stands charges none = refl
goes_so pending true stands charges none = ap (λ n. texts.released n) (none refl)
goes_so pending false None charges none = refl
goes_so pending false (Some fault) charges none = refl

said_gone : (g : NamedInstance) (place : ℕ) (c : Call) (last_printed : Option CallStatus) → IsReleased g → IsPrinted g place c last_printed → WasPrinted g place c last_printed
said_gone g place c last_printed gone is = search rules

-- ---- calls run

run_at : (faults : List ℕ) (gs run : List NamedInstance) (j : ℕ) (r : NamedInstance) → ZipAmid RunsAmid faults gs run → slice_get run j ≡ Some r
    → (own : List ℕ) × (g : NamedInstance) × (slice_get gs j ≡ Some g) × RunsAmid own g r
run_at faults [] [] j r all e = absurd (none-some r e)
run_at faults [] (x ∷ run) j r all e = absurd all
run_at faults (g ∷ gs) [] j r all e = absurd all
run_at faults (g ∷ gs) (x ∷ run) zero r all e = (all.0, g, refl, subst (RunsAmid all.0 g) (same_Some x r e) all.3)
run_at faults (g ∷ gs) (x ∷ run) (suc j) r all e = run_at all.1 gs run j r all.4 e

ran_at : (faults : List ℕ) (gs run : List NamedInstance) (j : ℕ) (g : NamedInstance) → ZipAmid RunsAmid faults gs run → slice_get gs j ≡ Some g
    → (own : List ℕ) × (r : NamedInstance) × (slice_get run j ≡ Some r) × RunsAmid own g r
ran_at faults [] [] j g all e = absurd (none-some g e)
ran_at faults [] (x ∷ run) j g all e = absurd all
ran_at faults (y ∷ gs) [] j g all e = absurd all
ran_at faults (y ∷ gs) (x ∷ run) zero g all e = (all.0, x, refl, subst (λ k. RunsAmid all.0 k x) (same_Some y g e) all.3)
ran_at faults (y ∷ gs) (x ∷ run) (suc j) g all e = ran_at all.1 gs run j g all.4 e

run_places : (faults : List ℕ) (g r : NamedInstance) → RunsAmid faults g r → KeepsPlaces g.calls r.calls
run_places faults g _ (gone_still gone) = places_stay g.calls
run_places faults g _ (stands_still live stands) = places_stay g.calls
run_places faults g _ (runs_on {calls = calls} live faultless come replay rest) = zip_places g.calls calls come

-- who is released then was so, and has the same calls
gone_before : (faults : List ℕ) (g r : NamedInstance) → RunsAmid faults g r → IsReleased r → r ≡ g
gone_before faults g _ (gone_still gone) released = refl
gone_before faults g _ (stands_still live stands) released = refl
gone_before faults g _ (runs_on live faultless come replay rest) released = absurd (cc (live, released))

pub runs_well : (faults : List ℕ) (m : ScriptState) (run : List NamedInstance) → IsWellMade m → ZipAmid RunsAmid faults m.instances run → IsWellMade (record m { instances = run; faults_met = faults ++ m.faults_met })
runs_well faults m run h all = record {
  there = record {
    starts = search (rules, run_at, run_places);
    calls = λ n i place v at outcome.
        let d = h.there.calls n i place v at outcome in
        let r = ran_at faults m.instances run i d.0 all d.2 in
        let c = run_places r.0 d.0 r.1 r.3 place d.1 d.3 in
        (r.1, c.0, r.2, c.1);
  };
  gone = search (rules, run_at, gone_before);
  ended = record {
    taken = record {
      starts = λ j r c e anyone has first.
          let d = run_at faults m.instances run j r all e in
          let before = h.there.starts j d.1 d.2 in
          let kept = run_start d.0 d.1 r d.3 in
          subst (HasEndedSo r 0 c) (sym kept.1)
          (run_ended d.0 d.1 r 0 before.0 c d.1.last_printed d.3 before.1 first (h.ended.taken.starts j d.1 before.0 d.2 tt (kept.0 has) before.1));
      calls = λ n i place v r c at outcome e anyone first.
          let d = run_at faults m.instances run i r all e in
          let before = h.there.calls n i place v at outcome in
          let same : before.0 ≡ d.1 = same_Some before.0 d.1 (sym before.2 ∙ d.2) in
          let here : slice_get d.1.calls place ≡ Some before.1 = subst (λ (x : NamedInstance). slice_get x.calls place ≡ Some before.1) same before.3 in
          run_ended d.0 d.1 r place before.1 c v.last_printed d.3 here first (h.ended.taken.calls n i place v d.1 before.1 at outcome d.2 tt here);
    };
    refused = h.ended.refused;
    starts_first = λ j r e. let d = run_at faults m.instances run j r all e in run_starts_first d.0 d.1 r d.3 (h.ended.starts_first j d.1 d.2);
  };
}

-- ---- it is said how they are

said_at : (gs gs2 : List NamedInstance) (lines : List Reply) (j : ℕ) (g2 : NamedInstance) → PrintStarts gs lines gs2 → slice_get gs2 j ≡ Some g2
    → (g : NamedInstance) × (here : List Reply) × (slice_get gs j ≡ Some g) × PrintsStart g here g2
said_at [] gs2 lines j g2 says e = absurd (none-some g2 (ap (λ (xs : List NamedInstance). slice_get xs j) (sym says.1) ∙ e))
said_at (g ∷ gs) gs2 lines zero g2 (here, rest, k, ks, l, f, x, more) e = search rules
said_at (g ∷ gs) gs2 lines (suc j) g2 (here, rest, k, ks, l, f, x, more) e =
    said_at gs ks rest j g2 more (ap (λ (xs : List NamedInstance). slice_get xs (suc j)) (sym f) ∙ e)

starts_at : (gs gs2 : List NamedInstance) (lines : List Reply) (j : ℕ) (g : NamedInstance) → PrintStarts gs lines gs2 → slice_get gs j ≡ Some g
    → (g2 : NamedInstance) × (here : List Reply) × (slice_get gs2 j ≡ Some g2) × PrintsStart g here g2
starts_at [] gs2 lines j g says e = absurd (none-some g e)
starts_at (y ∷ gs) gs2 lines zero g (here, rest, k, ks, l, f, x, more) e = search rules
starts_at (y ∷ gs) gs2 lines (suc j) g (here, rest, k, ks, l, f, x, more) e =
    let d = starts_at gs ks rest j g more e in
    (d.0, d.1, ap (λ (xs : List NamedInstance). slice_get xs (suc j)) f ∙ d.2, d.3)

-- but for what was last said of its start it is the same
same_calls : (g g2 : NamedInstance) (here : List Reply) → PrintsStart g here g2 → g2.calls ≡ g.calls
same_calls g _ here (has_none p q) = refl
same_calls g _ here (has_one n e x) = refl

still_said : (g g2 : NamedInstance) (here : List Reply) (place : ℕ) (c : Call) (last_printed : Option CallStatus) → PrintsStart g here g2 → IsReleased g2 → slice_get g2.calls place ≡ Some c
    → (IsReleased g → slice_get g.calls place ≡ Some c → WasPrinted g place c last_printed) → WasPrinted g2 place c last_printed
still_said g _ here place c last_printed (has_none p q) released first was = was released first
still_said g _ here place c last_printed (has_one n e x) released first was = was released first

-- its start, if it has one, was said to be as it is
start_said : (g g2 : NamedInstance) (here : List Reply) (c : Call) → PrintsStart g here g2 → HasStart g2 → slice_get g2.calls 0 ≡ Some c → IsPrinted g2 0 c g2.last_printed
start_said g _ here c (has_none p q) has e = absurd (has (p, q))
start_said g _ here c (has_one {first = first} n f x) has e = search rules

calls_at : (instances : List NamedInstance) (n : ℕ) (vs vs2 : List Invoked) (lines : List Reply) (k : ℕ) (v2 : Invoked) → PrintCalls instances n vs lines vs2 → slice_get vs2 k ≡ Some v2
    → (v : Invoked) × (here : List Reply) × (number : ℕ) × (slice_get vs k ≡ Some v) × PrintsCall instances number v here v2
calls_at instances n [] vs2 lines k v2 says e = absurd (none-some v2 (ap (λ (xs : List Invoked). slice_get xs k) (sym says.1) ∙ e))
calls_at instances n (v ∷ vs) vs2 lines zero v2 (here, rest, u, us, l, f, x, more) e = search rules
calls_at instances n (v ∷ vs) vs2 lines (suc k) v2 (here, rest, u, us, l, f, x, more) e =
    calls_at instances (n + 1) vs us rest k v2 more (ap (λ (xs : List Invoked). slice_get xs (suc k)) (sym f) ∙ e)

abbrev taken_guest : InvokeOutcome → ℕ
taken_guest (call_rejected fault) = 0
taken_guest (call_accepted i place) = i

abbrev fault_of : InvokeOutcome → ℕ
fault_of (call_rejected fault) = fault
fault_of (call_accepted i place) = 0

abbrev taken_place : InvokeOutcome → ℕ
taken_place (call_rejected fault) = 0
taken_place (call_accepted i place) = place

-- what came of it is the same
same_reception : (instances : List NamedInstance) (n : ℕ) (v v2 : Invoked) (here : List Reply) → PrintsCall instances n v here v2 → v2.outcome ≡ v.outcome
same_reception instances n v _ here (is_refused e x) = refl
same_reception instances n v _ here (is_taken e f g x) = refl

-- a call that was taken was said to be as it is
call_said : (instances : List NamedInstance) (n : ℕ) (v v2 : Invoked) (here : List Reply) (i place : ℕ) (g : NamedInstance) (c : Call) → PrintsCall instances n v here v2
    → v2.outcome ≡ call_accepted i place → slice_get instances i ≡ Some g → slice_get g.calls place ≡ Some c → IsPrinted g place c v2.last_printed
call_said instances n v _ here i place g c (is_refused {fault = fault} outcome x) e f first = absurd (cc (outcome, e))
call_said instances n v _ here i place g c (is_taken {i = j} {place = at} {g = k} {c = d} outcome there here_it x) e f first = search rules

pub all_said : (m : ScriptState) (starts calls : List Reply) (instances : List NamedInstance) (invoked : List Invoked) → PrintStarts m.instances starts instances
    → PrintCalls instances 1 m.invoked calls invoked → AllArePrinted (record m { instances = instances; invoked = invoked })
all_said m starts calls instances invoked print_starts print_calls = search (rules, said_at, start_said, calls_at, call_said)

-- a call that was refused was said to be so
refused_so : (instances : List NamedInstance) (n fault : ℕ) (v v2 : Invoked) (here : List Reply) (status : CallStatus) → PrintsCall instances n v here v2
    → v2.outcome ≡ call_rejected fault → v2.last_printed ≡ Some status → status ≡ texts.refused fault
refused_so instances n fault v _ here status (is_refused {fault = own} outcome x) turned last_printed = search rules
refused_so instances n fault v _ here status (is_taken outcome f g x) turned last_printed = absurd (cc (outcome, turned))

-- behind an open start its calls are as they were
first_still : (m : ScriptState) (starts : List Reply) (instances : List NamedInstance) → IsWellMade m → PrintStarts m.instances starts instances
    → (i : ℕ) (g2 : NamedInstance) → slice_get instances i ≡ Some g2 → StartsFirst g2.calls
first_still m starts instances h print_starts i g2 e = search (rules, said_at, same_calls)

-- where only starts were said, too
pub starts_well : (m : ScriptState) (starts : List Reply) (instances : List NamedInstance) → IsWellMade m → PrintStarts m.instances starts instances → IsWellMade (record m { instances = instances })
starts_well m starts instances h print_starts = record {
  there = record {
    starts = search (rules, said_at, same_calls);
    calls = λ n i place v at outcome.
        let d = h.there.calls n i place v at outcome in
        let r = starts_at m.instances instances starts i d.0 print_starts d.2 in
        (r.0, d.1, r.2, ap (λ (xs : List Call). slice_get xs place) (same_calls d.0 r.0 r.1 r.3) ∙ d.3);
  };
  gone = record {
    starts = search (rules, said_at, said_gone, start_said);
    calls = search (rules, said_at, still_said);
  };
  ended = record {
    taken = record {
      starts = search (rules, said_at, ended_as_said, start_said);
      calls = λ n i place v g2 c at outcome e anyone first.
          let d = said_at m.instances instances starts i g2 print_starts e in
          start_still_ended d.0 g2 d.1 place c v.last_printed d.3 first (λ first_of. h.ended.taken.calls n i place v d.0 c at outcome d.2 tt first_of);
    };
    refused = h.ended.refused;
    starts_first = first_still m starts instances h print_starts;
  };
}

pub says_well : (m : ScriptState) (starts calls : List Reply) (instances : List NamedInstance) (invoked : List Invoked) → IsWellMade m → PrintStarts m.instances starts instances
    → PrintCalls instances 1 m.invoked calls invoked → IsWellMade (record m { instances = instances; invoked = invoked })
says_well m starts calls instances invoked h print_starts print_calls =
    let all = all_said m starts calls instances invoked print_starts print_calls in
    record {
      there = record {
        starts = search (rules, said_at, same_calls);
        calls = λ n i place v at outcome.
            let u = calls_at instances 1 m.invoked invoked calls n v print_calls at in
            let d = h.there.calls n i place u.0 u.3 (sym (same_reception instances u.2 u.0 v u.1 u.4) ∙ outcome) in
            let r = starts_at m.instances instances starts i d.0 print_starts d.2 in
            (r.0, d.1, r.2, ap (λ (xs : List Call). slice_get xs place) (same_calls d.0 r.0 r.1 r.3) ∙ d.3);
      };
      gone = record {
        starts = λ j g c e released has first. said_gone g 0 c g.last_printed released (all.starts j g c e tt has first);
        calls = λ n i place v g c at outcome e released first. said_gone g place c v.last_printed released (all.calls n i place v g c at outcome e tt first);
      };
      ended = search (rules, ended_as_said, calls_at, refused_so, first_still);
    }

-- ---- who is there behind a drain was there before, under the same name

run_name : (faults : List ℕ) (g r : NamedInstance) → RunsAmid faults g r → r.name ≡ g.name
run_name faults g _ (gone_still gone) = refl
run_name faults g _ (stands_still live stands) = refl
run_name faults g _ (runs_on live faultless come replay rest) = refl

said_name : (g g2 : NamedInstance) (here : List Reply) → PrintsStart g here g2 → g2.name ≡ g.name
said_name g _ here (has_none p q) = refl
said_name g _ here (has_one n e x) = refl

pub drained_guest : (faults : List ℕ) (m m2 : ScriptState) (lines : List Reply) (i : ℕ) (g2 : NamedInstance) → DrainsAmid faults m lines m2 → slice_get m2.instances i ≡ Some g2
    → (g : NamedInstance) × (slice_get m.instances i ≡ Some g) × (g2.name ≡ g.name)
drained_guest faults m m2 lines i g2 drains at = search (rules, said_at, run_at, said_name, run_name)
