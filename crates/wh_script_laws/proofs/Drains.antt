-- Drains: where they begin, moves of pages, and what is said at the end.
use Rattle.std.proofs.Common.{◌≡◌, ℕ, suc, ◌+◌, ◌-◌, ◌⊎◌, ⊎_elim, inl, inr, Bool, true, false, List, [], ◌∷◌, Option, Some, None, get_or, refl, sym, ap, subst, ◌∙◌, arith, rules}
use Rattle.std.proofs.lemmas.Option.{none-some}
use Rattle.std.specs.List.{AllZip}
use Rattle.wh_model.specs.Execution.{Outcome, cancelled, Call}
use Rattle.wh_space_model.specs.{Space, minima, spreads, swap_number}
use Rattle.wh_host_model.specs.Host.{for_fuel, for_device, Tenant, World, journal, journal_calls}
use Rattle.wh_host_model.specs.{Params, is_open}
use Rattle.wh_script_model.specs.Settings.{Settings}
use Rattle.wh_script_model.specs.{CallStatus, Reply, NamedInstance, live_sum, ComesTo, had_ended, goes_on, RunsAlone, PrintsStart, has_none, has_one, PrintStarts, IsTenantOf, GoesNoFurther, LosesNothing, RunsAmid, ZipAmid, gone_still, stands_still, runs_on, rests_alone, meets_fault}
use Rattle.wh_script_model.specs.ScriptState.{ScriptState}
use Rattle.wh_script_model.specs.Drains as drains
use Rattle.wh_host_model.proofs.Host.Holding.{memory_is_sound}
use Rattle.wh_script_model.proofs.Serving.{served_as_alone}
use Rattle.wh_script_laws.specs.Following.{IsFueled, AreSame, ComesFurther, ComeFurther, IsFollowed, is_there, is_gone, FollowsScript, IsRunAmid, AreRunAmid, StaysWhole, StandsAmid, device_fault, StandsSame}
use Rattle.wh_script_laws.specs.Laws.{DrainsBegin, MovesFollow, DrainsEnd, PrintingFollows, StandsForDevice}
use Rattle.wh_script_laws.proofs.Mixing.{zip_amid_so, zip_none}
use Rattle.wh_script_laws.proofs.Sums.{claims_decide}
use Rattle.wh_script_model.proofs.Standing.{IsStuck, is_stuck, at_no_fault}

-- ---- lists side by side

pub zip_so : {A B : Type 0} (R S : A → B → Type 0) → ((a : A) (b : B) → R a b → S a b) → (xs : List A) (ys : List B)
    → AllZip R xs ys → AllZip S xs ys
zip_so R S so [] [] h = tt
zip_so R S so [] (y ∷ ys) h = absurd h
zip_so R S so (x ∷ xs) [] h = absurd h
zip_so R S so (x ∷ xs) (y ∷ ys) h = (so x y h.0, zip_so R S so xs ys h.1)

-- ---- calls that come no further

pub open_or_not : (b : Bool) → (b ≡ true) ⊎ (b ≡ false)
open_or_not true = inl refl
open_or_not false = inr refl

-- an open call wasn't cancelled
pub not_cancelled : (o : Outcome) → is_open o ≡ true → ¬ (o ≡ cancelled)
not_cancelled o open_yet e = let bad : true ≡ false = sym open_yet ∙ ap is_open e in absurd (cc bad)

-- a call that comes no further
pub comes_nowhere : (c : Call) → ComesTo c c
comes_nowhere c =
    ⊎_elim
    (λ (open_yet : is_open c.outcome ≡ true). goes_on {outcome = c.outcome} {pieces = c.fragments} {charges = c.charges} open_yet (not_cancelled c.outcome open_yet))
    (λ (closed : is_open c.outcome ≡ false). had_ended closed)
    (open_or_not (is_open c.outcome))

pub come_nowhere : (calls : List Call) → AllZip ComesTo calls calls
come_nowhere [] = tt
come_nowhere (c ∷ calls) = (comes_nowhere c, come_nowhere calls)

loses_nothing : (c : Call) → LosesNothing c c
loses_nothing c = record { fragments = omega arith; charges = omega arith }

pub goes_nowhere : (c : Call) → ComesFurther c c
goes_nowhere c = (comes_nowhere c, loses_nothing c)

pub go_nowhere : (calls : List Call) → ComeFurther calls calls
go_nowhere [] = tt
go_nowhere (c ∷ calls) = (goes_nowhere c, go_nowhere calls)

pub zip_both : {A B : Type 0} (R S : A → B → Type 0) (xs : List A) (ys : List B) → AllZip (λ a b. R a b × S a b) xs ys → AllZip R xs ys × AllZip S xs ys
zip_both R S [] [] h = (tt, tt)
zip_both R S [] (y ∷ ys) h = absurd h
zip_both R S (x ∷ xs) [] h = absurd h
zip_both R S (x ∷ xs) (y ∷ ys) h = let rest = zip_both R S xs ys h.1 in ((h.0.0, rest.0), (h.0.1, rest.1))

-- they come to their outcomes, and none goes back
pub both_further : (calls calls2 : List Call) → ComeFurther calls calls2 → AllZip ComesTo calls calls2 × AllZip LosesNothing calls calls2
both_further = zip_both ComesTo LosesNothing

-- ---- a drain begins

none_or_some : (o : Option ℕ) → (o ≡ None) ⊎ ((fault : ℕ) × (o ≡ Some fault))
none_or_some None = inl refl
none_or_some (Some fault) = inr (fault, refl)

begins_so : (w : World) (g : NamedInstance) (o : Option Tenant) → IsFollowed AreSame StandsSame w g o → IsRunAmid w [] g o
begins_so w g (Some t) (is_there of_one same stands) =
    is_there of_one (subst (λ cs. ComeFurther g.calls cs) same (go_nowhere g.calls))
    (⊎_elim
    (λ (none : g.at_fault ≡ None). inl (none, λ fault e. absurd (none-some fault (sym none ∙ stands.0 ∙ e))))
    (λ (some : (fault : ℕ) × (g.at_fault ≡ Some fault)). inr (some.0, some.1, sym stands.0 ∙ some.1, same))
    (none_or_some g.at_fault))
begins_so w g None (is_gone gone) = is_gone gone

pub drains_begin : DrainsBegin
drains_begin settings w m places h = search (rules, zip_none, begins_so)

-- ---- pages move

-- an instance of one host is that of another with the same modules
pub same_modules : (w w2 : World) (t : Tenant) (g : NamedInstance) → w2.modules ≡ w.modules → IsTenantOf w t g → IsTenantOf w2 t g
same_modules w w2 t g same h = search rules

pub moved_followed : (come : List Call → List Call → Type 0) (stands : NamedInstance → Tenant → Type 0) (w w2 : World) → w2.modules ≡ w.modules → (g : NamedInstance) (o : Option Tenant)
    → IsFollowed come stands w g o → IsFollowed come stands w2 g o
moved_followed come stands w w2 same g (Some t) (is_there of_one calls sound) = is_there (same_modules w w2 t g same of_one) calls sound
moved_followed come stands w w2 same g None (is_gone gone) = is_gone gone

abbrev Follows : Type 1
Follows = World → List NamedInstance → List (Option Tenant) → Type 0

moved_so : (follows : Follows) (settings : Settings) (w : World) (s2 : Space) (m : ScriptState) (places : List ℕ)
    → (follows w m.instances w.tenants → follows (record w { space = s2 }) m.instances w.tenants)
    → StaysWhole w.space s2 → (minima s2 ≡ minima w.space) × (spreads s2 ≡ spreads w.space)
    → FollowsScript follows settings w m places → FollowsScript follows settings (record w { space = s2 }) m places
moved_so follows settings w s2 m places so whole sums h = search rules

-- those that run are so while pages move
pub moved_run : (faults : List ℕ) (w w2 : World) → w2.modules ≡ w.modules → (gs : List NamedInstance) (ts : List (Option Tenant)) → AreRunAmid faults w gs ts → AreRunAmid faults w2 gs ts
moved_run faults w w2 same gs ts h = search (rules, zip_amid_so, moved_followed)

pub moves_follow : MovesFollow
moves_follow frames slots tax events w happens faults settings m places w2 moves whole =
    search (rules, memory_is_sound, zip_so, moved_followed, moved_so, claims_decide, moved_run)

-- ---- what is said

-- the sums over those who aren't released, where these are the same
pub record SameGuest (g g2 : NamedInstance) : Type 0 where
  pub released : g2.is_released ≡ g.is_released
  pub params : g2.params ≡ g.params

pub same_live_sum : (amount : Params → ℕ) (gs gs2 : List NamedInstance) → AllZip SameGuest gs gs2
    → live_sum amount gs2 ≡ live_sum amount gs
same_live_sum amount [] [] h = refl
same_live_sum amount [] (g2 ∷ gs2) h = absurd h
same_live_sum amount (g ∷ gs) [] h = absurd h
same_live_sum amount (g ∷ gs) (g2 ∷ gs2) h =
    let first = h.0 in
    let rest = same_live_sum amount gs gs2 h.1 in
    rw (first.released, first.params, rest) refl

resaid : (w : World) (g : NamedInstance) (o : Option Tenant) (status : Option CallStatus) → IsFollowed AreSame StandsSame w g o
    → IsFollowed AreSame StandsSame w (record g { last_printed = status }) o
resaid w g (Some t) status (is_there of_one same sound) =
    let last_printed : IsTenantOf w t (record g { last_printed = status }) = search rules in
    is_there last_printed same sound
resaid w g None status (is_gone gone) = is_gone gone

one_said : (w : World) (g g2 : NamedInstance) (o : Option Tenant) (lines : List Reply) → PrintsStart g lines g2
    → IsFollowed AreSame StandsSame w g o → IsFollowed AreSame StandsSame w g2 o × SameGuest g g2
one_said w g g2 o lines (has_none p q) h = (h, record { released = refl; params = refl })
one_said w g g2 o lines (has_one n e x) h = (resaid w g o _ h, record { released = refl; params = refl })

all_said : (w : World) (gs last_printed : List NamedInstance) (ts : List (Option Tenant)) (lines : List Reply) → PrintStarts gs lines last_printed
    → AllZip (IsFollowed AreSame StandsSame w) gs ts → AllZip (IsFollowed AreSame StandsSame w) last_printed ts × AllZip SameGuest gs last_printed
all_said w [] last_printed [] lines says h = search rules
all_said w [] last_printed (o ∷ ts) lines says h = absurd h
all_said w (g ∷ gs) last_printed [] lines says h = absurd h
all_said w (g ∷ gs) last_printed (o ∷ ts) lines (here, rest, g2, gs2, e, f, x, more) h =
    let first = one_said w g g2 o here x h.0 in
    let others = all_said w gs gs2 ts rest more h.1 in
    subst (λ after. AllZip (IsFollowed AreSame StandsSame w) after (o ∷ ts) × AllZip SameGuest (g ∷ gs) after) (sym f)
    ((first.0, others.0), (first.1, others.1))

pub saying_follows : PrintingFollows
saying_follows settings w m places lines last_printed invoked h says = search (rules, all_said, same_live_sum)

-- ---- a drain ends

-- how the instance of a tenant has run
abbrev pub run_guest : NamedInstance → Option Tenant → NamedInstance
run_guest g None = g
run_guest g (Some t) = record g { calls = journal_calls (journal t); at_fault = device_fault t.waiting_for }

abbrev pub run_guests : List NamedInstance → List (Option Tenant) → List NamedInstance
run_guests [] ts = []
run_guests (g ∷ gs) [] = []
run_guests (g ∷ gs) (o ∷ ts) = run_guest g o ∷ run_guests gs ts

-- whose calls have run so far as they can
abbrev RunSoFar : World → Tenant → Type 0
RunSoFar w t =
    (own : List ℕ) (g : NamedInstance) → IsTenantOf w t g → ComeFurther g.calls (journal_calls (journal t)) → StandsAmid own g t
    → RunsAmid own g (run_guest g (Some t))

-- one has run
pub record HasRun (faults : List ℕ) (w : World) (g g2 : NamedInstance) (o : Option Tenant) : Type 0 where
  pub amid : RunsAmid faults g g2
  pub followed : IsFollowed AreSame StandsSame w g2 o
  pub same : SameGuest g g2

one_runs : (faults : List ℕ) (w : World) (g : NamedInstance) (o : Option Tenant) → ((t : Tenant) → o ≡ Some t → RunSoFar w t) → ((t : Tenant) → o ≡ Some t → IsFueled t)
    → IsRunAmid w faults g o → HasRun faults w g (run_guest g o) o
one_runs faults w g None so_far fueled (is_gone gone) =
    record { amid = gone_still gone; followed = is_gone gone; same = record { released = refl; params = refl } }
one_runs faults w g (Some t) so_far fueled (is_there of_one further stands) =
    let calls = journal_calls (journal t) in
    let run : IsTenantOf w t (run_guest g (Some t)) = search (rules, come_nowhere) in
    record { amid = so_far t refl faults g of_one further stands; followed = is_there run refl (refl, fueled t refl); same = record { released = refl; params = refl } }

-- all have
pub record HaveRun (faults : List ℕ) (w : World) (gs run : List NamedInstance) (ts : List (Option Tenant)) : Type 0 where
  pub amid : ZipAmid RunsAmid faults gs run
  pub followed : AllZip (IsFollowed AreSame StandsSame w) run ts
  pub same : AllZip SameGuest gs run

all_run : (faults : List ℕ) (w : World) (gs : List NamedInstance) (ts : List (Option Tenant)) → ((i : ℕ) (t : Tenant) → get_or ts i None ≡ Some t → RunSoFar w t)
    → ((i : ℕ) (t : Tenant) → get_or ts i None ≡ Some t → IsFueled t) → AreRunAmid faults w gs ts → HaveRun faults w gs (run_guests gs ts) ts
all_run faults w [] [] so_far fueled h = record { amid = tt; followed = tt; same = tt }
all_run faults w [] (o ∷ ts) so_far fueled h = absurd h
all_run faults w (g ∷ gs) [] so_far fueled h = absurd h
all_run faults w (g ∷ gs) (o ∷ ts) so_far fueled h =
    let first = one_runs h.0 w g o (so_far 0) (fueled 0) h.3 in
    let others = all_run h.1 w gs ts (λ i. so_far (suc i)) (λ i. fueled (suc i)) h.4 in
    record { amid = (h.0, h.1, h.2, first.amid, others.amid); followed = (first.followed, others.followed); same = (first.same, others.same) }

-- ---- whom no turn brings further

-- who has been run alone is blocked on no fault
from_alone : (faults : List ℕ) (g : NamedInstance) (t : Tenant) (g2 : NamedInstance) → g2 ≡ record g { calls = journal_calls (journal t) } → RunsAlone g g2 → g.is_released ≡ false → g.at_fault ≡ None
    → RunsAmid faults g (record g { calls = journal_calls (journal t); at_fault = None })
from_alone faults g t _ e (drains.is_gone gone) live faultless = absurd (cc (gone, live))
from_alone faults g t _ e (drains.has_run {calls = calls} alive come replay rest) live faultless =
    let same : calls ≡ journal_calls (journal t) = ap (λ (x : NamedInstance). x.calls) e in
    subst (λ (cs : List Call). RunsAmid faults g (record g { calls = cs; at_fault = None })) same (runs_on live faultless come replay (rests_alone rest))

served_so : (faults : List ℕ) (g : NamedInstance) (t : Tenant) → RunsAlone g (record g { calls = journal_calls (journal t) }) → g.is_released ≡ false → device_fault t.waiting_for ≡ None
    → StandsAmid faults g t → RunsAmid faults g (run_guest g (Some t))
served_so faults g t alone live none (inl stands) = search (rules, ℕ, from_alone)
served_so faults g t alone live none (inr (other, was, is, same)) = absurd (none-some other (sym none ∙ is))

-- who waits for a device has met one of the faults, or stands still
stopped_so : (faults : List ℕ) (w : World) (g : NamedInstance) (t : Tenant) (fault : ℕ) → IsTenantOf w t g → IsStuck w t g → device_fault t.waiting_for ≡ Some fault
    → AllZip LosesNothing g.calls (journal_calls (journal t)) → StandsAmid faults g t → RunsAmid faults g (run_guest g (Some t))
stopped_so faults w g t fault of_one stuck is lost (inl stands) =
    subst (λ (o : Option ℕ). RunsAmid faults g (record g { calls = journal_calls (journal t); at_fault = o })) (sym is)
    (runs_on of_one.is_live stands.0 of_one.calls stuck.replay (meets_fault stuck.call stuck.first stuck.needs lost (stands.1 fault is)))
stopped_so faults w g t fault of_one stuck is lost (inr (was, stood, yet, same)) =
    subst (λ (o : Option ℕ). RunsAmid faults g (record g { calls = journal_calls (journal t); at_fault = o })) (stood ∙ sym yet)
    (subst (λ (cs : List Call). RunsAmid faults g (record g { calls = cs })) same (stands_still of_one.is_live stood))

no_device : (t : Tenant) → (t.open_calls ≡ [] → t.waiting_for ≡ None) → GoesNoFurther t → device_fault t.waiting_for ≡ None
no_device t rests (inl none) = ap device_fault (rests none)
no_device t rests (inr fuel) = ap device_fault fuel

-- who waits for nothing has no open call
served_fueled : (t : Tenant) → GoesNoFurther t ⊎ StandsForDevice t → IsFueled t
served_fueled t (inl (inl none)) e es are free = let bad : [] ≡ e ∷ es = sym none ∙ are in absurd (cc bad)
served_fueled t (inl (inr fuel)) e es are free = absurd (none-some for_fuel (sym free ∙ fuel))
served_fueled t (inr device) e es are free = absurd (none-some (for_device device.0) (sym free ∙ device.1))

pub drains_end : DrainsEnd
drains_end frames slots tax events w happens faults settings m places h served =
    let run = run_guests m.instances w.tenants in
    let alone = served_as_alone frames slots tax events w happens in
    let stuck = is_stuck frames slots tax events w happens in
    let rests = at_no_fault frames slots tax events w happens in
    let so_far : (i : ℕ) (t : Tenant) → get_or w.tenants i None ≡ Some t → RunSoFar w t = λ i t there own g of_one further stands.
    let lost = (both_further g.calls (journal_calls (journal t)) further).1 in
    ⊎_elim
    (λ (no_further : GoesNoFurther t). served_so own g t (alone i t g there no_further of_one) of_one.is_live (no_device t (rests i t there) no_further) stands)
    (λ (device : StandsForDevice t).
    let is : device_fault t.waiting_for ≡ Some (swap_number device.0) = ap device_fault device.1 in
    stopped_so own w g t (swap_number device.0) of_one (stuck i t g device.0 there device.1 of_one) is lost stands)
    (served i t there) in
    let have = all_run faults w m.instances w.tenants so_far (λ i t there. served_fueled t (served i t there)) h.instances in (
      run,
      have.amid,
      record {
        frames = h.frames;
        slots = h.slots;
        tax_num = h.tax_num;
        tax_den = h.tax_den;
        none_out = h.none_out;
        minima = h.minima ∙ sym (same_live_sum (λ p. p.min) m.instances run have.same);
        spreads = h.spreads ∙ sym (same_live_sum (λ p. (p.max - p.min) + 1) m.instances run have.same);
        modules = h.modules;
        instances = have.followed;
        placed = h.placed;
      },
    )
