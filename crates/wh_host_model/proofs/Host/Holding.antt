-- What is known of a host after every list of events.
use Rattle.std.proofs.Common.{◌≡◌, ℕ, ◌≤◌, Option, List, [], ◌∷◌, refl, sym, subst, arith, length-append, rules}
use Rattle.std.specs.List.{AllByRecursion}
use Rattle.wh_model.specs.declared.memory.Need.{Need}
use Rattle.wh_model.specs.Format.{Module}
use Rattle.wh_model.specs.Execution.Store.{Instance}
use Rattle.wh_model.specs.Execution.{Term, config, Asks, Parameters, Call, Replays}
use Rattle.wh_model.specs.Execution.Replay.{Replay}
use Rattle.wh_model.specs.Laws.ReplayLaws as laws
use Rattle.wh_model.proofs.Histories.{replays_then}
use Rattle.wh_model.proofs.Journals.{fuel_suffices}
use Rattle.wh_host_model.specs.Host.{Rest, Doing, Tenant, computing, journal, journal_calls, store_with, standing_with, standing_in, empty_world, to_wait, to_go_on, Proceeds, waits, waits_to_write, has_had_its_turn, has_no_frame, can_go_on, keeps_its_fault, MemoryIsSound, PlacesAreRight, InstancesReplay, ChargesAreWithin, JournalsAreInOrder, SuspensionsAreRight, FrameIsLacking, AgainIsReady}
use Rattle.wh_host_model.specs.{Entry}
use Rattle.wh_host_model.proofs.Host.Entries.{now_replays, calls_join}
use Rattle.wh_host_model.proofs.Host.Ordered.{order_journal}
use Rattle.wh_host_model.proofs.Host.Keeping.{Kept}
use Rattle.wh_host_model.proofs.Host.Running.{good_run}
use Rattle.wh_host_model.proofs.Host.Empty.{good_empty}

-- ---- each law from what is kept

pub memory_is_sound : MemoryIsSound
memory_is_sound frames slots tax events w r = let good = good_run events (empty_world frames slots tax) w (good_empty frames slots tax) r in good.sound

pub places_are_right : PlacesAreRight
places_are_right frames slots tax events w r =
    let good = good_run events (empty_world frames slots tax) w (good_empty frames slots tax) r in
    record { claimed = λ i t x. let f = good.each i t x in f.claimed; apart = good.apart; all = good.owned }

kept_replays : {m : Module} {p : Parameters} {t : Tenant} {bytes : List ℕ} {want : Option Need} (k : Kept m p t bytes want) → Replays t.inst k.s0 k.ps0 (journal_calls (journal t)) (standing_with bytes t.rest t.doing)
kept_replays {t = t} {bytes = bytes} k = search (rules, calls_join, replays_then, now_replays)

pub kept_replay : {m : Module} {p : Parameters} {t : Tenant} {bytes : List ℕ} {want : Option Need} → Kept m p t bytes want → Replay m p (journal_calls (journal t)) (standing_with bytes t.rest t.doing)
kept_replay {m = m} {p = p} {t = t} {bytes = bytes} k =
    let z = standing_with bytes t.rest t.doing in
    let parted = order_journal k.order in
    let r : Replays t.inst k.s0 k.ps0 (parted.start ∷ parted.behind) z = subst (λ cs. Replays t.inst k.s0 k.ps0 cs z) parted.are (kept_replays k) in
    subst (λ cs. Replay m p cs z) (sym parted.are) (k.given, parted.journal, (t.inst, k.s0, k.ps0, k.initial, r))

pub instances_replay : InstancesReplay
instances_replay frames slots tax events w r i t x =
    let good = good_run events (empty_world frames slots tax) w (good_empty frames slots tax) r in
    let f = good.each i t x in
    let k = f.kept in
    record { loaded = f.loaded; is_loaded = f.is_loaded; accepted = good.modules t.of f.loaded f.is_loaded; first = k.s0; pieces = k.ps0; initial = k.initial; replay = kept_replay k }

entries_within : (es : List Entry) → AllByRecursion laws.WithinFuel (journal_calls es) → AllByRecursion (λ e. e.call.charges ≤ e.call.fuel) es
entries_within [] h = tt
entries_within (e ∷ es) h = (h.0, entries_within es h.1)

pub charges_are_within : ChargesAreWithin
charges_are_within frames slots tax events w r i t x =
    let good = good_run events (empty_world frames slots tax) w (good_empty frames slots tax) r in
    let f = good.each i t x in
    let k = f.kept in
    entries_within (journal t) (fuel_suffices t.inst k.s0 k.ps0 (journal_calls (journal t)) (standing_in w.space t) (kept_replays k))

pub journals_are_in_order : JournalsAreInOrder
journals_are_in_order frames slots tax events w r i t x =
    let good = good_run events (empty_world frames slots tax) w (good_empty frames slots tax) r in
    let f = good.each i t x in
    let k = f.kept in
    record { loaded = f.loaded; is_loaded = f.is_loaded; calls = k.order; few = let few = k.few in let n = length-append t.ended t.open_calls in omega (arith, few, n); few_open = k.few_open }

pub suspensions_are_right : SuspensionsAreRight
suspensions_are_right frames slots tax events w r i t x =
    let good = good_run events (empty_world frames slots tax) w (good_empty frames slots tax) r in
    let f = good.each i t x in
    f.kept.duly

-- ---- a turn's answers

isnt_ready : {M : Type 0} {bytes : M → List ℕ} {ready : M → Need → Type 0} {keeps : M → M → Type 0} {inst : Instance} {q k n : ℕ} {call : Call} {m m2 : M} {d d2 : Doing} {r r2 : Rest} {need : Need}
    → Proceeds bytes ready keeps inst q call m r d (to_wait need) k n m2 r2 d2 → ¬ (ready m2 need)
isnt_ready (waits x next u a v) = v
isnt_ready (waits_to_write d w v) = v

pub frame_is_lacking : FrameIsLacking
frame_is_lacking q s s2 t t2 (has_no_frame {need = need} there g leaves pins) = (need, leaves.wants, λ now. isnt_ready g ((leaves.ready need).0 now))

-- where the call goes on, all that it asks for is
abbrev GoesOn : {M : Type 0} (bytes : M → List ℕ) (ready : M → Need → Type 0) (inst : Instance) → M → Rest → Doing → Type 0
GoesOn bytes ready inst m r d = (term : Term) × (d ≡ computing term) × ((need : Need) → Asks inst (config (store_with (bytes m) r) [] term) need → ready m need)

is_ready : {M : Type 0} {bytes : M → List ℕ} {ready : M → Need → Type 0} {keeps : M → M → Type 0} {inst : Instance} {q k n : ℕ} {call : Call} {m m2 : M} {d d2 : Doing} {r r2 : Rest}
    → Proceeds bytes ready keeps inst q call m r d to_go_on k n m2 r2 d2 → GoesOn bytes ready inst m2 r2 d2
is_ready (has_had_its_turn {term = term} x next u v y) = (term, refl, y)

pub again_is_ready : AgainIsReady
again_is_ready q s s2 t t2 (can_go_on {r = r} there g leaves pins fault) = search (rules, is_ready)
again_is_ready q s s2 t t2 (keeps_its_fault {term = term} there stands doing none next fuel now) = (term, doing, now)
