-- A turn of an instance that can go on gets it on.
use Rattle.std.proofs.Common.{◌≡◌, ◌≢◌, ◌≤◌, ◌<◌, ℕ, zero, suc, ◌+◌, ⊎_elim, List, [], ◌∷◌, length, map, Option, Some, None, refl, sym, ap, subst, ◌∙◌, arith, length-append}
use Rattle.std.proofs.lemmas.List.{get_or-set_same}
use Rattle.wh_model.specs.declared.memory.Need.{Need}
use Rattle.wh_model.specs.Execution.Store.{Instance}
use Rattle.wh_model.specs.Execution.{config, stays, Call, dead}
use Rattle.wh_model.proofs.Asked.{one_need}
use Rattle.wh_space_model.specs.declared.plain.InstId.{InstId}
use Rattle.wh_space_model.specs.declared.plain.SwapError.{SwapError}
use Rattle.wh_host_model.specs.declared.plain.TurnEnd.{TurnEnd}
use Rattle.wh_space_model.specs.{Space, wants}
use Rattle.wh_space_model.specs.Ready.{Ready}
use Rattle.wh_host_model.specs.Host.{Rest, Doing, Suspension, for_frame, for_device, Tenant, World, store_in, Upshot, to_go_on, Proceeds, returns, traps, writes_all, uses_fuel, waits, waits_to_write, has_had_its_turn, at_frame, ended_by, gone_further, Closes, faces_next, is_dead, Turn, is_idle, has_ended, has_no_fuel, has_no_frame, can_go_on, keeps_its_fault, turn, AwaitsFrame, IsLive, IsTurn, of_none, of_one, CanGoOn, FirstWaitsDuly, NextAsks, a_piece, a_step, WaitsRightly, IsStepReady, charge_is_ready, piece_is_ready}
use Rattle.wh_host_model.specs.{Entry}
use Rattle.wh_host_model.proofs.Host.Holding.{suspensions_are_right}
use Rattle.wh_host_model.proofs.Host.Stopping.{is_settled}
use Rattle.wh_host_model.proofs.Host.Taken.{ready_steps_are_taken}
use Rattle.wh_host.specs.Hosting.{HostState, IsHost, IsReached}
use Rattle.wh_host.proofs.Hosts.{one_value, some_within, turn_stays}
use Rattle.wh_hand.specs.Lining.{MayGoOn, IsReadyFor}
use Rattle.wh_hand.specs.Running.{EventGetsOn, GetsOn, comes_to_stand, ends, goes_further}
use Rattle.wh_hand.proofs.Goers.{goes_in}
use Rattle.wh_hand.proofs.Sums.{at_seam}

-- ---- where it stood for nothing

closed_longer : {s : Space} {t t2 : Tenant} {e : Entry} {es : List Entry} {r : Rest} → Closes s t e es r t2 → length t.ended < length t2.ended
closed_longer {t = t} {e = e} (faces_next alive f) = let n = length-append t.ended (e ∷ []) in omega (arith, n)
closed_longer {t = t} {e = e} {es = es} (is_dead died) =
    let n = length-append t.ended (e ∷ map (λ (w : Entry). ended_by w dead) es) in omega (arith, n)

frame_stands : (n : ℕ) (o : Option Suspension) → o ≡ None → at_frame n o ≢ None
frame_stands zero None is h = cc h
frame_stands zero (Some x) is h = cc is
frame_stands (suc n) o is h = cc h

had_its_turn : {M : Type 0} {bytes : M → List ℕ} {ready : M → Need → Type 0} {keeps : M → M → Type 0} {inst : Instance} {q k n : ℕ} {call : Call} {m m2 : M} {r r2 : Rest} {d d2 : Doing} {to : Upshot}
    → Proceeds bytes ready keeps inst q call m r d to k n m2 r2 d2 → to ≡ to_go_on → n ≡ q
had_its_turn (returns x y) is = absurd (cc is)
had_its_turn (traps x) is = absurd (cc is)
had_its_turn (writes_all d f w) is = absurd (cc is)
had_its_turn (uses_fuel x n u) is = absurd (cc is)
had_its_turn (waits x n u a v) is = absurd (cc is)
had_its_turn (waits_to_write d w v) is = absurd (cc is)
had_its_turn (has_had_its_turn x n u v y) is = u

none_is_fault : (fault : SwapError) (o : Option Suspension) → o ≡ None → o ≡ Some (for_device fault) → ⊥
none_is_fault fault o a b = let bad : None ≡ Some (for_device fault) = sym a ∙ b in cc bad

from_nothing : (q : ℕ) (s s2 : Space) (t t2 : Tenant) (answer : TurnEnd) → 1 ≤ q → t.open_calls ≢ [] → t.waiting_for ≡ None → Turn q s t answer s2 t2 → GetsOn t t2
from_nothing q s s2 t t2 answer some calls none (is_idle idle) = absurd (calls idle)
from_nothing q s s2 t t2 answer some calls none (has_ended there g leaves pins c) = ends (closed_longer c)
from_nothing q s s2 t t2 answer some calls none (has_no_fuel there g leaves pins) = comes_to_stand none (λ h. cc h)
from_nothing q s s2 t t2 answer some calls none (has_no_frame {k = k} {n = n} there g leaves pins) = comes_to_stand none (frame_stands (k + n) t.waiting_for none)
from_nothing q s s2 t t2 answer some calls none (can_go_on {e = e} {es = es} {k = k} {n = n} there g leaves pins fault) =
    let all = had_its_turn g refl in
    goes_further there (gone_further e k n, at_seam t.ended es (gone_further e k n), omega (arith, all, some))
from_nothing q s s2 t t2 answer some calls none (keeps_its_fault {fault = fault} there stands doing without next fuel ready) =
    absurd (none_is_fault fault t.waiting_for none stands)

-- ---- where it waited for a frame, and its step is ready

ready_by : (q : ℕ) (s : Space) (t : Tenant) (e : Entry) (need : Need) (d : Doing) → 1 ≤ q → t.doing ≡ d → Ready s t.place need
    → NextAsks t.inst (store_in s t) e.call d need → IsStepReady q s t e
ready_by q s t e need d some is ready (a_piece {p = p} {ps = ps}) = piece_is_ready is ready
ready_by q s t e need d some is ready (a_step {term = term} fuel next asks) =
    charge_is_ready is (stays, is_settled next) next fuel some
    (λ other a. subst (Ready s t.place) (one_need t.inst (config (store_in s t) [] term) need other asks a) ready)

step_is_ready : (w : World) (id : InstId) (t : Tenant) (q : ℕ) (e : Entry) (es : List Entry) → IsReached w → IsLive w id t → 1 ≤ q → t.open_calls ≡ e ∷ es
    → t.waiting_for ≡ Some for_frame → ((need : Need) → wants w.space id.place ≡ Some need → Ready w.space id.place need) → IsStepReady q w.space t e
step_is_ready w id t q e es r live some there stands ready =
    let duly : WaitsRightly w.space t = suspensions_are_right r.frames r.slots r.tax r.events w r.happen id.number t live.0 in
    let calls = subst (λ (xs : List Entry). FirstWaitsDuly t.inst (store_in w.space t) t.doing xs (wants w.space t.place) t.waiting_for) there duly in
    let frame = subst (λ (o : Option Suspension). FirstWaitsDuly t.inst (store_in w.space t) t.doing (e ∷ es) (wants w.space t.place) o) stands calls in
    let now = ready frame.0 (ap (wants w.space) (sym live.1) ∙ frame.1) in
    ready_by q w.space t e frame.0 t.doing some refl (subst (λ (p : ℕ). Ready w.space p frame.0) (sym live.1) now) frame.2

record First (calls : List Entry) : Type 0 where
  e : Entry
  es : List Entry
  is : calls ≡ e ∷ es

first_of : (calls : List Entry) → calls ≢ [] → First calls
first_of [] some = absurd (some refl)
first_of (e ∷ es) some = record { e = e; es = es; is = refl }

-- ---- whatever it stood for

turn_gets_on : (w : World) (id : InstId) (q : ℕ) (s2 : Space) (t t2 : Tenant) (answer : TurnEnd) → IsReached w → IsLive w id t → 1 ≤ q → CanGoOn t
    → (AwaitsFrame t → (need : Need) → wants w.space id.place ≡ Some need → Ready w.space id.place need) → Turn q w.space t answer s2 t2 → GetsOn t t2
turn_gets_on w id q s2 t t2 answer r live some can ready turned =
    ⊎_elim
    (λ (none : t.waiting_for ≡ None). from_nothing q w.space s2 t t2 answer some can.0 none turned)
    (λ (frame : t.waiting_for ≡ Some for_frame).
    (let first = first_of t.open_calls can.0 in
    goes_further first.is (ready_steps_are_taken q w.space s2 t t2 answer first.e first.es first.is
    (step_is_ready w id t q first.e first.es r live some first.is frame (ready frame)) turned)))
    can.1

pub turned_gets_on : (h : HostState) (id : InstId) (q : ℕ) → 1 ≤ q → MayGoOn h id → IsReadyFor h id → (w w2 : World) (answer : TurnEnd)
    → IsHost h w → IsReached w → IsTurn w id q answer w2 → EventGetsOn w (turn id q) w2
turned_gets_on h id q some goes ready w w2 answer st reached (of_none none) =
    let g = goes_in h w id st goes in absurd (none g.0 g.1)
turned_gets_on h id q some goes ready w w2 answer st reached (of_one {t = t} {t2 = t2} {s2 = s2} live turned) =
    let g = goes_in h w id st goes in
    let same : g.0 ≡ t = one_value g.0 t (sym g.1.0 ∙ live.0) in
    let within = some_within w.tenants id.number t live.0 in (
      t,
      t2,
      live,
      (get_or-set_same w.tenants id.number (Some t2) None within, (turn_stays q w.space s2 t t2 answer turned).place ∙ live.1),
      turn_gets_on w id q s2 t t2 answer reached live some (subst CanGoOn same g.2) (λ awaits. ready w st t live awaits) turned,
    )
