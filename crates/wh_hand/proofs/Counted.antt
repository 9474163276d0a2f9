-- What the parts of a run count, put together.
use Rattle.std.proofs.Common.{◌≡◌, ◌≢◌, ◌≤◌, ◌+◌, ◌-◌, ◌++◌, ℕ, List, [], ◌∷◌, Option, None, Some, Result, Ok, Err, refl, sym, ap, subst, ◌∙◌, arith}
use Rattle.std.specs.Prelude.{IfNone, IfSome}
use Rattle.wh_journal.specs.Calls.{JournalCallState}
use Rattle.wh_journal.specs.declared.calls.CallEnd.{CallEnd}
use Rattle.wh_journal.specs.declared.calls.CallEnd.TheVariants.{Open, Returned, Trapped, Cancelled, Dead}
use Rattle.wh_space_model.specs.declared.plain.InstId.{InstId}
use Rattle.wh_space_model.specs.declared.plain.SwapError.{SwapError}
use Rattle.wh_space_model.specs.declared.states.Offer.{Offer}
use Rattle.wh_space_model.specs.declared.states.Offer.TheVariants as offer
use Rattle.wh_host_model.specs.declared.plain.TurnEnd.{TurnEnd}
use Rattle.wh_host_model.specs.declared.plain.TurnEnd.TheVariants as end
use Rattle.wh_space_model.specs.Parts.{Space}
use Rattle.wh_host_model.specs.Host.{Tenant, World, IsTurn, of_none, of_one, Turn, is_idle, has_ended, has_no_fuel, has_no_frame, can_go_on, keeps_its_fault, CanGoOn}
use Rattle.wh_swap.specs.DeviceCalls.{call_faults}
use Rattle.wh_host.specs.declared.counts.HostCounts.{HostCounts}
use Rattle.wh_host.specs.HostCounting.{AddsMovesAlone, after_turn, with_ended_call, with_ended_calls, with_offer, with_turns}
use Rattle.wh_host.specs.Hosting.{HostState, IsHost}
use Rattle.wh_host.specs.Paging.{IsGoing}
use Rattle.wh_host.proofs.Hosts.{one_value}
use Rattle.wh_host.specs.Series.{HasSpent}
use Rattle.wh_hand.specs.Lining.{MayGoOn}
use Rattle.wh_hand.specs.RunCounting.{CountsRun}

pub counts_itself : (n : HostCounts) → CountsRun n 0 n
counts_itself n = record { charged = omega arith; faults = refl }

pub counts_both : (n n2 n3 : HostCounts) (a b : ℕ) → CountsRun n a n2 → CountsRun n2 b n3 → CountsRun n (a + b) n3
counts_both n n2 n3 a b x y = record {
  charged = (let p = x.charged in let q = y.charged in omega (arith, p, q));
  faults = y.faults ∙ x.faults;
}

-- ---- a turn

call_keeps : (n : HostCounts) (e : CallEnd) → ((with_ended_call n e).charges ≡ n.charges) × ((with_ended_call n e).faults ≡ n.faults)
call_keeps n Open = (refl, refl)
call_keeps n (Returned result) = (refl, refl)
call_keeps n (Trapped trap) = (refl, refl)
call_keeps n Cancelled = (refl, refl)
call_keeps n Dead = (refl, refl)

calls_keep : (n : HostCounts) (calls : List JournalCallState) → ((with_ended_calls n calls).charges ≡ n.charges) × ((with_ended_calls n calls).faults ≡ n.faults)
calls_keep n [] = (refl, refl)
calls_keep n (call ∷ calls) =
    let one = call_keeps n call.end in
    let all = calls_keep (with_ended_call n call.end) calls in
    (all.0 ∙ one.0, all.1 ∙ one.1)

did_turn : (n : HostCounts) (charges : ℕ) (calls : List JournalCallState) (n2 : HostCounts)
    → n2.charges ≡ (with_ended_calls (with_turns n 1 charges) calls).charges → n2.faults ≡ (with_ended_calls (with_turns n 1 charges) calls).faults → CountsRun n charges n2
did_turn n charges calls n2 taken faults =
    let kept = calls_keep (with_turns n 1 charges) calls in
    let same = taken ∙ kept.0 in
    record { charged = omega (arith, same); faults = faults ∙ kept.1 }

-- an instance with an open call finds something to do
turn_works : (q : ℕ) (s s2 : Space) (t t2 : Tenant) (answer : TurnEnd) → t.open_calls ≢ [] → Turn q s t answer s2 t2 → answer ≢ end.Idle
turn_works q s s2 t t2 answer calls (is_idle idle) = absurd (calls idle)
turn_works q s s2 t t2 answer calls (has_ended there g leaves pins c) = λ is. cc is
turn_works q s s2 t t2 answer calls (has_no_fuel there g leaves pins) = λ is. cc is
turn_works q s s2 t t2 answer calls (has_no_frame there g leaves pins) = λ is. cc is
turn_works q s s2 t t2 answer calls (can_go_on there g leaves pins fault) = λ is. cc is
turn_works q s s2 t t2 answer calls (keeps_its_fault there fault doing zero next few ready) = λ is. cc is

going_works : (w w2 : World) (id : InstId) (q : ℕ) (answer : TurnEnd) → IsGoing w id → IsTurn w id q answer w2 → answer ≢ end.Idle
going_works w w2 id q answer goes (of_none none) = absurd (none goes.0 goes.1)
going_works w w2 id q answer goes (of_one {t = t} {t2 = t2} {s2 = s2} live turned) =
    let same : goes.0 ≡ t = one_value goes.0 t (sym goes.1.0 ∙ live.0) in
    turn_works q w.space s2 t t2 answer (subst CanGoOn same goes.2).0 turned

pub is_no_idle : (h h2 : HostState) (id : InstId) (q n : ℕ) (answer : TurnEnd) → MayGoOn h id
    → ((w : World) → IsHost h w → (w2 : World) × IsTurn w id q answer w2 × HasSpent w id n w2 × IsHost h2 w2) → answer ≢ end.Idle
is_no_idle h h2 id q n answer goes turns =
    let turned = turns goes.0 goes.1 in
    going_works goes.0 turned.0 id q answer goes.2 turned.1

-- a turn that found something to do
pub counts_turned : (n : HostCounts) (answer : TurnEnd) (charges : ℕ) (calls : List JournalCallState) (breaks : ℕ) → answer ≢ end.Idle
    → CountsRun n charges (after_turn n answer charges calls breaks)
counts_turned n end.Idle charges calls breaks some = absurd (some refl)
counts_turned n end.Ended charges calls breaks some = did_turn n charges calls _ refl refl
counts_turned n end.Again charges calls breaks some = did_turn n charges calls _ refl refl
counts_turned n end.Fuel charges calls breaks some = did_turn n charges calls _ refl refl
counts_turned n end.Frame charges calls breaks some = did_turn n charges calls _ refl refl

-- ---- pages that move

pub counts_provided : (n n2 : HostCounts) (result : Result ℕ SwapError) → [] ≡ call_faults result ++ [] → AddsMovesAlone n result n2 → CountsRun n 0 n2
counts_provided n n2 (Ok evicted) none adds = record {
  charged = (let same = ap (λ (z : HostCounts). z.charges) adds in omega (arith, same));
  faults = ap (λ (z : HostCounts). z.faults) adds;
}
counts_provided n n2 (Err fault) none adds = absurd (let bad : [] ≡ fault ∷ [] = none in cc bad)

offered : (n : HostCounts) (answer : Offer) → CountsRun n 0 (with_offer n answer)
offered n offer.Skipped = record { charged = omega arith; faults = refl }
offered n offer.Zeroed = record { charged = omega arith; faults = refl }
offered n offer.Hinted = record { charged = omega arith; faults = refl }
offered n offer.Stale = record { charged = omega arith; faults = refl }
offered n offer.Merged = record { charged = omega arith; faults = refl }
offered n offer.FalseMatch = record { charged = omega arith; faults = refl }

pub counts_offered : (h h2 : HostState) (P : Type 0) (result : Option Offer) → IfSome result (λ answer. h2.counts ≡ with_offer h.counts answer)
    → IfNone result (P × (h2 ≡ h)) → CountsRun h.counts 0 h2.counts
counts_offered h h2 P None counts none = subst (λ (z : HostState). CountsRun h.counts 0 z.counts) (sym none.1) (counts_itself h.counts)
counts_offered h h2 P (Some answer) counts none = subst (λ z. CountsRun h.counts 0 z) (sym counts) (offered h.counts answer)

pub counts_same : (n n2 : HostCounts) → n2 ≡ n → CountsRun n 0 n2
counts_same n n2 same = subst (λ z. CountsRun n 0 z) (sym same) (counts_itself n)

-- ---- turns one after the other

pub counts_three : (a b c d : HostCounts) (n : ℕ) → CountsRun a 0 b → CountsRun b n c → CountsRun c 0 d → CountsRun a n d
counts_three a b c d n x y z =
    let all : CountsRun a (0 + n + 0) d = counts_both a c d (0 + n) 0 (counts_both a b c 0 n x y) z in
    let same : 0 + n + 0 ≡ n = omega arith in
    subst (λ k. CountsRun a k d) same all

pub counts_more : (a b c : HostCounts) (given left taken : ℕ) → left ≤ given → taken ≤ left → CountsRun a (given - left) b → CountsRun b taken c
    → CountsRun a (given - (left - taken)) c
counts_more a b c given left taken few within x y =
    let same : given - left + taken ≡ given - (left - taken) = omega (arith, few, within) in
    subst (λ k. CountsRun a k c) same (counts_both a b c (given - left) taken x y)
