-- What was counted, by what the code's host has kept.
use Rattle.std.proofs.Common.{⊎_elim, ◌≡◌, ◌∙◌, ℕ, zero, suc, ◌+◌, ◌<◌, ◌≤◌, false, List, [], ◌∷◌, drop, length, Option, Some, None, slice_get, slice_set, refl, sym, ap, subst, Result, arith}
use Rattle.std.specs.Prelude.{IfOk}
use Rattle.wh_model.specs.declared.memory.Need.{Need}
use Rattle.wh_space_model.specs.declared.plain.SwapError.{SwapError}
use Rattle.wh_reclaim.specs.Providing.{HasMovedPages}
use Rattle.std.proofs.Math.Seq.{drop-nil}
use Rattle.wh_space_model.specs.{Space}
use Rattle.wh_space_model.specs.declared.plain.InstId.{InstId}
use Rattle.wh_host_model.specs.declared.plain.TurnEnd.{TurnEnd}
use Rattle.wh_host_model.specs.Host.{World}
use Rattle.wh_journal.specs.Calls.{JournalCallState}
use Rattle.wh_instance.specs.Tenancy.{HostInstanceState}
use Rattle.wh_host.specs.declared.counts.HostCounts.{HostCounts}
use Rattle.wh_host.specs.declared.parts.LoadedModule.{LoadedModule}
use Rattle.wh_host.specs.declared.parts.InstanceEntry.{InstanceEntry}
use Rattle.wh_host.specs.declared.rounds.Runner.{Runner}
use Rattle.wh_host.specs.declared.rounds.SeriesEnd.{SeriesEnd}
use Rattle.wh_host.specs.Hosting.{HostState, IsHost, entry_at}
use Rattle.wh_host.specs.Joining.{HasAnswer}
use Rattle.wh_host.specs.Rounds.{AllRun, AreTakenOut, IsFree, SitsThere}
use Rattle.wh_host.specs.HostCounting.{CountsProvision, after_turn, counts_after_cancel, counts_after_round, counts_after_turn, ended_at, ended_meanwhile, ended_of, fewer_sharing, with_all_series, with_breaks, with_ended_call, with_ended_calls, with_provision, with_series, with_series_of}
use Rattle.wh_host.proofs.Hosts.{seat_set}
use Rattle.wh_host.proofs.RunnerLists.{taken_or}

-- whatever it has counted it stands for the same host
pub whatever_counted : (h : HostState) (w : World) (n : HostCounts) → IsHost h w → IsHost (record h { counts = n }) w
whatever_counted h w n st = record {
  comes = st.comes;
  modules = st.modules;
  space = st.space;
  live = st.live;
  next = st.next;
  next_module = st.next_module;
  there = st.there;
  all = st.all;
}

-- ---- calls

call_there : (xs : List JournalCallState) (at : ℕ) → at < length xs → (call : JournalCallState) × (slice_get xs at ≡ Some call)
call_there [] at less = absurd (omega (arith, less))
call_there (x ∷ xs) zero less = (x, refl)
call_there (x ∷ xs) (suc at) less = call_there xs at (omega (arith, less))

one_call_on : (n : HostCounts) (xs : List JournalCallState) (at : ℕ) (call : JournalCallState) → slice_get xs at ≡ Some call → with_ended_calls n (drop at xs) ≡ with_ended_calls (with_ended_call n call.end) (drop (at + 1) xs)
one_call_on n [] at call there = absurd (cc there)
one_call_on n (x ∷ xs) zero call there = let same : x ≡ call = cc there in ap (λ (z : JournalCallState). with_ended_calls (with_ended_call n z.end) xs) same
one_call_on n (x ∷ xs) (suc at) call there =
    let e : suc at + 1 ≡ suc (at + 1) = omega arith in
    one_call_on n xs at call there ∙ ap (λ k. with_ended_calls (with_ended_call n call.end) (drop k (x ∷ xs))) (sym e)

-- the next call that has ended is counted
pub call_counted : (n n2 : HostCounts) (xs : List JournalCallState) (at : ℕ) (first : HostCounts) → at < length xs → ((call : JournalCallState) → slice_get xs at ≡ Some call → n2 ≡ with_ended_call n call.end) → with_ended_calls n (drop at xs) ≡ first → with_ended_calls n2 (drop (at + 1) xs) ≡ first
call_counted n n2 xs at first less one before =
    let there = call_there xs at less in
    ap (λ z. with_ended_calls z (drop (at + 1) xs)) (one there.0 there.1) ∙ sym (one_call_on n xs at there.0 there.1) ∙ before

drop_past : (xs : List JournalCallState) (at : ℕ) → length xs ≤ at → drop at xs ≡ []
drop_past [] at past = drop-nil at
drop_past (x ∷ xs) zero past = absurd (omega (arith, past))
drop_past (x ∷ xs) (suc at) past = drop_past xs at (omega (arith, past))

pub calls_counted : (n : HostCounts) (xs : List JournalCallState) (at : ℕ) (first : HostCounts) → length xs ≤ at → with_ended_calls n (drop at xs) ≡ first → n ≡ first
calls_counted n xs at first past is = ap (with_ended_calls n) (sym (drop_past xs at past)) ∙ is

-- ---- turns

-- the calls that have ended at a place before and after who is there has changed
before_after : (rs : List (Option InstanceEntry)) (place before : ℕ) (x : InstanceEntry) (z : HostInstanceState) → entry_at rs place ≡ Some x → before ≡ length x.tenant.journal.ended → drop before z.journal.ended ≡ ended_meanwhile rs place (slice_set rs place (Some (record x { tenant = z })))
before_after rs place before x z at noted =
    ap (λ k. drop k z.journal.ended) (noted ∙ sym (ap (λ o. length (ended_of o)) at))
    ∙ ap (λ o. drop (length (ended_at rs place)) (ended_of o)) (sym (seat_set rs place x (Some (record x { tenant = z })) at).0)

pub turn_counted : (h : HostState) (id : InstId) (x : InstanceEntry) (z : HostInstanceState) (end : TurnEnd) (charges : ℕ) (s2 : Space) (before breaks : ℕ) (n2 : HostCounts) → entry_at h.entries id.place ≡ Some x → before ≡ length x.tenant.journal.ended → breaks ≡ fewer_sharing h.space s2 → n2 ≡ after_turn h.counts end charges (drop before z.journal.ended) breaks
    → n2 ≡ counts_after_turn h id end charges (record h { entries = slice_set h.entries id.place (Some (record x { tenant = z })); space = s2; counts = n2 })
turn_counted h id x z end charges s2 before breaks n2 at noted fewer is =
    is ∙ ap (λ calls. after_turn h.counts end charges calls breaks) (before_after h.entries id.place before x z at noted)
    ∙ ap (after_turn h.counts end charges (ended_meanwhile h.entries id.place (slice_set h.entries id.place (Some (record x { tenant = z }))))) fewer

pub cancel_counted : (h : HostState) (id : InstId) (x : InstanceEntry) (z : HostInstanceState) (s2 : Space) (before : ℕ) (n2 : HostCounts) → entry_at h.entries id.place ≡ Some x → before ≡ length x.tenant.journal.ended → n2 ≡ with_ended_calls h.counts (drop before z.journal.ended)
    → n2 ≡ counts_after_cancel h id (record h { entries = slice_set h.entries id.place (Some (record x { tenant = z })); space = s2; counts = n2 })
cancel_counted h id x z s2 before n2 at noted is = is ∙ ap (with_ended_calls h.counts) (before_after h.entries id.place before x z at noted)

-- ---- rounds

one_runner_on : (rs : List (Option InstanceEntry)) (n : HostCounts) (ys : List Runner) (at : ℕ) (y : Runner) → slice_get ys at ≡ Some y → with_series_of rs n (drop at ys) ≡ with_series_of rs (with_series n y.answer (drop y.ended (ended_at rs y.id.place))) (drop (at + 1) ys)
one_runner_on rs n [] at y there = absurd (cc there)
one_runner_on rs n (x ∷ xs) zero y there = let same : x ≡ y = cc there in ap (λ (z : Runner). with_series_of rs (with_series n z.answer (drop z.ended (ended_at rs z.id.place))) xs) same
one_runner_on rs n (x ∷ xs) (suc at) y there =
    let e : suc at + 1 ≡ suc (at + 1) = omega arith in
    one_runner_on rs n xs at y there ∙ ap (λ k. with_series_of rs (with_series n y.answer (drop y.ended (ended_at rs y.id.place))) (drop k (x ∷ xs))) (sym e)

-- the next runner's turns are counted
pub runner_counted : (rs : List (Option InstanceEntry)) (n n2 : HostCounts) (ys : List Runner) (at : ℕ) (y : Runner) (first : HostCounts) → slice_get ys at ≡ Some y → n2 ≡ with_series n y.answer (drop y.ended (ended_at rs y.id.place)) → with_series_of rs n (drop at ys) ≡ first → with_series_of rs n2 (drop (at + 1) ys) ≡ first
runner_counted rs n n2 ys at y first there one before =
    ap (λ z. with_series_of rs z (drop (at + 1) ys)) one ∙ sym (one_runner_on rs n ys at y there) ∙ before

no_runner_past : (ys : List Runner) (at : ℕ) → length ys ≤ at → drop at ys ≡ []
no_runner_past [] at past = drop-nil at
no_runner_past (x ∷ xs) zero past = absurd (omega (arith, past))
no_runner_past (x ∷ xs) (suc at) past = no_runner_past xs at (omega (arith, past))

pub runners_counted : (rs : List (Option InstanceEntry)) (n : HostCounts) (ys : List Runner) (at : ℕ) (first : HostCounts) → length ys ≤ at → with_series_of rs n (drop at ys) ≡ first → n ≡ first
runners_counted rs n ys at first past is = ap (with_series_of rs n) (sym (no_runner_past ys at past)) ∙ is

-- where each runner that had turns has noted how many calls of its instance had ended before
series_counted : (rs rs2 : List (Option InstanceEntry)) (n : HostCounts) (ys : List Runner) → ((k : ℕ) (y : Runner) (made : SeriesEnd) → slice_get ys k ≡ Some y → y.answer ≡ Some made → y.ended ≡ length (ended_at rs y.id.place)) → with_series_of rs2 n ys ≡ with_all_series rs rs2 n ys
series_counted rs rs2 n [] noted = refl
series_counted rs rs2 n (y ∷ ys) noted =
    series_counted rs rs2 (with_series n y.answer (drop y.ended (ended_at rs2 y.id.place))) ys (λ k z made there is. noted (suc k) z made there is)
    ∙ ap (λ m. with_all_series rs rs2 m ys) (one y.answer (λ made is. noted 0 y made refl is))
  where
    one : (a : Option SeriesEnd) → ((made : SeriesEnd) → a ≡ Some made → y.ended ≡ length (ended_at rs y.id.place)) → with_series n a (drop y.ended (ended_at rs2 y.id.place)) ≡ with_series n a (ended_meanwhile rs y.id.place rs2)
    one None is = refl
    one (Some made) is = ap (λ k. with_series n (Some made) (drop k (ended_at rs2 y.id.place))) (is made refl)

pub noted_all : (rs F : List (Option InstanceEntry)) (modules : List (Option LoadedModule)) (s : Space) (q most : ℕ) (ys ys2 ys3 : List Runner) → AreTakenOut rs F ys SitsThere → ((k : ℕ) (y : Runner) → slice_get ys k ≡ Some y → y.taken ≡ false → IsFree y × (y.answer ≡ None)) → AllRun modules s q most ys ys2
    → ((k : ℕ) (y3 : Runner) → slice_get ys3 k ≡ Some y3 → (y2 : Runner) × (slice_get ys2 k ≡ Some y2) × HasAnswer y2 y3)
    → (k : ℕ) (y3 : Runner) (made : SeriesEnd) → slice_get ys3 k ≡ Some y3 → y3.answer ≡ Some made → y3.ended ≡ length (ended_at rs y3.id.place)
noted_all rs F modules s q most ys ys2 ys3 out rest all answers k y3 made there told =
    let a = answers k y3 there in
    let r = all k a.0 a.1 in
    let y = r.0 in
    let runs = r.2 in
    let same : y3.id ≡ y.id = a.2.0 ∙ runs.id in
    ⊎_elim
    (λ sits.
    (let o = out.each k y r.1 sits in
    let so = o.so in
    a.2.3 ∙ runs.ended ∙ so.3 ∙ sym (ap (λ e. length (ended_of e)) o.was) ∙ ap (λ (i : InstId). length (ended_at rs i.place)) (sym same)))
    (λ gone.
    (let free = rest k y r.1 gone in
    let bad : None ≡ Some made = sym free.1 ∙ sym runs.answer ∙ sym (a.2.2 (runs.taken ∙ gone)) ∙ told in
    absurd (cc bad)))
    (taken_or y)

pub round_counted : (h : HostState) (rs2 : List (Option InstanceEntry)) (s2 : Space) (ys : List Runner) (n n2 : HostCounts) (breaks : ℕ) → ((k : ℕ) (y : Runner) (made : SeriesEnd) → slice_get ys k ≡ Some y → y.answer ≡ Some made → y.ended ≡ length (ended_at h.entries y.id.place)) → n ≡ with_series_of rs2 h.counts ys → breaks ≡ fewer_sharing h.space s2 → n2 ≡ with_breaks n breaks
    → n2 ≡ counts_after_round h ys (record h { entries = rs2; space = s2; counts = n2 })
round_counted h rs2 s2 ys n n2 breaks noted series fewer is =
    is ∙ ap (λ z. with_breaks z breaks) (series ∙ series_counted h.entries rs2 h.counts ys noted) ∙ ap (with_breaks (with_all_series h.entries rs2 h.counts ys)) fewer

-- ---- provisions

pub provision_counted : (h h1 : HostState) (id : InstId) (need : Need) (end : Result ℕ SwapError) (rs2 : List (Option InstanceEntry)) (s2 : Space) (n2 : HostCounts) (left came : ℕ) → h ≡ h1 → HasMovedPages h.space id.place need left came s2 → IfOk end (λ evicted. left ≡ evicted) → n2 ≡ with_provision h.counts left came end
    → CountsProvision h1 id need end (record h { entries = rs2; space = s2; counts = n2 })
provision_counted h h1 id need end rs2 s2 n2 left came same moved evicted is =
    subst (λ (z : HostState). CountsProvision z id need end (record h { entries = rs2; space = s2; counts = n2 })) same (left, came, moved, evicted, is)
