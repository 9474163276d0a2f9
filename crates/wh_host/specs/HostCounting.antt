-- What a host counts: how much each of its calls adds.
use Rattle.std.specs.Prelude.{◌≡◌, ℕ, ◌+◌, ◌-◌, ◌%◌, ◌^◌, List, [], ◌∷◌, drop, length, IfOk, Option, Some, None, Result, Ok, Err}
use Rattle.wh_journal.specs.Calls.{JournalCallState}
use Rattle.wh_journal.specs.declared.calls.CallEnd.{CallEnd}
use Rattle.wh_journal.specs.declared.calls.CallEnd.TheVariants.{Open, Returned, Trapped, Cancelled, Dead}
use Rattle.wh_host_model.specs.declared.plain.TurnEnd.{TurnEnd}
use Rattle.wh_host_model.specs.declared.plain.TurnEnd.TheVariants.{Idle}
use Rattle.wh_space_model.specs.declared.states.Offer.{Offer}
use Rattle.wh_space_model.specs.declared.states.Offer.TheVariants.{Merged}
use Rattle.wh_space_model.specs.declared.states.EvictEnd.{EvictEnd}
use Rattle.wh_space_model.specs.declared.states.EvictEnd.TheVariants as evict
use Rattle.wh_space_model.specs.declared.states.FetchEnd.{FetchEnd}
use Rattle.wh_space_model.specs.declared.states.FetchEnd.TheVariants as fetch
use Rattle.wh_space_model.specs.declared.plain.InstId.{InstId}
use Rattle.wh_space_model.specs.declared.plain.SwapError.{SwapError}
use Rattle.wh_space_model.specs.Parts.{Space}
use Rattle.wh_model.specs.declared.memory.Need.{Need}
use Rattle.wh_reclaim.specs.Providing.{HasMovedPages}
use Rattle.wh_scan.specs.Pass.{ScansAllMerging}
use Rattle.wh_host.specs.declared.counts.HostCounts.{HostCounts}
use Rattle.wh_host.specs.declared.parts.InstanceEntry.{InstanceEntry}
use Rattle.wh_host.specs.declared.rounds.Runner.{Runner}
use Rattle.wh_host.specs.declared.rounds.SeriesEnd.{SeriesEnd}
use Rattle.wh_host.specs.Hosting.{HostState, entry_at}
use Rattle.wh_host.specs.Reporting.{all_sharers}

-- so many more; from 2^64 - 1 it goes on to 0
abbrev pub counted_on : ℕ → ℕ → ℕ
counted_on n more = (n + more) % 2 ^ 64

-- nothing was counted yet
abbrev pub no_counts : HostCounts
no_counts = record {
  turns = 0;
  charges = 0;
  returned = 0;
  trapped = 0;
  cancelled = 0;
  dead = 0;
  offers = 0;
  merges = 0;
  breaks = 0;
  evictions = 0;
  fetches = 0;
  faults = 0;
}

-- ---- turns

-- with so many turns more, which took so many charges
abbrev pub with_turns : HostCounts → (turns charges : ℕ) → HostCounts
with_turns n turns charges =
    record n { turns = counted_on n.turns turns; charges = counted_on n.charges charges }

-- with a call more that has ended so
abbrev pub with_ended_call : HostCounts → CallEnd → HostCounts
with_ended_call n Open = n
with_ended_call n (Returned result) = record n { returned = counted_on n.returned 1 }
with_ended_call n (Trapped trap) = record n { trapped = counted_on n.trapped 1 }
with_ended_call n Cancelled = record n { cancelled = counted_on n.cancelled 1 }
with_ended_call n Dead = record n { dead = counted_on n.dead 1 }

-- with each of these
abbrev pub with_ended_calls : HostCounts → List JournalCallState → HostCounts
with_ended_calls n [] = n
with_ended_calls n (call ∷ calls) = with_ended_calls (with_ended_call n call.end) calls

-- with so many pages more that shared a frame until they were written
abbrev pub with_breaks : HostCounts → ℕ → HostCounts
with_breaks n breaks = record n { breaks = counted_on n.breaks breaks }

-- After a turn that was answered so and took so many charges, in which these calls ended, and so many pages left shared frames.
-- A turn that had nothing to do doesn't count.
abbrev pub after_turn : HostCounts → TurnEnd → (charges : ℕ) → List JournalCallState → (breaks : ℕ) → HostCounts
after_turn n Idle charges calls breaks = n
after_turn n end charges calls breaks = with_breaks (with_ended_calls (with_turns n 1 charges) calls) breaks

-- the calls of who has this place that have ended
abbrev pub ended_of : Option InstanceEntry → List JournalCallState
ended_of None = []
ended_of (Some x) = x.tenant.journal.ended

abbrev pub ended_at : List (Option InstanceEntry) → (place : ℕ) → List JournalCallState
ended_at rs place = ended_of (entry_at rs place)

-- those that ended between the one and the other
abbrev pub ended_meanwhile : List (Option InstanceEntry) → (place : ℕ) → List (Option InstanceEntry) → List JournalCallState
ended_meanwhile rs place rs2 = drop (length (ended_at rs place)) (ended_at rs2 place)

-- how many pages fewer share a frame
abbrev pub fewer_sharing : Space → Space → ℕ
fewer_sharing s s2 = all_sharers s - all_sharers s2

-- the counts after a turn of an instance that was answered so, and took so many charges
abbrev pub counts_after_turn : HostState → InstId → TurnEnd → (charges : ℕ) → HostState → HostCounts
counts_after_turn h id end charges h2 =
    after_turn h.counts end charges (ended_meanwhile h.entries id.place h2.entries) (fewer_sharing h.space h2.space)

-- the counts after a call of an instance was cancelled: it has ended, and where it was a start, those after it too
abbrev pub counts_after_cancel : HostState → InstId → HostState → HostCounts
counts_after_cancel h id h2 = with_ended_calls h.counts (ended_meanwhile h.entries id.place h2.entries)

-- ---- rounds

-- with consecutive turns more, if there were any, in which these calls ended
abbrev pub with_series : HostCounts → Option SeriesEnd → List JournalCallState → HostCounts
with_series n None calls = n
with_series n (Some made) calls = with_ended_calls (with_turns n made.turns made.charges) calls

-- with those of each of these runners
abbrev pub with_all_series : (rs rs2 : List (Option InstanceEntry)) → HostCounts → List Runner → HostCounts
with_all_series rs rs2 n [] = n
with_all_series rs rs2 n (y ∷ ys) =
    with_all_series rs rs2 (with_series n y.answer (ended_meanwhile rs y.id.place rs2)) ys

-- the same by how many calls each runner has noted as ended before
abbrev pub with_series_of : List (Option InstanceEntry) → HostCounts → List Runner → HostCounts
with_series_of rs n [] = n
with_series_of rs n (y ∷ ys) = with_series_of rs (with_series n y.answer (drop y.ended (ended_at rs y.id.place))) ys

-- the counts after a round of these runners
abbrev pub counts_after_round : HostState → List Runner → HostState → HostCounts
counts_after_round h ys h2 =
    with_breaks (with_all_series h.entries h2.entries h.counts ys) (fewer_sharing h.space h2.space)

-- ---- sharing

-- with an offer more that was answered so
abbrev pub with_offer : HostCounts → Offer → HostCounts
with_offer n Merged = record n { offers = counted_on n.offers 1; merges = counted_on n.merges 1 }
with_offer n answer = record n { offers = counted_on n.offers 1 }

-- with so many offers more, of which so many were answered by `Merged`
abbrev pub with_scan : HostCounts → (offered merged : ℕ) → HostCounts
with_scan n offered merged =
    record n { offers = counted_on n.offers offered; merges = counted_on n.merges merged }

-- a pass under this hash over all pages counts, in which so many were offered
abbrev pub CountsScan : (List ℕ → ℕ) → HostState → (offered : ℕ) → HostState → Type 0
CountsScan hashes h offered h2 =
    (merged : ℕ) × ScansAllMerging hashes h.space merged h2.space × (h2.counts ≡ with_scan h.counts offered merged)

-- ---- the swap device

-- with so many pages more that have left and that have come
abbrev pub with_moves : HostCounts → (left came : ℕ) → HostCounts
with_moves n left came =
    record n { evictions = counted_on n.evictions left; fetches = counted_on n.fetches came }

-- with a fault more
abbrev pub with_fault : HostCounts → HostCounts
with_fault n = record n { faults = counted_on n.faults 1 }

-- with a provision more that ended so, in which so many pages have left and come
abbrev pub with_provision : HostCounts → (left came : ℕ) → Result ℕ SwapError → HostCounts
with_provision n left came (Ok evicted) = with_moves n left came
with_provision n left came (Err fault) = with_fault (with_moves n left came)

-- Whatever it waits for, a provision that ended so adds to no count but those of pages that move and of faults; where it ended
-- well, not to that of faults.
abbrev pub AddsMovesAlone : HostCounts → Result ℕ SwapError → HostCounts → Type 0
AddsMovesAlone n (Ok evicted) n2 = n2 ≡ record n { evictions = n2.evictions; fetches = n2.fetches }
AddsMovesAlone n (Err fault) n2 = n2 ≡ record n { evictions = n2.evictions; fetches = n2.fetches; faults = n2.faults }

-- a provision for these bytes counts, where it ended so: with what has moved before a fault, if there was one
abbrev pub CountsProvision : HostState → InstId → Need → Result ℕ SwapError → HostState → Type 0
CountsProvision h id need end h2 =
    (left came : ℕ) × HasMovedPages h.space id.place need left came h2.space × IfOk end (λ evicted. left ≡ evicted)
    × (h2.counts ≡ with_provision h.counts left came end)

-- with an eviction more that ended so
abbrev pub with_evict_end : HostCounts → EvictEnd → HostCounts
with_evict_end n evict.Evicted = record n { evictions = counted_on n.evictions 1 }
with_evict_end n evict.Failed = with_fault n
with_evict_end n evict.Void = n

-- with a fetch more that ended so
abbrev pub with_fetch_end : HostCounts → FetchEnd → HostCounts
with_fetch_end n fetch.Fetched = record n { fetches = counted_on n.fetches 1 }
with_fetch_end n fetch.Failed = with_fault n
with_fetch_end n fetch.Void = n
