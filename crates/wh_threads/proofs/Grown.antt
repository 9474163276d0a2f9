-- The counts of workers that have returned.
use Rattle.std.proofs.Common.{◌≡◌, ℕ, ◌+◌, List, ◌++◌, Some, slice_get, slice_set, ap, sym, ◌∙◌, arith}
use Rattle.std.proofs.lemmas.List.{set-get_or}
use Rattle.std.proofs.lemmas.List.Sums.{sum_by-append}
use Rattle.std.proofs.lemmas.Option.{get_or_from_slice_get}
use Rattle.wh_threads.specs.Counting.{ThreadCountsState, turns_of}
use Rattle.wh_threads.specs.Handover.{message_turns, turns_in}
use Rattle.wh_threads.specs.declared.channel.Message.{Message}
use Rattle.wh_threads.specs.declared.tally.Tally.{Tally}
use Rattle.wh_threads.proofs.Tallies.{turns_seat}

-- a worker's turns grow by those that it received
pub worker_grew : (was now : List Tally) (seat : ℕ) (from tally : Tally) (had got all : List Message)
    → slice_get was seat ≡ Some from → now ≡ slice_set was seat tally → tally.turns ≡ from.turns + turns_in got
    → all ≡ had ++ got → turns_of now + turns_in had ≡ turns_of was + turns_in all
worker_grew was now seat from tally had got all at set ran is = omega (
  arith,
  ap turns_of set,
  ap turns_in is,
  ran,
  turns_seat was seat from tally at,
  sum_by-append message_turns had got,
)

-- what stands at a place already, put there, changes nothing
put_again : {X : Type 0} (xs : List X) (seat : ℕ) (x : X) → slice_get xs seat ≡ Some x → slice_set xs seat x ≡ xs
put_again xs seat x at =
    ap (λ y. slice_set xs seat y) (sym (get_or_from_slice_get xs seat x x at)) ∙ set-get_or xs seat x

-- a worker that has counted nothing is back
pub back_idle : (was now : ThreadCountsState) (seat : ℕ) (from tally : Tally) → slice_get was.tallies seat ≡ Some from
    → tally ≡ from
    → now ≡ record was { tallies = slice_set was.tallies seat tally; workers_out = now.workers_out }
    → now ≡ record was { workers_out = now.workers_out }
back_idle was now seat from tally at idle is =
    let same = put_again was.tallies seat from at in
    is ∙ rw idle (λ i. record was { tallies = same i; workers_out = now.workers_out })

-- one worker more is out
pub one_more_out : (was mid now : ThreadCountsState) (count : ℕ) → mid ≡ record was { workers_out = count }
    → now ≡ record mid { workers_out = mid.workers_out + 1 } → now ≡ record was { workers_out = count + 1 }
one_more_out was mid now count is next = next ∙ (λ i. record (is i) { workers_out = (is i).workers_out + 1 })
