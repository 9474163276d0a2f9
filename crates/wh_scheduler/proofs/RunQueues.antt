-- Seats, one after the other.
use Rattle.std.proofs.Common.{◌≡◌, ◌∙◌, ◌⊎◌, ℕ, ◌+◌, false, true, List, Some, inl, inr, slice_get, sym, ap, arith}
use Rattle.std.proofs.lemmas.Bool.{cases_lt}
use Rattle.std.proofs.lemmas.Option.{same_Some}
use Rattle.wh_host.specs.Hosting.{HostState}
use Rattle.wh_host.specs.Paging.{IsGoing, Tells}
use Rattle.wh_scheduler.specs.declared.run_queue.QueueEntry.{QueueEntry}
use Rattle.wh_scheduler.specs.RunQueues.{OutOrDoneBetween, RestBetween}

-- one more that rests
pub rest_more : (h : HostState) (entries : List QueueEntry) (from at : ℕ) (entry : QueueEntry) → RestBetween h entries from at → slice_get entries at ≡ Some entry → (entry.is_dispatched ≡ false) × Tells h false (λ w. IsGoing w entry.id)
    → RestBetween h entries from (at + 1)
rest_more h entries from at entry rest there rests k s least most is =
    elim (cases_lt k at) [
      | inl before ↦ rest k s least before is
      | inr behind ↦
          (let same : k ≡ at = omega (arith, most, behind) in
          let one : entry ≡ s = same_Some entry s (sym there ∙ ap (λ z. slice_get entries z) (sym same) ∙ is) in
          rw (← one) rests)
    ]

-- one more that has a turn out or can't go on
pub out_or_done_more : (h : HostState) (entries : List QueueEntry) (from at : ℕ) (entry : QueueEntry) → OutOrDoneBetween h entries from at → slice_get entries at ≡ Some entry
    → (entry.is_dispatched ≡ true) ⊎ Tells h false (λ w. IsGoing w entry.id) → OutOrDoneBetween h entries from (at + 1)
out_or_done_more h entries from at entry all there one k s least most is =
    elim (cases_lt k at) [
      | inl before ↦ all k s least before is
      | inr behind ↦
          (let same : k ≡ at = omega (arith, most, behind) in
          let this : entry ≡ s = same_Some entry s (sym there ∙ ap (λ z. slice_get entries z) (sym same) ∙ is) in
          rw (← this) one)
    ]
