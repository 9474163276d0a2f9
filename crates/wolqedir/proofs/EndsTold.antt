-- Of each call that has ended something is told.
use Rattle.std.proofs.Common.{◌≡◌, ◌≢◌, ◌+◌, ◌<◌, ◌⊎◌, ⊎_elim, ℕ, zero, suc, List, [], ◌∷◌, ◌++◌, length, slice_get, slice_set, Some, None, sym, subst, ◌∙◌, arith}
use Rattle.std.proofs.lemmas.Bool.{cases_order}
use Rattle.std.proofs.lemmas.List.{length-append, length-set}
use Rattle.wh_space_model.specs.declared.plain.InstId.{InstId}
use Rattle.wh_space_model.proofs.Putting.{set_other, set_same}
use Rattle.wh_host_model.specs.Host.{journal}
use Rattle.wh_host_model.proofs.Host.Holding.{journals_are_in_order}
use Rattle.wh_host.specs.Hosting.{HostState}
use Rattle.wh_host.specs.Telling.{CountsEnded, TellsOf}
use Rattle.wh_hand.specs.HandStates.{IsSoundByEvents}
use Rattle.wolqedir.specs.declared.shapes.RawStatus.{RawStatus}
use Rattle.wolqedir.specs.LiveContracts.{HasStatuses, IsShownAt}

-- a call at this place has ended
abbrev pub HasEndedAt : HostState → InstId → ℕ → Type 0
HasEndedAt h id at = (ended : ℕ) × CountsEnded h id (Some ended) × (at < ended)

-- so many calls has no journal
pub few_ended : (h : HostState) (id : InstId) (at : ℕ) → IsSoundByEvents h → HasEndedAt h id at → at < 65536
few_ended h id at sound (ended, counts, less) =
    let led = sound.led in
    let run = led.2 in
    let who = counts led.0 led.1 in
    let t = who.0 in
    let few = (journals_are_in_order run.frames run.slots run.tax run.events led.0 run.happen id.number t who.1.0).few in
    let all : length (journal t) ≡ length t.ended + length t.open_calls = length-append t.ended t.open_calls in
    let many = who.2 in
    omega (arith, few, all, many, less)

first_there : {A : Type 0} (xs ys : List A) (i : ℕ) → i < length xs → slice_get (xs ++ ys) i ≢ None
first_there [] ys i less none = absurd (omega (arith, less))
first_there (x ∷ xs) ys zero less none = absurd (cc none)
first_there (x ∷ xs) ys (suc i) less none = first_there xs ys i (omega (arith, less)) none

-- and it is there
pub ended_told : (h : HostState) (id : InstId) (at : ℕ) → IsSoundByEvents h → HasEndedAt h id at → TellsOf h id at None → ⊥
ended_told h id at sound (ended, counts, less) none =
    let led = sound.led in
    let who = counts led.0 led.1 in
    let t = who.0 in
    let many = who.2 in
    first_there t.ended t.open_calls at (omega (arith, many, less)) (none led.0 led.1 t who.1)

-- one more is told behind those that were
pub one_more_told : (h : HostState) (id : InstId) (from n : ℕ) (room room2 : List RawStatus) (status : RawStatus) → HasStatuses h id from n room room2 → n < length room2 → IsShownAt h id (from + n) status
    → HasStatuses h id from (n + 1) room (slice_set room2 n status)
one_more_told h id from n room room2 status has less is = record {
  as_long = length-set room2 n status ∙ has.as_long;
  told = λ i below. ⊎_elim
      (λ (same : i ≡ n). (status, subst (λ k. slice_get (slice_set room2 n status) k ≡ Some status) (sym same) (set_same room2 n status less), subst (λ k. IsShownAt h id (from + k) status) (sym same) is))
      (λ (other : (i < n) ⊎ (n < i)). ⊎_elim
      (λ (earlier : i < n). let was = has.told i earlier in (was.0, set_other room2 n i status (λ same. let e : i ≡ n = same in absurd (omega (arith, earlier, e))) ∙ was.1, was.2))
      (λ (later : n < i). absurd (omega (arith, later, below))) other)
      (cases_order i n);
  rest = λ i past. set_other room2 n i status (λ same. let e : i ≡ n = same in absurd (omega (arith, past, e))) ∙ has.rest i (omega (arith, past));
}
