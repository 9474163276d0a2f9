-- The sums over the seats of workers, where one of them changes.
use Rattle.std.proofs.Common.{◌≡◌, ℕ, ◌+◌, ◌*◌, ◌^◌, ◌≤◌, List, Some, slice_get, slice_set}
use mathlib.Core.HLevel.{is_prop→PathP}
use Rattle.std.specs.Coded.{le_prop}
use Rattle.std.specs.List.{sum_by}
use Rattle.std.proofs.lemmas.List.Sums.{sum_by-set}
use Rattle.std.proofs.lemmas.Option.{get_or_from_slice_get, slice_get_within}
use Rattle.wh_threads.specs.Counting.{turns_of, charges_of}
use Rattle.wh_threads.specs.declared.tally.Tally.{Tally}

sum_by-seat : {X : Type 0} (f : X → ℕ) (xs : List X) (seat : ℕ) (x y : X) → slice_get xs seat ≡ Some x
    → sum_by f (slice_set xs seat y) + f x ≡ sum_by f xs + f y
sum_by-seat f xs seat x y at =
    let there = get_or_from_slice_get xs seat x x at in
    let set = sum_by-set f xs seat y x (slice_get_within xs seat x at) in
    rw there at set

pub turns_seat : (ts : List Tally) (seat : ℕ) (x y : Tally) → slice_get ts seat ≡ Some x
    → turns_of (slice_set ts seat y) + x.turns ≡ turns_of ts + y.turns
turns_seat ts seat x y at = sum_by-seat (λ t. t.turns) ts seat x y at

pub charges_seat : (ts : List Tally) (seat : ℕ) (x y : Tally) → slice_get ts seat ≡ Some x
    → charges_of (slice_set ts seat y) + x.charges ≡ charges_of ts + y.charges
charges_seat ts seat x y at = sum_by-seat (λ t. t.charges) ts seat x y at

-- two tallies of as many turns and charges are one
pub tally_same : (s t : Tally) → s.turns ≡ t.turns → s.charges ≡ t.charges → s ≡ t
tally_same s t turns charges i = record {
  turns = turns i;
  charges = charges i;
  few = is_prop→PathP (λ j. charges j ≤ turns j * 2 ^ 32) (λ j. le_prop) s.few t.few i;
}
