-- What came of a sweep.
use Rattle.std.specs.Prelude.{◌≡◌, ℕ, Bool, true, false}
use Rattle.wh_threads.specs.Counting.{HelperState}

-- Of a value and of a count it made these, if it was made at all; where it wasn't, both are as they were.
pub record HasSwept {J : Type 0} (sweeps : J → ℕ → J → ℕ → Type 0) (job : J) (from : ℕ) (is_done : Bool) (job2 : J)
    (helper : HelperState) : Type 0 where
  pub from_is : helper.from ≡ from
  pub done : is_done ≡ true → sweeps job from job2 helper.count
  pub none : is_done ≡ false → (job2 ≡ job) × (helper.count ≡ from)
