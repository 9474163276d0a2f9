-- What a round took, and who has received its turns.
use Rattle.std.specs.Prelude.{◌≡◌, ℕ, ◌-◌, ◌*◌, ◌^◌, ◌<◌, ◌≤◌, List, Option, Some, None, length, slice_get, sum_by}
use Rattle.wh_threads.specs.Working.{ReceivedTurnsState}
use Rattle.wh_host.specs.declared.rounds.Runner.{Runner}
use Rattle.wh_host.specs.declared.rounds.SeriesEnd.{SeriesEnd}

-- how many turns a runner's instance had, and how many charges these took
abbrev pub turns_by : Option SeriesEnd → ℕ
turns_by None = 0
turns_by (Some made) = made.turns

abbrev pub charges_by_turns : Option SeriesEnd → ℕ
charges_by_turns None = 0
charges_by_turns (Some made) = made.charges

-- and those of all runners
abbrev pub turns_of_round : List Runner → ℕ
turns_of_round ys = sum_by (λ y. turns_by y.answer) ys

abbrev pub charges_of_round : List Runner → ℕ
charges_of_round ys = sum_by (λ y. charges_by_turns y.answer) ys

-- for each runner `many` turns of its instance were received, or more, each of q charges at most
abbrev pub AreReceived : ℕ → ℕ → List Runner → List ReceivedTurnsState → Type 0
AreReceived q many ys orders =
    (k : ℕ) (y : Runner) → slice_get ys k ≡ Some y
    → (o : ReceivedTurnsState) × (slice_get orders k ≡ Some o) × (o.instance ≡ y.id) × (o.quantum ≡ q) × (many ≤ o.count)

-- of each runner's instance as many were to be run as were run, and these no longer are; nothing else changes
pub record AreSpent (ys : List Runner) (orders orders2 : List ReceivedTurnsState) : Type 0 where
  pub run : (k : ℕ) (y : Runner) (o : ReceivedTurnsState) → slice_get ys k ≡ Some y → slice_get orders k ≡ Some o
      → (turns_by y.answer ≤ o.count) × (slice_get orders2 k ≡ Some (record o { count = o.count - turns_by y.answer }))
  pub rest : (k : ℕ) → length ys ≤ k → slice_get orders2 k ≡ slice_get orders k

-- as many turns as each had were to be run, fewer than 2^32, of at most 2^32 charges each
abbrev pub AreFewEach : List Runner → List ReceivedTurnsState → Type 0
AreFewEach ys orders =
    (k : ℕ) (y : Runner) → slice_get ys k ≡ Some y
    → (o : ReceivedTurnsState) × (slice_get orders k ≡ Some o) × (turns_by y.answer ≤ o.count) × (turns_by y.answer < 2 ^ 32)
    × (charges_by_turns y.answer ≤ turns_by y.answer * 2 ^ 32)
