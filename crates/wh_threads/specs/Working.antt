-- What a worker's thread has done.
use Rattle.std.specs.Prelude.{◌≡◌, ◌+◌, ℕ, Bool, List, [], sum_by}
use Rattle.atomic_table.specs.declared.badge.Badge.{Badge}
use Rattle.crossbeam_channel.specs.declared.flavors.array.Key.{Key}
use Rattle.crossbeam_channel.specs.declared.flavors.array.Doing.{Doing}
use Rattle.crossbeam_channel.specs.declared.flavors.array.Rows.{Rows}
use Rattle.crossbeam_channel.specs.Claims.{Pass, view, IsSeatAt}
use Rattle.wh_space_model.specs.declared.plain.InstId.{InstId}
use Rattle.wh_threads.specs.declared.channel.Message.{Message}
use Rattle.wh_threads.specs.declared.channel.Traffic.{Traffic}
use Rattle.wh_threads.specs.declared.gate.Sign.{Sign}
use Rattle.wh_threads.specs.declared.tally.Tally.{Tally}
use Rattle.wh_threads.specs.Counting.{WorkerState}
use Rattle.wh_threads.specs.Handover.{traffic, turns_in}

-- turns that were received: whose they are, how many are still to be run, and how many charges each has at most
pub record ReceivedTurnsState : Type 0 where
  pub instance : InstId
  pub count : ℕ
  pub quantum : ℕ

-- how many turns are still to be run of these
abbrev pub turns_due : List ReceivedTurnsState → ℕ
turns_due orders = sum_by (λ o. o.count) orders

-- what a worker's thread returns: its counts, what it received, what it was told before, and whether it has begun
pub record WorkerResultState : Type 0 where
  pub worker : WorkerState
  pub slip : Pass Message (Traffic Message)
  pub told : Pass Sign (Traffic Sign)
  pub has_begun : Bool

module _ {Q M L A : Type 0} (ring : Rows (Badge (Key Message)) (Doing Message (Traffic Message)) Q M (Key Message) L A) where
  -- through its slip of the channel it received messages alone, and it ran as many turns as these are
  pub record HasWorked (begun : Tally) (worker : WorkerState) (slip : Pass Message (Traffic Message)) : Type 0 where
    pub channel : IsSeatAt ring slip
    pub received : view slip ≡ traffic 1 [] (view slip).received
    pub from : worker.from ≡ begun
    pub turns : worker.tally.turns ≡ begun.turns + turns_in (view slip).received
