-- Whether the numbers that an owner gives are admitted, and whether there is room for them.
use Rattle.std.specs.Prelude.{ℕ, ◌+◌, ◌-◌, ◌<◌, ◌≤◌, ◌⊎◌}
use Rattle.wh_host_model.specs.Owners.{Params, Quota, most_instances}
use Rattle.wh_admit.specs.declared.room.Room.{Room}
use Rattle.wh_admit.specs.declared.error.AdmitError.{AdmitError}
use Rattle.wh_admit.specs.declared.error.AdmitError.TheVariants.{Shares, MinMax, Frames, Swap, Instances}

-- shares, and the least and the greatest number of frames
abbrev pub AreShares : ℕ → Type 0
AreShares n = (1 ≤ n) × (n ≤ 1000000)

abbrev pub AreFrames : ℕ → ℕ → Type 0
AreFrames least most = (2 ≤ least) × (least ≤ most) × (most ≤ 65536)

-- the quota of what an owner gives
abbrev pub quota_of : Params → Quota
quota_of p = record { shares = p.shares; min = p.min; max = p.max }

-- the quota is admitted, and there is room for it
pub record HasNumbers (q : Quota) (room : Room) : Type 0 where
  pub shares : AreShares q.shares
  pub range : AreFrames q.min q.max
  pub frames : q.min ≤ room.frames
  pub slots : (q.max - q.min) + 1 ≤ room.slots
  pub few : room.live < most_instances

-- the first of them that isn't so
abbrev pub RefusesNumbers : Quota → Room → AdmitError → Type 0
RefusesNumbers q room Shares = (q.shares < 1) ⊎ (1000000 < q.shares)
RefusesNumbers q room MinMax = AreShares q.shares × ((q.min < 2) ⊎ (q.max < q.min) ⊎ (65536 < q.max))
RefusesNumbers q room Frames = AreShares q.shares × AreFrames q.min q.max × (room.frames < q.min)
RefusesNumbers q room Swap =
    AreShares q.shares × AreFrames q.min q.max × (q.min ≤ room.frames) × (room.slots < (q.max - q.min) + 1)
RefusesNumbers q room Instances =
    AreShares q.shares × AreFrames q.min q.max × (q.min ≤ room.frames) × ((q.max - q.min) + 1 ≤ room.slots)
    × (most_instances ≤ room.live)
RefusesNumbers q room _ = ⊥
