-- Whether the quota of a copy is admitted, and the first fault of one that isn't.
use Rattle.std.specs.Prelude.{◌≡◌, ◌≢◌, ◌⊎◌, ◌/◌, ◌<◌, ◌≤◌, ℕ, List}
use Rattle.wh_model.specs.Format.Syntax.{Limits}
use Rattle.wh_model.specs.Execution.Instance.{first_size, last_size}
use Rattle.wh_host_model.specs.Owners.{Quota}
use Rattle.wh_admit.specs.declared.room.Room.{Room}
use Rattle.wh_admit.specs.declared.outcome.AdmittedQuota.{AdmittedQuota}
use Rattle.wh_admit.specs.declared.error.AdmitError.{AdmitError}
use Rattle.wh_admit.specs.declared.error.AdmitError.TheVariants.{NoModule, Shares, MinMax, Frames, Swap, Instances, MemoryMin, SegmentBounds, Memory as NoRoom}
use Rattle.wh_admit.specs.declared.fork_error.ForkError.{ForkError}
use Rattle.wh_admit.specs.declared.fork_error.ForkError.TheVariants.{NoInstance, CallOpen, StartFailed, NotAdmitted, OtherLimit, PageAway, Memory}
use Rattle.wh_admit.specs.AdmissionNumbers.{HasNumbers, RefusesNumbers}

-- The numbers are admitted, and it may begin; its memory may grow just as far as that of the instance, and what this has
-- is within its maximum. It is handed out as it was given.
pub record GrantsQuota (memories : List Limits) (q : Quota) (room : Room) (page_limit pages : ℕ) (a : AdmittedQuota)
    : Type 0 where
  pub numbers : HasNumbers q room
  pub begins : first_size memories ≤ q.max / 16
  pub same_limit : last_size memories (q.max / 16) ≡ page_limit
  pub within : pages ≤ q.max
  pub shares : a.shares ≡ q.shares
  pub min : a.min_frames ≡ q.min
  pub max : a.max_frames ≡ q.max

-- an admission with it meets this fault first
abbrev pub RefusesAsAdmission : List Limits → Quota → Room → AdmitError → Type 0
RefusesAsAdmission memories q room NoModule = ⊥
RefusesAsAdmission memories q room Shares = RefusesNumbers q room Shares
RefusesAsAdmission memories q room MinMax = RefusesNumbers q room MinMax
RefusesAsAdmission memories q room Frames = RefusesNumbers q room Frames
RefusesAsAdmission memories q room Swap = RefusesNumbers q room Swap
RefusesAsAdmission memories q room Instances = RefusesNumbers q room Instances
RefusesAsAdmission memories q room MemoryMin = HasNumbers q room × (q.max / 16 < first_size memories)
RefusesAsAdmission memories q room SegmentBounds = ⊥
RefusesAsAdmission memories q room NoRoom = ⊥

-- the first of its faults: those of an admission; or the copy's memory could not grow just as far, or is greater than the maximum
abbrev pub RefusesQuota : List Limits → Quota → Room → ℕ → ℕ → ForkError → Type 0
RefusesQuota memories q room page_limit pages NoInstance = ⊥
RefusesQuota memories q room page_limit pages CallOpen = ⊥
RefusesQuota memories q room page_limit pages StartFailed = ⊥
RefusesQuota memories q room page_limit pages (NotAdmitted e) = RefusesAsAdmission memories q room e
RefusesQuota memories q room page_limit pages OtherLimit =
    HasNumbers q room × (first_size memories ≤ q.max / 16)
    × ((last_size memories (q.max / 16) ≢ page_limit) ⊎ (q.max < pages))
RefusesQuota memories q room page_limit pages PageAway = ⊥
RefusesQuota memories q room page_limit pages Memory = ⊥
