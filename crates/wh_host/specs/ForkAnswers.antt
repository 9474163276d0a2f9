-- What a host answers where an instance is to be copied.
use Rattle.std.specs.Prelude.{◌≡◌, ◌+◌, ℕ, [], true, false, Some, None, Result, Ok, Err, get_or, length}
use Rattle.slab.specs.Slab.{Slab, get, HasRoomFor}
use Rattle.wh_space_model.specs.declared.plain.InstId.{InstId}
use Rattle.wh_space_model.specs.Forks.{Copies, IsAway}
use Rattle.wh_space_model.specs.Parts.{Claimed, Space, minima, spreads}
use Rattle.wh_host_model.specs.Host.Worlds.{World}
use Rattle.wh_host_model.specs.Owners.{AdmitFault, Quota, call_open, not_admitted, other_limit, page_away, start_failed}
use Rattle.wh_host_model.specs.Host.Happens.{ForkAnswer, IsFork, fork_no_instance, fork_ok, fork_out_of_memory, fork_refused}
use Rattle.wh_load.specs.Refusing.{view_linked}
use Rattle.wh_admit.specs.declared.fork_error.ForkError.{ForkError}
use Rattle.wh_admit.specs.declared.fork_error.ForkError.TheVariants.{NoInstance, CallOpen, StartFailed, NotAdmitted, OtherLimit, PageAway, Memory}
use Rattle.wh_admit.specs.declared.outcome.AdmittedQuota.{AdmittedQuota}
use Rattle.wh_admit.specs.declared.room.Room.{Room}
use Rattle.wh_admit.specs.AdmitErrors.{fault_of}
use Rattle.wh_admit.specs.QuotaFaults.{GrantsQuota, RefusesQuota}
use Rattle.wh_instance.specs.CopiedInstances.{CopiesInstance}
use Rattle.wh_instance.specs.Seen.{IsIdle, IsPresent}
use Rattle.wh_space.specs.Arrivals.{claimed}
use Rattle.wh_space.specs.declared.occupant_entry.Promise.{Promise}
use Rattle.wh_host.specs.declared.parts.LoadedModule.{LoadedModule}
use Rattle.wh_host.specs.declared.parts.InstanceEntry.{InstanceEntry}
use Rattle.wh_host.specs.Hosting.{HostState, IsHost}

-- ---- the answer

-- The copy; or that there is no such instance, the first fault, or out of memory. Out of memory has one name.
abbrev pub IsForkAnswer : Result InstId ForkError → ForkAnswer → Type 0
IsForkAnswer (Ok id) answer = answer ≡ fork_ok id
IsForkAnswer (Err NoInstance) answer = answer ≡ fork_no_instance
IsForkAnswer (Err CallOpen) answer = answer ≡ fork_refused call_open
IsForkAnswer (Err StartFailed) answer = answer ≡ fork_refused start_failed
IsForkAnswer (Err (NotAdmitted e)) answer =
    (fault : AdmitFault) × (fault_of e ≡ Some fault) × (answer ≡ fork_refused (not_admitted fault))
IsForkAnswer (Err OtherLimit) answer = answer ≡ fork_refused other_limit
IsForkAnswer (Err PageAway) answer = answer ≡ fork_refused page_away
IsForkAnswer (Err Memory) answer = answer ≡ fork_out_of_memory

-- for whatever host it stands, this is answered so, and leaves a host for which it stands then
abbrev pub AnswersFork : HostState → InstId → Quota → Result InstId ForkError → HostState → Type 0
AnswersFork h id q result h2 =
    (w : World) → IsHost h w
    → (answer : ForkAnswer) × (w2 : World) × IsForkAnswer result answer × IsFork w id q answer w2 × IsHost h2 w2

-- what a copy of this number claims by its quota
abbrev pub claim_by : ℕ → Quota → Claimed
claim_by number q = record { number = number; shares = q.shares; min = q.min; max = q.max }

-- ---- its parts

-- the room is what this memory, and so many instances, leave
pub record IsLeftBy (s : Space) (live : ℕ) (room : Room) : Type 0 where
  pub frames : room.frames + minima s ≡ length s.pool.frames
  pub slots : room.slots + spreads s ≡ length s.slots.uses
  pub count : room.live ≡ live

-- no call of the instance is open, and its start hasn't failed
pub record MayFork (x : InstanceEntry) : Type 0 where
  pub idle : IsIdle x.tenant true
  pub alive : x.tenant.dead ≡ false

-- and the quota is granted
pub record GrantsInRoom (x : InstanceEntry) (m : LoadedModule) (s : Space) (live place : ℕ) (q : Quota)
    (a : AdmittedQuota) : Type 0 where
  pub may : MayFork x
  pub room : Room
  pub is_left : IsLeftBy s live room
  pub grants : GrantsQuota (view_linked m.linked).memories q room x.page_limit (length (get_or s.tables place [])) a

-- or it is refused
pub record RefusesInRoom (x : InstanceEntry) (m : LoadedModule) (s : Space) (live place : ℕ) (q : Quota)
    (e : ForkError) : Type 0 where
  pub may : MayFork x
  pub room : Room
  pub is_left : IsLeftBy s live room
  pub refuses : RefusesQuota (view_linked m.linked).memories q room x.page_limit (length (get_or s.tables place [])) e

-- it is granted, and all pages are at hand
pub record GrantsFork (x : InstanceEntry) (m : LoadedModule) (s : Space) (live place : ℕ) (q : Quota)
    (a : AdmittedQuota) : Type 0 where
  pub granted : GrantsInRoom x m s live place q a
  pub here : ¬ (IsAway s place)

-- the first fault
abbrev pub RefusesFork : InstanceEntry → LoadedModule → Space → ℕ → ℕ → Quota → ForkError → Type 0
RefusesFork x m s live place q NoInstance = ⊥
RefusesFork x m s live place q CallOpen = IsIdle x.tenant false
RefusesFork x m s live place q StartFailed = IsIdle x.tenant true × (x.tenant.dead ≡ true)
RefusesFork x m s live place q (NotAdmitted e) = RefusesInRoom x m s live place q (NotAdmitted e)
RefusesFork x m s live place q OtherLimit = RefusesInRoom x m s live place q OtherLimit
RefusesFork x m s live place q PageAway =
    (a : AdmittedQuota) × GrantsInRoom x m s live place q a × IsAway s place
RefusesFork x m s live place q Memory = ⊥

-- it is a copy of the instance with this entry, with this number and this quota
pub record CopiesEntry (x : InstanceEntry) (number : ℕ) (a : AdmittedQuota) (y : InstanceEntry) : Type 0 where
  pub number_is : y.number ≡ Some number
  pub of : y.of ≡ x.of
  pub module_place : y.module_place ≡ x.module_place
  pub given : y.given ≡ record x.given { shares = a.shares; min = a.min_frames; max = a.max_frames }
  pub limit : y.page_limit ≡ x.page_limit
  pub copied : IsPresent x.tenant y.copied
  pub copies : CopiesInstance x.tenant y.tenant

-- the memory has a copy of the one at place i at the next place, where there is room for it
pub record CopiesNext (rs : Slab InstanceEntry) (s : Space) (i : ℕ) (p : Promise) (place : ℕ) (rs2 : Slab InstanceEntry)
    (s2 : Space) : Type 0 where
  pub vacant : get rs place ≡ None
  pub next : rs2.vacant_key ≡ place
  pub slots : rs2.slots ≡ rs.slots
  pub room : HasRoomFor rs2 1
  pub copies : Copies s i place (claimed p) s2
