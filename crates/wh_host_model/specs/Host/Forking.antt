-- How an instance is copied.
use Rattle.std.specs.Prelude.{◌≡◌, ◌≢◌, ℕ, ◌+◌, ◌/◌, ◌<◌, ◌⊎◌, true, [], ◌∷◌, ◌++◌, length, get_or, Some, None}
use Rattle.wh_model.specs.Execution.Instance.{last_size}
use Rattle.wh_space_model.specs.Parts.{Space}
use Rattle.wh_space_model.specs.Forks.{Copies, IsAway}
use Rattle.wh_host_model.specs.Owners.{ForkFault, Quota, call_open, fork_rank, not_admitted, other_limit, page_away, start_failed, with_quota}
use Rattle.wh_host_model.specs.Host.Worlds.{Loaded, Tenant, World, loaded_of, promised}
use Rattle.wh_host_model.specs.Host.Admission.{MeetsFault}

-- the fault is met, whatever of the other ones is
abbrev pub MeetsForkFault : World → Tenant → Quota → ForkFault → Type 0
MeetsForkFault w t q call_open = t.open_calls ≢ []
MeetsForkFault w t q start_failed = t.dead ≡ true
MeetsForkFault w t q (not_admitted fault) = MeetsFault w t.of (with_quota t.params q) fault
MeetsForkFault w t q other_limit =
    ((l : Loaded) × (loaded_of w t.of ≡ Some l) × (last_size l.m.memories (q.max / 16) ≢ t.inst.page_limit))
    ⊎ (q.max < length (get_or w.space.tables t.place []))
MeetsForkFault w t q page_away = IsAway w.space t.place

abbrev pub IsFirstForkFault : World → Tenant → Quota → ForkFault → Type 0
IsFirstForkFault w t q fault =
    MeetsForkFault w t q fault
    × ((other : ForkFault) → fork_rank other < fork_rank fault → ¬ (MeetsForkFault w t q other))

-- An instance is copied under the next number, at a free place. Its pages are lent to the copy, and no byte is copied.
-- The copy is what the instance is, but for its quota: it has the same globals, table, input and output, and the same
-- calls, all of which have ended. Those count as copied.
pub record Forks (w : World) (t : Tenant) (q : Quota) (place number : ℕ) (w2 : World) : Type 0 where
  pub no_fault : (fault : ForkFault) → ¬ (MeetsForkFault w t q fault)
  pub space : Space
  pub copies : Copies w.space t.place place (promised number (with_quota t.params q)) space
  pub next : number ≡ length w.tenants
  pub after : w2 ≡ record w {
    tenants = w.tenants ++ Some (record t {
      place = place;
      params = with_quota t.params q;
      copied = length t.ended;
      waiting_for = None;
    }) ∷ [];
    space = space;
  }
