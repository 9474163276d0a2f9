-- How instances join a round, and leave it.
use Rattle.std.specs.Prelude.{◌≡◌, ◌≢◌, ◌⊎◌, ℕ, ◌*◌, ◌+◌, ◌≤◌, true, false, List, Option, Some, None, length, slice_get, slice_set}
use Rattle.wh_host_model.specs.declared.plain.TurnEnd.{TurnEnd}
use Rattle.wh_host_model.specs.declared.plain.TurnEnd.TheVariants.{Again}
use Rattle.wh_host_model.specs.Host.Worlds.{Tenant}
use Rattle.wh_space_model.specs.Parts.{Space}
use Rattle.wh_imports.specs.LinkedState.{LinkedState}
use Rattle.wh_instance.specs.OwnerRequests.{OfAnyTenant}
use Rattle.wh_instance.specs.Seen.{IsAtTerm}
use Rattle.wh_instance.specs.Tenancy.{HostInstanceState}
use Rattle.wh_overlay.specs.LaidBack.{LooksSame}
use Rattle.wh_overlay.specs.LaidPages.{OverlayPagesState}
use Rattle.wh_host.specs.declared.parts.LoadedModule.{LoadedModule}
use Rattle.wh_host.specs.declared.parts.InstanceEntry.{InstanceEntry}
use Rattle.wh_host.specs.declared.rounds.Runner.{Runner}
use Rattle.wh_host.specs.Backing.{KeepsBacking}
use Rattle.wh_host.specs.declared.rounds.SeriesEnd.{SeriesEnd}
use Rattle.wh_host.specs.declared.beside.RanBeside.{RanBeside}
use Rattle.wh_host.specs.Beside.{CanGoOnFrom, EndsTurn, HasRun, with_nothing}
use Rattle.wh_host.specs.Hosting.{HostState, entry_at}
use Rattle.wh_host.specs.Left.{LeavesTurned}
use Rattle.wh_host.specs.Rounds.{AreTakenOut, IsFree, RanThere, lent_to, lent_to_all}

-- ---- out

-- the runner has none: its instance isn't there, or doesn't compute
pub record StaysFree (rs : List (Option InstanceEntry)) (y : Runner) (rs2 : List (Option InstanceEntry)) (y2 : Runner) : Type 0 where
  pub entries : rs2 ≡ rs
  pub runner : y2 ≡ record y { taken = false; answer = None }
  pub why : (x : InstanceEntry) → entry_at rs y.id.place ≡ Some x → x.number ≡ Some y.id.number
      → OfAnyTenant x.tenant (λ l limit bytes t. ¬ (IsAtTerm t))

-- n frames are lent for what is written there
abbrev pub with_lent : ℕ → Option OverlayPagesState → Option OverlayPagesState
with_lent n None = None
with_lent n (Some u) = Some (record u { lent = n; taken = 0 })

-- or it has its instance, which computes, and n frames; the spare one of the runner stands in its place
pub record IsTakenOut (rs : List (Option InstanceEntry)) (y : Runner) (n : ℕ) (rs2 : List (Option InstanceEntry)) (y2 : Runner) : Type 0 where
  pub entry : InstanceEntry
  pub was : entry_at rs y.id.place ≡ Some entry
  pub number : entry.number ≡ Some y.id.number
  pub computes : OfAnyTenant entry.tenant (λ l limit bytes t. IsAtTerm t)
  pub entries : rs2 ≡ slice_set rs y.id.place (Some (record entry { number = None; tenant = y.tenant }))
  pub runner : y2 ≡ record y {
    taken = true;
    module_place = entry.module_place;
    page_limit = entry.page_limit;
    tenant = entry.tenant;
    ended = length entry.tenant.journal.ended;
    upper = with_lent n y.upper;
    answer = None;
  }

abbrev pub TakesOut : List (Option InstanceEntry) → Runner → ℕ → List (Option InstanceEntry) → Runner → Type 0
TakesOut rs y n rs2 y2 = StaysFree rs y rs2 y2 ⊎ IsTakenOut rs y n rs2 y2

-- The runner has none: its instance isn't there, or doesn't compute, or another runner has it.
abbrev pub IsLeftOut : List (Option InstanceEntry) → List Runner → Runner → Type 0
IsLeftOut rs ys y =
    (x : InstanceEntry) → entry_at rs y.id.place ≡ Some x → x.number ≡ Some y.id.number
    → OfAnyTenant x.tenant (λ l limit bytes t. ¬ (IsAtTerm t))
    ⊎ ((j : ℕ) × (z : Runner) × (slice_get ys j ≡ Some z) × (z.taken ≡ true) × (z.id ≡ y.id))

-- ---- and back

-- the outcome of consecutive turns, of which the last was answered so
abbrev pub series_end : RanBeside → TurnEnd → SeriesEnd
series_end ran end = record { turns = ran.turns; charges = ran.charges; end = end; leave = ran.leave }

-- The instance of the runner has finished its turns, as one: in this memory, which is as good as before for all others, and it has this instance then.
pub record Finishes (q : ℕ) (s : Space) (y : Runner) (s2 : Space) (end : TurnEnd) (x3 : HostInstanceState) : Type 0 where
  pub turns : (u : OverlayPagesState) → y.upper ≡ Some u → (l : LinkedState) (limit : ℕ) (s0 : Space) (x : HostInstanceState) (t : Tenant)
      → HasRun l limit (y.ran.turns * q) s0 s y.id.place x t y.ran.came y.ran.pieces y.ran.charges y.tenant u
      → EndsTurn l limit (y.ran.turns * q) y.ran.charges s t end y.id.place x3 s2
  pub others : (other : ℕ) → other ≢ y.id.place → LooksSame other s s2
  pub frames : length s.pool.free ≤ length s2.pool.free + lent_to y
  pub backing : KeepsBacking s s2
  pub memory : LeavesTurned y.id.place end s s2

-- and the runner is free
pub record FinishesAt (q : ℕ) (s : Space) (y : Runner) (s2 : Space) (y2 : Runner) : Type 0 where
  pub end : TurnEnd
  pub finishes : Finishes q s y s2 end y2.tenant
  pub answer : y2.answer ≡ Some (series_end y.ran end)
  pub again : end ≡ Again → CanGoOnFrom y.ran.came
  pub upper : (u : OverlayPagesState) → y.upper ≡ Some u → y2.upper ≡ Some (with_nothing u)
  pub id : y2.id ≡ y.id
  pub ended : y2.ended ≡ y.ended
  pub free : IsFree y2

-- some instance has run there over a memory that was as good
abbrev pub CanFinish : ℕ → Space → Runner → Type 0
CanFinish q s y =
    (u : OverlayPagesState) × (y.upper ≡ Some u) × (l : LinkedState) × (limit : ℕ) × (s0 : Space) × (x : HostInstanceState) × (t : Tenant)
    × HasRun l limit (y.ran.turns * q) s0 s y.id.place x t y.ran.came y.ran.pieces y.ran.charges y.tenant u

-- it has its place again
pub record Returns (q : ℕ) (rs : List (Option InstanceEntry)) (s : Space) (y : Runner) (rs2 : List (Option InstanceEntry)) (s2 : Space) (y2 : Runner) : Type 0 where
  pub end : TurnEnd
  pub tenant : HostInstanceState
  pub finishes : Finishes q s y s2 end tenant
  pub answer : y2.answer ≡ Some (series_end y.ran end)
  pub again : end ≡ Again → CanGoOnFrom y.ran.came
  pub upper : (u : OverlayPagesState) → y.upper ≡ Some u → y2.upper ≡ Some (with_nothing u)
  pub id : y2.id ≡ y.id
  pub ended : y2.ended ≡ y.ended
  pub free : IsFree y2
  pub entries : (x : InstanceEntry) → entry_at rs y.id.place ≡ Some x
      → rs2 ≡ slice_set rs y.id.place (Some (record x { number = Some y.id.number; tenant = tenant }))

-- it has none and nothing is done; or its instance returns
abbrev pub LaysAt : ℕ → List (Option InstanceEntry) → Space → Runner → List (Option InstanceEntry) → Space → Runner → Type 0
LaysAt q rs s y rs2 s2 y2 =
    ((y.taken ≡ false) × (rs2 ≡ rs) × (s2 ≡ s) × (y2 ≡ y)) ⊎ ((y.taken ≡ true) × Returns q rs s y rs2 s2 y2)

-- A runner that had an instance has an answer: the outcome of its turns, and that its call can go on only where it can by that
-- outcome. Nothing is in its room any more.
abbrev pub TellsSeries : Runner → Runner → Type 0
TellsSeries y y2 =
    (end : TurnEnd) × (y2.answer ≡ Some (series_end y.ran end)) × (end ≡ Again → CanGoOnFrom y.ran.came)
    × ((u : OverlayPagesState) → y.upper ≡ Some u → y2.upper ≡ Some (with_nothing u))

-- one that had none has the answer that it had
abbrev pub HasAnswer : Runner → Runner → Type 0
HasAnswer y y2 =
    (y2.id ≡ y.id) × (y.taken ≡ true → TellsSeries y y2) × (y.taken ≡ false → y2.answer ≡ y.answer) × (y2.ended ≡ y.ended)

-- The instances of all runners have run over one memory, and this one is as good for each; the frames that are lent to them are free.
-- The other runners are free, and have no answer.
pub record HaveRun (modules : List (Option LoadedModule)) (q most : ℕ) (before : List (Option InstanceEntry)) (s0 : Space)
    (now : List (Option InstanceEntry)) (s : Space) (ys : List Runner) : Type 0 where
  pub out : AreTakenOut before now ys (RanThere modules s0 q most)
  pub looks : (k : ℕ) (y : Runner) → slice_get ys k ≡ Some y → y.taken ≡ true → LooksSame y.id.place s0 s
  pub frames : lent_to_all ys ≤ length s.pool.free
  pub rest : (k : ℕ) (y : Runner) → slice_get ys k ≡ Some y → y.taken ≡ false → IsFree y × (y.answer ≡ None)

-- a host with these entries and this memory
abbrev pub host_with : HostState → List (Option InstanceEntry) → Space → HostState
host_with h entries s = record h { entries = entries; space = s }
