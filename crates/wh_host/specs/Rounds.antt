-- Rounds: turns of several instances, that run at once and are finished one after the other.
use Rattle.std.specs.Prelude.{◌≡◌, ◌≢◌, ℕ, ◌*◌, ◌+◌, ◌≤◌, cond, true, false, List, [], ◌∷◌, Option, Some, None, length, slice_get}
use Rattle.wh_space_model.specs.Frames.{tally}
use Rattle.wh_space_model.specs.declared.plain.InstId.{InstId}
use Rattle.wh_host_model.specs.Host.Happens.{IsLive}
use Rattle.wh_model.specs.declared.memory.Need.{Need}
use Rattle.wh_model.specs.Execution.Asking.{Asks}
use Rattle.wh_model.specs.Execution.Configuration.{Term, config}
use Rattle.wh_model.specs.Execution.Reduction.{After}
use Rattle.wh_host_model.specs.declared.plain.TurnEnd.TheVariants.{Again}
use Rattle.wh_host_model.specs.Host.Worlds.{Rest, Tenant, World, computing, store_in, store_with}
use Rattle.wh_space_model.specs.Parts.{Space, view}
use Rattle.wh_instance.specs.OwnerRequests.{OfAnyTenant}
use Rattle.wh_instance.specs.Seen.{IsAtTerm}
use Rattle.wh_instance.specs.Bursts.{AreUsed}
use Rattle.wh_instance.specs.Tenancy.{HostInstanceState}
use Rattle.wh_overlay.specs.LaidPages.{OverlayPagesState}
use Rattle.wh_overlay.specs.Over.{CanStepOver}
use Rattle.wh_host.specs.declared.parts.LoadedModule.{LoadedModule}
use Rattle.wh_host.specs.declared.parts.InstanceEntry.{InstanceEntry}
use Rattle.wh_host.specs.declared.rounds.Runner.{Runner}
use Rattle.wh_host.specs.declared.rounds.SeriesEnd.{SeriesEnd}
use Rattle.wh_host.specs.declared.beside.RanBeside.{RanBeside}
use Rattle.wh_host.specs.Backing.{KeepsBacking}
use Rattle.wh_host.specs.Beside.{RunsBeside}
use Rattle.wh_host.specs.Hosting.{entry_at, module_in}
use Rattle.wh_host.specs.Left.{LeavesTurned}
use Rattle.wh_host.specs.Lying.{LiesAt}
use Rattle.wh_host.specs.Paging.{IsGoing}
use Rattle.wh_host.specs.Series.{SeriesOf}

-- ---- turns one after the other

-- at most `most` turns of this instance, each with q charges at most, had that outcome, and a turn could make it progress; or
-- none was taken
abbrev pub TakesTurns : ℕ → ℕ → World → InstId → Option SeriesEnd → World → Type 0
TakesTurns q most w id None w2 = w2 ≡ w
TakesTurns q most w id (Some made) w2 =
    IsGoing w id × (made.turns ≤ most) × SeriesOf q id w made.turns made.charges made.end w2
    × LeavesTurned id.place made.end w.space w2.space × KeepsBacking w.space w2.space

-- those of the runners, in their order
abbrev pub AllTurn : ℕ → ℕ → World → List Runner → World → Type 0
AllTurn q most w [] w2 = w2 ≡ w
AllTurn q most w (y ∷ ys) w2 = (mid : World) × TakesTurns q most w y.id y.answer mid × AllTurn q most mid ys w2

-- ---- runners

-- it has room, in which nothing is written, and no page is noted as read
abbrev pub HasRoomBeside : Runner → Type 0
HasRoomBeside y = (u : OverlayPagesState) × (y.upper ≡ Some u) × (u.pages ≡ []) × (u.grown ≡ 0) × (u.taken ≡ 0) × (u.reads ≡ [])

-- how many frames are lent for what is written there
abbrev pub lent_in : Option OverlayPagesState → ℕ
lent_in None = 0
lent_in (Some u) = u.lent

abbrev pub lent_to : Runner → ℕ
lent_to y = lent_in y.upper

-- how many are lent to all that have an instance
abbrev pub lent_to_all : List Runner → ℕ
lent_to_all ys = tally (λ y. cond y.taken (lent_to y) 0) ys

-- and no instance
abbrev pub IsFree : Runner → Type 0
IsFree y = (y.taken ≡ false) × HasRoomBeside y

abbrev pub AllAreFree : List Runner → Type 0
AllAreFree ys = (k : ℕ) (y : Runner) → slice_get ys k ≡ Some y → IsFree y

-- its instance is out, and these are the entries meanwhile: a spare instance is there, which has no number
pub record IsOut (before now : List (Option InstanceEntry)) (y : Runner) (P : InstanceEntry → Runner → Type 0) : Type 0 where
  pub entry : InstanceEntry
  pub was : entry_at before y.id.place ≡ Some entry
  pub number : entry.number ≡ Some y.id.number
  pub module_place : y.module_place ≡ entry.module_place
  pub page_limit : y.page_limit ≡ entry.page_limit
  pub spare : HostInstanceState
  pub is : entry_at now y.id.place ≡ Some (record entry { number = None; tenant = spare })
  pub so : P entry y

-- The instances of all runners are out, and no two are of one place. All other places are as they were.
pub record AreTakenOut (before now : List (Option InstanceEntry)) (ys : List Runner) (P : InstanceEntry → Runner → Type 0) : Type 0 where
  pub elsewhere : (p : ℕ)
      → ((k : ℕ) (y : Runner) → slice_get ys k ≡ Some y → y.taken ≡ true → y.id.place ≢ p)
      → entry_at now p ≡ entry_at before p
  pub each : (k : ℕ) (y : Runner) → slice_get ys k ≡ Some y → y.taken ≡ true → IsOut before now y P
  pub apart : (j k : ℕ) (y z : Runner) → slice_get ys j ≡ Some y → slice_get ys k ≡ Some z → y.taken ≡ true
      → z.taken ≡ true → y.id.place ≡ z.id.place → j ≡ k

-- the instance of the entry is the runner's, computes, and has room; and so many of its calls have ended
abbrev pub SitsThere : InstanceEntry → Runner → Type 0
SitsThere x y =
    (y.tenant ≡ x.tenant) × OfAnyTenant x.tenant (λ l limit bytes t. IsAtTerm t) × HasRoomBeside y
    × (y.ended ≡ length x.tenant.journal.ended)

-- It ran at most `most` turns of q charges at most, and each but the last was used up. Each but the first was begun where it was
-- read that nobody wants the memory.
abbrev pub IsBurst : ℕ → ℕ → RanBeside → Type 0
IsBurst q most ran =
    (ran.turns ≤ most) × AreUsed q ran.turns ran.charges × (ran.turns ≤ ran.leave.reads + 1)

-- it has run there, over this memory
abbrev pub RanThere : List (Option LoadedModule) → Space → ℕ → ℕ → InstanceEntry → Runner → Type 0
RanThere modules s q most x y =
    (u : OverlayPagesState) × (y.upper ≡ Some u) × IsBurst q most y.ran
    × ((m : LoadedModule) → module_in modules x.module_place ≡ Some m → (t : Tenant)
    → LiesAt m.linked x.page_limit x.tenant s y.id.place t
    → RunsBeside m.linked x.page_limit (y.ran.turns * q) s y.id.place x.tenant t y.ran.came y.ran.pieces y.ran.charges
    y.tenant u)

-- ---- what runners run

-- it can run over this memory
pub record MayRun (modules : List (Option LoadedModule)) (s : Space) (y : Runner) : Type 0 where
  pub loaded : LoadedModule
  pub is_loaded : module_in modules y.module_place ≡ Some loaded
  pub tenant : Tenant
  pub computes : IsAtTerm tenant
  pub lies : LiesAt loaded.linked y.page_limit y.tenant s y.id.place tenant
  pub room : HasRoomBeside y

-- all can
abbrev pub AllMayRun : List (Option LoadedModule) → Space → List Runner → Type 0
AllMayRun modules s ys =
    (k : ℕ) (y : Runner) → slice_get ys k ≡ Some y → y.taken ≡ true → MayRun modules s y

-- So its instance has run by turns of q charges, at most `most`, if it has one; else there is room as before.
pub record RunsAt (modules : List (Option LoadedModule)) (s : Space) (q most : ℕ) (y y2 : Runner) : Type 0 where
  pub id : y2.id ≡ y.id
  pub taken : y2.taken ≡ y.taken
  pub module_place : y2.module_place ≡ y.module_place
  pub page_limit : y2.page_limit ≡ y.page_limit
  pub answer : y2.answer ≡ y.answer
  pub ended : y2.ended ≡ y.ended
  pub lent : lent_to y2 ≡ lent_to y
  pub free : y.taken ≡ false → HasRoomBeside y → HasRoomBeside y2
  pub ran : y.taken ≡ true → (u : OverlayPagesState) × (y2.upper ≡ Some u) × IsBurst q most y2.ran
      × ((m : LoadedModule) → module_in modules y.module_place ≡ Some m → (t : Tenant) → IsAtTerm t
      → LiesAt m.linked y.page_limit y.tenant s y.id.place t
      → RunsBeside m.linked y.page_limit (y2.ran.turns * q) s y.id.place y.tenant t y2.ran.came y2.ran.pieces y2.ran.charges
      y2.tenant u)

-- all have
abbrev pub AllRun : List (Option LoadedModule) → Space → ℕ → ℕ → List Runner → List Runner → Type 0
AllRun modules s q most ys ys2 =
    (k : ℕ) (y2 : Runner) → slice_get ys2 k ≡ Some y2
    → (y : Runner) × (slice_get ys k ≡ Some y) × RunsAt modules s q most y y2

-- the runners are those of the same instances
abbrev pub RunnersStay : List Runner → List Runner → Type 0
RunnersStay ys ys2 =
    (k : ℕ) (y2 : Runner) → slice_get ys2 k ≡ Some y2 → (y : Runner) × (slice_get ys k ≡ Some y) × (y2.id ≡ y.id)

-- an instance that computes and has a runner has turns, by this runner or by another one
abbrev pub NoneIsLeftOut : World → List Runner → Type 0
NoneIsLeftOut w ys =
    (k : ℕ) (y : Runner) → slice_get ys k ≡ Some y → y.answer ≡ None → (t : Tenant) → IsLive w y.id t → IsAtTerm t
    → (j : ℕ) × (z : Runner) × (slice_get ys j ≡ Some z) × (z.id ≡ y.id) × (made : SeriesEnd) × (z.answer ≡ Some made)

-- ---- what turns take

-- What the call at this instance does next reads or writes bytes that can't be reached beside this memory, with this room there.
pub record IsOutOfReach (s : Space) (t : Tenant) (u : OverlayPagesState) : Type 0 where
  pub term : Term
  pub rest : Rest
  pub next : Term
  pub need : Need
  pub doing : t.doing ≡ computing term
  pub after : After t.inst (config (store_in s t) [] term) 0 (config (store_with (view s t.place) rest) [] next)
  pub asks : Asks t.inst (config (store_with (view s t.place) rest) [] next) need
  pub never : ¬ (CanStepOver s t.place u need)

-- Turns of an instance after which its call can go on took a charge, or what the call does next can't be reached.
abbrev pub TakesSome : World → Runner → Type 0
TakesSome w y =
    (made : SeriesEnd) (t : Tenant) → y.answer ≡ Some made → made.end ≡ Again → made.charges ≡ 0 → IsLive w y.id t
    → (u : OverlayPagesState) × (y.upper ≡ Some u) × IsOutOfReach w.space t u

-- those of each runner did
abbrev pub EachTakesSome : World → List Runner → Type 0
EachTakesSome w ys = (k : ℕ) (y : Runner) → slice_get ys k ≡ Some y → TakesSome w y

-- each of its turns but the first was begun where it was read that nobody wants the memory
abbrev pub HadLeave : Runner → Type 0
HadLeave y = (made : SeriesEnd) → y.answer ≡ Some made → made.turns ≤ made.leave.reads + 1

-- those of each runner were
abbrev pub EachHadLeave : List Runner → Type 0
EachHadLeave ys = (k : ℕ) (y : Runner) → slice_get ys k ≡ Some y → HadLeave y
