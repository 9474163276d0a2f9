-- The report of a host: how its frames, slots and pages are used, and what each instance has of them.
use Rattle.std.specs.Prelude.{◌≡◌, ℕ, ◌+◌, ◌-◌, min, List, [], ◌∷◌, length, map, Option, Some, None}
use Rattle.wh_space_model.specs.declared.Tax.{Tax}
use Rattle.wh_space_model.specs.Frames.{tally}
use Rattle.wh_space_model.specs.Charges.{active_of, charged_of}
use Rattle.wh_space_model.specs.Parts.{Space, numbers_below, sharers}
use Rattle.wh_space_model.specs.States.{count_of, swapped}
use Rattle.wh_space_model.specs.declared.plain.InstId.{InstId}
use Rattle.wh_host_model.specs.Host.Admission.{live_count}
use Rattle.wh_host_model.specs.Host.Happens.{IsLive}
use Rattle.wh_host_model.specs.Host.Worlds.{Tenant, World}
use Rattle.wh_host.specs.declared.report.HostUsage.{HostUsage}
use Rattle.wh_host.specs.declared.report.InstanceReport.{InstanceReport}
use Rattle.wh_host.specs.declared.report.Report.{Report}
use Rattle.wh_host.specs.Hosting.{HostState, IsHost}

-- what contracts see of what a report says of an instance
pub record ReportRow : Type 0 where
  pub number : ℕ
  pub place : ℕ
  pub shares : ℕ
  pub min : ℕ
  pub max : ℕ
  pub charged : ℕ
  pub active : ℕ
  pub swapped : ℕ

abbrev pub view_row : InstanceReport → ReportRow
view_row x = record {
  number = x.number;
  place = x.place;
  shares = x.shares;
  min = x.min;
  max = x.max;
  charged = x.charged;
  active = x.active;
  swapped = x.swapped;
}

-- and of the whole
pub record UsageState : Type 0 where
  pub frames : ℕ
  pub used_frames : ℕ
  pub slots : ℕ
  pub used_slots : ℕ
  pub shared_frames : ℕ
  pub sharers : ℕ
  pub tax : Tax
  pub instances : ℕ

abbrev pub view_usage : HostUsage → UsageState
view_usage x = record {
  frames = x.frames;
  used_frames = x.used_frames;
  slots = x.slots;
  used_slots = x.used_slots;
  shared_frames = x.shared_frames;
  sharers = x.sharers;
  tax = x.tax;
  instances = x.instances;
}

pub record ReportState : Type 0 where
  pub usage : UsageState
  pub instances : List ReportRow

abbrev pub view_report : Report → ReportState
view_report r = record { usage = view_usage r.usage; instances = map view_row r.instances.items }

-- how many frames pages share, and how many pages share one
abbrev pub shared_frames : Space → ℕ
shared_frames s = tally (λ f. min 1 (sharers s f)) (numbers_below (length s.pool.frames))

abbrev pub all_sharers : Space → ℕ
all_sharers s = tally (sharers s) (numbers_below (length s.pool.frames))

-- what is reported of an instance: what its owner was promised, how many frames are charged to it and on how many of
-- these a page was touched, and how many of its pages are swapped
abbrev pub row_in : Space → (number : ℕ) → Tenant → ReportRow
row_in s number t = record {
  number = number;
  place = t.place;
  shares = t.params.shares;
  min = t.params.min;
  max = t.params.max;
  charged = charged_of s t.place;
  active = active_of s t.place;
  swapped = count_of swapped s.tables t.place;
}

-- the same of each that is live, by number, the first of the list having this one
abbrev pub rows_in : Space → (number : ℕ) → List (Option Tenant) → List ReportRow
rows_in s number [] = []
rows_in s number (None ∷ ts) = rows_in s (number + 1) ts
rows_in s number (Some t ∷ ts) = row_in s number t ∷ rows_in s (number + 1) ts

-- of memory and so many instances: frames in use are all but the free ones, slots in use all but the vacant ones
abbrev pub usage_with : Space → ℕ → UsageState
usage_with s live = record {
  frames = length s.pool.frames;
  used_frames = length s.pool.frames - length s.pool.free;
  slots = length s.slots.uses;
  used_slots = length s.slots.uses - length s.slots.vacant;
  shared_frames = shared_frames s;
  sharers = all_sharers s;
  tax = s.tax;
  instances = live;
}

abbrev pub report_with : Space → ℕ → List ReportRow → ReportState
report_with s live rows = record { usage = usage_with s live; instances = rows }

abbrev pub report_of : World → ReportState
report_of w = report_with w.space (live_count w.tenants) (rows_in w.space 0 w.tenants)

-- for whatever host it stands, this is its report
abbrev pub ReportsHost : HostState → ReportState → Type 0
ReportsHost h report = (w : World) → IsHost h w → report ≡ report_of w

-- so its frames and slots are used
abbrev pub ReportsUsage : HostState → UsageState → Type 0
ReportsUsage h usage = (w : World) → IsHost h w → usage ≡ usage_with w.space (live_count w.tenants)

-- this is reported of an instance
abbrev pub ReportsInstance : HostState → InstId → ReportRow → Type 0
ReportsInstance h id row = (w : World) → IsHost h w → (t : Tenant) × IsLive w id t × (row ≡ row_in w.space id.number t)
