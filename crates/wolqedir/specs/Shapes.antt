-- What C reads and writes, and what it represents.
use Rattle.std.specs.Prelude.{ℕ, Bool, true, false, List, Option, Some, None}
use Rattle.wh_model.specs.declared.ValType.{ValType}
use Rattle.wh_model.specs.declared.ValType.TheVariants.{I32, I64}
use Rattle.wh_space_model.specs.declared.plain.InstId.{InstId}
use Rattle.wh_host_model.specs.Owners as owners
use Rattle.wh_instance.specs.declared.stages.CallStatus.{CallStatus}
use Rattle.wh_instance.specs.declared.stages.CallStatus.TheVariants.{Returned, Trapped, Cancelled, Dead, Waiting, Present}
use Rattle.wh_instance.specs.declared.stages.CallValue.{CallValue}
use Rattle.wh_instance.specs.declared.stages.Suspension.{Suspension}
use Rattle.wh_instance.specs.declared.stages.Suspension.TheVariants.{Fuel, Frame, Device}
use Rattle.wh_host.specs.declared.counts.HostCounts.{HostCounts}
use Rattle.wh_host.specs.Reporting.{ReportRow, UsageState}
use Rattle.wh_hand.specs.declared.running.Ran.{Ran}
use Rattle.wolqedir.specs.declared.shapes.RawInstance.{RawInstance}
use Rattle.wolqedir.specs.declared.shapes.RawParams.{RawParams}
use Rattle.wolqedir.specs.declared.shapes.RawQuota.{RawQuota}
use Rattle.wolqedir.specs.declared.shapes.Progress.{Progress}
use Rattle.wolqedir.specs.declared.shapes.RawStatus.{RawStatus}
use Rattle.wolqedir.specs.declared.shapes.RawCounts.{RawCounts}
use Rattle.wolqedir.specs.declared.shapes.RawReport.{RawReport}
use Rattle.wolqedir.specs.declared.shapes.RawInstanceReport.{RawInstanceReport}
use Rattle.wolqedir.specs.Codes.{swap_code, trap_code}

-- the instance that C names, and its name for C
abbrev pub id_of : RawInstance → InstId
id_of x = record { place = x.place; number = x.number }

abbrev pub instance_of : InstId → RawInstance
instance_of id = record { place = id.place; number = id.number }

-- what its owner gives an instance, with these words as its input
abbrev pub given_by : RawParams → List ℕ → owners.Params
given_by p inputs = record {
  shares = p.shares;
  min = p.min;
  max = p.max;
  fuel = p.fuel;
  base = p.base;
  salt = p.salt;
  inputs = inputs;
}

-- how much of a host's memory a copy may have
abbrev pub quota_by : RawQuota → owners.Quota
quota_by q = record { shares = q.shares; min = q.min; max = q.max }

-- the outcome of a run
abbrev pub flag : Bool → ℕ
flag true = 1
flag false = 0

abbrev pub progress_as : Ran → Progress
progress_as ran = record { charges = ran.charges; goes_on = flag ran.goes_on }

-- a result has 32 or 64 bits, and 0 bits are none
abbrev pub type_bits : ValType → ℕ
type_bits I32 = 32
type_bits I64 = 64

abbrev pub bits_of_result : Option CallValue → ℕ
bits_of_result None = 0
bits_of_result (Some value) = type_bits value.of

abbrev pub word_of : Option CallValue → ℕ
word_of None = 0
word_of (Some value) = value.word

-- the present call goes on, or waits for fuel, for a frame, or for the device, with the fault's code
abbrev pub standing_kind : Option Suspension → ℕ
standing_kind None = 2
standing_kind (Some Fuel) = 3
standing_kind (Some Frame) = 4
standing_kind (Some (Device e)) = 5

abbrev pub standing_code : Option Suspension → ℕ
standing_code None = 0
standing_code (Some Fuel) = 0
standing_code (Some Frame) = 0
standing_code (Some (Device e)) = swap_code e

-- the status of a call that has taken `charges` charges
abbrev pub shown_status : CallStatus → ℕ → RawStatus
shown_status Waiting charges = record { kind = 1; code = 0; bits = 0; value = 0; charges = charges }
shown_status (Present stands taken) charges =
    record { kind = standing_kind stands; code = standing_code stands; bits = 0; value = 0; charges = charges }
shown_status (Returned value taken) charges =
    record { kind = 6; code = 0; bits = bits_of_result value; value = word_of value; charges = charges }
shown_status (Trapped trap taken) charges =
    record { kind = 7; code = trap_code trap; bits = 0; value = 0; charges = charges }
shown_status (Cancelled taken) charges = record { kind = 8; code = 0; bits = 0; value = 0; charges = charges }
shown_status Dead charges = record { kind = 9; code = 0; bits = 0; value = 0; charges = charges }

-- how a host is used, what it has counted, and what it has of an instance
abbrev pub raw_report_of : UsageState → RawReport
raw_report_of r = record {
  frames = r.frames;
  used_frames = r.used_frames;
  slots = r.slots;
  used_slots = r.used_slots;
  shared_frames = r.shared_frames;
  tax_num = r.tax.num;
  tax_den = r.tax.den;
  sharers = r.sharers;
  instances = r.instances;
}

abbrev pub raw_counts_of : HostCounts → RawCounts
raw_counts_of n = record {
  turns = n.turns;
  charges = n.charges;
  returned = n.returned;
  trapped = n.trapped;
  cancelled = n.cancelled;
  dead = n.dead;
  offers = n.offers;
  merges = n.merges;
  breaks = n.breaks;
  evictions = n.evictions;
  fetches = n.fetches;
  faults = n.faults;
}

abbrev pub raw_row_of : ReportRow → RawInstanceReport
raw_row_of row = record {
  instance = record { place = row.place; number = row.number };
  shares = row.shares;
  min = row.min;
  max = row.max;
  charged = row.charged;
  active = row.active;
  swapped = row.swapped;
}
