-- The text of a report, by its numbers.
use Rattle.std.specs.Prelude.{ℕ, List, flat_map, ◌++◌}
use Rattle.wh_space_model.specs.declared.Tax.{Tax}
use Rattle.wh_script_model.specs.Texts.{Row, frames_text, row_text, shared_text, slots_text}
use Rattle.wh_host.specs.Reporting.{ReportRow, ReportState, UsageState}

abbrev pub row_of : Tax → ReportRow → Row
row_of tax row = record {
  number = row.number;
  shares = row.shares;
  min = row.min;
  max = row.max;
  charged = row.charged;
  active = row.active;
  swapped = row.swapped;
  num = tax.num;
  den = tax.den;
}

-- a line for each instance
abbrev pub rows_text : Tax → List ReportRow → List ℕ
rows_text tax rows = flat_map (λ row. row_text (row_of tax row)) rows

-- the first three lines
abbrev pub head_text : UsageState → List ℕ
head_text u = frames_text u.frames u.used_frames ++ slots_text u.slots u.used_slots ++ shared_text u.shared_frames u.sharers

abbrev pub report_text : ReportState → List ℕ
report_text r = head_text r.usage ++ rows_text r.usage.tax r.instances
