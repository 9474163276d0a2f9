use Rattle.std.proofs.Common.{◌≡◌, ◌++◌, map, string_bytes, take}
use Rattle.wh_host.specs.Reporting.{view_row}
use Rattle.wh_replies.specs.ReportTexts.{rows_text}
use Rattle.wh_replies.proofs.report.write_rows.Given as goal

-- the lines of the first ones stand behind the text
abbrev pub invariant-loop-instance : goal.invariant-loop-instance
invariant-loop-instance l = string_bytes l.text ≡ string_bytes l.fn.text ++ rows_text l.tax (map view_row (take l.instance-index l.instances))
