use Rattle.std.proofs.Common.{inr, Some, Ok, Err, ap, sym, refl, ◌∙◌, length, List, map}
use Rattle.std.proofs.lemmas.List.{length-map}
use Rattle.wh_host.specs.declared.report.InstanceReport.{InstanceReport}
use Rattle.wh_host.specs.Reporting.{view_report, view_row}
use Rattle.wolqedir.specs.Rooms.{laid_in}
use Rattle.wolqedir.specs.Shapes.{raw_row_of}
use Rattle.wolqedir.proofs.Helding.{same_held}
use Rattle.wolqedir.proofs.telling.wq_instance_reports.Goals as goal

pub returns-in-Ok-raw_rows : goal.returns-in-Ok-raw_rows
returns-in-Ok-raw_rows c =
    let rows = c.deref-in-Ok-raw_rows.ensures.value ∙ c.in-Ok-raw_rows.ensures ∙ ap (λ (rows : List InstanceReport). map raw_row_of (map view_row rows)) c.deref-in-Ok.ensures.value in
    inr (
      λ other. absurd (other refl),
      inr (
        c.deref.result.now,
        _,
        c.in-Some.ensures.some ∙ ap Some (sym c.deref.ensures),
        c.put.ensures.held,
        c.put.ensures.sound,
        record {
          answer = Ok (view_report c.in-Ok.told);
          answered = refl;
          same = sym c.deref.ensures;
          ok = c.in-Ok.ensures.ok;
          err = c.in-Ok.ensures.err;
          laid = c.lay.ensures.room ∙ ap (λ items. laid_in items c.args.room.now) rows;
          counted = c.lay.ensures.len ∙ ap length rows ∙ length-map (map view_row c.in-Ok.told.instances.items) raw_row_of;
        },
      ),
    )

pub returns : goal.returns
returns c = inr (
  λ _. (same_held (c.in-Some.ensures.some ∙ ap Some (sym c.deref.ensures)) c.put.ensures.held (sym c.deref.ensures), (refl, refl)),
  inr (
    c.deref.result.now,
    _,
    c.in-Some.ensures.some ∙ ap Some (sym c.deref.ensures),
    c.put.ensures.held,
    c.put.ensures.sound,
    record {
      answer = Err c.in-Err.error;
      answered = c.of_host.ensures;
      same = sym c.deref.ensures;
      ok = c.in-Err.ensures.ok;
      err = c.in-Err.ensures.err;
      laid = refl;
      counted = refl;
    },
  ),
)
