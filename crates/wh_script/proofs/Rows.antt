-- The rows of a report are those of the script's instances.
use Rattle.std.proofs.Common.{◌≡◌, ◌∙◌, ℕ, ◌+◌, ◌-◌, List, [], ◌∷◌, ◌++◌, length, Option, Some, None, refl, sym, ap, subst}
use Rattle.std.specs.List.{AllZip}
use Rattle.wh_host_model.specs.Host.{Tenant, World}
use Rattle.wh_script_model.specs.{Row, frames_text, row_text, shared_text, slots_text, NamedInstance}
use Rattle.wh_script_model.specs.Settings.{Settings}
use Rattle.wh_script_model.specs.ScriptState.{ScriptState}
use Rattle.wh_host.specs.Reporting.{ReportState, ReportsHost, all_sharers, report_of, row_in, rows_in, shared_frames}
use Rattle.wh_replies.specs.ReportTexts.{report_text, row_of, rows_text}
use Rattle.wh_script_laws.specs.Following.{AreSame, IsFollowed, is_there, is_gone, Knows, StandsSame}
use Rattle.wh_engine.specs.RepresentedScript.{ScriptHostState, RepresentsScript}
use Rattle.wh_script.specs.Reports.{AreRowsOf, no_rows, row_left_out, row_shown, IsReportOf, row_texts}

module _ (settings : Settings) (w : World) (num : w.space.tax.num ≡ settings.num) (den : w.space.tax.den ≡ settings.den) where
  abbrev RowsAre : ℕ → List NamedInstance → List (Option Tenant) → Type 0
  RowsAre number gs ts = (rows : List Row) × AreRowsOf settings number gs rows × (rows_text w.space.tax (rows_in w.space number ts) ≡ row_texts rows)

  one_row : (number : ℕ) (g : NamedInstance) (gs : List NamedInstance) (o : Option Tenant) (ts : List (Option Tenant)) → IsFollowed AreSame StandsSame w g o
      → RowsAre (number + 1) gs ts → RowsAre number (g ∷ gs) (o ∷ ts)
  one_row number g gs None ts (is_gone gone) rest = (rest.0, row_left_out gone rest.1, rest.2)
  one_row number g gs (Some t) ts (is_there of_one same faultless) rest = (
    row_of w.space.tax (row_in w.space number t) ∷ rest.0,
    row_shown of_one.is_live (record {
      number_is = refl;
      shares = ap (λ p. p.shares) (sym of_one.params);
      min = ap (λ p. p.min) (sym of_one.params);
      max = ap (λ p. p.max) (sym of_one.params);
      num = num;
      den = den;
    }) rest.1,
    ap (λ text. row_text (row_of w.space.tax (row_in w.space number t)) ++ text) rest.2,
  )

  rows_are : (number : ℕ) (gs : List NamedInstance) (ts : List (Option Tenant)) → AllZip (IsFollowed AreSame StandsSame w) gs ts → RowsAre number gs ts
  rows_are number [] [] all = ([], no_rows, refl)
  rows_are number [] (o ∷ ts) all = absurd all
  rows_are number (g ∷ gs) [] all = absurd all
  rows_are number (g ∷ gs) (o ∷ ts) all = one_row number g gs o ts all.0 (rows_are (number + 1) gs ts all.1)

is_report : (settings : Settings) (w : World) (m : ScriptState) (places : List ℕ) → Knows settings w m places → IsReportOf settings m (report_text (report_of w))
is_report settings w m places known =
    let s = w.space in
    let rows = rows_are settings w known.tax_num known.tax_den 0 m.instances w.tenants known.instances in
    let used = length s.pool.frames - length s.pool.free in
    let taken = length s.slots.uses - length s.slots.vacant in
    record {
      used = used;
      taken = taken;
      shared = shared_frames s;
      sharing = all_sharers s;
      rows = rows.0;
      are_rows = rows.1;
      is = ap (λ text. frames_text (length s.pool.frames) used ++ slots_text (length s.slots.uses) taken ++ shared_text (shared_frames s) (all_sharers s) ++ text) rows.2
          ∙ ap (λ n. frames_text n used ++ slots_text (length s.slots.uses) taken ++ shared_text (shared_frames s) (all_sharers s) ++ row_texts rows.0) known.frames
          ∙ ap (λ n. frames_text settings.frames used ++ slots_text n taken ++ shared_text (shared_frames s) (all_sharers s) ++ row_texts rows.0) known.slots;
    }

-- the report of the host on which an engine represents a script
pub reports_script : {D : Type 0} (e : ScriptHostState D) (report : ReportState) (settings : Settings) (m : ScriptState) → ReportsHost e.host.host report → RepresentsScript settings e m
    → IsReportOf settings m (report_text report)
reports_script e report settings m reports s =
    subst (λ r. IsReportOf settings m (report_text r)) (sym (reports s.stands.world s.stands.is.0)) (is_report settings s.stands.world m _ s.stands.knows)
