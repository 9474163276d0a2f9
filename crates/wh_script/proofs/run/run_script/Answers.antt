use Rattle.std.proofs.Common.{rules}
use Rattle.wh_settings.specs.View.{settings_of}
use Rattle.wh_script.proofs.Runs.{begins_nothing}
use Rattle.wh_script.specs.FailingRuns.{ScriptRunsAmid}
use Rattle.wh_script.proofs.FaultlessRuns.{faultless_run, nothing_begun, where_served}
use Rattle.wh_script.proofs.run.run_script.Goals as goal

pub returns-in_default-clause-amid : goal.returns-in_default-clause-amid
returns-in_default-clause-amid g c =
    let left = g.R.Read.remaining c.args.reader.now.inner in
    begins_nothing (settings_of c.args.settings.now) (g.S.Source.files c.args.source.now) left left (g.W.Write.contents c.args.writer.now.inner)

pub returns-in_default-clause-runs : goal.returns-in_default-clause-runs
returns-in_default-clause-runs g c served =
    let left = g.R.Read.remaining c.args.reader.now.inner in
    let settings = settings_of c.args.settings.now in
    let files = g.S.Source.files c.args.source.now in
    nothing_begun settings files left left (g.W.Write.contents c.args.writer.now.inner)

pub returns-clause-amid : goal.returns-clause-amid
returns-clause-amid g c = search rules

pub returns-clause-runs : goal.returns-clause-runs
returns-clause-runs g c served =
    let settings = settings_of c.args.settings.now in
    let files = g.S.Source.files c.args.source.now in
    let reader = c.run_on_cell_parts.new.reader in
    let writer = c.run_on_cell_parts.new.writer in
    let left = g.R.Read.remaining in
    let contents = g.W.Write.contents in
    faultless_run settings files (left c.args.reader.now.inner) (left reader.inner) (contents c.args.writer.now.inner) (contents writer.inner) c.run_on_cell_parts.result.0
    (where_served g.D.SwapDev.honest g.D.SwapDev.faults c.args.device c.run_on_cell_parts.result.1
    (λ met. ScriptRunsAmid settings files met (left c.args.reader.now.inner) (left reader.inner) (contents c.args.writer.now.inner) (contents writer.inner) c.run_on_cell_parts.result.0)
    (returns-clause-amid g c) served)
