use Rattle.wh_settings.specs.View.{settings_of}
use Rattle.wh_script.proofs.Runs.{begins_nothing}
use Rattle.wh_script.proofs.run.run_on_cell_parts.Goals as goal

pub returns-in-Err-clause-amid : goal.returns-in-Err-clause-amid
returns-in-Err-clause-amid g c =
    begins_nothing (settings_of c.args.settings.now) (g.S.Source.files c.args.source.now) (g.R.Read.remaining c.args.reader.now.inner) (g.R.Read.remaining c.args.reader.now.inner) (g.W.Write.contents c.args.writer.now.inner)
