use Rattle.toml.specs.View.{table_view}
use Rattle.wh_settings.proofs.OneReading.{refuses_bytes}
use Rattle.wh_settings.proofs.reading.read_settings.Goals as goal

pub returns-clause-err : goal.returns-clause-err
returns-clause-err c =
    refuses_bytes c.args.bytes.now (table_view c.in-Ok.table) c.settings_in.result c.in-Ok.ensures.ok.1
    c.settings_in.ensures.err
