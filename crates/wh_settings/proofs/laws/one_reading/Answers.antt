use Rattle.wh_settings.proofs.OneReading.{one_settings}
use Rattle.wh_settings.proofs.laws.one_reading.Goals as goal

pub returns : goal.returns
returns c = one_settings
