use Rattle.wh_model.specs.Validity.Valid.{Valid}
use Rattle.wh_model.specs.Validity.{Fits}
use Rattle.wh_validate.proofs.whole.validate.Goals as goal

pub returns-clause-valid : goal.returns-clause-valid
unfolding Valid
returns-clause-valid c = let sound = c.in_ok-tables.ensures.sound in (sound.context, sound.valid)

pub returns-clause-fits : goal.returns-clause-fits
unfolding Fits
returns-clause-fits c = let sound = c.in_ok-tables.ensures.sound in (sound.context, sound.fits)
