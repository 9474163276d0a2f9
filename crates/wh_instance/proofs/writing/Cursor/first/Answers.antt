use Rattle.wh_instance.proofs.Cutting.{behind_none, placed_few}
use Rattle.wh_instance.specs.Pieces.{placed_data}
use Rattle.wh_instance.proofs.writing.Cursor.first.Goals as goal

pub returns-clause-few : goal.returns-clause-few
returns-clause-few c segments places size within = rw (behind_none (placed_data segments places)) (placed_few size segments places within)
