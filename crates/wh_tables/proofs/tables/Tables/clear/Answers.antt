use Rattle.std.proofs.Common.{length-set, rules}
use Rattle.wh_tables.proofs.Newcomers.{is_untouched, one_done, set_over}
use Rattle.wh_space_model.proofs.Putting.{is_page}
use Rattle.wh_tables.proofs.Relinking.{put_lengths}
use Rattle.wh_tables.proofs.tables.Tables.clear.Goals as goal

pub loop-number-preserved : goal.loop-number-preserved
loop-number-preserved c = search (rules, set_over, put_lengths, length-set, one_done)

pub forget-requires-clause-off : goal.forget-requires-clause-off
forget-requires-clause-off c p page is = search (rules, is_page, is_untouched)
