use Rattle.std.proofs.Common.{◌∙◌, sym}
use Rattle.wh_instance.proofs.Told.{told_returned}
use Rattle.wh_instance.proofs.telling.status_of.Goals as goal

pub returns-in-Returned : goal.returns-in-Returned
returns-in-Returned c =
    told_returned c.args.linked.now c.args.call.now c.args.waits c.args.waiting_for c.in-Returned.word c.func.result c.charges-charges.result c.value_of.result
    (sym c.end.ensures ∙ c.in-Returned.is) c.func.ensures c.charges-charges.ensures c.value_of.ensures
