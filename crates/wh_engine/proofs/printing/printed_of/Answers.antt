use Rattle.std.proofs.Common.{false, ap, sym, subst, ◌∙◌}
use Rattle.wh_script_model.specs.{status_by}
use Rattle.wh_instance.specs.Told.{IsCallStatus}
use Rattle.wh_engine.proofs.printing.printed_of.Goals as goal
use Rattle.wh_script_laws.specs.Following.{device_fault}

pub returns-in-Returned : goal.returns-in-Returned
returns-in-Returned c waits stands call is =
    let so = subst (λ t. IsCallStatus t waits stands call) c.in-Returned.is is in
    let d = c.returned_so.ensures so.1 in
    (d.0, d.1, d.2 waits (device_fault stands) ∙ ap (λ o. status_by o false waits (device_fault stands) c.in-Returned.charges) (sym so.0) ∙ ap (λ n. status_by call.outcome false waits (device_fault stands) n) (sym so.2))
