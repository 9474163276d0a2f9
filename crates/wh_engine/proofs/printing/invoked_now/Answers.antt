use Rattle.std.proofs.Common.{refl, ap, sym, subst, ◌∙◌}
use Rattle.wh_script_model.specs.{is_refused}
use Rattle.wh_replies.specs.View.{status_of}
use Rattle.wh_replies.specs.declared.call.Status.TheVariants.{Refused}
use Rattle.wh_script_laws.specs.Printed.{WasPrinted}
use Rattle.wh_engine.specs.RepresentedScript.{invoke_outcome_of}
use Rattle.wh_engine.proofs.Printings.{takes_so}
use Rattle.wh_engine.proofs.printing.invoked_now.Goals as goal

pub returns-in-Rejected : goal.returns-in-Rejected
returns-in-Rejected c instances v number is has =
    (Refused c.in-Rejected.fault, refl, λ lines says. is_refused (sym is.outcome ∙ ap invoke_outcome_of c.in-Rejected.is) says)

pub returns-in-Accepted : goal.returns-in-Accepted
returns-in-Accepted c instances v number is has =
    let i = c.in-Accepted.instance in
    let place = c.in-Accepted.place in
    let outcome = sym is.outcome ∙ ap invoke_outcome_of c.in-Accepted.is in
    let d = has i place outcome in
    let s = c.found_now.ensures d.0 d.1 d.4 d.3 (λ gone. subst (WasPrinted d.0 place d.1) (sym is.last_printed) (d.5 gone)) in
    (s.0, s.1, λ lines says. takes_so instances number v i place d.0 d.1 (status_of s.0) lines outcome d.2 d.3 s.2 says)
