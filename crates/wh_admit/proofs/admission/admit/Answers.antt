use Rattle.std.proofs.Common.{OnOk, IfErr, Some, sym, subst}
use Rattle.std.specs.Option.{option_copied}
use Rattle.wh_syntax.specs.View.{view_module}
use Rattle.wh_params.specs.View.{view_params}
use Rattle.wh_admit.specs.View.{linked_module}
use Rattle.wh_admit.specs.AdmissionFaults.{MeetsNone, RefusesAdmission}
use Rattle.wh_admit.proofs.HostLemmas.{handed_on, numbers_refused, beginning_refused, beginning_met}
use Rattle.wh_admit.proofs.admission.admit.Goals as goal

pub returns-in_err-check_numbers-clause-err : goal.returns-in_err-check_numbers-clause-err
returns-in_err-check_numbers-clause-err c =
    let m = view_module c.in-Some.linked.now.valid.decoded in
    let p = view_params c.args.params in
    let e = c.in_err-check_numbers.field-0.0 in
    subst (λ o. IfErr c.from_residual.result (RefusesAdmission (linked_module (option_copied o)) c.args.room p))
    (sym c.in-Some.is)
    (handed_on c.from_residual.result e (RefusesAdmission (Some m) c.args.room p) c.from_residual.ensures.1
    (numbers_refused m c.args.room p e c.in_err-check_numbers.ensures.err))

pub returns-clause-ok : goal.returns-clause-ok
returns-clause-ok c =
    let m = view_module c.in-Some.linked.now.valid.decoded in
    let p = view_params c.args.params in
    subst (λ o. OnOk c.begin.result (MeetsNone (linked_module (option_copied o)) c.args.room p)) (sym c.in-Some.is)
    (beginning_met m c.args.room p c.in_ok-check_numbers.ensures.ok c.begin.result c.begin.ensures.ok)

pub returns-clause-err : goal.returns-clause-err
returns-clause-err c =
    let m = view_module c.in-Some.linked.now.valid.decoded in
    let p = view_params c.args.params in
    subst (λ o. IfErr c.begin.result (RefusesAdmission (linked_module (option_copied o)) c.args.room p))
    (sym c.in-Some.is)
    (beginning_refused m c.args.room p c.in_ok-check_numbers.ensures.ok c.begin.result c.begin.ensures.err)
