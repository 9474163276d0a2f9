use Rattle.std.proofs.Common.{arith, ◌∙◌, ◌<◌, ◌++◌, ◌∷◌, [], length, None, ap, sym, subst, refl}
use Rattle.wh_script_model.specs.{call_rejected}
use Rattle.wh_engine.proofs.Again.{whole_in}
use Rattle.wh_engine.proofs.Called.{call_again, called, gone_there, refused_gone, taken_so, turned_so}
use Rattle.wh_engine.proofs.Found.{absent_gone, read_there}
use Rattle.wh_engine.proofs.Whole.{keeps_whole}
use Rattle.wh_host.specs.CallRequests.{IsInvokeAnswer}
use Rattle.wh_engine.specs.declared.parts.InvokeOutcome.TheVariants.{Rejected}
use Rattle.wh_engine.specs.RepresentedScript.{ScriptHostState, invoke_outcome_of}
use Rattle.wh_engine.proofs.script_host.ScriptHost.invoke.Goals as goal
use Rattle.wh_engine.proofs.script_host.ScriptHost.invoke.Goals.{in-Ok, in-Err}

-- it isn't kept any more
pub returns-in_default-kept_at-clause-ok : goal.returns-in_default-kept_at-clause-ok
returns-in_default-kept_at-clause-ok g c =
    rw (← c.self.view_is) (λ settings m s.
    let there = subst (λ (z : ScriptHostState g.row.D.Denot). c.args.number < length z.instance_names) (sym c.self.view_is) c.requires.there in
    let known = gone_there settings _ m c.args.number s there in
    let gone = absent_gone settings _ m c.args.number known.0 s c.in_default-kept_at.ensures.found known.1 in
    let outcome = Rejected c.number-fault.result in
    let items = c.note.ensures ∙ ap (λ xs. xs ++ record { number = c.in-Some.asked; outcome = outcome; last_printed = None } ∷ []) c.in_ok-reserve.ensures.items in
    call_again settings _ m c.args.number c.args.export.now c.args.fuel c.args.args.now c.self.inside.host outcome c.note.new.invoked.items c.in-Some.asked s items (omega (arith, c.in-Some.ensures))
    (refused_gone settings (whole_in s) m c.args.number known.0 c.args.export.now c.args.fuel c.args.args.now outcome _ s.stands known.1 gone (ap call_rejected c.number-fault.ensures) refl))

pub returns-clause-ok : goal.returns-clause-ok
returns-clause-ok g c =
    rw (← c.self.view_is) (λ settings m s.
    let h2 = c.ask.new.self.host in
    let outcome = c.match-ask.outcome in
    let there = read_there settings _ m c.args.number c.in-Some-kept_at.at c.index.result.now s c.in-Some-kept_at.ensures.found c.in-Some-kept_at.ensures.within c.index.ensures in
    let items = c.note-2.ensures ∙ ap (λ xs. xs ++ record { number = c.in-Some.asked; outcome = outcome; last_printed = None } ∷ []) c.in_ok-reserve.ensures.items in
    call_again settings _ m c.args.number c.args.export.now c.args.fuel c.args.args.now c.ask.new.self outcome c.note-2.new.invoked.items c.in-Some.asked s items (omega (arith, c.in-Some.ensures))
    (called settings (whole_in s) m c.args.number c.index.result.now c.args.export.now c.args.fuel c.args.args.now h2 c.ask.result outcome
    _ s.stands there c.ask.ensures.asks (keeps_whole c.self.inside.host.host.space h2.space c.ask.ensures.backing)
    (elim c.match-ask.branch [
      | in-Ok w ↦ λ answer is. ap invoke_outcome_of w.outcome-is ∙ taken_so c.args.number w.in-Ok.place answer (subst (λ r. IsInvokeAnswer r answer) w.in-Ok.is is)
      | in-Err w ↦ λ answer is. ap invoke_outcome_of (w.outcome-is ∙ ap (λ n. Rejected n) w.number.ensures) ∙ turned_so c.args.number w.in-Err.error answer (subst (λ r. IsInvokeAnswer r answer) w.in-Err.is is)
    ]) refl))
