use Rattle.std.proofs.Common.{None, sym, subst}
use Rattle.wh_initial.specs.Given.{view_parameters}
use Rattle.wh_alone.specs.declared.outcome.Outcome.TheVariants.{Returned}
use Rattle.wh_alone.specs.declared.outcome.CallResult.TheVariants.{NoCall}
use Rattle.wh_alone.specs.declared.outcome.Outcome.{Outcome}
use Rattle.wh_alone.specs.Journal.{InstanceState}
use Rattle.wh_alone.specs.ModuleRuns.{RunsModule}
use Rattle.wh_alone.proofs.Replaying.{Began, began_some, began_none, stopped_start, no_call, one_call}
use Rattle.wh_alone.proofs.alone.call_module.Goals.{in-None, in-Some+in-Returned}
use Rattle.wh_alone.proofs.alone.call_module.Goals as goal

pub returns-in_default : goal.returns-in_default
returns-in_default c =
    let b = c.in_ok-instance.ensures.ok in
    let p = view_parameters c.args.parameters in
    let goes = c.in-Some.ensures.some in
    let began = began_some c.args.bytes.now p c.in_ok-instance.instance c.run.new.self c.args.fuel c.in-Some.charges c.in-Some.outcome b goes.0 goes.1 in
    record { ok = stopped_start c.args.bytes.now p c.run.new.self c.args.func c.args.args.now c.args.fuel c.in-Some.charges c.in-Some.outcome b.m b.accepted began c.in_default.not-Returned; err = tt }

pub returns-in-Ok-clause-ok : goal.returns-in-Ok-clause-ok
returns-in-Ok-clause-ok c =
    let b = c.in_ok-instance.ensures.ok in
    let p = view_parameters c.args.parameters in
    let i = c.run.new.self in
    let called = c.in-Ok.ensures.ok in
    elim c.match-run.branch [
      | in-None w ↦
          let none = w.in-None.ensures.none in
          let began = subst (λ n. Began b.m p i c.args.fuel (Returned None) n) (sym w.started-is) (subst (λ (j : InstanceState). Began b.m p j c.args.fuel (Returned None) 0) (sym none.1) (began_none c.args.bytes.now p c.in_ok-instance.instance c.args.fuel b none.0)) in
          one_call c.args.bytes.now p i c.call.new.self c.args.func c.args.args.now c.args.fuel c.match-run.started c.in-Ok.charges None c.in-Ok.outcome b.m b.accepted began called
      | in-Some+in-Returned w ↦
          let goes = w.in-Some.ensures.some in
          let began = subst (λ n. Began b.m p i c.args.fuel (Returned w.in-Returned.field-0) n) (sym w.started-is) (subst (λ (o : Outcome). Began b.m p i c.args.fuel o w.in-Some.charges) w.in-Returned.is (began_some c.args.bytes.now p c.in_ok-instance.instance i c.args.fuel w.in-Some.charges w.in-Some.outcome b goes.0 goes.1)) in
          one_call c.args.bytes.now p i c.call.new.self c.args.func c.args.args.now c.args.fuel c.match-run.started c.in-Ok.charges w.in-Returned.field-0 c.in-Ok.outcome b.m b.accepted began called
    ]

pub returns-in-Err-clause-ok : goal.returns-in-Err-clause-ok
returns-in-Err-clause-ok c =
    let b = c.in_ok-instance.ensures.ok in
    let p = view_parameters c.args.parameters in
    let i = c.run.new.self in
    let refused = c.in-Err.ensures.err in
    let at : InstanceState → Type 0 = λ (j : InstanceState). RunsModule c.args.bytes.now p c.args.func c.args.args.now c.args.fuel (NoCall c.match-run.started) j in
    elim c.match-run.branch [
      | in-None w ↦
          let none = w.in-None.ensures.none in
          let began = subst (λ n. Began b.m p i c.args.fuel (Returned None) n) (sym w.started-is) (subst (λ (j : InstanceState). Began b.m p j c.args.fuel (Returned None) 0) (sym none.1) (began_none c.args.bytes.now p c.in_ok-instance.instance c.args.fuel b none.0)) in
          subst at (sym refused.1) (no_call c.args.bytes.now p i c.args.func c.args.args.now c.args.fuel c.match-run.started None b.m c.in-Err.field-0 b.accepted began refused.0)
      | in-Some+in-Returned w ↦
          let goes = w.in-Some.ensures.some in
          let began = subst (λ n. Began b.m p i c.args.fuel (Returned w.in-Returned.field-0) n) (sym w.started-is) (subst (λ (o : Outcome). Began b.m p i c.args.fuel o w.in-Some.charges) w.in-Returned.is (began_some c.args.bytes.now p c.in_ok-instance.instance i c.args.fuel w.in-Some.charges w.in-Some.outcome b goes.0 goes.1)) in
          subst at (sym refused.1) (no_call c.args.bytes.now p i c.args.func c.args.args.now c.args.fuel c.match-run.started w.in-Returned.field-0 b.m c.in-Err.field-0 b.accepted began refused.0)
    ]
