use Rattle.std.proofs.Common.{refl, sym, ap, subst, ◌∙◌}
use Rattle.wh_alone.specs.declared.outcome.Stage.TheVariants.{Idle}
use Rattle.wh_alone.specs.InstanceStates.{Kept}
use Rattle.wh_alone.specs.Journal.{InstanceState, IsSomewhere, CallEnds}
use Rattle.wh_alone.specs.Stages.{IsNoCall}
use Rattle.wh_model.specs.Execution.{store_at}
use Rattle.wh_alone.specs.Stages.{after_call}
use Rattle.wh_alone.proofs.Moving.{call_comes, somewhere_called}
use Rattle.wh_alone.proofs.Present.{record_of, at_stage}
use Rattle.wh_alone.proofs.instance.Instance.call.Goals as goal

pub returns-then-not-can_call-clause-err : goal.returns-then-not-can_call-clause-err
returns-then-not-can_call-clause-err c =
    ((ap (λ (i : InstanceState). i.stage) (sym c.self.view_is) ∙ c.in-Idle.is, subst (λ (i : InstanceState). IsNoCall i.kept c.args.func c.args.args.now) c.self.view_is (λ cx inst is h. c.if-not-can_call.ensures cx inst is h)), refl)

pub call-outcome-requires : goal.call-outcome-requires
call-outcome-requires c =
    let at = c.self.invariant.is_at in
    let h = c.if-not-can_call.ensures at.store.0 at.inst at.store.1.instance in
    record { context = at.store.0; inst = at.inst; s = store_at c.self.invariant.z; around = at.store.1; type = h.0; body = h.1; vs = h.2; suits = h.3 }

pub invariant_of-self : goal.invariant_of-self
invariant_of-self c =
    let k : Kept = record { linked = c.self.inside.linked; store = c.self.inside.store; memory = c.self.inside.memory; machine = c.self.inside.machine } in
    let k2 : Kept = record { linked = c.self.inside.linked; store = c.call-outcome.new.store; memory = c.call-outcome.new.memory; machine = c.call-outcome.new.machine } in
    let r = c.call-outcome.result in
    let called = call_comes k k2 c.args.func c.args.args.now c.args.fuel r.1 r.0 refl (λ cx inst is. c.if-not-can_call.ensures cx inst is) c.call-outcome.ensures in
    subst (λ s. IsSomewhere (record_of k2 s)) (sym c.stage_after_call-self-inside.ensures)
    (somewhere_called (record_of k Idle) (record_of k2 (after_call r.0)) c.args.func c.args.args.now c.args.fuel r.1 r.0 refl called (subst (λ s. IsSomewhere (record_of k s)) c.in-Idle.is c.self.invariant))

pub returns-clause-ok : goal.returns-clause-ok
returns-clause-ok c =
    let k : Kept = record { linked = c.self.inside.linked; store = c.self.inside.store; memory = c.self.inside.memory; machine = c.self.inside.machine } in
    let k2 : Kept = record { linked = c.self.inside.linked; store = c.call-outcome.new.store; memory = c.call-outcome.new.memory; machine = c.call-outcome.new.machine } in
    let r = c.call-outcome.result in
    let called = call_comes k k2 c.args.func c.args.args.now c.args.fuel r.1 r.0 refl (λ cx inst is. c.if-not-can_call.ensures cx inst is) c.call-outcome.ensures in
    subst (λ (i : InstanceState). CallEnds i c.args.func c.args.args.now c.args.fuel r.0 r.1 (record_of k2 c.stage_after_call-self-inside.result)) (at_stage k c.self.inside.stage Idle c.args.self.now c.in-Idle.is c.self.view_is)
    (subst (λ s. CallEnds (record_of k Idle) c.args.func c.args.args.now c.args.fuel r.0 r.1 (record_of k2 s)) (sym c.stage_after_call-self-inside.ensures) called)
