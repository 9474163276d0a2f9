use Rattle.std.proofs.Common.{refl, sym, ap, subst, ◌∙◌}
use Rattle.wh_syntax.specs.declared.module.Module.{Module}
use Rattle.wh_alone.specs.declared.outcome.Stage.TheVariants.{Fresh, Starting, Calling}
use Rattle.wh_alone.specs.InstanceStates.{Kept}
use Rattle.wh_alone.specs.Journal.{InstanceState, IsSomewhere, GoesOnWith}
use Rattle.wh_alone.specs.Stages.{IsOpen}
use Rattle.wh_alone.specs.Stages.{after_start, after_call}
use Rattle.wh_alone.proofs.Moving.{start_comes, starting_on, calling_on, somewhere_on}
use Rattle.wh_alone.proofs.Present.{record_of, at_stage, can_start, has_start, starting_stands, calling_stands}
use Rattle.wh_alone.proofs.instance.Instance.run.Goals as goal

pub unreachable-requires : goal.unreachable-requires
unreachable-requires c =
    let k : Kept = record { linked = c.self.inside.linked; store = c.self.inside.store; memory = c.self.inside.memory; machine = c.self.inside.machine } in
    has_start k (subst (λ s. IsSomewhere (record_of k s)) c.in-Fresh.is c.self.invariant) (ap (λ (m : Module). m.start) (sym c.module.ensures.same) ∙ c.in_default.is)

pub call-outcome-requires : goal.call-outcome-requires
call-outcome-requires c =
    let k : Kept = record { linked = c.self.inside.linked; store = c.self.inside.store; memory = c.self.inside.memory; machine = c.self.inside.machine } in
    can_start k c.in-Some.func (subst (λ s. IsSomewhere (record_of k s)) c.in-Fresh.is c.self.invariant) (ap (λ (m : Module). m.start) (sym c.module.ensures.same) ∙ c.in-Some.is)

pub run_on-outcome-requires : goal.run_on-outcome-requires
run_on-outcome-requires c =
    let k : Kept = record { linked = c.self.inside.linked; store = c.self.inside.store; memory = c.self.inside.memory; machine = c.self.inside.machine } in
    starting_stands k (subst (λ s. IsSomewhere (record_of k s)) c.in-Starting.is c.self.invariant)

pub run_on-outcome-requires-in-Calling : goal.run_on-outcome-requires-in-Calling
run_on-outcome-requires-in-Calling c =
    let k : Kept = record { linked = c.self.inside.linked; store = c.self.inside.store; memory = c.self.inside.memory; machine = c.self.inside.machine } in
    calling_stands k (subst (λ s. IsSomewhere (record_of k s)) c.in-Calling.is c.self.invariant)

pub invariant_of-self : goal.invariant_of-self
invariant_of-self c =
    let k : Kept = record { linked = c.self.inside.linked; store = c.self.inside.store; memory = c.self.inside.memory; machine = c.self.inside.machine } in
    let k2 : Kept = record { linked = c.self.inside.linked; store = c.call-outcome.new.store; memory = c.call-outcome.new.memory; machine = c.call-outcome.new.machine } in
    let r = c.call-outcome.result in
    subst (λ s. IsSomewhere (record_of k2 s)) (sym c.stage_after_start-self-inside.ensures)
    (somewhere_on (record_of k Fresh) (record_of k2 (after_start r.0)) c.args.fuel r.1 r.0 tt (start_comes k k2 c.in-Some.func c.args.fuel r.1 r.0 refl (ap (λ (m : Module). m.start) (sym c.module.ensures.same) ∙ c.in-Some.is) c.call-outcome.ensures) (subst (λ s. IsSomewhere (record_of k s)) c.in-Fresh.is c.self.invariant))

pub returns-in-Some-clause-some : goal.returns-in-Some-clause-some
returns-in-Some-clause-some c =
    let k : Kept = record { linked = c.self.inside.linked; store = c.self.inside.store; memory = c.self.inside.memory; machine = c.self.inside.machine } in
    let k2 : Kept = record { linked = c.self.inside.linked; store = c.call-outcome.new.store; memory = c.call-outcome.new.memory; machine = c.call-outcome.new.machine } in
    let r = c.call-outcome.result in
    subst (λ (i : InstanceState). IsOpen i.stage × GoesOnWith i c.args.fuel r.0 r.1 (record_of k2 c.stage_after_start-self-inside.result)) (at_stage k c.self.inside.stage Fresh c.args.self.now c.in-Fresh.is c.self.view_is)
    (tt, subst (λ s. GoesOnWith (record_of k Fresh) c.args.fuel r.0 r.1 (record_of k2 s)) (sym c.stage_after_start-self-inside.ensures) (start_comes k k2 c.in-Some.func c.args.fuel r.1 r.0 refl (ap (λ (m : Module). m.start) (sym c.module.ensures.same) ∙ c.in-Some.is) c.call-outcome.ensures))

pub invariant_of-self-in-Starting : goal.invariant_of-self-in-Starting
invariant_of-self-in-Starting c =
    let k : Kept = record { linked = c.self.inside.linked; store = c.self.inside.store; memory = c.self.inside.memory; machine = c.self.inside.machine } in
    let k2 : Kept = record { linked = c.self.inside.linked; store = c.run_on-outcome.new.store; memory = c.run_on-outcome.new.memory; machine = c.run_on-outcome.new.machine } in
    let r = c.run_on-outcome.result in
    subst (λ s. IsSomewhere (record_of k2 s)) (sym c.stage_after_start-self-inside-in-Starting.ensures)
    (somewhere_on (record_of k Starting) (record_of k2 (after_start r.0)) c.args.fuel r.1 r.0 tt (starting_on k k2 c.args.fuel r.1 r.0 refl c.run_on-outcome.ensures) (subst (λ s. IsSomewhere (record_of k s)) c.in-Starting.is c.self.invariant))

pub returns-in-Starting-clause-some : goal.returns-in-Starting-clause-some
returns-in-Starting-clause-some c =
    let k : Kept = record { linked = c.self.inside.linked; store = c.self.inside.store; memory = c.self.inside.memory; machine = c.self.inside.machine } in
    let k2 : Kept = record { linked = c.self.inside.linked; store = c.run_on-outcome.new.store; memory = c.run_on-outcome.new.memory; machine = c.run_on-outcome.new.machine } in
    let r = c.run_on-outcome.result in
    subst (λ (i : InstanceState). IsOpen i.stage × GoesOnWith i c.args.fuel r.0 r.1 (record_of k2 c.stage_after_start-self-inside-in-Starting.result)) (at_stage k c.self.inside.stage Starting c.args.self.now c.in-Starting.is c.self.view_is)
    (tt, subst (λ s. GoesOnWith (record_of k Starting) c.args.fuel r.0 r.1 (record_of k2 s)) (sym c.stage_after_start-self-inside-in-Starting.ensures) (starting_on k k2 c.args.fuel r.1 r.0 refl c.run_on-outcome.ensures))

pub invariant_of-self-in-Calling : goal.invariant_of-self-in-Calling
invariant_of-self-in-Calling c =
    let k : Kept = record { linked = c.self.inside.linked; store = c.self.inside.store; memory = c.self.inside.memory; machine = c.self.inside.machine } in
    let k2 : Kept = record { linked = c.self.inside.linked; store = c.run_on-outcome-in-Calling.new.store; memory = c.run_on-outcome-in-Calling.new.memory; machine = c.run_on-outcome-in-Calling.new.machine } in
    let r = c.run_on-outcome-in-Calling.result in
    subst (λ s. IsSomewhere (record_of k2 s)) (sym c.stage_after_call-self-inside.ensures)
    (somewhere_on (record_of k Calling) (record_of k2 (after_call r.0)) c.args.fuel r.1 r.0 tt (calling_on k k2 c.args.fuel r.1 r.0 refl c.run_on-outcome-in-Calling.ensures) (subst (λ s. IsSomewhere (record_of k s)) c.in-Calling.is c.self.invariant))

pub returns-in-Calling-clause-some : goal.returns-in-Calling-clause-some
returns-in-Calling-clause-some c =
    let k : Kept = record { linked = c.self.inside.linked; store = c.self.inside.store; memory = c.self.inside.memory; machine = c.self.inside.machine } in
    let k2 : Kept = record { linked = c.self.inside.linked; store = c.run_on-outcome-in-Calling.new.store; memory = c.run_on-outcome-in-Calling.new.memory; machine = c.run_on-outcome-in-Calling.new.machine } in
    let r = c.run_on-outcome-in-Calling.result in
    subst (λ (i : InstanceState). IsOpen i.stage × GoesOnWith i c.args.fuel r.0 r.1 (record_of k2 c.stage_after_call-self-inside.result)) (at_stage k c.self.inside.stage Calling c.args.self.now c.in-Calling.is c.self.view_is)
    (tt, subst (λ s. GoesOnWith (record_of k Calling) c.args.fuel r.0 r.1 (record_of k2 s)) (sym c.stage_after_call-self-inside.ensures) (calling_on k k2 c.args.fuel r.1 r.0 refl c.run_on-outcome-in-Calling.ensures))
