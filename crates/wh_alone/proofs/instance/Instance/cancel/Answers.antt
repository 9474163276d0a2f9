use Rattle.std.proofs.Common.{⊎_elim, subst}
use Rattle.wh_alone.specs.declared.outcome.Stage.TheVariants.{Fresh, Starting, Idle, Calling, Dead}
use Rattle.wh_alone.specs.InstanceStates.{Kept}
use Rattle.wh_alone.specs.Journal.{InstanceState, IsSomewhere, GivenUp}
use Rattle.wh_alone.specs.Stages.{IsOpen}
use Rattle.wh_alone.proofs.Moving.{fresh_up, starting_up, calling_up, somewhere_up}
use Rattle.wh_alone.proofs.Present.{record_of, at_stage}
use Rattle.wh_alone.proofs.instance.Instance.cancel.Goals as goal

pub invariant_of-self : goal.invariant_of-self
invariant_of-self c =
    let k : Kept = record { linked = c.self.inside.linked; store = c.self.inside.store; memory = c.self.inside.memory; machine = c.self.inside.machine } in
    ⊎_elim
    (λ e. somewhere_up (record_of k Fresh) (record_of k Dead) tt (fresh_up k) (subst (λ s. IsSomewhere (record_of k s)) e c.self.invariant))
    (λ e. somewhere_up (record_of k Starting) (record_of k Dead) tt (starting_up k) (subst (λ s. IsSomewhere (record_of k s)) e c.self.invariant))
    c.in-Fresh.is

pub invariant_of-self-in-Calling : goal.invariant_of-self-in-Calling
invariant_of-self-in-Calling c =
    let k : Kept = record { linked = c.self.inside.linked; store = c.self.inside.store; memory = c.self.inside.memory; machine = c.self.inside.machine } in
    somewhere_up (record_of k Calling) (record_of k Idle) tt (calling_up k) (subst (λ s. IsSomewhere (record_of k s)) c.in-Calling.is c.self.invariant)

pub returns-in-Calling-clause-some : goal.returns-in-Calling-clause-some
returns-in-Calling-clause-some c e =
    let k : Kept = record { linked = c.self.inside.linked; store = c.self.inside.store; memory = c.self.inside.memory; machine = c.self.inside.machine } in
    subst (λ (i : InstanceState). IsOpen i.stage × GivenUp i (record_of k Idle)) (at_stage k c.self.inside.stage Calling c.args.self.now c.in-Calling.is c.self.view_is) (tt, calling_up k)

pub returns-in-Fresh-clause-some : goal.returns-in-Fresh-clause-some
returns-in-Fresh-clause-some c true_is =
    let k : Kept = record { linked = c.self.inside.linked; store = c.self.inside.store; memory = c.self.inside.memory; machine = c.self.inside.machine } in
    ⊎_elim
    (λ e. subst (λ (i : InstanceState). IsOpen i.stage × GivenUp i (record_of k Dead)) (at_stage k c.self.inside.stage Fresh c.args.self.now e c.self.view_is) (tt, fresh_up k))
    (λ e. subst (λ (i : InstanceState). IsOpen i.stage × GivenUp i (record_of k Dead)) (at_stage k c.self.inside.stage Starting c.args.self.now e c.self.view_is) (tt, starting_up k))
    c.in-Fresh.is
