use Rattle.std.proofs.Common.{◌≡◌, ◌∙◌, Some, sym, ap, subst}
use Rattle.std.specs.Prelude.{Ok, IfOk, OnErr}
use Rattle.wh_model.specs.declared.memory.Need.{Need}
use Rattle.wh_host_model.specs.Host.{AwaitsFrame}
use Rattle.wh_space_model.specs.{IsProvided, FailsToProvide, FailsTruly, Provides, ProvidesTruly}
use Rattle.wh_host.specs.Paging.{MovesAnyhow, MovesWith, WaitsFor, provide_fault}
use Rattle.wh_cell.specs.Knowing.{BackingState, KnownState, NoneOut}
use Rattle.wh_cell.specs.Locking.{LockedState}
use Rattle.wh_cell.proofs.Passing.{together_is}
use Rattle.wh_cell.proofs.Steps.{provided_in_step}
use Rattle.wh_cell.proofs.locked.Locked.provide.Goals as goal

pub invariant_of-self : goal.invariant_of-self
invariant_of-self g c =
    let p = c.provide-provided in
    let agreed = c.agree.ensures.agreed in
    let kept = c.backing.invariant in
    let has = ap (λ k. k.device) (agreed ∙ kept.knows) in
    let none = subst NoneOut (sym (ap (λ k. k.out) agreed)) kept.none in
    provided_in_step g.D.SwapDev.held g.D.SwapDev.keeps g.D.SwapDev.honest g.D.SwapDev.faults _ p.new.self c.backing.inside.device p.new.device c.settle.new.known _ c.args.id p.result c.self.invariant has none
    (c.settle.ensures.known ∙ c.settle.ensures.keeper ∙ ap (λ (k : KnownState g.row.D.Denot). (let z : KnownState g.row.D.Denot = record k { device = Some p.new.device } in z)) (c.agree.ensures.same.0 ∙ sym agreed))
    p.ensures.serves p.ensures.moves p.ensures.anyhow p.ensures.whole p.ensures.none_out p.ensures.agrees (ap (λ b. b.charges) c.count_evictions.ensures.books)

pub returns-clause-moves : goal.returns-clause-moves
returns-clause-moves g c =
    let p = c.provide-provided in
    subst (λ (l : LockedState g.row.D.Denot). (g.D.SwapDev.honest p.new.device → MovesWith l.host c.args.id AwaitsFrame (provide_fault p.result) p.new.self)) c.self.view_is p.ensures.moves

pub returns-clause-anyhow : goal.returns-clause-anyhow
returns-clause-anyhow g c =
    let p = c.provide-provided in
    subst (λ (l : LockedState g.row.D.Denot). (MovesAnyhow l.host c.args.id AwaitsFrame (provide_fault p.result) p.new.self)) c.self.view_is p.ensures.anyhow

pub provide-provided-requires-clause-none_out : goal.provide-provided-requires-clause-none_out
provide-provided-requires-clause-none_out g c =
    let s = c.self.invariant in
    let none = subst NoneOut (sym (ap (λ k. k.out) c.agree.ensures.agreed)) c.backing.invariant.none in
    (together_is g.D.SwapDev.held c.self.inside.host.space c.self.inside.known s.device s.agrees none).none_out

pub returns-clause-idle : goal.returns-clause-idle
returns-clause-idle g c =
    let p = c.provide-provided in
    let of_host =
    subst (λ (l : LockedState g.row.D.Denot). (((need : Need) → ¬ (WaitsFor l.host c.args.id need)) → (p.new.self ≡ l.host) × (p.new.device ≡ c.backing.inside.device) × (p.result ≡ Ok 0))) c.self.view_is p.ensures.idle in
    subst (λ (b : BackingState g.row.D.Denot). (((need : Need) → ¬ (WaitsFor c.args.self.now.host c.args.id need)) → (p.new.self ≡ c.args.self.now.host) × (p.new.device ≡ b.device) × (p.result ≡ Ok 0))) c.backing.view_is of_host

pub returns-clause-provides : goal.returns-clause-provides
returns-clause-provides g c =
    let p = c.provide-provided in
    subst (λ (l : LockedState g.row.D.Denot). ((need : Need) → WaitsFor l.host c.args.id need → g.D.SwapDev.honest p.new.device → IfOk p.result (λ gone. ProvidesTruly l.host.space c.args.id.place need gone p.new.self.space))) c.self.view_is p.ensures.provides

pub returns-clause-right : goal.returns-clause-right
returns-clause-right g c =
    let p = c.provide-provided in
    subst (λ (l : LockedState g.row.D.Denot). ((need : Need) → WaitsFor l.host c.args.id need → IfOk p.result (λ gone. IsProvided l.host.space c.args.id.place need gone p.new.self.space))) c.self.view_is p.ensures.right

pub returns-clause-fails : goal.returns-clause-fails
returns-clause-fails g c =
    let p = c.provide-provided in
    subst (λ (l : LockedState g.row.D.Denot). ((need : Need) → WaitsFor l.host c.args.id need → g.D.SwapDev.honest p.new.device → OnErr p.result (FailsTruly l.host.space c.args.id.place need p.new.self.space))) c.self.view_is p.ensures.fails

pub returns-clause-provides_anyhow : goal.returns-clause-provides_anyhow
returns-clause-provides_anyhow g c =
    let p = c.provide-provided in
    subst (λ (l : LockedState g.row.D.Denot). ((need : Need) → WaitsFor l.host c.args.id need → IfOk p.result (λ gone. Provides l.host.space c.args.id.place need gone p.new.self.space))) c.self.view_is p.ensures.provides_anyhow

pub returns-clause-fails_anyhow : goal.returns-clause-fails_anyhow
returns-clause-fails_anyhow g c =
    let p = c.provide-provided in
    subst (λ (l : LockedState g.row.D.Denot). ((need : Need) → WaitsFor l.host c.args.id need → OnErr p.result (FailsToProvide l.host.space c.args.id.place need p.new.self.space))) c.self.view_is p.ensures.fails_anyhow
