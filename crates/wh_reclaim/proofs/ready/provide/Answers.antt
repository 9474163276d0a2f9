use Rattle.std.proofs.Common.{◌∙◌, sym, subst}
use Rattle.std.specs.Prelude.{IfOk, OnErr}
use Rattle.wh_space_model.specs.{FailsToProvide, FailsTruly, Provides, ProvidesTruly}
use Rattle.wh_reclaim.specs.Providing.{HasMovedPages}
use Rattle.wh_reclaim.proofs.Beginning.{wants_stands}
use Rattle.wh_reclaim.proofs.Providing.{is_right, keeps_others, none_left, one_need, under_err, under_ok}
use Rattle.wh_reclaim.proofs.Whole.{provides_whole}
use Rattle.wh_reclaim.proofs.ready.provide.Goals as goal

pub provide_for-requires-clause-stands : goal.provide_for-requires-clause-stands
provide_for-requires-clause-stands g c = wants_stands c.args.memory.now c.args.place c.in-Some.need (sym c.wanted_step.ensures ∙ c.in-Some.is)

pub returns-clause-idle : goal.returns-clause-idle
returns-clause-idle g c = λ none. absurd (none c.in-Some.need (wants_stands c.args.memory.now c.args.place c.in-Some.need (sym c.wanted_step.ensures ∙ c.in-Some.is)))

pub returns-clause-provides : goal.returns-clause-provides
returns-clause-provides g c = λ need stands.
    subst (λ n. IfOk c.provide_for.result (λ left. Provides c.args.memory.now c.args.place n left c.provide_for.new.memory)) (one_need c.args.memory.now c.args.place c.in-Some.need need (wants_stands c.args.memory.now c.args.place c.in-Some.need (sym c.wanted_step.ensures ∙ c.in-Some.is)) stands) c.provide_for.ensures.provides

pub returns-clause-right : goal.returns-clause-right
returns-clause-right g c = λ need stands.
    is_right c.provide_for.result c.args.memory.now c.args.place need c.provide_for.new.memory c.invariant.ensures.sound c.requires.none_out stands
    (subst (λ n. IfOk c.provide_for.result (λ left. Provides c.args.memory.now c.args.place n left c.provide_for.new.memory)) (one_need c.args.memory.now c.args.place c.in-Some.need need (wants_stands c.args.memory.now c.args.place c.in-Some.need (sym c.wanted_step.ensures ∙ c.in-Some.is)) stands) c.provide_for.ensures.provides)

pub returns-clause-truly : goal.returns-clause-truly
returns-clause-truly g c = λ need stands honest.
    subst (λ n. IfOk c.provide_for.result (λ left. ProvidesTruly c.args.memory.now c.args.place n left c.provide_for.new.memory)) (one_need c.args.memory.now c.args.place c.in-Some.need need (wants_stands c.args.memory.now c.args.place c.in-Some.need (sym c.wanted_step.ensures ∙ c.in-Some.is)) stands)
    (under_ok c.provide_for.result (g.D.SwapDev.honest c.provide_for.new.device) (λ left. ProvidesTruly c.args.memory.now c.args.place c.in-Some.need left c.provide_for.new.memory) c.provide_for.ensures.truly honest)

pub returns-clause-fails : goal.returns-clause-fails
returns-clause-fails g c = λ need stands.
    subst (λ n. OnErr c.provide_for.result (FailsToProvide c.args.memory.now c.args.place n c.provide_for.new.memory)) (one_need c.args.memory.now c.args.place c.in-Some.need need (wants_stands c.args.memory.now c.args.place c.in-Some.need (sym c.wanted_step.ensures ∙ c.in-Some.is)) stands) c.provide_for.ensures.fails

pub returns-clause-fails_truly : goal.returns-clause-fails_truly
returns-clause-fails_truly g c = λ need stands honest.
    subst (λ n. OnErr c.provide_for.result (FailsTruly c.args.memory.now c.args.place n c.provide_for.new.memory)) (one_need c.args.memory.now c.args.place c.in-Some.need need (wants_stands c.args.memory.now c.args.place c.in-Some.need (sym c.wanted_step.ensures ∙ c.in-Some.is)) stands)
    (under_err c.provide_for.result (g.D.SwapDev.honest c.provide_for.new.device) (FailsTruly c.args.memory.now c.args.place c.in-Some.need c.provide_for.new.memory) c.provide_for.ensures.fails_truly honest)

pub returns-clause-others : goal.returns-clause-others
returns-clause-others g c =
    keeps_others c.provide_for.result c.args.memory.now c.args.place c.in-Some.need c.provide_for.new.memory c.invariant.ensures.sound c.requires.none_out (wants_stands c.args.memory.now c.args.place c.in-Some.need (sym c.wanted_step.ensures ∙ c.in-Some.is)) c.provide_for.ensures.provides c.provide_for.ensures.fails

pub returns-clause-none_out : goal.returns-clause-none_out
returns-clause-none_out g c =
    none_left c.provide_for.result c.args.memory.now c.args.place c.in-Some.need c.provide_for.new.memory c.invariant.ensures.sound c.requires.none_out (wants_stands c.args.memory.now c.args.place c.in-Some.need (sym c.wanted_step.ensures ∙ c.in-Some.is)) c.provide_for.ensures.provides c.provide_for.ensures.fails

pub returns-clause-whole : goal.returns-clause-whole
returns-clause-whole g c =
    provides_whole c.provide_for.result c.args.memory.now c.args.place c.in-Some.need c.provide_for.new.memory c.provide_for.ensures.provides c.provide_for.ensures.fails

pub returns-clause-moves : goal.returns-clause-moves
returns-clause-moves g c = λ need stands.
    subst (λ n. HasMovedPages c.args.memory.now c.args.place n c.provide_for.new.moved.left c.provide_for.new.moved.came c.provide_for.new.memory) (one_need c.args.memory.now c.args.place c.in-Some.need need (wants_stands c.args.memory.now c.args.place c.in-Some.need (sym c.wanted_step.ensures ∙ c.in-Some.is)) stands) c.provide_for.ensures.moves

pub returns-clause-none_moves : goal.returns-clause-none_moves
returns-clause-none_moves g c = λ none. absurd (none c.in-Some.need (wants_stands c.args.memory.now c.args.place c.in-Some.need (sym c.wanted_step.ensures ∙ c.in-Some.is)))
