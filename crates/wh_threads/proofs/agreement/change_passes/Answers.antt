use Rattle.std.proofs.Common.{arith, ◌∙◌}
use Rattle.crossbeam_queue.specs.Passes.{view}
use Rattle.wh_threads.proofs.Agreeing.{idles, merges, parts}
use Rattle.wh_threads.proofs.agreement.change_passes.Goals as goal

pub another-idle-requires-clause-rule : goal.another-idle-requires-clause-rule
another-idle-requires-clause-rule g c = idles _ _

pub absorb-requires-clause-rule : goal.absorb-requires-clause-rule
absorb-requires-clause-rule g c =
    let mine = (λ i. (c.another-idle.ensures.rule.0 i).parts) ∙ c.requires.parts.0 in
    let theirs = (λ i. (view (c.replace-other.ensures.value i)).parts) ∙ c.requires.parts.1 in
    merges _ _ _ _ (omega (arith, mine)) (omega (arith, theirs))

pub another-requires-clause-rule : goal.another-requires-clause-rule
another-requires-clause-rule g c =
    let mine = (λ i. (c.another-idle.ensures.rule.0 i).parts) ∙ c.requires.parts.0 in
    let theirs = (λ i. (view (c.replace-other.ensures.value i)).parts) ∙ c.requires.parts.1 in
    let both = (λ i. (c.learn_as.ensures.queue.1 i).parts) ∙ (λ i. (c.absorb.ensures.rule i).parts) in
    parts _ _ _ (omega (arith, mine, theirs, both))
