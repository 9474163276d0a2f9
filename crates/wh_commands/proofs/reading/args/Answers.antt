use Rattle.std.proofs.Common.{rules, ◌++◌, ◌∷◌, [], FitsSigned, ap, ◌∙◌}
use Rattle.std.specs.Int.{w128}
use Rattle.std.proofs.lemmas.Int.{to_z-of_z}
use Rattle.wh_script_model.specs.{IsNumber}
use Rattle.wh_commands.proofs.Asking.{reads_more, reads_none, pushed}
use Rattle.wh_commands.proofs.reading.args.Goals as goal

pub returns-in_default-number_in-clause-none : goal.returns-in_default-number_in-clause-none
returns-in_default-number_in-clause-none c =
    reads_none IsNumber _ _ _ c.loop-word.args.items IsNumber c.in-Some.word.now c.loop-word.invariant
    c.in-Some.ensures.some c.in_default-number_in.ensures.none

pub loop-word-preserved : goal.loop-word-preserved
loop-word-preserved c =
    let fits : FitsSigned w128 c.in-Some-number_in.number = search rules in
    let same = to_z-of_z w128 c.in-Some-number_in.number fits in
    reads_more IsNumber _ _ _ c.loop-word.args.items c.push.new.self.items c.in-Some.word.now
    c.in-Some-number_in.number c.loop-word.invariant c.in-Some.ensures.some c.in-Some-number_in.ensures.some
    (pushed _ _ _ _ _ c.push.ensures.items c.is_err.ensures.negation c.if-is_err.false
    ∙ ap (λ z. c.loop-word.args.items ++ z ∷ []) same)
