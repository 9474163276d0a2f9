use Rattle.std.proofs.Common.{ap, length, subst, ◌∙◌}
use Rattle.std.proofs.lemmas.Result.{IfOk-weaker}
use Rattle.wh_syntax.specs.View.{view_type}
use Rattle.wh_instance.specs.CallsByName.{AreWords, WordsAre}
use Rattle.wh_instance.proofs.Given.{as_many, none_taken, words_by}
use Rattle.wh_instance.proofs.numbers.words_of.Goals as goal

pub words_for-requires : goal.words_for-requires
words_for-requires c =
    ap length c.as_slice.ensures ∙ as_many c.args.linked.now c.args.func
    (view_type c.in-Some.func_type.now) c.args.given.now c.in-Some.ensures.some c.requires

pub unreachable-requires : goal.unreachable-requires
unreachable-requires c = none_taken
    c.args.linked.now c.args.func c.args.given.now c.in-None.ensures.none c.requires

pub returns : goal.returns
returns c =
    let l = c.args.linked.now in
    IfOk-weaker c.words_for.result (λ words. AreWords c.as_slice.result.now c.args.given.now words.items)
    (λ words. WordsAre l c.args.func c.args.given.now words.items)
    (λ words h. words_by l c.args.func
    (view_type c.in-Some.func_type.now) c.args.given.now words.items c.in-Some.ensures.some
    (subst (λ ts. AreWords ts c.args.given.now words.items) c.as_slice.ensures h)) c.words_for.ensures
