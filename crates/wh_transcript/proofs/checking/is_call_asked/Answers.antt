use Rattle.std.proofs.Common.{sym, ◌∙◌}
use Rattle.wh_transcript.proofs.Zips.{asked_by, other_items, same_items}
use Rattle.wh_transcript.proofs.checking.is_call_asked.Goals as goal

pub returns-then-ne : goal.returns-then-ne
returns-then-ne c = λ asked. other_items c.given.result.now c.as_slice.result.now (sym c.if-ne.ensures) (c.given.ensures ∙ asked.1 ∙ sym c.as_slice.ensures.value)

pub returns : goal.returns
returns c =
    let given = sym c.given.ensures ∙ same_items c.given.result.now c.as_slice.result.now (sym c.if-ne.ensures) ∙ c.as_slice.ensures.value in
    asked_by c.ends_as_said.result c.args.requested.now c.args.call.now c.if-not-has_func.ensures given (sym c.fuel.ensures ∙ c.if-fuel-requested.false) c.ends_as_said.ensures
