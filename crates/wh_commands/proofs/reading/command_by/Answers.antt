use Rattle.wh_commands.proofs.Parsing.{only_by, by_refusal, none_refused, is_keep, is_admit}
use Rattle.wh_commands.proofs.reading.command_by.Goals as goal

pub returns-then-is_same-clause-only : goal.returns-then-is_same-clause-only
returns-then-is_same-clause-only c =
    only_by _ c.args.verb.now _ c.keep.result c.if-is_same.ensures c.keep.ensures.ok
    (none_refused _ _ _ c.keep.result (is_keep _) c.keep.ensures.none)
    (by_refusal _ c.keep.result c.keep.ensures.none)

pub returns-then-is_same-3-clause-only : goal.returns-then-is_same-3-clause-only
returns-then-is_same-3-clause-only c =
    only_by _ c.args.verb.now _ c.admit.result c.if-is_same-3.ensures c.admit.ensures.ok
    (none_refused _ _ _ c.admit.result (is_admit _) c.admit.ensures.none)
    (by_refusal _ c.admit.result c.admit.ensures.none)
