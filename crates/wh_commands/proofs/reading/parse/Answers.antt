use Rattle.std.proofs.Common.{sym, ◌∙◌}
use Rattle.wh_commands.specs.ParsedCommands.{invoke_of}
use Rattle.wh_commands.proofs.OneCommand.{by_line, one_follows}
use Rattle.wh_commands.proofs.reading.parse.Goals as goal

pub returns-then-is_same-clause-only : goal.returns-then-is_same-clause-only
returns-then-is_same-clause-only c asked asks =
    let call = c.in_ok-invoke.ensures.ok in
    let of = by_line c.args.line.now c.in_ok-verb.verb.now _ (sym c.words_in-words.ensures ∙ c.in_ok-verb.ensures.ok) asked asks in
    one_follows _ (invoke_of c.in_ok-invoke.field-0) asked call.1 (of.0 ∙ (c.if-is_same.ensures ∙ sym call.0)) of.1
