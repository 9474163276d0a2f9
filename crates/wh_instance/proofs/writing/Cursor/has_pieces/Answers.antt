use Rattle.std.proofs.Common.{◌∙◌}
use Rattle.wh_instance.proofs.Cutting.{some_left}
use Rattle.wh_instance.proofs.writing.Cursor.has_pieces.Goals as goal

pub returns-in-Some : goal.returns-in-Some
returns-in-Some c = λ none. some_left c.args.segments.now c.args.places.now c.in-Some.field-0 c.in-Some.ensures.some.0 (c.in-Some.ensures.some.1 ∙ none)
