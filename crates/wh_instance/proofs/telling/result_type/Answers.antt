use Rattle.std.proofs.Common.{◌∙◌, ap, slice_get}
use Rattle.wh_syntax.specs.View.{view_type}
use Rattle.wh_instance.proofs.Told.{first_declared}
use Rattle.wh_instance.proofs.telling.result_type.Goals as goal

pub returns-in-Some : goal.returns-in-Some
returns-in-Some c =
    first_declared c.args.linked.now c.args.func (view_type c.in-Some.func_type.now) c.first_type.result c.in-Some.ensures.some
    (c.first_type.ensures ∙ ap (λ xs. slice_get xs 0) c.as_slice.ensures)

pub returns-in-None : goal.returns-in-None
returns-in-None c cx inst type body is at = absurd (c.in-None.ensures.none cx inst is type body at)
