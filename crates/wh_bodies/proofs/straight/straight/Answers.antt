use Rattle.wh_bodies.specs.View.{view_around}
use Rattle.wh_bodies.proofs.straight.straight.Goals as goal

pub returns-in-Convert : goal.returns-in-Convert
returns-in-Convert c = λ labels. rw c.in-Convert.is (c.convert.ensures (view_around c.args.around.now))

pub returns-in-Drop : goal.returns-in-Drop
returns-in-Drop c = λ labels. rw c.in-Drop.is (c.discard.ensures (view_around c.args.around.now))
