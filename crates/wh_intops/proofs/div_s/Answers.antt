-- The machine divides: the divisor isn't 0, and the tests have left out the least number by -1.
use Rattle.wh_intops.proofs.Quotients.{div_s-asks}
use Rattle.wh_intops.proofs.div_s.Goals as goal

pub nonzero_div-dividend : goal.nonzero_div-dividend
nonzero_div-dividend c =
    div_s-asks c.args.width c.args.left c.args.right c.to_signed-dividend.result c.to_signed-divisor.result c.least.result
    c.requires.left_fits c.requires.right_fits c.if-right-eq0.false
    c.to_signed-dividend.ensures c.to_signed-divisor.ensures c.least.ensures c.else-dividend-least.either
