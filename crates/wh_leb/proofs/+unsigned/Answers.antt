use Rattle.std.proofs.Common.{◌<◌, arith}
use Rattle.wh_leb.proofs.Powers.{joined_fits, joined_64, last_fits}
use Rattle.wh_leb.proofs.+unsigned.Goals as goal

pub overflow_mul-result : goal.overflow_mul-result
overflow_mul-result t c =
    let byte : c.from-byte.result < 256 = omega arith in
    let whole = joined_64 c.args.bits c.from-byte.result c.in_ok-high.high (omega arith) (omega arith) byte c.in_ok-high.ensures.fits in
    omega arith

pub overflow_add-result : goal.overflow_add-result
overflow_add-result t c =
    let byte : c.from-byte.result < 256 = omega arith in
    let whole = joined_64 c.args.bits c.from-byte.result c.in_ok-high.high (omega arith) (omega arith) byte c.in_ok-high.ensures.fits in
    omega arith

pub returns-then-bits-gt7-clause-fits : goal.returns-then-bits-gt7-clause-fits
returns-then-bits-gt7-clause-fits t c =
    let byte : c.from-byte.result < 256 = omega arith in
    joined_fits c.args.bits c.from-byte.result c.in_ok-high.high (omega arith) byte c.in_ok-high.ensures.fits

pub returns-then-byte-min-clause-fits : goal.returns-then-byte-min-clause-fits
returns-then-byte-min-clause-fits t c = last_fits c.args.bits c.from-byte.result c.min.result c.min.ensures c.if-byte-min.true
