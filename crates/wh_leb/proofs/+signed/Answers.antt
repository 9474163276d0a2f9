use Rattle.std.proofs.Common.{arith}
use Rattle.std.proofs.lemmas.Int.{ints}
use Rattle.wh_leb.proofs.Powers.{half_more, half_wide, half_last, half_byte}
use Rattle.wh_leb.proofs.Steps.{signed_step}
use Rattle.wh_leb.proofs.+signed.Goals as goal

pub overflow_mul-result : goal.overflow_mul-result
overflow_mul-result t c =
    let p = half_more c.args.bits (omega arith) in
    let q = half_wide c.args.bits c.requires.bits in
    let low = c.in_ok-high.ensures.low in
    let high = c.in_ok-high.ensures.high in
    omega (arith, ints)

pub returns-then-bits-gt7-clause-exact : goal.returns-then-bits-gt7-clause-exact
returns-then-bits-gt7-clause-exact t c =
    let p = half_more c.args.bits (omega arith) in
    let q = half_wide c.args.bits c.requires.bits in
    let low = c.in_ok-high.ensures.low in
    let high = c.in_ok-high.ensures.high in
    signed_step c.args.bits c.args.bytes.now c.args.at c.in_ok-high.high _ c.in_ok-high.next (omega arith) (omega arith) (omega arith) c.in_ok-high.ensures.exact (omega (arith, ints))

pub returns-then-bits-gt7-clause-low : goal.returns-then-bits-gt7-clause-low
returns-then-bits-gt7-clause-low t c =
    let p = half_more c.args.bits (omega arith) in
    let q = half_wide c.args.bits c.requires.bits in
    let low = c.in_ok-high.ensures.low in
    let high = c.in_ok-high.ensures.high in
    omega (arith, ints)

pub returns-then-bits-gt7-clause-high : goal.returns-then-bits-gt7-clause-high
returns-then-bits-gt7-clause-high t c =
    let p = half_more c.args.bits (omega arith) in
    let q = half_wide c.args.bits c.requires.bits in
    let low = c.in_ok-high.ensures.low in
    let high = c.in_ok-high.ensures.high in
    omega (arith, ints)

pub returns-then-byte-half-clause-high : goal.returns-then-byte-half-clause-high
returns-then-byte-half-clause-high t c =
    let q = half_last c.args.bits c.min.result c.requires.some c.min.ensures in
    let r = half_byte c.args.bits c.min.result c.requires.some c.min.ensures in
    omega (arith, ints)

pub returns-then-byte-lt128-clause-low : goal.returns-then-byte-lt128-clause-low
returns-then-byte-lt128-clause-low t c =
    let q = half_last c.args.bits c.min.result c.requires.some c.min.ensures in
    let r = half_byte c.args.bits c.min.result c.requires.some c.min.ensures in
    omega (arith, ints)
