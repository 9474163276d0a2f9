use Rattle.std.proofs.Common.{◌≡◌, length, arith}
use Rattle.wh_reclaim.proofs.choice.payer_of.Goals as goal

pub returns : goal.returns
returns c =
    let all : length c.args.memory.now.occupants ≡ c.loop-place.place = omega (arith, c.places-place-end.ensures, c.loop-place-test.false, c.loop-place.auto.place-end) in
    rw all c.loop-place.invariant
