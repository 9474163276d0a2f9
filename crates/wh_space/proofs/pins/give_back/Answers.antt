use Rattle.std.proofs.Common.{◌≤◌, ◌∷◌, [], refl, arith}
use Rattle.wh_space_model.specs.{one_if, tally}
use Rattle.wh_space_model.proofs.Tally.{one_same, tally-append}
use Rattle.wh_space.specs.Pinning.{numbers_in}
use Rattle.wh_space.proofs.pins.give_back.Goals as goal

pub give-requires : goal.give-requires
give-requires c =
    let f = c.in-One.only in
    let o = one_same f f refl in
    let some : 1 ≤ tally (one_if f) (numbers_in c.args.frames) = rw c.in-One.is (omega arith) in
    let once = c.requires.once f in
    (c.requires.there f some, omega arith)

pub give-requires-in-Two : goal.give-requires-in-Two
give-requires-in-Two c =
    let f = c.in-Two.first in
    let o = one_same f f refl in
    let some : 1 ≤ tally (one_if f) (numbers_in c.args.frames) = rw c.in-Two.is (omega arith) in
    let once = c.requires.once f in
    (c.requires.there f some, omega arith)

pub give-requires-in-Two-2 : goal.give-requires-in-Two-2
give-requires-in-Two-2 c =
    let f = c.in-Two.second in
    let o = one_same f f refl in
    let some : 1 ≤ tally (one_if f) (numbers_in c.args.frames) = rw c.in-Two.is (omega arith) in
    let once = rw c.in-Two.is at (c.requires.once f) in
    let more = tally-append (one_if f) c.args.pool.now.free (c.in-Two.first ∷ []) in
    rw c.give-in-Two.ensures.gives (c.requires.there f some, omega arith)
