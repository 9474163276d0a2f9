use Rattle.std.proofs.Common.{◌+◌, ◌≤◌, arith}
use Rattle.wh_overlay.proofs.Apart.{lacking_beside}
use Rattle.test_space.proofs.beside.lay_two.Goals as goal

pub lay-requires-2-clause-frames : goal.lay-requires-2-clause-frames
lay-requires-2-clause-frames c =
    let laid = c.lay.ensures.laid in
    let same = lacking_beside c.args.memory.now c.lay.new.memory c.args.places.1 c.args.uppers.1.pages (laid.others c.args.places.1 c.requires.apart) in
    omega (arith, laid.free, same, c.requires.frames)
