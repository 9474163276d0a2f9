use Rattle.std.proofs.Common.{◌-◌, arith}
use Rattle.std.proofs.lemmas.List.{append-nil}
use Rattle.wh_frames.specs.Parts.{falling}
use Rattle.wh_frames.proofs.Free.{length-falling, falling_in}
use Rattle.wh_frames.proofs.pool.FramePool.new.Goals as goal

pub returns-clause-free : goal.returns-clause-free
returns-clause-free c =
    rw (c.in-Ok.ensures.items, c.in-Ok-with_capacity.ensures.items, append-nil (falling 0 (c.args.frames - 0))) (omega (arith, length-falling 0 (c.args.frames - 0)))

pub returns-clause-each : goal.returns-clause-each
returns-clause-each c =
    rw (c.in-Ok.ensures.items, c.in-Ok-with_capacity.ensures.items, append-nil (falling 0 (c.args.frames - 0)))
    (λ f below. falling_in 0 (c.args.frames - 0) f (omega arith) (omega arith))
