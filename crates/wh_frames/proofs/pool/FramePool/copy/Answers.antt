use Rattle.std.proofs.Common.{◌≡◌, ◌∙◌, List, ℕ, [], get_or, ap, arith}
use Rattle.wh_frames.specs.LentFrames.{with_bytes}
use Rattle.wh_frames.specs.Parts.{pool_of}
use Rattle.wh_frames.proofs.Free.{taken_of, get_or_front, pool_of-write}
use Rattle.wh_frames.proofs.pool.FramePool.copy.Goals as goal

pub index-requires : goal.index-requires
index-requires c =
    let taken = taken_of c.self.inside c.args.from c.self.invariant.within (rw (← c.self.view_is) at c.requires.from) in
    omega (arith, taken.0, c.self.inside.frames.ok.0)

pub index_mut-requires : goal.index_mut-requires
index_mut-requires c =
    let taken = taken_of c.self.inside c.args.to c.self.invariant.within (rw (← c.self.view_is) at c.requires.to) in
    omega (arith, taken.0, c.self.inside.frames.ok.0)

pub returns : goal.returns
returns c =
    let a = c.self.inside in
    let to = taken_of a c.args.to c.self.invariant.within (rw (← c.self.view_is) at c.requires.to) in
    let from = taken_of a c.args.from c.self.invariant.within (rw (← c.self.view_is) at c.requires.from) in
    let bytes : c.index.result.now ≡ get_or (pool_of a).frames c.args.from [] = get_or_front a.frames.items _ c.args.from c.index.result.now [] from.0 c.index.ensures in
    rw (← c.self.view_is) (pool_of-write a c.args.to c.index.result.now to.0 ∙ ap (λ (b : List ℕ). with_bytes (pool_of a) c.args.to b) bytes)
