use Rattle.std.proofs.Common.{◌-◌, length, arith}
use Rattle.wh_frames.proofs.Free.{given_back-le, free_once, free_there, length_frames, length_free}
use Rattle.wh_frames.proofs.pool.FramePool.used.Goals as goal

pub overflow_sub-result : goal.overflow_sub-result
overflow_sub-result c = let a = c.self.inside in omega (arith, given_back-le _ a.free.items c.self.invariant.given, a.free.ok.0, a.frames.ok.0)

pub overflow_cast-result : goal.overflow_cast-result
overflow_cast-result c = let a = c.self.inside in omega (arith, a.frames.ok.0, c.self.invariant.within, c.self.invariant.few)

pub returns-clause-count : goal.returns-clause-count
returns-clause-count c =
    let a = c.self.inside in
    let back = given_back-le _ a.free.items c.self.invariant.given in
    rw (← c.self.view_is) (omega (arith, length_frames a c.self.invariant.within, length_free a, back, a.free.ok.0, a.frames.ok.0, c.self.invariant.within))

pub returns-clause-distinct : goal.returns-clause-distinct
returns-clause-distinct c =
    let a = c.self.inside in
    let unused = a.limit - length a.frames.items in
    rw (← c.self.view_is) (record {
      once = free_once _ unused a.free.items c.self.invariant.given;
      there = λ f out. free_there _ unused a.free.items c.self.invariant.given f (omega (arith, out, length_frames a c.self.invariant.within, c.self.invariant.within));
    })
