use Rattle.std.proofs.Common.{◌-◌, ◌++◌, ◌∷◌, [], length, arith}
use Rattle.std.proofs.lemmas.List.{append_assoc, length-append}
use Rattle.wh_space_model.proofs.FrameLemmas.{IsTaken-gives}
use Rattle.wh_frames.specs.Parts.{falling, pool_of}
use Rattle.wh_frames.proofs.Free.{taken_of, gives_back, given_back-le}
use Rattle.wh_frames.proofs.pool.FramePool.give.Goals as goal

pub add_free-requires : goal.add_free-requires
add_free-requires c =
    let a = c.self.inside in
    let back = a.free.items in
    let taken = taken_of a c.args.frame c.self.invariant.within (rw (← c.self.view_is) at c.requires) in
    let given = gives_back _ back c.args.frame c.self.invariant.given taken.0 taken.1 in
    omega (arith, given_back-le _ (back ++ c.args.frame ∷ []) given, length-append back (c.args.frame ∷ []), a.free.ok.0, c.self.invariant.within, c.self.invariant.free_room)

pub invariant_of-self : goal.invariant_of-self
invariant_of-self c =
    let a = c.self.inside in
    let taken = taken_of a c.args.frame c.self.invariant.within (rw (← c.self.view_is) at c.requires) in
    record {
      frames_room = c.self.invariant.frames_room;
      free_room = omega (arith, c.self.invariant.free_room, c.add_free.ensures.room);
      few = c.self.invariant.few;
      within = c.self.invariant.within;
      given = rw c.add_free.ensures.items (gives_back _ a.free.items c.args.frame c.self.invariant.given taken.0 taken.1);
    }

pub returns-clause-others : goal.returns-clause-others
returns-clause-others c =
    let a = c.self.inside in
    let unused = falling (length a.frames.items) (a.limit - length a.frames.items) in
    λ f other taken.
    let still = IsTaken-gives (pool_of a) c.args.frame f other (rw (← c.self.view_is) at taken) in
    rw (c.add_free.ensures.items, ← append_assoc unused a.free.items (c.args.frame ∷ [])) still
