use Rattle.std.proofs.Common.{◌-◌, length, refl, ◌∙◌, arith}
use Rattle.wh_frames.specs.declared.pool.FramePool.TheInside.{Inside}
use Rattle.wh_space_model.proofs.FrameLemmas.{IsTaken-takes}
use Rattle.wh_frames.specs.Parts.{pool_of}
use Rattle.wh_frames.proofs.Free.{takes_back, takes_given, takes_next, taken_next, nothing_left, length_frames}
use Rattle.wh_frames.proofs.pool.FramePool.take.Goals as goal

pub invariant_of-self : goal.invariant_of-self
invariant_of-self c =
    let a = c.self.inside in
    let took = takes_back _ (a.limit - length a.frames.items) a.free.items c.pop.new.self.items c.in-Some.frame c.in-Some.ensures.items c.self.invariant.given in
    record {
      frames_room = c.self.invariant.frames_room;
      free_room = omega (arith, c.self.invariant.free_room, c.in-Some.ensures.capacity);
      few = c.self.invariant.few;
      within = c.self.invariant.within;
      given = took.0;
    }

pub returns-in-Some-clause-taken : goal.returns-in-Some-clause-taken
returns-in-Some-clause-taken c =
    let a = c.self.inside in
    let took = takes_back _ (a.limit - length a.frames.items) a.free.items c.pop.new.self.items c.in-Some.frame c.in-Some.ensures.items c.self.invariant.given in
    (omega (arith, took.1, length_frames a c.self.invariant.within, c.self.invariant.within), took.2)

pub returns-clause-takes : goal.returns-clause-takes
returns-clause-takes c =
    let a = c.self.inside in
    let b : Inside = record { limit = a.limit; frames = c.add_frame.new.frames; free = c.pop.new.self } in
    let empty = nothing_left a.free.items b.free.items c.in_default.ensures.items (omega (arith, c.in_default.ensures.cases.1, b.free.ok.0)) in
    rw (← c.self.view_is) (takes_next a b _ (c.len-frame.ensures ∙ a.frames.ok.0) (omega (arith, c.self.invariant.within, a.frames.ok.0)) refl c.add_frame.ensures.items empty.0 empty.1)

pub returns-clause-taken : goal.returns-clause-taken
returns-clause-taken c =
    let a = c.self.inside in
    let b : Inside = record { limit = a.limit; frames = c.add_frame.new.frames; free = c.pop.new.self } in
    let empty = nothing_left a.free.items b.free.items c.in_default.ensures.items (omega (arith, c.in_default.ensures.cases.1, b.free.ok.0)) in
    taken_next a b _ (c.len-frame.ensures ∙ a.frames.ok.0) (omega (arith, c.self.invariant.within, a.frames.ok.0)) refl c.add_frame.ensures.items empty.1

pub returns-in-Some-clause-others : goal.returns-in-Some-clause-others
returns-in-Some-clause-others c =
    let a = c.self.inside in
    let b : Inside = record { limit = a.limit; frames = a.frames; free = c.pop.new.self } in
    λ f taken. IsTaken-takes (pool_of a) (pool_of b) c.in-Some.frame (takes_given a b c.in-Some.frame refl refl c.in-Some.ensures.items) f (rw (← c.self.view_is) at taken)

pub returns-clause-others : goal.returns-clause-others
returns-clause-others c =
    let a = c.self.inside in
    let b : Inside = record { limit = a.limit; frames = c.add_frame.new.frames; free = c.pop.new.self } in
    let empty = nothing_left a.free.items b.free.items c.in_default.ensures.items (omega (arith, c.in_default.ensures.cases.1, b.free.ok.0)) in
    let takes = takes_next a b _ (c.len-frame.ensures ∙ a.frames.ok.0) (omega (arith, c.self.invariant.within, a.frames.ok.0)) refl c.add_frame.ensures.items empty.0 empty.1 in
    λ f taken. IsTaken-takes (pool_of a) (pool_of b) _ takes f (rw (← c.self.view_is) at taken)
