use Rattle.std.proofs.Common.{◌≡◌, ◌∙◌, inl, inr, [], ◌∷◌, length, refl, ap, arith}
use Rattle.wh_space_model.specs.{Space, kept, comes, goes}
use Rattle.wh_space_model.proofs.Provided.{moves_nearer, serves_way}
use Rattle.wh_reclaim.specs.Providing.{left_by}
use Rattle.wh_reclaim.proofs.DeviceCalls.{serves_still, serves_then}
use Rattle.wh_reclaim.proofs.Going.{came_nearer, came_once, earmarked, far_at_first, gives_up, goes_came, goes_done, goes_left, left_nearer, left_once, none_kept, pinned_once, stands_still}
use Rattle.wh_reclaim.proofs.ready.provide_for.Goals as goal

pub loop-memory-init : goal.loop-memory-init
loop-memory-init g c = record {
  moves = [];
  serves = c.pin.ensures;
  truly = λ honest. c.pin.ensures;
  many = refl;
  arrived = refl;
  nearer = (let first = far_at_first c.args.memory.now c.args.place c.args.need in rw c.pin.ensures (omega arith));
  once = λ q. rw c.pin.ensures (pinned_once c.args.memory.now c.args.place c.args.need q);
  agrees = rw c.pin.ensures c.requires.agrees;
  writes = omega arith;
  calls = serves_still g.D.SwapDev.keeps g.D.SwapDev.honest g.D.SwapDev.faults c.args.device.now;
}

pub go_on-requires-clause-stands : goal.go_on-requires-clause-stands
go_on-requires-clause-stands g c =
    let way = serves_way c.args.memory.now c.args.place c.args.need c.loop-memory.invariant.moves c.loop-memory.memory c.invariant.ensures.sound c.requires.none_out c.requires.stands c.loop-memory.invariant.serves in
    stands_still c.args.memory.now c.args.place c.args.need c.loop-memory.memory way.1.occupants c.requires.stands

pub go_on-requires-clause-serving : goal.go_on-requires-clause-serving
go_on-requires-clause-serving g c = (serves_way c.args.memory.now c.args.place c.args.need c.loop-memory.invariant.moves c.loop-memory.memory c.invariant.ensures.sound c.requires.none_out c.requires.stands c.loop-memory.invariant.serves).1.serving

pub go_on-requires-clause-none_out : goal.go_on-requires-clause-none_out
go_on-requires-clause-none_out g c = (serves_way c.args.memory.now c.args.place c.args.need c.loop-memory.invariant.moves c.loop-memory.memory c.invariant.ensures.sound c.requires.none_out c.requires.stands c.loop-memory.invariant.serves).1.none_out

pub frames_to_write-wanted-requires : goal.frames_to_write-wanted-requires
frames_to_write-wanted-requires g c =
    let way = serves_way c.args.memory.now c.args.place c.args.need c.loop-memory.invariant.moves c.loop-memory.memory c.invariant.ensures.sound c.requires.none_out c.requires.stands c.loop-memory.invariant.serves in
    let done = goes_done (g.D.SwapDev.honest c.go_on.new.device) c.loop-memory.memory c.args.place c.args.need c.in-Ok-Done.field-0 c.go_on.new.memory c.in-Ok-Done.field-0-is c.in-Ok-Done.ensures.goes_on in
    stands_still c.args.memory.now c.args.place c.args.need c.go_on.new.memory (ap (λ (z : Space). z.occupants) done.1 ∙ way.1.occupants) c.requires.stands

pub earmark-requires-clause-there : goal.earmark-requires-clause-there
earmark-requires-clause-there g c =
    let way = serves_way c.args.memory.now c.args.place c.args.need c.loop-memory.invariant.moves c.loop-memory.memory c.invariant.ensures.sound c.requires.none_out c.requires.stands c.loop-memory.invariant.serves in
    let done = goes_done (g.D.SwapDev.honest c.go_on.new.device) c.loop-memory.memory c.args.place c.args.need c.in-Ok-Done.field-0 c.go_on.new.memory c.in-Ok-Done.field-0-is c.in-Ok-Done.ensures.goes_on in
    let stands = stands_still c.args.memory.now c.args.place c.args.need c.go_on.new.memory (ap (λ (z : Space). z.occupants) done.1 ∙ way.1.occupants) c.requires.stands in
    (stands.0, stands.1, stands.2)

pub earmark-requires-clause-none : goal.earmark-requires-clause-none
earmark-requires-clause-none g c =
    let way = serves_way c.args.memory.now c.args.place c.args.need c.loop-memory.invariant.moves c.loop-memory.memory c.invariant.ensures.sound c.requires.none_out c.requires.stands c.loop-memory.invariant.serves in
    let done = goes_done (g.D.SwapDev.honest c.go_on.new.device) c.loop-memory.memory c.args.place c.args.need c.in-Ok-Done.field-0 c.go_on.new.memory c.in-Ok-Done.field-0-is c.in-Ok-Done.ensures.goes_on in
    none_kept c.go_on.new.memory (ap (λ (z : Space). length (kept z.pins)) done.1 ∙ way.1.serving.kept)

pub returns-in-Ok-Done-clause-provides : goal.returns-in-Ok-Done-clause-provides
returns-in-Ok-Done-clause-provides g c =
    let done = goes_done (g.D.SwapDev.honest c.go_on.new.device) c.loop-memory.memory c.args.place c.args.need c.in-Ok-Done.field-0 c.go_on.new.memory c.in-Ok-Done.field-0-is c.in-Ok-Done.ensures.goes_on in
    let earmarks = earmarked c.go_on.new.memory c.loop-memory.memory c.args.place c.args.need c.frames_to_write-wanted.result c.earmark.new.self done.1 c.frames_to_write-wanted.ensures.count c.earmark.ensures in
    (c.loop-memory.invariant.moves, c.loop-memory.memory, c.loop-memory.invariant.serves, c.loop-memory.invariant.many, done.0, earmarks)

pub returns-in-Ok-Done-clause-truly : goal.returns-in-Ok-Done-clause-truly
returns-in-Ok-Done-clause-truly g c = λ honest.
    (let done = goes_done (g.D.SwapDev.honest c.go_on.new.device) c.loop-memory.memory c.args.place c.args.need c.in-Ok-Done.field-0 c.go_on.new.memory c.in-Ok-Done.field-0-is c.in-Ok-Done.ensures.goes_on in
    let earmarks = earmarked c.go_on.new.memory c.loop-memory.memory c.args.place c.args.need c.frames_to_write-wanted.result c.earmark.new.self done.1 c.frames_to_write-wanted.ensures.count c.earmark.ensures in
    (c.loop-memory.invariant.moves, c.loop-memory.memory, c.loop-memory.invariant.truly (c.in-Ok-Done.ensures.serves.was_honest honest), c.loop-memory.invariant.many, done.0, earmarks))

pub loop-memory-smaller-in-Ok-Came : goal.loop-memory-smaller-in-Ok-Came
loop-memory-smaller-in-Ok-Came g c =
    let way = serves_way c.args.memory.now c.args.place c.args.need c.loop-memory.invariant.moves c.loop-memory.memory c.invariant.ensures.sound c.requires.none_out c.requires.stands c.loop-memory.invariant.serves in
    let came = goes_came (g.D.SwapDev.honest c.go_on.new.device) c.loop-memory.memory c.args.place c.args.need c.in-Ok-Came.field-0 c.go_on.new.memory c.in-Ok-Came.field-0-is c.in-Ok-Came.ensures.goes_on in
    came_nearer c.args.memory.now c.args.place c.args.need _ c.loop-memory.memory came.0 c.go_on.new.memory way.0 way.1 came.1

pub loop-memory-preserved-in-Ok-Came : goal.loop-memory-preserved-in-Ok-Came
loop-memory-preserved-in-Ok-Came g c =
    let way = serves_way c.args.memory.now c.args.place c.args.need c.loop-memory.invariant.moves c.loop-memory.memory c.invariant.ensures.sound c.requires.none_out c.requires.stands c.loop-memory.invariant.serves in
    let came = goes_came (g.D.SwapDev.honest c.go_on.new.device) c.loop-memory.memory c.args.place c.args.need c.in-Ok-Came.field-0 c.go_on.new.memory c.in-Ok-Came.field-0-is c.in-Ok-Came.ensures.goes_on in
    let inv = c.loop-memory.invariant in
    let e = c.in-Ok-Came.ensures in
    let none : left_by c.in-Ok-Came.field-0 ≡ 0 = ap left_by c.in-Ok-Came.field-0-is in
    record {
      moves = comes came.0 ∷ inv.moves;
      serves = (c.loop-memory.memory, inv.serves, came.1);
      truly = λ honest. (c.loop-memory.memory, inv.truly (e.serves.was_honest honest), came.1, came.2 honest);
      many = (let many = inv.many in omega arith);
      arrived = (let arrived = inv.arrived in omega arith);
      nearer = (let old = inv.nearer in let less = loop-memory-smaller-in-Ok-Came g c in omega arith);
      once = came_once c.loop-memory.memory c.args.place c.args.need came.0 c.go_on.new.memory way.0 inv.once came.1;
      agrees = e.agrees;
      writes = (let a = e.writes in let b = inv.writes in omega arith);
      calls = serves_then g.D.SwapDev.keeps g.D.SwapDev.honest g.D.SwapDev.faults c.args.device.now c.loop-memory.device c.go_on.new.device [] [] inv.calls e.serves;
    }

pub overflow_add-left : goal.overflow_add-left
overflow_add-left g c =
    let most = moves_nearer c.args.memory.now c.args.place c.args.need c.loop-memory.invariant.moves c.loop-memory.memory c.invariant.ensures.sound c.requires.none_out c.requires.stands c.loop-memory.invariant.serves in
    let many = c.loop-memory.invariant.many in
    let few = c.known_pages.ensures in
    omega arith

pub loop-memory-smaller : goal.loop-memory-smaller
loop-memory-smaller g c =
    let way = serves_way c.args.memory.now c.args.place c.args.need c.loop-memory.invariant.moves c.loop-memory.memory c.invariant.ensures.sound c.requires.none_out c.requires.stands c.loop-memory.invariant.serves in
    let left = goes_left (g.D.SwapDev.honest c.go_on.new.device) c.loop-memory.memory c.args.place c.args.need c.in-Ok-Left.field-0 c.go_on.new.memory c.in-Ok-Left.field-0-is c.in-Ok-Left.ensures.goes_on in
    left_nearer c.args.memory.now c.args.place c.args.need _ c.loop-memory.memory c.go_on.new.memory way.0 way.1 left

pub loop-memory-preserved : goal.loop-memory-preserved
loop-memory-preserved g c =
    let left = goes_left (g.D.SwapDev.honest c.go_on.new.device) c.loop-memory.memory c.args.place c.args.need c.in-Ok-Left.field-0 c.go_on.new.memory c.in-Ok-Left.field-0-is c.in-Ok-Left.ensures.goes_on in
    let inv = c.loop-memory.invariant in
    let e = c.in-Ok-Left.ensures in
    let one : left_by c.in-Ok-Left.field-0 ≡ 1 = ap left_by c.in-Ok-Left.field-0-is in
    record {
      moves = goes ∷ inv.moves;
      serves = (c.loop-memory.memory, inv.serves, left);
      truly = λ honest. (c.loop-memory.memory, inv.truly (e.serves.was_honest honest), left, tt);
      many = (let many = inv.many in omega arith);
      arrived = (let arrived = inv.arrived in omega arith);
      nearer = (let old = inv.nearer in let less = loop-memory-smaller g c in omega arith);
      once = left_once c.loop-memory.memory c.args.place c.args.need c.go_on.new.memory inv.once left;
      agrees = e.agrees;
      writes = (let a = e.writes in let b = inv.writes in omega arith);
      calls = serves_then g.D.SwapDev.keeps g.D.SwapDev.honest g.D.SwapDev.faults c.args.device.now c.loop-memory.device c.go_on.new.device [] [] inv.calls e.serves;
    }

pub returns-in-Err-clause-fails : goal.returns-in-Err-clause-fails
returns-in-Err-clause-fails g c =
    (c.loop-memory.invariant.moves, c.loop-memory.memory, c.loop-memory.invariant.serves, gives_up c.loop-memory.memory c.go_on.new.memory c.unpin.new.self c.in-Err.ensures.loses c.unpin.ensures)

pub returns-in-Err-clause-fails_truly : goal.returns-in-Err-clause-fails_truly
returns-in-Err-clause-fails_truly g c = λ honest.
    (c.loop-memory.invariant.moves, c.loop-memory.memory, c.loop-memory.invariant.truly (c.in-Err.ensures.serves.was_honest honest), gives_up c.loop-memory.memory c.go_on.new.memory c.unpin.new.self c.in-Err.ensures.loses c.unpin.ensures)

pub overflow_add-came : goal.overflow_add-came
overflow_add-came g c = let old = c.loop-memory.invariant.nearer in let few = c.known_pages.ensures in omega arith

pub returns-in-Ok-Done-clause-moves : goal.returns-in-Ok-Done-clause-moves
returns-in-Ok-Done-clause-moves g c =
    let inv = c.loop-memory.invariant in
    let done = goes_done (g.D.SwapDev.honest c.go_on.new.device) c.loop-memory.memory c.args.place c.args.need c.in-Ok-Done.field-0 c.go_on.new.memory c.in-Ok-Done.field-0-is c.in-Ok-Done.ensures.goes_on in
    let earmarks = earmarked c.go_on.new.memory c.loop-memory.memory c.args.place c.args.need c.frames_to_write-wanted.result c.earmark.new.self done.1 c.frames_to_write-wanted.ensures.count c.earmark.ensures in
    (inv.moves, c.loop-memory.memory, inv.serves, inv.many, inv.arrived, inl (done.0, earmarks))

pub returns-in-Err-clause-moves : goal.returns-in-Err-clause-moves
returns-in-Err-clause-moves g c =
    let inv = c.loop-memory.invariant in
    (inv.moves, c.loop-memory.memory, inv.serves, inv.many, inv.arrived, inr (gives_up c.loop-memory.memory c.go_on.new.memory c.unpin.new.self c.in-Err.ensures.loses c.unpin.ensures))
