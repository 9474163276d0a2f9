use Rattle.std.proofs.Common.{arith}
use Rattle.wh_desk.specs.Permits.{ownership_of}
use Rattle.wh_desk.proofs.Owning.{room_for_copy}
use Rattle.wh_desk.proofs.respond.fork.Goals as goal

pub push_reserved-requires : goal.push_reserved-requires
push_reserved-requires c c' =
    let few = room_for_copy (ownership_of c'.args.ownership.now) c'.args.owner.now.host c'.ask.new.owner.host c'.args.request.id c'.args.request.quota c'.in_ok-id.id c'.in_ok-id.ensures.asks.0 c'.requires.owns in
    let len = c'.args.ownership.now.instances.ok.0 in
    let room = c'.requires.room.instances in
    omega (arith, few, len, room)
