use Rattle.std.proofs.Common.{arith}
use Rattle.wh_desk.specs.Permits.{ownership_of}
use Rattle.wh_desk.proofs.Owning.{room_for_module}
use Rattle.wh_desk.proofs.respond.load.Goals as goal

pub push_reserved-requires : goal.push_reserved-requires
push_reserved-requires c c' =
    let few = room_for_module (ownership_of c'.args.ownership.now) c'.args.owner.now.host c'.ask.new.owner.host c'.args.request.bytes.now c'.in_ok-id.id c'.in_ok-id.ensures.asks c'.requires.owns in
    let len = c'.args.ownership.now.modules.ok.0 in
    let room = c'.requires.room.modules in
    omega (arith, few, len, room)
