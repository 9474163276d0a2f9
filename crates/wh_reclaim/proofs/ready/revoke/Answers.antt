use Rattle.wh_space_model.proofs.Serving.{can_leave, page_is_there, slot_is_there}
use Rattle.wh_reclaim.proofs.Providing.{revoked}
use Rattle.wh_reclaim.proofs.ready.revoke.Goals as goal

pub unreachable-requires : goal.unreachable-requires
unreachable-requires g c =
    page_is_there c.args.memory.now c.args.place c.args.need c.requires.stands.0 c.invariant.ensures.sound c.requires.none_out c.requires.serving c.requires.stands.1 c.requires.lacks c.in_default.ensures

pub evict_now-requires-clause-slot : goal.evict_now-requires-clause-slot
evict_now-requires-clause-slot g c =
    slot_is_there c.args.memory.now c.args.place c.args.need c.requires.stands.0 c.invariant.ensures.sound c.requires.none_out c.requires.serving c.requires.stands.1 c.requires.lacks

pub evict_now-requires-clause-can : goal.evict_now-requires-clause-can
evict_now-requires-clause-can g c = can_leave c.args.memory.now c.args.place c.args.need c.in-Some.taken.place c.in-Some.taken.page c.in-Some.ensures

pub returns-clause-revokes : goal.returns-clause-revokes
returns-clause-revokes g c = revoked c.evict_now.result c.args.memory.now c.args.place c.args.need c.in-Some.taken.place c.in-Some.taken.page c.evict_now.new.memory c.in-Some.ensures c.evict_now.ensures.evicts
