use Rattle.std.proofs.Common.{inr}
use Rattle.wh_reclaim.proofs.Sending.{evicting_now, held_now, kept_now, sent_now, slot_held, still_evicting}
use Rattle.wh_reclaim.proofs.ready.evict_now.Goals as goal

pub write-requires : goal.write-requires
write-requires g c = record {
  there = (let less = slot_held c.args.memory.now c.args.taken.place c.args.taken.page c.evict_begin-slot.result c.evict_begin-slot.new.into c.evict_begin-slot.new.self c.invariant.ensures.sound c.evict_begin-slot.ensures in rw (← c.requires.agrees) less);
}

pub written-requires : goal.written-requires
written-requires g c = evicting_now c.args.memory.now c.args.taken.place c.args.taken.page c.evict_begin-slot.result c.evict_begin-slot.new.into c.evict_begin-slot.new.self c.invariant.ensures.sound c.evict_begin-slot.ensures

pub evict_commit-requires-clause-out : goal.evict_commit-requires-clause-out
evict_commit-requires-clause-out g c = still_evicting c.evict_begin-slot.new.self c.evict_begin-slot.result c.evict_begin-slot.new.into c.written.new.self c.written.ensures.0 c.written.ensures.1

pub evict_commit-requires-clause-held : goal.evict_commit-requires-clause-held
evict_commit-requires-clause-held g c = λ ok. held_now c.args.memory.now c.args.taken.place c.args.taken.page c.evict_begin-slot.result c.evict_begin-slot.new.into c.evict_begin-slot.new.self c.written.new.self c.invariant.ensures.sound c.evict_begin-slot.ensures c.written.ensures.1

pub written-requires-in-Err : goal.written-requires-in-Err
written-requires-in-Err g c = evicting_now c.args.memory.now c.args.taken.place c.args.taken.page c.evict_begin-slot.result c.evict_begin-slot.new.into c.evict_begin-slot.new.self c.invariant.ensures.sound c.evict_begin-slot.ensures

pub evict_commit-requires-in-Err-clause-out : goal.evict_commit-requires-in-Err-clause-out
evict_commit-requires-in-Err-clause-out g c = still_evicting c.evict_begin-slot.new.self c.evict_begin-slot.result _ c.written-in-Err.new.self c.written-in-Err.ensures.0 c.written-in-Err.ensures.1

pub returns-in-Ok-clause-evicts : goal.returns-in-Ok-clause-evicts
returns-in-Ok-clause-evicts g c =
    sent_now c.args.memory.now c.args.taken.place c.args.taken.page c.evict_begin-slot.result c.evict_begin-slot.new.into c.evict_begin-slot.new.self c.written.new.self c.evict_commit.result c.evict_commit.new.self
    c.invariant.ensures.sound c.requires.can c.evict_begin-slot.ensures c.written.ensures.1 c.evict_commit.ensures

pub returns-in-Err-clause-loses : goal.returns-in-Err-clause-loses
returns-in-Err-clause-loses g c =
    let kept = kept_now c.args.memory.now c.args.taken.place c.args.taken.page c.evict_begin-slot.result c.evict_begin-slot.new.into c.evict_begin-slot.new.self c.written-in-Err.new.self c.evict_commit-in-Err.result c.evict_commit-in-Err.new.self
    c.invariant.ensures.sound c.requires.can c.evict_begin-slot.ensures c.written-in-Err.ensures.1 c.evict_commit-in-Err.ensures in
    inr (c.evict_begin-slot.result, kept.0, kept.1)
