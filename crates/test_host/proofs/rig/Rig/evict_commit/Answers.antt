use Rattle.std.proofs.Common.{◌<◌, length, sym, subst, arith}
use Rattle.wh_swap.specs.Written.{page_held}
use Rattle.wh_space_model.specs.{to_write}
use Rattle.test_host.specs.Carried.{IsCarried, coming_slots, leaving_slots}
use Rattle.test_host.proofs.Carrying.{evict_first, evict_returned, host_on, slot_within}
use Rattle.test_host.proofs.rig.Rig.evict_commit.Goals as goal

pub written-answer-requires : goal.written-answer-requires
written-answer-requires c =
    let less : 0 < length c.args.self.now.leaving.items = grind (arith, c.args.self.now.leaving.ok, c.if-is_empty.false, c.is_empty.ensures) in
    let e = c.remove-eviction.result in
    slot_within c.args.self.now.host.space _ _ _ e.ticket.slot to_write (evict_first c.args.self.now.host.space _ c.args.self.now.leaving.items _ e less c.remove-eviction.ensures.value c.args.self.now.carried) c.args.self.now.carried

pub evict_commit-end-requires : goal.evict_commit-end-requires
evict_commit-end-requires c =
    let less : 0 < length c.args.self.now.leaving.items = grind (arith, c.args.self.now.leaving.ok, c.if-is_empty.false, c.is_empty.ensures) in
    evict_first c.args.self.now.host.space _ c.args.self.now.leaving.items _ c.remove-eviction.result less c.remove-eviction.ensures.value c.args.self.now.carried

pub invariant_of-self-2 : goal.invariant_of-self-2
invariant_of-self-2 c =
    let less : 0 < length c.args.self.now.leaving.items = grind (arith, c.args.self.now.leaving.ok, c.if-is_empty.false, c.is_empty.ensures) in
    let h = c.args.self.now.host in
    let h2 = c.evict_commit-end.new.self in
    let held = page_held c.args.self.now.device in
    let held2 = page_held c.written-answer.new.device in
    record {
      stands = host_on h h2 c.args.self.now.stands (λ w st. let t = c.evict_commit-end.ensures.moves w st in (t.0, t.2));
      carried = subst (λ zs. IsCarried h2.space held2 (leaving_slots zs) (coming_slots c.args.self.now.coming.items)) (sym c.remove-eviction.ensures.items)
          (evict_returned h.space h2.space held held2 c.args.self.now.leaving.items (coming_slots c.args.self.now.coming.items) c.remove-eviction.result _ _ less c.remove-eviction.ensures.value c.args.self.now.carried c.written-answer.ensures c.evict_commit-end.ensures.ends);
    }
