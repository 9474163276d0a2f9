use Rattle.std.proofs.Common.{◌<◌, length, sym, subst, arith}
use Rattle.wh_swap.specs.Written.{page_held}
use Rattle.wh_space_model.specs.{pass_of, to_read}
use Rattle.std.proofs.Common.{◌≡◌, Some, slice_get}
use Rattle.test_host.specs.Carried.{IsCarried, coming_slots, leaving_slots}
use Rattle.test_host.proofs.Carrying.{fetch_first, fetch_returned, host_on, slot_within}
use Rattle.test_host.proofs.rig.Rig.fetch_commit.Goals as goal

pub read-answer-requires : goal.read-answer-requires
read-answer-requires c =
    let less : 0 < length c.args.self.now.coming.items = grind (arith, c.args.self.now.coming.ok, c.if-is_empty.false, c.is_empty.ensures) in
    let e = c.remove-fetched.result in
    slot_within c.args.self.now.host.space _ _ _ e.ticket.slot to_read (fetch_first c.args.self.now.host.space _ _ c.args.self.now.coming.items e less c.remove-fetched.ensures.value c.args.self.now.carried) c.args.self.now.carried

pub fetch_commit-end-requires : goal.fetch_commit-end-requires
fetch_commit-end-requires c =
    let less : 0 < length c.args.self.now.coming.items = grind (arith, c.args.self.now.coming.ok, c.if-is_empty.false, c.is_empty.ensures) in
    record {
      out = subst (λ k. slice_get (pass_of c.args.self.now.host.space).out k ≡ Some (Some to_read)) (sym c.read-answer.ensures.slot)
          (fetch_first c.args.self.now.host.space _ _ c.args.self.now.coming.items c.remove-fetched.result less c.remove-fetched.ensures.value c.args.self.now.carried);
    }

pub invariant_of-self-2 : goal.invariant_of-self-2
invariant_of-self-2 c =
    let less : 0 < length c.args.self.now.coming.items = grind (arith, c.args.self.now.coming.ok, c.if-is_empty.false, c.is_empty.ensures) in
    let h = c.args.self.now.host in
    let h2 = c.fetch_commit-end.new.self in
    let held = page_held c.args.self.now.device in
    let held2 = page_held c.read-answer.new.device in
    record {
      stands = host_on h h2 c.args.self.now.stands (λ w st. let t = c.fetch_commit-end.ensures.anyhow w st in (t.1, t.4));
      carried = subst (λ zs. IsCarried h2.space held2 (leaving_slots c.args.self.now.leaving.items) (coming_slots zs)) (sym c.remove-fetched.ensures.items)
          (fetch_returned h.space h2.space held held2 (leaving_slots c.args.self.now.leaving.items) c.args.self.now.coming.items c.remove-fetched.result _ _ _ _ less c.remove-fetched.ensures.value c.read-answer.ensures.slot c.args.self.now.carried c.read-answer.ensures.held c.fetch_commit-end.ensures.ends);
    }
