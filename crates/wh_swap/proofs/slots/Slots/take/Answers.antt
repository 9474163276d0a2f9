use Rattle.std.proofs.Common.{length, length-set, arith}
use Rattle.wh_swap.proofs.Once.{once_taken}
use Rattle.wh_swap.proofs.slots.Slots.take.Goals as goal

pub index_mut-requires : goal.index_mut-requires
index_mut-requires c =
    let a = c.self.inside in
    let took = once_taken (length a.uses.items) c.in_ok-slot.slot a.vacant.items c.pop.new.self.items c.in_ok-slot.ensures.items c.self.invariant.vacant in
    omega (arith, took.1, a.uses.ok.0)

pub invariant_of-self-2 : goal.invariant_of-self-2
invariant_of-self-2 c =
    let a = c.self.inside in
    let took = once_taken (length a.uses.items) c.in_ok-slot.slot a.vacant.items c.pop.new.self.items c.in_ok-slot.ensures.items c.self.invariant.vacant in
    let same = length-set a.uses.items c.in_ok-slot.slot c.args.used in
    record {
      room = omega (arith, same, c.self.invariant.room, c.in_ok-slot.ensures.capacity);
      few = omega (arith, same, c.self.invariant.few);
      vacant = rw same took.0;
      held = omega (arith, same, c.self.invariant.held);
    }

pub returns-clause-there : goal.returns-clause-there
returns-clause-there c =
    let a = c.self.inside in
    let took = once_taken (length a.uses.items) c.in_ok-slot.slot a.vacant.items c.pop.new.self.items c.in_ok-slot.ensures.items c.self.invariant.vacant in
    rw (← c.self.view_is) took.1

pub returns-clause-taken : goal.returns-clause-taken
returns-clause-taken c =
    let a = c.self.inside in
    (once_taken (length a.uses.items) c.in_ok-slot.slot a.vacant.items c.pop.new.self.items c.in_ok-slot.ensures.items c.self.invariant.vacant).2
