use Rattle.std.proofs.Common.{length, length-set, arith}
use Rattle.wh_space_model.specs.declared.states.Slot.TheVariants.{Vacant}
use Rattle.wh_swap.proofs.Once.{once_given, once_room}
use Rattle.wh_swap.proofs.slots.Slots.give.Goals as goal

pub add-requires : goal.add-requires
add-requires c =
    let a = c.self.inside in
    let there = rw (← c.self.view_is) at c.requires.there in
    let taken = rw (← c.self.view_is) at c.requires.taken in
    omega (arith, once_room (length a.uses.items) c.args.slot a.vacant.items c.self.invariant.vacant there taken, c.self.invariant.room, a.vacant.ok.0)

pub invariant_of-self : goal.invariant_of-self
invariant_of-self c =
    let a = c.self.inside in
    let there = rw (← c.self.view_is) at c.requires.there in
    let taken = rw (← c.self.view_is) at c.requires.taken in
    let same = length-set a.uses.items c.args.slot Vacant in
    record {
      room = omega (arith, same, c.self.invariant.room, c.add.ensures.room);
      few = omega (arith, same, c.self.invariant.few);
      vacant = rw (same, c.add.ensures.items) (once_given (length a.uses.items) c.args.slot a.vacant.items c.self.invariant.vacant there taken);
      held = omega (arith, same, c.self.invariant.held);
    }
