use Rattle.std.proofs.Common.{rules}
use Rattle.wh_space_model.specs.declared.states.Mark.TheVariants.{Unlisted}
use Rattle.wh_space_model.proofs.Listed.{listed_sound}
use Rattle.wh_space_model.proofs.Putting.{there_of}
use Rattle.wh_space.proofs.Unshared.{none_has}
use Rattle.wh_space.proofs.Merges.{remade_is}
use Rattle.wh_space.proofs.Wellness.{well}
use Rattle.wh_space.proofs.memory.Memory.list.Goals as goal

pub share-requires-clause-within : goal.share-requires-clause-within
share-requires-clause-within c = there_of c.self.inside.content c.args.frame (Unlisted c.args.sharers) (rw (← c.self.view_is) at c.requires.unlisted)

pub share-requires-clause-alone : goal.share-requires-clause-alone
share-requires-clause-alone c = none_has c.self.inside.content c.args.frame c.args.hash (rw (← c.self.view_is) at c.requires.none)

pub invariant_of-self : goal.invariant_of-self
invariant_of-self c = search (rules, remade_is, well, listed_sound)
