use Rattle.std.proofs.Common.{length-set, rules}
use Rattle.wh_space_model.specs.{FindsHint}
use Rattle.wh_space_model.proofs.Listed.{listed_for_sound}
use Rattle.wh_space_model.proofs.Putting.{there_of}
use Rattle.wh_space.specs.Parts.{space_of}
use Rattle.wh_space.proofs.Merges.{none_stays, remade_is}
use Rattle.wh_space.proofs.Wellness.{well}
use Rattle.wh_space.proofs.memory.Memory.list_for.Goals as goal

pub forget_frame-requires : goal.forget_frame-requires
forget_frame-requires c = search (rules, there_of)

pub share-requires-clause-within : goal.share-requires-clause-within
share-requires-clause-within c = search (rules, there_of, length-set)

pub share-requires-clause-alone : goal.share-requires-clause-alone
share-requires-clause-alone c =
    let found : FindsHint (space_of c.self.inside) c.args.hash c.args.hinted c.requires.found.0 c.requires.found.1 = rw (← c.self.view_is) at c.requires.found.2 in
    rw c.forget_frame.ensures (none_stays (space_of c.self.inside) c.args.hinted c.args.frame c.requires.found.0 c.requires.found.1 c.args.hash c.self.invariant.sound found)

pub invariant_of-self : goal.invariant_of-self
invariant_of-self c = search (rules, remade_is, well, listed_for_sound)
