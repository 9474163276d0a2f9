use Rattle.wh_space.proofs.Promised.{replaced}
use Rattle.wh_space.proofs.occupant_entries.OccupantEntries.replace.Goals as goal

pub invariant_of-self : goal.invariant_of-self
invariant_of-self c =
    let a = c.self.inside in
    replaced a.rows.items a.minima a.spreads a.greatest c.args.place c.args.occupant_entry c.self.invariant (rw (← c.self.view_is) at c.requires.there) (rw (← c.self.view_is) at c.requires.same)
