use Rattle.std.proofs.Common.{◌≡◌, ◌+◌, List, Option, None, get_or, sym, subst, arith}
use Rattle.wh_space.specs.declared.occupant_entry.OccupantEntry.{OccupantEntry}
use Rattle.wh_space.specs.Occupancy.{AreSummed}
use Rattle.wh_space.proofs.Promised.{entered_at}
use Rattle.wh_space.proofs.occupant_entries.OccupantEntries.put_occupant.Goals as goal

pub invariant_of-self : goal.invariant_of-self
invariant_of-self c =
    let a = c.self.inside in
    let least = a.minima + c.min_of.result in
    let most = a.spreads + c.spread_of.result in
    let nobody : get_or a.rows.items c.args.place None ≡ None = rw (← c.self.view_is) at c.requires.nobody in
    let sums = entered_at a.rows.items a.minima a.spreads a.greatest c.args.place least most c.max-self-inside.result c.args.occupant_entry c.self.invariant nobody (omega arith) (omega arith) (omega arith) (omega arith) in
    subst (λ (z : List (Option OccupantEntry)). AreSummed z least most c.max-self-inside.result) (sym c.put_entry.ensures) sums
