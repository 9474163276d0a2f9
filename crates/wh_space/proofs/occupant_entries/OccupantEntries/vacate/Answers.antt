use Rattle.std.proofs.Common.{◌<◌, ◌+◌, ◌-◌, ◌∙◌, Option, length, refl, ap, arith}
use Rattle.wh_space_model.specs.{of_occupant}
use Rattle.wh_space.specs.declared.occupant_entry.OccupantEntry.{OccupantEntry}
use Rattle.wh_space.specs.Occupancy.{occupant_of}
use Rattle.wh_space.proofs.Promised.{entry_here, one_of_sum, vacated}
use Rattle.wh_space.proofs.occupant_entries.OccupantEntries.vacate.Goals as goal

pub overflow_sub-self : goal.overflow_sub-self
overflow_sub-self c =
    let a = c.self.inside in
    let within : c.args.place < length a.rows.items = rw (← c.self.view_is) at c.requires in
    let here = entry_here a.rows.items c.args.place c.index-was.result.now within c.index-was.ensures in
    let least = c.min_of.ensures ∙ ap (λ (o : Option OccupantEntry). of_occupant (λ t. t.min) (occupant_of o)) here in
    let l = one_of_sum (of_occupant (λ t. t.min)) a.rows.items c.args.place refl in
    let s = c.self.invariant.minima in
    omega arith

pub overflow_sub-self-2 : goal.overflow_sub-self-2
overflow_sub-self-2 c =
    let a = c.self.inside in
    let within : c.args.place < length a.rows.items = rw (← c.self.view_is) at c.requires in
    let here = entry_here a.rows.items c.args.place c.index-was.result.now within c.index-was.ensures in
    let most = c.spread_of.ensures ∙ ap (λ (o : Option OccupantEntry). of_occupant (λ t. (t.max - t.min) + 1) (occupant_of o)) here in
    let m = one_of_sum (of_occupant (λ t. (t.max - t.min) + 1)) a.rows.items c.args.place refl in
    let t = c.self.invariant.spreads in
    omega arith

pub invariant_of-self : goal.invariant_of-self
invariant_of-self c =
    let a = c.self.inside in
    let within : c.args.place < length a.rows.items = rw (← c.self.view_is) at c.requires in
    let here = entry_here a.rows.items c.args.place c.index-was.result.now within c.index-was.ensures in
    let least = c.min_of.ensures ∙ ap (λ (o : Option OccupantEntry). of_occupant (λ t. t.min) (occupant_of o)) here in
    let most = c.spread_of.ensures ∙ ap (λ (o : Option OccupantEntry). of_occupant (λ t. (t.max - t.min) + 1) (occupant_of o)) here in
    let l = one_of_sum (of_occupant (λ t. t.min)) a.rows.items c.args.place refl in
    let m = one_of_sum (of_occupant (λ t. (t.max - t.min) + 1)) a.rows.items c.args.place refl in
    let s = c.self.invariant.minima in
    let t = c.self.invariant.spreads in
    vacated a.rows.items a.minima a.spreads a.greatest c.args.place (a.minima - c.min_of.result) (a.spreads - c.spread_of.result) c.self.invariant within (omega arith) (omega arith)
