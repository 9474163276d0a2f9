use Rattle.std.proofs.Common.{ℕ, ◌<◌, ◌^◌, Option, Some, None, IfSome, IfNone}
use Rattle.wh_space_model.specs.declared.plain.InstId.{InstId}
use Rattle.wh_tables.specs.Line.{ComesLater, IsNextIn}
use Rattle.wh_space.specs.declared.memory.Memory.TheInside.{Inside}
use Rattle.wh_space.specs.Numbered.{ComesAfter, IsNextInstance}
use Rattle.wh_space.specs.Parts.{IsWell, space_of}
use Rattle.wh_space.proofs.Numbering.{next_now, next_small, none_now}
use Rattle.wh_space.proofs.memory.Memory.next_instance.Goals as goal

some : (a : Inside) (after : Option ℕ) (next : Option InstId) → IsWell a → IfSome next (λ id. IsNextIn a.tables.pages a.tables.numbers after id)
    → IfSome next (λ id. IsNextInstance (space_of a) after id)
some a after None was is = tt
some a after (Some id) was is = next_now a after id was is

small : (a : Inside) (after : Option ℕ) (next : Option InstId) → IsWell a → IfSome next (λ id. IsNextIn a.tables.pages a.tables.numbers after id)
    → IfSome next (λ (id : InstId). id.place < 2 ^ 32)
small a after None was is = tt
small a after (Some id) was is = next_small a after id was is

none : (a : Inside) (after : Option ℕ) (next : Option InstId) → IsWell a → IfNone next ((i : ℕ) → ¬ ComesLater a.tables.pages a.tables.numbers after i)
    → IfNone next ((i : ℕ) → ¬ ComesAfter (space_of a) after i)
none a after None was is = none_now a after was is
none a after (Some id) was is = tt

pub returns-clause-some : goal.returns-clause-some
returns-clause-some c = rw (← c.self.view_is) (some c.self.inside c.args.after c.next_instance.result c.self.invariant c.next_instance.ensures.some)

pub returns-clause-small : goal.returns-clause-small
returns-clause-small c = small c.self.inside c.args.after c.next_instance.result c.self.invariant c.next_instance.ensures.some

pub returns-clause-none : goal.returns-clause-none
returns-clause-none c = rw (← c.self.view_is) (none c.self.inside c.args.after c.next_instance.result c.self.invariant c.next_instance.ensures.none)
